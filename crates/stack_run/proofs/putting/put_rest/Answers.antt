use Rattle.std.proofs.Common.{refl, false, arith}
use Rattle.std.proofs.lemmas.List.{take_all}
use Rattle.stack_run.specs.Chains.{PutsOr}
use Rattle.stack_run.proofs.ChainLemmas.{chain-none}
use Rattle.stack_run.proofs.LoopLemmas.{taken-next, taken-rest, left-next, rest-next, spent-next}
use Rattle.stack_run.proofs.putting.put_rest.Goals as goal

pub loop-want-init : goal.loop-want-init
loop-want-init g c = record {
  left = refl;
  put = chain-none (PutsOr false) (g.I.Images.at c.args.images.now);
  spent = λ is. cc;
  taken = c.requires.taken;
}

pub put_one-one-requires-clause-taken : goal.put_one-one-requires-clause-taken
put_one-one-requires-clause-taken g c κs within = taken-next c.args.wanted.now c.loop-want.want-index _ _ c.loop-want-test.true c.want-item.is c.loop-want.invariant.taken

pub loop-want-preserved : goal.loop-want-preserved
loop-want-preserved g c = record {
  left = left-next c.args.media.items _ _ c.loop-want.want-index c.loop-want.invariant.left c.remove-medium.ensures.items;
  put = rest-next (λ m. g.I.M.Medium.device m) c.args.wanted.now c.loop-want.want-index c.want-item.result c.args.media.items _ c.loop-want.spent c.put_one-one.result c.remove-medium.result _ _ _ c.requires.all c.loop-want-test.true c.want-item.is
      c.loop-want.invariant.left c.remove-medium.ensures.value c.loop-want.invariant.put c.put_one-one.ensures.others c.put_one-one.ensures.puts;
  spent = spent-next c.args.wanted.now c.loop-want.want-index c.want-item.result _ (g.I.M.Medium.device c.remove-medium.result) c.loop-want.spent c.put_one-one.result _ _ _ c.requires.apart c.loop-want-test.true c.want-item.is c.loop-want.invariant.put c.loop-want.invariant.spent c.put_one-one.ensures.others c.put_one-one.ensures.spent;
  taken = taken-rest c.args.wanted.now c.loop-want.want-index c.want-item.result _ _ c.requires.apart c.loop-want-test.true c.want-item.is c.put_one-one.ensures.others c.loop-want.invariant.taken;
}

pub returns-clause-spent : goal.returns-clause-spent
returns-clause-spent g c is = rw (take_all c.loop-want.want-index c.args.wanted.now (omega (arith, c.loop-want-test.false))) at (c.loop-want.invariant.spent is)
