use Rattle.std.proofs.Common.{refl}
use Rattle.stack_run.specs.Chains.{PutsBack}
use Rattle.stack_run.proofs.ChainLemmas.{chain-none}
use Rattle.stack_run.proofs.LoopLemmas.{taken-next, taken-rest, left-next, puts-next, putting-stops}
use Rattle.stack_run.proofs.putting.put_some.Goals as goal

pub loop-place-init : goal.loop-place-init
loop-place-init g c = record {
  left = refl;
  put = chain-none PutsBack (g.I.Images.at c.args.images.now);
  taken = c.requires.taken;
}

pub put_image-requires-clause-taken : goal.put_image-requires-clause-taken
put_image-requires-clause-taken g c κs within = taken-next c.args.wanted.now c.loop-place.place _ _ c.loop-place-test.true c.index-wanted-place.is c.loop-place.invariant.taken

pub loop-place-preserved : goal.loop-place-preserved
loop-place-preserved g c = record {
  left = left-next c.args.media.now.items _ _ c.loop-place.place c.loop-place.invariant.left c.remove-medium.ensures.items;
  put = puts-next (λ m. g.I.M.Medium.device m) c.args.wanted.now c.loop-place.place c.index-wanted-place.result c.args.media.now.items _ PutsBack c.remove-medium.result _ _ _ c.requires.all c.loop-place-test.true c.index-wanted-place.is
      c.loop-place.invariant.left c.remove-medium.ensures.value c.loop-place.invariant.put c.put_image.ensures.others (rw c.in-Ok.is at c.put_image.ensures.puts);
  taken = taken-rest c.args.wanted.now c.loop-place.place c.index-wanted-place.result _ _ c.requires.apart c.loop-place-test.true c.index-wanted-place.is c.put_image.ensures.others c.loop-place.invariant.taken;
}

pub returns-in-Err-clause-stops : goal.returns-in-Err-clause-stops
returns-in-Err-clause-stops g c =
    putting-stops (λ m. g.I.M.Medium.device m) c.args.wanted.now c.loop-place.place c.index-wanted-place.result c.args.media.now.items _ _ c.remove-medium.result c.in-Err.fault _ _ _ c.requires.all c.loop-place-test.true c.index-wanted-place.is
    c.loop-place.invariant.left c.remove-medium.ensures.value c.remove-medium.ensures.items c.loop-place.invariant.put c.put_image.ensures.others (rw c.in-Err.is at c.put_image.ensures.puts)
