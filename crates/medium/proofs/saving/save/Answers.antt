use Rattle.std.proofs.Common.{◌+◌, ◌-◌, ◌∙◌, refl, arith, rules}
use Rattle.std.specs.Prelude.{is_none}
use Rattle.medium.proofs.Runs.{saved-none, saved-on, held-on, begins-where, made-none, made-more, made-failed, runs-on}
use Rattle.medium.specs.BlockMap.{held_block}
use Rattle.medium.proofs.saving.save.Goals as goal

pub loop-block-init : goal.loop-block-init
loop-block-init g c = record {
  tried = search rules;
  made = λ n is. made-none (g.M.Medium.device c.args.inner.now) (held_block c.args.saved.now) c.args.first n is;
  runs = saved-none (held_block c.args.saved.now) c.args.first (c.args.first + c.args.count);
  prepared = λ b is. is;
  restored = refl;
  held = λ b low high. absurd (omega arith);
  others = (λ b low. refl, λ b high. refl);
  stay = λ b is. is;
  size = refl;
}

pub returns-in_err-save_from-clause-made : goal.returns-in_err-save_from-clause-made
returns-in_err-save_from-clause-made g c =
    let made = made-more _ _ _ _ _ _ (c.loop-block.invariant.made (c.loop-block.block - c.args.first) (omega arith)) c.in_err-save_from.ensures.made in
    made-failed _ _ _ _ c.from_residual.ensures.0 made.rose made.fault

pub returns-in_err-save_from-clause-stay : goal.returns-in_err-save_from-clause-stay
returns-in_err-save_from-clause-stay g c b is = c.in_err-save_from.ensures.stay b (c.loop-block.invariant.stay b is)

pub loop-block-preserved : goal.loop-block-preserved
loop-block-preserved g c =
    let was = c.loop-block.invariant in
    let now = c.in_ok-save_from.ensures in
    let s0 = held_block c.args.saved.now in
    let s = held_block c.loop-block.saved in
    record {
      tried = search rules;
      made = λ n is. runs-on _ _ _ s0 c.args.first c.loop-block.block n (is_none (s c.loop-block.block)) (omega arith) is (begins-where s0 s c.args.first (c.args.first + c.args.count) c.loop-block.block was.runs was.held (omega arith) (omega arith)) (λ m at. made-more _ _ _ _ _ _ (was.made m at) now.made);
      runs = saved-on s0 s (held_block c.save_from.new.saved) c.args.first (c.args.first + c.args.count) c.loop-block.block was.runs now.run now.others (omega arith);
      prepared = λ b is. now.prepared b (was.prepared b is);
      restored = search rules;
      held = λ b low high. held-on s (held_block c.save_from.new.saved) c.loop-block.block b now.run.kept now.held (was.held b low) high;
      others = (λ b low. now.others.0 b (omega arith) ∙ was.others.0 b low, λ b high. now.others.1 b high ∙ was.others.1 b high);
      stay = λ b is. now.stay b (was.stay b is);
      size = now.size ∙ was.size;
    }

pub returns-clause-made : goal.returns-clause-made
returns-clause-made g c = c.loop-block.invariant.made c.args.count (omega arith)
