use Rattle.std.proofs.Common.{ℕ, ◌≡◌, ◌<◌, ◌≤◌, None}
use Rattle.medium.specs.BlockMap.{held_block}
use Rattle.medium.proofs.saving.run_of.Given as goal

abbrev pub invariant-loop-block : goal.invariant-loop-block
invariant-loop-block l = (b : ℕ) → l.first ≤ b → b < l.block → held_block l.saved b ≡ None
