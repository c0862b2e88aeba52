use Rattle.std.proofs.Common.{◌≡◌, ℕ, ◌<◌, ◌≤◌, false}
use Rattle.history.specs.Marks.{is_outstanding}
use Rattle.shared_disk.proofs.collecting.first_open.Given as goal

abbrev pub invariant-loop-number : goal.invariant-loop-number
invariant-loop-number g l = (t : ℕ) → l.from ≤ t → t < l.number → is_outstanding l.disk.setup l.disk.entries t ≡ false
