use Rattle.std.proofs.Common.{◌≡◌, ℕ, ◌<◌, ◌≤◌, false, slice_get, Some}
use Rattle.history.specs.Marks.{is_outstanding}
use Rattle.shared_disk.proofs.waiting.first_outstanding.Given as goal

abbrev pub invariant-loop-place : goal.invariant-loop-place
invariant-loop-place g l = (j t : ℕ) → l.from ≤ j → j < l.place → slice_get l.tokens j ≡ Some t → is_outstanding l.disk.setup l.disk.entries t ≡ false
