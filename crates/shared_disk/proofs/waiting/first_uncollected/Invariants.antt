use Rattle.std.proofs.Common.{◌≡◌, ℕ, ◌<◌, ◌≤◌, false, slice_get, Some}
use Rattle.shared_disk.specs.declared.books.Slot.{Slot}
use Rattle.shared_disk.specs.Inside.{is_awaited}
use Rattle.shared_disk.proofs.waiting.first_uncollected.Given as goal

abbrev pub invariant-loop-place : goal.invariant-loop-place
invariant-loop-place l = (j t : ℕ) (s : Slot) → l.from ≤ j → j < l.place → slice_get l.tokens j ≡ Some t → slice_get l.slots t ≡ Some s → is_awaited s.buffer ≡ false
