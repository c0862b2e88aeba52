use Rattle.std.proofs.Common.{◌≡◌, ℕ, ◌<◌, ◌≤◌, false, slice_get, Some}
use Rattle.shared_disk.specs.declared.books.Slot.{Slot}
use Rattle.shared_disk.specs.Inside.{is_awaited}
use Rattle.shared_disk.proofs.collecting.first_awaited.Given as goal

abbrev pub invariant-loop-number : goal.invariant-loop-number
invariant-loop-number l = (t : ℕ) (s : Slot) → l.from ≤ t → t < l.number → slice_get l.slots t ≡ Some s → is_awaited s.buffer ≡ false
