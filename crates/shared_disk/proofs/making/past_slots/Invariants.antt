use Rattle.std.proofs.Common.{◌≡◌, ◌≤◌, ◌-◌, replicate, vec_len, vec_capacity}
use Rattle.shared_disk.specs.declared.books.Buffer.TheVariants.{Gone}
use Rattle.shared_disk.proofs.making.past_slots.Given as goal

abbrev pub invariant-loop-slots : goal.invariant-loop-slots
invariant-loop-slots l = record {
  items : l.slots.items ≡ replicate (vec_len l.slots) (record { tag = 0; buffer = Gone });
  few : vec_len l.slots ≤ l.count;
  room : l.count ≤ vec_capacity l.slots;
}

abbrev pub decreases-loop-slots : goal.decreases-loop-slots
decreases-loop-slots l = l.count - vec_len l.slots
