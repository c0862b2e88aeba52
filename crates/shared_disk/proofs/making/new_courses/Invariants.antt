use Rattle.std.proofs.Common.{◌≡◌, ◌≤◌, ℕ, Some, length, slice_get, vec_len, vec_capacity}
use Rattle.shared_disk.specs.declared.clients.Client.{Client}
use Rattle.shared_disk.specs.declared.books.Course.{Course}
use Rattle.shared_disk.specs.Inside.{IsNewCourse}
use Rattle.shared_disk.proofs.making.new_courses.Given as goal

abbrev pub invariant-loop-client : goal.invariant-loop-client
invariant-loop-client l = record {
  count : vec_len l.courses ≡ l.client-index;
  room : length l.clients ≤ vec_capacity l.courses;
  each : (i : ℕ) (client : Client) (c : Course) → slice_get l.clients i ≡ Some client → slice_get l.courses.items i ≡ Some c → IsNewCourse client c;
}
