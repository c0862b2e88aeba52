use Rattle.std.specs.Prelude.{◌≡◌, sum_by, take, vec_len}
use Rattle.shared_disk.proofs.books.Books.done_lines.Given as goal

abbrev pub invariant-loop-place : goal.invariant-loop-place
invariant-loop-place l = l.done ≡ sum_by (λ course. vec_len course.places) (take l.place l.self.courses.items)
