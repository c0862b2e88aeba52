use Rattle.std.proofs.Common.{◌≡◌, ℕ, ◌<◌, None}
use Rattle.shared_disk.specs.Inside.{order_in}
use Rattle.shared_disk.proofs.books.Books.is_over.Given as goal

abbrev pub invariant-loop-place : goal.invariant-loop-place
invariant-loop-place l = (i : ℕ) → i < l.place → order_in l.self i ≡ None
