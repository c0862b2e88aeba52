-- The seats of a new shared disk.
use Rattle.std.proofs.Common.{◌≡◌, ℕ, ◌+◌, inl, inr, List, [], ◌∷◌, ◌++◌, length, refl, sym, ap, ◌∙◌, arith}
use Rattle.std.specs.Prelude.{take, drop}
use Rattle.std.proofs.lemmas.List.{length-append, append-nil, drop_all, take_all}
use Rattle.shared_disk.specs.declared.log_rule.Item.{Item}
use Rattle.shared_disk.specs.Seats.{SeatState, AreNewSeats}
use Rattle.shared_disk.proofs.OwnLemmas.{get-push}

pub no_seats : (log : List Item) → AreNewSeats 0 log []
no_seats log = record { count = refl; each = λ i s at. cc }

pub one_seat_more : (n : ℕ) (log : List Item) (seats : List SeatState) → AreNewSeats n log seats → AreNewSeats (n + 1) log (seats ++ record { client = n + 1; count = 0; seen = log } ∷ [])
one_seat_more n log seats new = record {
  count = length-append seats _ ∙ (let count = new.count in omega (arith, count));
  each = λ i s at. elim (get-push seats (record { client = n + 1; count = 0; seen = log }) s i at) [
    | inl old ↦ new.each i s old
    | inr last ↦ rw (last.0, new.count) (sym last.1)
  ];
}

-- a list that was lent whole and came back the same
pub lent-same : {X : Type 0} (xs ys : List X) (n : ℕ) → ys ≡ xs → n ≡ length xs → take n (ys ++ drop (length ys) xs) ≡ xs
lent-same xs ys n same long = rw (same, long) (ap (λ l. take (length xs) (xs ++ l)) (drop_all (length xs) xs (omega arith)) ∙ (ap (λ l. take (length xs) l) (append-nil xs) ∙ take_all (length xs) xs (omega arith)))
