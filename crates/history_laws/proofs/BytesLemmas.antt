-- The bytes of a request between two places, and whose bytes are told.
use Rattle.std.proofs.Common.{List, None, Option, Some, [], ap, arith, drop, inl, inr, length, length-drop, length-take, option_map, refl, suc, take, zero, ℕ, ◌+◌, ◌-◌, ◌∙◌, ◌∷◌, ◌≡◌, ◌≤◌}
use Rattle.std.proofs.lemmas.Bool.{cases_lt}
use Rattle.std.proofs.lemmas.List.{length-take, take_all}
use Rattle.std.specs.Prelude.{min}
use Rattle.history.specs.Contents.{bytes_between, contents, patch_all, pieces_of}
use Rattle.history.specs.Setup.{Setup, first_of}
use Rattle.history.specs.Tokens.{Request, from_of, request_bytes, until_of}
use Rattle.history.specs.declared.entry.Entry.{Entry}

-- the bytes of a piece are no more than its range
pub length-between : (S : Setup) (q : Request) (low high : ℕ) → length (bytes_between S q low high) ≤ high - low
length-between S q low high = rw (length-take (high - low) (drop (low - from_of S q) (request_bytes q))) (omega arith)

-- the bytes between two places are as many as lie between them
pub between-long : (S : Setup) (H : List Entry) (t : ℕ) (r : Request) (low high : ℕ) → length (request_bytes r) ≡ r.asked.length → from_of S r ≤ low → low ≤ high → high ≤ until_of S r → length (bytes_between S r low high) ≡ high - low
between-long S H t r low high long from order until = simp (length-take, length-drop) (omega arith)

take-less : (m n : ℕ) (xs : List ℕ) → m ≤ n → take m (take n xs) ≡ take m xs
take-less zero n xs le = refl
take-less (suc m) zero xs le = absurd (omega arith)
take-less (suc m) (suc n) [] le = refl
take-less (suc m) (suc n) (x ∷ xs) le = ap (λ ys. x ∷ ys) (take-less m n xs (omega arith))

-- the bytes of a request before a nearer end
pub take-between : (S : Setup) (q : Request) (low high m : ℕ) → take m (bytes_between S q low high) ≡ bytes_between S q low (low + min m (high - low))
take-between S q low high m =
    let xs = drop (low - from_of S q) (request_bytes q) in
    let count : low + min m (high - low) - low ≡ min m (high - low) = omega arith in
    elim (cases_lt m (high - low)) [
      | inl less ↦ take-less m (high - low) xs (omega arith) ∙ ap (λ n. take n xs) (let e : m ≡ low + min m (high - low) - low = omega arith in e)
      | inr more ↦
          take_all m (take (high - low) xs) (simp length-take (omega arith)) ∙ ap (λ n. take n xs) (let e : high - low ≡ low + min m (high - low) - low = omega arith in e)
    ]

-- whose bytes are told once are told before
pub contents-some : (S : Setup) (k : ℕ) (H H' : List Entry) (bytes : List ℕ) → contents S k H' ≡ Some bytes → (before : List ℕ) × (contents S k H ≡ Some before)
unfolding contents
contents-some S k H H' bytes is = by (first_of S k) refl is
  where
    by : (first : Option (List ℕ)) → first_of S k ≡ first → option_map (patch_all (pieces_of S k H')) first ≡ Some bytes → (before : List ℕ) × (option_map (patch_all (pieces_of S k H)) first ≡ Some before)
    by None told e = cc
    by (Some opening) told e = (patch_all (pieces_of S k H) opening, refl)
