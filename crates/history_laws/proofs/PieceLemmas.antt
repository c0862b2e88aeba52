-- The piece that each command of a unit puts on the medium.
use Rattle.std.proofs.Common.{◌≡◌, ℕ, zero, suc, ◌+◌, ◌-◌, ◌*◌, ◌/◌, ◌<◌, ◌≤◌, inl, inr, min, true, List, [], ◌∷◌, take, drop, Option, None, Some, option_map, refl, sym, ◌∙◌, ap, arith, add-zero, take-append-drop}
use Rattle.std.proofs.lemmas.Bool.{cases_eq, lt-ltb, le-ltb}
use Rattle.std.proofs.Math.Nat.{mul-le-mul_right, div-mul-le_self, add-mul}
use Rattle.byte_lists.specs.Patching.{patch}
use Rattle.disk_split.specs.declared.geometry.Geometry.{Geometry}
use Rattle.disk_split.specs.declared.span.Span.{Span}
use Rattle.disk_split.specs.Units.{IsGeometry, IsKind, IsUnit, group_size, first_whole}
use Rattle.disk_split.proofs.Rounding.{up-reaches, wider, group-some, group-bytes, first-whole-bytes}
use Rattle.history.specs.declared.entry.Command.{Command}
use Rattle.history.specs.declared.entry.Entry.{Entry}
use Rattle.history.specs.declared.entry.Entry.TheVariants.{Done, Fault}
use Rattle.history.specs.Setup.{Setup, IsSetup, size_of}
use Rattle.history.specs.Eras.{media_id_of}
use Rattle.history.specs.Tokens.{Request, request, request_bytes, from_of, until_of}
use Rattle.history.specs.Commands.{is_change}
use Rattle.history.specs.Contents.{Piece, bytes_between, piece_between, piece_in, piece_of, contents}
use Rattle.history_laws.specs.Units.{IsUnitCommand}
use Rattle.history_laws.proofs.ContentLemmas.{contents-piece, contents-same}

-- the piece of a token from low on and before high
abbrev pub piece_at : Setup → ℕ → Request → ℕ → ℕ → Piece
piece_at S t r low high = record { token = t; at = low; bytes = bytes_between S r low high }

piece-some : (S : Setup) (t : ℕ) (r : Request) (low high : ℕ) → low < high → piece_between S t r low high ≡ Some (piece_at S t r low high)
piece-some S t r low high some = rw (lt-ltb low high some)

piece-empty : (S : Setup) (t : ℕ) (r : Request) (low high : ℕ) → high ≤ low → piece_between S t r low high ≡ None
piece-empty S t r low high none = rw (le-ltb low high none)

-- the piece of a unit's first blocks
pub piece-first : (S : Setup) (t n : ℕ) (r : Request) (u : Span) → IsUnit S.geometry (from_of S r) (until_of S r) u → n ≤ u.count
    → piece_in S t u.block n (Some r) ≡ piece_between S t r u.low (min u.high ((u.block + n) * size_of S))
unfolding piece_in
piece-first S t n r u unit few =
    let less : (u.block + n) * size_of S ≤ (u.block + u.count) * size_of S = mul-le-mul_right (size_of S) (omega arith) in
    let high : min (until_of S r) ((u.block + n) * size_of S) ≡ min u.high ((u.block + n) * size_of S) = omega (arith, less, unit.high) in
    rw (← unit.low, high)

-- a done command of a unit gives all its bytes
pub done-piece : (S : Setup) (H : List Entry) (t : ℕ) (c : Command) (r : Request) (u : Span) → request H t ≡ Some r → IsUnitCommand S r c u → is_change c ≡ true → piece_of S H (Done t c) ≡ Some (piece_at S t r u.low u.high)
unfolding piece_of
done-piece S H t c r u named of change =
    let high : min u.high ((u.block + u.count) * size_of S) ≡ u.high = omega (arith, of.unit.high) in
    rw (change, named, of.block, of.count) (piece-first S t u.count r u of.unit (omega arith) ∙ rw high (piece-some S t r u.low u.high of.unit.some))

-- a failed one those of its first blocks
pub fault-piece : (S : Setup) (H : List Entry) (t : ℕ) (c : Command) (done : ℕ) (r : Request) (u : Span) → request H t ≡ Some r → IsUnitCommand S r c u → is_change c ≡ true → done ≤ u.count
    → piece_of S H (Fault t c done) ≡ piece_between S t r u.low (min u.high ((u.block + done) * size_of S))
unfolding piece_of
fault-piece S H t c done r u named of change few = rw (change, named, of.block) (piece-first S t done r u of.unit few)

-- and nothing where it did no block
pub fault-piece-none : (S : Setup) (H : List Entry) (t : ℕ) (c : Command) (r : Request) (u : Span) → request H t ≡ Some r → IsUnitCommand S r c u → is_change c ≡ true → piece_of S H (Fault t c 0) ≡ None
fault-piece-none S H t c r u named of change =
    let here : (u.block + 0) * size_of S ≤ u.low = rw (add-zero u.block) (omega (arith, of.unit.low)) in
    fault-piece S H t c 0 r u named of change (omega arith) ∙ piece-empty S t r u.low (min u.high ((u.block + 0) * size_of S)) (omega (arith, here))

-- a done command patches the medium that is in with all bytes of its unit
pub done-contents : (S : Setup) (k : ℕ) (H : List Entry) (t : ℕ) (c : Command) (r : Request) (u : Span) → media_id_of H ≡ k → request H t ≡ Some r → IsUnitCommand S r c u → is_change c ≡ true
    → contents S k (Done t c ∷ H) ≡ option_map (λ bytes. patch bytes u.low (bytes_between S r u.low u.high)) (contents S k H)
done-contents S k H t c r u in_ named of change = contents-piece S k H (Done t c) (piece_at S t r u.low u.high) in_ (done-piece S H t c r u named of change)

-- a failed one that did no block leaves it
pub fault-contents-none : (S : Setup) (k : ℕ) (H : List Entry) (t : ℕ) (c : Command) (r : Request) (u : Span) → request H t ≡ Some r → IsUnitCommand S r c u → is_change c ≡ true
    → contents S k (Fault t c 0 ∷ H) ≡ contents S k H
fault-contents-none S k H t c r u named of change = contents-same S k H (Fault t c 0) (fault-piece-none S H t c r u named of change)

-- a run begins at its first block
pub run-low : (G : Geometry) (a z : ℕ) (u : Span) → IsGeometry G → IsUnit G a z u → u.whole ≡ true → u.low ≡ u.block * G.size
run-low G a z u is unit whole = by (rw whole at unit.kind)
  where
    by : IsKind G a z true u.block u.count → u.low ≡ u.block * G.size
    by run =
        let first : first_whole G a * G.size ≤ u.block * G.size = mul-le-mul_right G.size (omega (arith, run.begins)) in
        omega (arith, unit.low, first, first-whole-bytes G a, up-reaches (group_size G) a (group-some G is))

-- and ends behind its last one
pub run-high : (G : Geometry) (a z : ℕ) (u : Span) → IsGeometry G → IsUnit G a z u → u.whole ≡ true → u.high ≡ (u.block + u.count) * G.size
run-high G a z u is unit whole = by (rw whole at unit.kind)
  where
    by : IsKind G a z true u.block u.count → u.high ≡ (u.block + u.count) * G.size
    by run =
        let last : (u.block + u.count) * G.size ≤ z / group_size G * G.per * G.size = mul-le-mul_right G.size (omega (arith, run.some, run.counted)) in
        omega (arith, unit.high, last, group-bytes G (z / group_size G), div-mul-le_self z (group_size G))

take-less : (m n : ℕ) (xs : List ℕ) → m ≤ n → take m (take n xs) ≡ take m xs
take-less zero n xs le = refl
take-less (suc m) zero xs le = absurd (omega arith)
take-less (suc m) (suc n) [] le = refl
take-less (suc m) (suc n) (x ∷ xs) le = ap (λ ys. x ∷ ys) (take-less m n xs (omega arith))

patch-nothing : (held : Option (List ℕ)) (at : ℕ) → option_map (λ bytes. patch bytes at []) held ≡ held
patch-nothing None at = refl
patch-nothing (Some bytes) at = let e : at + 0 ≡ at = omega arith in rw e (ap Some (take-append-drop at bytes))

-- a failed put or wipe leaves the bytes of its first blocks
pub fault-contents : (S : Setup) (k : ℕ) (H : List Entry) (t : ℕ) (c : Command) (done : ℕ) (r : Request) (u : Span) → IsSetup S → media_id_of H ≡ k → request H t ≡ Some r → IsUnitCommand S r c u → is_change c ≡ true
    → u.whole ≡ true → done ≤ u.count
    → contents S k (Fault t c done ∷ H) ≡ option_map (λ bytes. patch bytes u.low (take (done * size_of S) (bytes_between S r u.low u.high))) (contents S k H)
fault-contents S k H t c done r u is in_ named of change whole few = elim (cases_eq done 0) [
  | inl none ↦
      let no_bytes : 0 * size_of S ≡ 0 = omega arith in
      rw (none, no_bytes) (fault-contents-none S k H t c r u named of change ∙ sym (patch-nothing (contents S k H) u.low))
  | inr other ↦
      let some : 0 < done = omega (arith, other) in
      let begins : u.low ≡ u.block * size_of S = run-low S.geometry (from_of S r) (until_of S r) u is.geometry of.unit whole in
      let ends : u.high ≡ (u.block + u.count) * size_of S = run-high S.geometry (from_of S r) (until_of S r) u is.geometry of.unit whole in
      let less : (u.block + done) * size_of S ≤ (u.block + u.count) * size_of S = mul-le-mul_right (size_of S) (omega arith) in
      let wide : u.block * size_of S < (u.block + done) * size_of S = wider (size_of S) u.block done (omega (arith, is.geometry.size_some)) some in
      let high : min u.high ((u.block + done) * size_of S) ≡ (u.block + done) * size_of S = omega (arith, ends, less) in
      let long : (u.block + done) * size_of S - u.low ≡ done * size_of S = omega (arith, begins, add-mul u.block done (size_of S)) in
      let shorter : done * size_of S ≤ u.high - u.low = omega (arith, begins, ends, less, add-mul u.block done (size_of S)) in
      let gives : piece_of S H (Fault t c done) ≡ Some (piece_at S t r u.low ((u.block + done) * size_of S)) =
      fault-piece S H t c done r u named of change few ∙ rw high (piece-some S t r u.low ((u.block + done) * size_of S) (omega (arith, begins, wide))) in
      let bytes : bytes_between S r u.low ((u.block + done) * size_of S) ≡ take (done * size_of S) (bytes_between S r u.low u.high) =
      rw long (sym (take-less (done * size_of S) (u.high - u.low) (drop (u.low - from_of S r) (request_bytes r)) shorter)) in
      contents-piece S k H (Fault t c done) (piece_at S t r u.low ((u.block + done) * size_of S)) in_ gives
      ∙ ap (λ p. option_map (λ old. patch old u.low p) (contents S k H)) bytes
]
