-- The units of a request as a list that grows at its end.
use Rattle.std.proofs.Common.{◌≡◌, ℕ, ◌+◌, ◌-◌, ◌*◌, ◌/◌, ◌^◌, ◌<◌, ◌≤◌, inl, inr, Bool, true, false, min, List, [], ◌∷◌, ◌++◌, map, refl, sym, ap, ◌∙◌, arith, append_assoc}
use Rattle.disk_split.specs.declared.geometry.Geometry.{Geometry}
use Rattle.disk_split.specs.declared.parts.Parts.{Parts}
use Rattle.disk_split.specs.declared.span.Span.{Span}
use Rattle.disk_split.specs.Parts.{spans_of}
use Rattle.disk_split.specs.Units.{IsGeometry, first_whole, whole_blocks, run_at, runs_from}
use Rattle.disk_split.proofs.Rounding.{first-whole-fits, whole-blocks-within}
use Rattle.std.specs.Prelude.{if◌then◌else◌}
use Rattle.std.proofs.lemmas.Bool.{cases_lt}
use Rattle.disk_split.proofs.Listing.{runs-more}
use Rattle.subtask_queue.specs.declared.sub.Sub.{Sub}
use Rattle.subtask_queue.specs.declared.sub.Sub.TheVariants.{Part, Run, Sync}
use Rattle.history.specs.declared.entry.Kind.{Kind}
use Rattle.history.specs.Tokens.{is_flush, changes_bytes}
use Rattle.subtask_queue.specs.Owned.{AreOf}
use Rattle.subtask_queue.specs.Subs.{token_of, sub_of_span, spans_in, subs_of_request}

map-append : (f : Span → Sub) (us vs : List Span) → map f (us ++ vs) ≡ map f us ++ map f vs
map-append f [] vs = refl
map-append f (u ∷ us) vs = ap (λ rest. f u ∷ rest) (map-append f us vs)

-- one run more stands behind the others
pub runs-pushed : (size token first whole n count : ℕ) (write : Bool) (before now after : List Sub) → now ≡ before ++ map (sub_of_span size token write) (runs_from size first whole n 0) → count ≡ min 64 (whole - 64 * n)
    → after ≡ now ++ Run token (first + 64 * n) count write ∷ [] → after ≡ before ++ map (sub_of_span size token write) (runs_from size first whole (n + 1) 0)
runs-pushed size token first whole n count write before now after was counted pushed =
    let f = sub_of_span size token write in
    let next : n ≡ 0 + n = omega arith in
    let last : Run token (first + 64 * n) count write ∷ [] ≡ map f (run_at size first whole (0 + n) ∷ []) = ap (λ c. Run token (first + 64 * n) c write ∷ []) counted ∙ ap (λ k. map f (run_at size first whole k ∷ [])) next in
    pushed
    ∙ ap (λ subs. subs ++ Run token (first + 64 * n) count write ∷ []) was
    ∙ append_assoc before (map f (runs_from size first whole n 0)) (Run token (first + 64 * n) count write ∷ [])
    ∙ ap (λ rest. before ++ rest) (ap (λ l. map f (runs_from size first whole n 0) ++ l) last ∙ sym (map-append f (runs_from size first whole n 0) (run_at size first whole (0 + n) ∷ [])) ∙ ap (map f) (runs-more size first whole n 0))

-- the parts and the runs one behind the other are all
pub spans-pushed : (G : Geometry) (f : Span → Sub) (parts : Parts) (first whole : ℕ) (none low runs all : List Sub) → none ≡ [] → first ≡ parts.first_whole * G.per → whole ≡ parts.whole * G.per
    → low ≡ none ++ map f (spans_of G parts.under) → runs ≡ low ++ map f (runs_from G.size first whole ((whole + 63) / 64) 0) → all ≡ runs ++ map f (spans_of G parts.over) → all ≡ map f (spans_in G parts)
unfolding spans_in
spans-pushed G f parts first whole none low runs all empty begins count under between over =
    over
    ∙ rw (between, under, empty, begins, count, append_assoc) (sym (map-append f (spans_of G parts.under) (runs_from G.size (parts.first_whole * G.per) (parts.whole * G.per) ((parts.whole * G.per + 63) / 64) 0 ++ spans_of G parts.over)
    ∙ ap (λ rest. map f (spans_of G parts.under) ++ rest) (map-append f (runs_from G.size (parts.first_whole * G.per) (parts.whole * G.per) ((parts.whole * G.per + 63) / 64) 0) (spans_of G parts.over))))

le-times : (n size : ℕ) → 0 < size → n ≤ n * size
le-times n size some = grind arith

-- the runs lie below 2^64
pub runs-fit : (G : Geometry) (a z : ℕ) → IsGeometry G → a ≤ z → z < 2 ^ 64 → first_whole G a + whole_blocks G a z < 2 ^ 64
runs-fit G a z sized ordered fits = elim (cases_lt 0 (whole_blocks G a z)) [
  | inl some ↦ let ends = whole-blocks-within G a z some in let least = le-times (first_whole G a + whole_blocks G a z) G.size (let h = sized.size_some in omega arith) in omega arith
  | inr none ↦ let below = first-whole-fits G a sized (omega arith) in omega arith
]

-- each is a unit of its token
own-spans : (size token : ℕ) (write : Bool) (us : List Span) → AreOf token (map (sub_of_span size token write) us)
unfolding AreOf
own-spans size token write [] = tt
own-spans size token write (u ∷ us) = (elim u.whole as (λ v. token_of (if v then Run token u.block u.count write else Part token u.block (u.low - u.block * size) (u.high - u.low) write) ≡ token) [ true ↦ refl | false ↦ refl ], own-spans size token write us)

pub own-request : (G : Geometry) (token : ℕ) (kind : Kind) (parts : Parts) → AreOf token (subs_of_request G token kind parts)
unfolding AreOf subs_of_request
own-request G token kind parts = elim (is_flush kind) as (λ v. AreOf token (if v then Sync token ∷ [] else map (sub_of_span G.size token (changes_bytes kind)) (spans_in G parts))) [
  | true ↦ (refl, tt)
  | false ↦ own-spans G.size token (changes_bytes kind) (spans_in G parts)
]
