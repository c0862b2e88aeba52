-- Blocks of the medium, counted from the start of the extended partition.
use Rattle.std.proofs.Common.{◌≡◌, ℕ, ◌+◌, ◌<◌, true, not, ◌&&◌, nat_lt, nat_le, List, [], ◌∷◌, length, take, refl, arith, Option, Some, None}
use Rattle.std.specs.Prelude.{filter_map, ◌==◌}
use Rattle.std.specs.List.{list_any}
use Rattle.std.proofs.lemmas.Bool.Decides.{nat_tests}
use Rattle.std.proofs.lemmas.Grind.{common_steps}
use Rattle.mbr_records.specs.Chain.{Trail, count_of, is_inside, may_visit, names, linked_block}

equal_places : (start x place : ℕ) → (start + x == start + place) ≡ (x == place)
equal_places start x place = grind (arith, nat_tests)

-- a link names the block whose place it is
pub visited_place : (t : Trail) (place : ℕ) (links : List (Option ℕ)) → list_any (λ v. v == t.start + place) (filter_map (linked_block t) links) ≡ list_any (names place) links
visited_place t place [] = refl
visited_place t place (None ∷ links) = visited_place t place links
visited_place t place (Some x ∷ links) = rw (equal_places t.start x place, visited_place t place links) refl

le_same : (start place : ℕ) → nat_le start (start + place) ≡ true
le_same start place = grind (arith, nat_tests)

lt_same : (start place size : ℕ) → nat_le (start + place + 1) (start + size) ≡ nat_lt place size
lt_same start place size = grind (arith, nat_tests)

-- a block of the partition stands behind the start by less than the size
pub inside_place : (t : Trail) (place : ℕ) → is_inside t (t.start + place) 1 ≡ nat_lt place t.size
inside_place t place = rw (le_same t.start place, lt_same t.start place t.size) refl

count_kept : (start size fed : ℕ) (links : List (Option ℕ)) → fed < length links → count_of (record { start = start; size = size; named = take (fed + 1) links }) ≡ fed
count_kept start size fed links h = grind (arith, common_steps)

take_kept : (fed : ℕ) (links : List (Option ℕ)) → take fed (take (fed + 1) links) ≡ take fed links
take_kept fed links = grind (arith, common_steps)

-- the test of `may_visit` over the links as they are kept
pub may_visit_kept : (start size fed place : ℕ) (links : List (Option ℕ)) → fed < length links → may_visit (record { start = start; size = size; named = take (fed + 1) links }) (start + place) ≡ (nat_lt place size && not (list_any (names place) (take fed links)) && nat_lt fed 128)
may_visit_kept start size fed place links h =
    let t : Trail = record { start = start; size = size; named = take (fed + 1) links } in
    rw (inside_place t place, visited_place t place (take (count_of t) t.named), count_kept start size fed links h, take_kept fed links) refl
