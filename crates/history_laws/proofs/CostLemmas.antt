-- What a token may cost in commands, by the bytes of its range.
use Rattle.std.proofs.Common.{inl, inr, Bool, List, [], arith, false, map, nat_lt, None, refl, Some, subst, suc, sym, true, zero, ℕ, ◌*◌, ◌++◌, ◌+◌, ◌-◌, ◌/◌, ◌∙◌, ◌∷◌, ◌≡◌, ◌≤◌}
use Rattle.std.proofs.lemmas.Bool.{cases_Bool}
use Rattle.std.proofs.lemmas.List.{map-append}
use Rattle.std.proofs.lemmas.List.Sums.{sum_by-append, sum_by-cons}
use Rattle.std.specs.Prelude.{sum_by, if◌then◌else◌}
use Rattle.disk_split.specs.declared.geometry.Geometry.{Geometry}
use Rattle.disk_split.specs.declared.parts.Part.{Part}
use Rattle.disk_split.specs.Parts.{part_of}
use Rattle.disk_split.specs.Units.{Tile, run_at, runs_from, group_size, middle, whole_end, whole_blocks, whole_runs, part_in, first_whole, units_of}
use Rattle.disk_split.specs.declared.span.Span.{Span}
use Rattle.disk_split.proofs.Tiling.{tile-units}
use Rattle.history.specs.Setup.{Setup, IsSetup}
use Rattle.history.specs.Commands.{is_sync, has_done}
use Rattle.history.specs.Room.{one_unless, part_owed, span_owed, task_owed, commands_owed, runs_of}
use Rattle.history.specs.Tasks.{Moves, Syncs, tasks_of}
use Rattle.history.specs.Tokens.{Request, is_flush, from_of, until_of}
use Rattle.history.specs.declared.entry.Entry.{Entry}
use Rattle.history.specs.declared.entry.Kind.{Kind}
use Rattle.history.specs.declared.entry.Kind.TheVariants.{Erase, Flush, Read, Write}
use Rattle.history_laws.specs.Left.{task_bytes}
use Rattle.history_laws.specs.Costs.{left_at_first, one_if, part_count, cost_by, cost_of}

-- the commands of a part, and of a run, at most
abbrev pub part_most : Kind → ℕ
part_most Read = 1
part_most Write = 2
part_most Flush = 0
part_most Erase = 2

-- a command that may be owed is one at most
pub unless-most : (b : Bool) → one_unless b ≤ 1
unless-most true = omega arith
unless-most false = omega arith

part-most : (f s : Bool) → part_owed f s ≤ 2
part-most f true = omega arith
part-most true false = omega arith
part-most false false = omega arith

-- a part owes a fetch and a store at most
pub part-span-most : (kind : Kind) (H : List Entry) (t b : ℕ) → span_owed kind H t false b ≤ part_most kind
part-span-most Read H t b = unless-most _
part-span-most Write H t b = part-most _ _
part-span-most Flush H t b = omega arith
part-span-most Erase H t b = part-most _ _

run-span-most : (kind : Kind) (H : List Entry) (t b : ℕ) → span_owed kind H t true b ≤ 1
run-span-most Read H t b = unless-most _
run-span-most Write H t b = unless-most _
run-span-most Flush H t b = omega arith
run-span-most Erase H t b = unless-most _

-- runs owe one command each at most
pub runs-most : (kind : Kind) (H : List Entry) (t size first whole n i : ℕ) → sum_by (task_owed kind H t) (map Moves (runs_from size first whole n i)) ≤ n
unfolding runs_from
runs-most kind H t size first whole zero i = omega arith
runs-most kind H t size first whole (suc n) i =
    let u : Span = run_at size first whole i in
    let here = run-span-most kind H t u.block in
    let rest = runs-most kind H t size first whole n (i + 1) in
    let both = sum_by-cons (task_owed kind H t) (Moves u) (map Moves (runs_from size first whole n (i + 1))) in
    omega arith

-- the kind of a flush
pub flush-one : (kind : Kind) → is_flush kind ≡ true → kind ≡ Flush
flush-one Read is = cc
flush-one Write is = cc
flush-one Flush is = refl
flush-one Erase is = cc

-- units that tile a range have its bytes
pub tile-bytes : (a z : ℕ) (us : List Span) → Tile a z us → sum_by task_bytes (map Moves us) + a ≡ z
unfolding Tile
tile-bytes a z [] tile = (let same = tile in omega arith)
tile-bytes a z (u ∷ us) (begins, some, tile) =
    let rest = tile-bytes u.high z us tile in
    let both = sum_by-cons task_bytes (Moves u) (map Moves us) in
    omega arith

parts-most : (kind : Kind) (H : List Entry) (t : ℕ) (G : Geometry) (a m : ℕ) → sum_by (task_owed kind H t) (map Moves (part_in G a m)) ≤ part_most kind * one_if (part_of a m)
parts-most kind H t G a m = by (nat_lt a m)
  where
    span : Span
    span = record { whole = false; block = a / group_size G * G.per; count = G.per; low = a; high = m }

    by : (b : Bool) → sum_by (task_owed kind H t) (map Moves (if b then span ∷ [] else [])) ≤ part_most kind * one_if {X = Part} (if b then Some (record { at = a; len = m - a }) else None)
    by true = (let most = part-span-most kind H t span.block in let one = sum_by-cons (task_owed kind H t) (Moves span) [] in omega arith)
    by false = omega arith

units-most : (kind : Kind) (H : List Entry) (t : ℕ) (G : Geometry) (a z : ℕ) → sum_by (task_owed kind H t) (map Moves (units_of G a z))
    ≤ part_most kind * one_if (part_of a (middle (group_size G) a z)) + ((whole_blocks G a z + 63) / 64 + part_most kind * one_if (part_of (whole_end (group_size G) a z) z))
unfolding units_of
units-most kind H t G a z =
    let f = task_owed kind H t in
    let low : List Span = part_in G a (middle (group_size G) a z) in
    let runs : List Span = whole_runs G a z in
    let high : List Span = part_in G (whole_end (group_size G) a z) z in
    rw (map-append Moves low (runs ++ high), map-append Moves runs high, sum_by-append f (map Moves low) (map Moves runs ++ map Moves high), sum_by-append f (map Moves runs) (map Moves high))
    (let one = parts-most kind H t G a (middle (group_size G) a z) in
    let two = runs-most kind H t G.size (first_whole G a) (whole_blocks G a z) ((whole_blocks G a z + 63) / 64) 0 in
    let three = parts-most kind H t G (whole_end (group_size G) a z) z in
    omega arith)

moving-cost : (kind : Kind) (under over runs : ℕ) → is_flush kind ≡ false → part_most kind * under + (runs + part_most kind * over) ≤ cost_by kind (under + over) runs
moving-cost Read under over runs is = omega arith
moving-cost Write under over runs is = omega arith
moving-cost Flush under over runs is = cc
moving-cost Erase under over runs is = omega arith

-- what a request costs at most
pub cost-most : (S : Setup) (H : List Entry) (t : ℕ) (r : Request) → commands_owed S H t r ≤ cost_of S r
unfolding commands_owed
cost-most S H t r = elim (cases_Bool (is_flush r.asked.kind)) [
  | inl flush ↦ rw flush (subst (λ k. sum_by (task_owed r.asked.kind H t) (Syncs ∷ []) ≤ cost_by k (part_count S r) (runs_of S r)) (sym (flush-one r.asked.kind flush))
      (let one = sum_by-cons (task_owed r.asked.kind H t) Syncs [] in let most = unless-most (has_done is_sync H t) in omega arith))
  | inr moving ↦
      let a = from_of S r in
      let z = until_of S r in
      let most = units-most r.asked.kind H t S.geometry a z in
      let within = moving-cost r.asked.kind (one_if (part_of a (middle (group_size S.geometry) a z))) (one_if (part_of (whole_end (group_size S.geometry) a z) z)) (runs_of S r) moving in
      rw moving (omega arith)
]

-- the units of a request have all its bytes
pub tasks-bytes : (S : Setup) (r : Request) → IsSetup S → sum_by task_bytes (tasks_of S r) ≡ left_at_first r.asked.kind r.asked.length
tasks-bytes S r setup = elim (cases_Bool (is_flush r.asked.kind)) [
  | inl flush ↦ rw flush (subst (λ k. sum_by task_bytes (Syncs ∷ []) ≡ left_at_first k r.asked.length) (sym (flush-one r.asked.kind flush)) (sum_by-cons task_bytes Syncs []))
  | inr moving ↦
      let all = tile-bytes (from_of S r) (until_of S r) (units_of S.geometry (from_of S r) (until_of S r)) (tile-units S.geometry (from_of S r) (until_of S r) setup.geometry (omega arith)) in
      rw moving ((let is : sum_by task_bytes (map Moves (units_of S.geometry (from_of S r) (until_of S r))) ≡ r.asked.length = omega arith in is) ∙ moving-left r.asked.kind r.asked.length moving)
]
  where
    moving-left : (kind : Kind) (n : ℕ) → is_flush kind ≡ false → n ≡ left_at_first kind n
    moving-left Read n is = refl
    moving-left Write n is = refl
    moving-left Flush n is = cc
    moving-left Erase n is = refl
