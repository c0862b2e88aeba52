-- The record with each number after each call.
use Rattle.std.proofs.Common.{◌≡◌, ℕ, ◌+◌, ◌<◌, [], ◌∷◌, ◌++◌, length, set, Option, None, Some, inl, inr, eq-eqb, sym, ◌∙◌, arith}
use Rattle.std.specs.Prelude.{nat_eq, if◌then◌else◌}
use Rattle.std.specs.Option.{option_map}
use Rattle.std.proofs.lemmas.Bool.{cases_eq, cases_lt, ne_eqb}
use Rattle.std.proofs.lemmas.List.{get_or_past, get_or-set_same, get_or-set_other, get_or_append_left, get_or_push, length-append}
use Rattle.event_cell.specs.Ends.{SignallerEnd}
use Rattle.token_table.specs.declared.record.Request.{Request}
use Rattle.token_table.specs.declared.record.Record.{Record}
use Rattle.token_table.specs.Records.{Records, record_at, new_record, with_record, with_change, without_record}

-- a place that is written
pub at-set : (s : Records) (n m : ℕ) (slot : Option Record) → n < length s → record_at (set s n slot) m ≡ (if nat_eq m n then slot else record_at s m)
unfolding record_at
at-set s n m slot there = elim (cases_eq m n) [
  | inl same ↦ rw (eq-eqb m n same, same) (get_or-set_same s n slot None there)
  | inr other ↦ rw (ne_eqb m n other) (get_or-set_other s n m slot None other)
]

-- a place behind the last
pub at-push : (s : Records) (m : ℕ) (slot : Option Record) → record_at (s ++ slot ∷ []) m ≡ (if nat_eq m (length s) then slot else record_at s m)
unfolding record_at
at-push s m slot = elim (cases_eq m (length s)) [
  | inl same ↦ rw (eq-eqb m (length s) same) (get_or_push s slot None m (sym same))
  | inr other ↦ rw (ne_eqb m (length s) other) (elim (cases_lt m (length s)) [
    | inl within ↦ get_or_append_left s (slot ∷ []) None m within
    | inr past ↦ get_or_past (s ++ slot ∷ []) m None (omega (arith, length-append s (slot ∷ []))) ∙ sym (get_or_past s m None past)
  ])
]

-- a request that was added has its number, and the others have theirs
pub record_at-added : (s : Records) (request : Request) (signaller : SignallerEnd) (m : ℕ) → record_at (with_record s request signaller) m ≡ (if nat_eq m (length s) then Some (new_record request signaller) else record_at s m)
unfolding with_record
record_at-added s request signaller m = at-push s m (Some (new_record request signaller))

pub length-added : (s : Records) (request : Request) (signaller : SignallerEnd) → length (with_record s request signaller) ≡ length s + 1
unfolding with_record
length-added s request signaller = length-append s (Some (new_record request signaller) ∷ [])

-- a record that is changed, where it stands; the others stay
pub record_at-changed : (change : Record → Record) (s : Records) (n m : ℕ) → n < length s → record_at (with_change change s n) m ≡ (if nat_eq m n then option_map change (record_at s n) else record_at s m)
unfolding with_change
record_at-changed change s n m there = at-set s n m (option_map change (record_at s n)) there

-- a record that is handed out is gone; the others stay
pub record_at-without_record : (s : Records) (n m : ℕ) → n < length s → record_at (without_record s n) m ≡ (if nat_eq m n then None else record_at s m)
unfolding without_record
record_at-without_record s n m there = at-set s n m None there
