-- The records and the queue where a unit was finished.
use Rattle.std.proofs.Common.{◌≡◌, ℕ, zero, suc, ◌≤◌, Bool, true, false, List, [], ◌∷◌, Option, None, Some, refl, ◌∙◌, ap, arith}
use Rattle.std.specs.Prelude.{count_by, if◌then◌else◌}
use Rattle.std.specs.Option.{option_map}
use Rattle.efi_status.specs.declared.Status.{Status}
use Rattle.history_laws.proofs.CountLemmas.{count-more, count-same}
use Rattle.token_table.specs.declared.record.Record.{Record}
use Rattle.token_table.specs.declared.record.Mark.{Mark}
use Rattle.token_table.specs.Records.{Records, record_at, with_change, lower_record, mark_at, mark_of_record, mark_of_end}
use Rattle.subtask_queue.specs.declared.sub.Sub.{Sub}
use Rattle.subtask_queue.specs.Subs.{without_first}

pub record-changed : (change : Record → Record) (records : Records) (t : ℕ) (r : Record) → record_at records t ≡ Some r → record_at (with_change change records t) t ≡ Some (change r)
unfolding record_at with_change
record-changed change [] t r is = absurd (clash is)
  where
    clash : None ≡ Some r → ⊥
    clash e = cc
record-changed change (x ∷ records) zero r is = ap (option_map change) is
record-changed change (x ∷ records) (suc t) r is = record-changed change records t r is

-- an outstanding request has a record
pub open-record : (records : Records) (t : ℕ) → mark_at records t ≡ Mark.Outstanding → (r : Record) × (record_at records t ≡ Some r) × (r.ended ≡ None)
unfolding mark_at
open-record records t is = by (record_at records t) refl is
  where
    ended : (r : Record) (s : Option Status) → record_at records t ≡ Some r → r.ended ≡ s → mark_of_end s ≡ Mark.Outstanding → (r : Record) × (record_at records t ≡ Some r) × (r.ended ≡ None)
    ended r None there so mark = (r, there, so)
    ended r (Some status) there so mark = cc

    by : (m : Option Record) → record_at records t ≡ m → mark_of_record m ≡ Mark.Outstanding → (r : Record) × (record_at records t ≡ Some r) × (r.ended ≡ None)
    by None there mark = cc
    by (Some r) there mark = ended r r.ended there refl mark

pub lowered-open : (records : Records) (t count : ℕ) → mark_at records t ≡ Mark.Outstanding → mark_at (with_change (lower_record count) records t) t ≡ Mark.Outstanding
unfolding mark_at lower_record
lowered-open records t count is =
    let r = (open-record records t is).0 in
    let there = (open-record records t is).1 in
    let so = (open-record records t is).2 in
    ap mark_of_record (record-changed (lower_record count) records t r there) ∙ ap mark_of_end so

pub count-without : (p q : Sub → Bool) (subs : List Sub) → count_by p (without_first q subs) ≤ count_by p subs
unfolding without_first
count-without p q [] = omega arith
count-without p q (s ∷ subs) = by (q s) (p s) refl (count-without p q subs)
  where
    by : (b d : Bool) → p s ≡ d → count_by p (without_first q subs) ≤ count_by p subs → count_by p (if b then subs else s ∷ without_first q subs) ≤ count_by p (s ∷ subs)
    by true true is less = (let all = count-more p s subs is in omega arith)
    by true false is less = (let all = count-same p s subs is in omega arith)
    by false true is less = (let all = count-more p s subs is in let rest = count-more p s (without_first q subs) is in omega arith)
    by false false is less = (let all = count-same p s subs is in let rest = count-same p s (without_first q subs) is in omega arith)
