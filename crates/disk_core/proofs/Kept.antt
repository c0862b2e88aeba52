-- Records, and what callers see of them.
use Rattle.std.proofs.Common.{◌≡◌, ◌≢◌, ℕ, zero, suc, inl, inr, List, [], ◌∷◌, map, Option, None, Some, refl, sym, ◌∙◌, ap, subst}
use Rattle.std.specs.Prelude.{slice_set}
use Rattle.std.specs.Option.{option_map}
use Rattle.std.proofs.lemmas.Bool.{cases_eq}
use Rattle.std.proofs.lemmas.Option.{none-some, same_Some}
use Rattle.token_table.specs.declared.record.Record.{Record}
use Rattle.token_table.specs.Records.{Records, record_at, without_record, with_change}
use Rattle.disk_core.specs.State.{Kept, kept_at}
use Rattle.disk_core.specs.Parts.{kept_from, kept_of}

pub kept-record : (records : Records) (t : ℕ) → kept_at (kept_of records) t ≡ option_map kept_from (record_at records t)
unfolding kept_at kept_of record_at
kept-record [] t = refl
kept-record (r ∷ records) zero = refl
kept-record (r ∷ records) (suc t) = kept-record records t

pub kept-without : (records : Records) (t : ℕ) → kept_of (without_record records t) ≡ slice_set (kept_of records) t None
unfolding kept_of without_record
kept-without [] t = refl
kept-without (r ∷ records) zero = refl
kept-without (r ∷ records) (suc t) = ap (λ rest. option_map kept_from r ∷ rest) (kept-without records t)

pub kept-cleared : (kept : List (Option Kept)) (t : ℕ) → kept_at (slice_set kept t None) t ≡ None
unfolding kept_at
kept-cleared [] t = refl
kept-cleared (k ∷ kept) zero = refl
kept-cleared (k ∷ kept) (suc t) = kept-cleared kept t

pub kept-others : (kept : List (Option Kept)) (t u : ℕ) → t ≢ u → kept_at (slice_set kept t None) u ≡ kept_at kept u
unfolding kept_at
kept-others [] t u other = refl
kept-others (k ∷ kept) zero zero other = absurd (other refl)
kept-others (k ∷ kept) zero (suc u) other = refl
kept-others (k ∷ kept) (suc t) zero other = refl
kept-others (k ∷ kept) (suc t) (suc u) other = kept-others kept t u (λ same. other (ap suc same))

pub records-cleared : (records : Records) (t : ℕ) → record_at (without_record records t) t ≡ None
unfolding record_at without_record
records-cleared [] t = refl
records-cleared (k ∷ records) zero = refl
records-cleared (k ∷ records) (suc t) = records-cleared records t

pub records-others : (records : Records) (t u : ℕ) → t ≢ u → record_at (without_record records t) u ≡ record_at records u
unfolding record_at without_record
records-others [] t u other = refl
records-others (k ∷ records) zero zero other = absurd (other refl)
records-others (k ∷ records) zero (suc u) other = refl
records-others (k ∷ records) (suc t) zero other = refl
records-others (k ∷ records) (suc t) (suc u) other = records-others records t u (λ same. other (ap suc same))

-- records
pub changed-at : (change : Record → Record) (records : Records) (t : ℕ) → record_at (with_change change records t) t ≡ option_map change (record_at records t)
unfolding record_at with_change
changed-at change [] t = refl
changed-at change (r ∷ records) zero = refl
changed-at change (r ∷ records) (suc t) = changed-at change records t

pub changed-other : (change : Record → Record) (records : Records) (t u : ℕ) → t ≢ u → record_at (with_change change records t) u ≡ record_at records u
unfolding record_at with_change
changed-other change [] t u other = refl
changed-other change (r ∷ records) zero zero other = absurd (other refl)
changed-other change (r ∷ records) zero (suc u) other = refl
changed-other change (r ∷ records) (suc t) zero other = refl
changed-other change (r ∷ records) (suc t) (suc u) other = changed-other change records t u (λ same. other (ap suc same))

-- what holds of each record holds after the change of one, where it holds of the others and of the changed one
pub each-changed : (change : Record → Record) (records : Records) (t : ℕ) (P Q : ℕ → Record → Type 0) → ((u : ℕ) (r : Record) → record_at records u ≡ Some r → P u r)
    → ((u : ℕ) (r : Record) → t ≢ u → P u r → Q u r) → ((r : Record) → P t r → Q t (change r)) → (u : ℕ) (r : Record) → record_at (with_change change records t) u ≡ Some r → Q u r
each-changed change records t P Q all away here u r there = elim (cases_eq t u) [
  | inr other ↦ away u r other (all u r (sym (changed-other change records t u other) ∙ there))
  | inl same ↦
      (let was = before (record_at records t) refl (sym (changed-at change records t) ∙ (ap (record_at (with_change change records t)) same ∙ there)) in
      subst (λ v. Q v r) same (subst (Q t) was.2 (here was.0 (all t was.0 was.1))))
]
  where
    before : (o : Option Record) → record_at records t ≡ o → option_map change o ≡ Some r → (old : Record) × (record_at records t ≡ Some old) × (change old ≡ r)
    before None is e = absurd (none-some r e)
    before (Some old) is e = (old, is, same_Some (change old) r e)

kept-same : (change : Record → Record) → ((r : Record) → kept_from (change r) ≡ kept_from r) → (o : Option Record) → option_map kept_from (option_map change o) ≡ option_map kept_from o
kept-same change same None = refl
kept-same change same (Some r) = ap Some (same r)

-- a change of a record that leaves its buffer and its event's word is not seen
pub kept-changed : (change : Record → Record) → ((r : Record) → kept_from (change r) ≡ kept_from r) → (records : Records) (t : ℕ) → kept_of (with_change change records t) ≡ kept_of records
unfolding kept_of with_change record_at
kept-changed change same [] t = refl
kept-changed change same (o ∷ records) zero = ap (λ x. x ∷ map (option_map kept_from) records) (kept-same change same o)
kept-changed change same (o ∷ records) (suc t) = ap (λ rest. option_map kept_from o ∷ rest) (kept-changed change same records t)
