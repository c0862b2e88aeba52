-- A disk of one medium has one era.
use Rattle.std.proofs.Common.{List, [], ap, arith, false, inl, inr, length, refl, sym, ℕ, ◌+◌, ◌∙◌, ◌∷◌, ◌≡◌}
use Rattle.std.proofs.lemmas.Bool.{cases_Bool}
use Rattle.history.specs.Eras.{era_count, era_faults, inserts, is_fault, is_insert, media_id_of}
use Rattle.history.specs.Room.{faults}
use Rattle.history.specs.Rules.{IsLegal, MayFollow}
use Rattle.history.specs.Setup.{Setup}
use Rattle.history.specs.declared.entry.Entry.{Entry}
use Rattle.history.specs.declared.entry.Entry.TheVariants.{Insert}
use Rattle.history_laws.proofs.CountLemmas.{faults-more, faults-same, inserts-none, inserts-same}
use Rattle.history_laws.proofs.EraLemmas.{era_count-more, era_count-same}

-- no other medium is ever put in
no-insert : (S : Setup) (H : List Entry) (e : Entry) → MayFollow S H e → length S.media ≡ 1 → is_insert e ≡ false
unfolding MayFollow
no-insert S H (Insert tag k) (out, next, there) one = absurd (omega (arith, next, there, one))
no-insert S H e may one = refl

first-era : (S : Setup) (H : List Entry) → IsLegal S H → length S.media ≡ 1 → inserts H ≡ 0
unfolding IsLegal
first-era S [] legal one = inserts-none
first-era S (e ∷ H) (legal, may) one = inserts-same H e (no-insert S H e may one) ∙ first-era S H legal one

-- so all its failed commands are of that era
pub faults-alone : (S : Setup) (H : List Entry) → IsLegal S H → length S.media ≡ 1 → era_faults 1 H ≡ faults H
unfolding IsLegal faults era_count
faults-alone S [] legal one = refl
faults-alone S (e ∷ H) (legal, may) one = elim (cases_Bool (is_fault e)) [
  | inl is ↦
      let id : media_id_of H ≡ 1 = omega (arith, first-era S H legal one) in
      era_count-more is_fault 1 H e id is ∙ (ap (λ n. n + 1) (faults-alone S H legal one) ∙ sym (faults-more H e is))
  | inr isnt ↦ era_count-same is_fault 1 H e isnt ∙ (faults-alone S H legal one ∙ sym (faults-same H e isnt))
]

-- the medium of a disk on which nothing has happened is the first
pub first-id : (H : List Entry) (media_id : ℕ) → H ≡ [] → media_id ≡ media_id_of H → media_id ≡ 1
unfolding inserts
first-id H media_id fresh is = is ∙ ap media_id_of fresh
