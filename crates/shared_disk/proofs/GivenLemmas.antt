-- What a token gave back, and what is over of it, stays so.
use Rattle.std.proofs.Common.{◌≡◌, ℕ, inl, inr, Bool, true, false, List, ◌∷◌, None, Some, refl, sym, ◌∙◌}
use Rattle.std.proofs.lemmas.Bool.{le-ltb}
use Rattle.efi_status.specs.declared.Status.{Status}
use Rattle.history.specs.declared.entry.Entry.{Entry}
use Rattle.history.specs.Setup.{Setup}
use Rattle.history_laws.proofs.NextLemmas.{outstanding-test, ended-test}
use Rattle.history_laws.proofs.OwingLemmas.{open-kept}
use Rattle.token_table.specs.declared.record.Mark.{Mark}
use Rattle.disk_core.specs.State.{State}
use Rattle.disk_core.specs.Calls.{MarkSays}
use Rattle.shared_disk.specs.declared.books.Buffer.{Buffer}
use Rattle.shared_disk.specs.declared.books.Buffer.TheVariants.{Awaited, Kept, Gone}
use Rattle.shared_disk.specs.Inside.{is_awaited}
use Rattle.history.specs.Tokens.{Request, token_count}
use Rattle.history.specs.Commands.{moves}
use Rattle.history.specs.Marks.{is_outstanding}
use Rattle.history.specs.Rules.{MayFollow, IsLegal}
use Rattle.history_laws.proofs.EndLemmas.{mark-stays, ended-read}
use Rattle.history_laws.proofs.TokenLemmas.{request-stays, has_done-stays}
use Rattle.shared_disk.specs.Desk.{IsHandedBack}
use Rattle.history_laws.proofs.TokenLemmas.{collected-stays}

-- what an ended token gave back stays so
pub given-stays : (S : Setup) (H : List Entry) (e : Entry) (t : ℕ) (buffer : List ℕ) (q : Request) (status : Status) → MayFollow S H e → IsHandedBack S H t buffer q status → IsHandedBack S (e ∷ H) t buffer q status
given-stays S H e t buffer q status may given = record {
  named = request-stays H e t q given.named;
  marked = mark-stays S H e t status given.marked;
  collected = collected-stays H e t given.collected;
  written = given.written;
  read = λ reads x v from until is. given.read reads x v from until (sym (ended-read S H e t status x may given.marked) ∙ is);
  long = given.long;
  whole = λ well reads x from until. has_done-stays (moves S x) H e t (given.whole well reads x from until);
}

-- how a token stands
pub mark-open : (s : State) (t : ℕ) → MarkSays s t Mark.Outstanding → is_outstanding s.setup s.entries t ≡ true
unfolding MarkSays
mark-open s t says = outstanding-test s.setup s.entries t (record { token = says.0; unmarked = says.1 })

pub mark-closed : (s : State) (t : ℕ) (m : Mark) → IsLegal s.setup s.entries → (m ≡ Mark.Outstanding → ⊥) → MarkSays s t m → is_outstanding s.setup s.entries t ≡ false
unfolding MarkSays
mark-closed s t Mark.Outstanding legal not says = absurd (not refl)
mark-closed s t (Mark.Ended status) legal not says = ended-test s.setup s.entries t (λ none. some-none status (sym says.0 ∙ none))
  where
    some-none : (status : Status) → Some status ≡ None → ⊥
    some-none status e = cc
mark-closed s t Mark.Unknown legal not (inl past) = rw (le-ltb t (token_count s.entries) past) refl
mark-closed s t Mark.Unknown legal not (inr was) = ended-test s.setup s.entries t (λ none. clash (open-kept s.setup s.entries t legal none) was)
  where
    clash : {b : Bool} → b ≡ false → b ≡ true → ⊥
    clash is not = cc

pub awaited-not : (b : Buffer) → (b ≡ Awaited → ⊥) → is_awaited b ≡ false
awaited-not Awaited not = absurd (not refl)
awaited-not (Kept done) not = refl
awaited-not Gone not = refl
