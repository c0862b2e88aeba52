-- Which units are taken away by the entries that end tokens.
use Rattle.std.proofs.Common.{◌≡◌, Bool, true, false, ◌&&◌, List, ◌∷◌, filter, None, Some, is_none, refl, ◌∙◌}
use Rattle.efi_status.specs.declared.Status.{Status}
use Rattle.history.specs.declared.entry.Entry.{Entry}
use Rattle.history.specs.Setup.{Setup}
use Rattle.history.specs.Tokens.{Request, is_accept}
use Rattle.history.specs.Marks.{ending}
use Rattle.history.specs.Tasks.{is_finished, Todo, units_left}
use Rattle.history_laws.specs.TokenFacts.{is_done}
use Rattle.history_laws.specs.Pending.{is_todo}
use Rattle.history_laws.proofs.TokenLemmas.{done_commands-same}
use Rattle.history_laws.proofs.NextLemmas.{outstanding-test}
use Rattle.history_laws.proofs.EraLemmas.{outstanding-next}
use Rattle.history_laws.proofs.PendingLemmas.{IsPending, filter-alike, finished-same, pending-is, pending-keeps}

some-none : (status : Status) → Some status ≡ None → ⊥
some-none status e = cc

and-true : (p : Bool) → (p && true) ≡ p
and-true true = refl
and-true false = refl

-- an entry that is no accept and no done command takes away the units of the tokens that it ends, and no other
pub pending-ends : (S : Setup) (H : List Entry) (e : Entry) → is_accept e ≡ false → is_done e ≡ false → units_left S (e ∷ H) ≡ filter (λ todo. is_none (ending S H e todo.token)) (units_left S H)
pending-ends S H e old isnt =
    pending-keeps S H e old
    ∙ filter-alike (is_todo S (e ∷ H)) (λ todo. is_none (ending S H e todo.token)) (units_left S H) (λ k todo there. let (r, left) = pending-is S H k todo there in by todo r left)
  where
    by : (todo : Todo) (r : Request) → IsPending S H todo r → is_todo S (e ∷ H) todo ≡ is_none (ending S H e todo.token)
    by todo r left =
        let unfinished : is_finished S (e ∷ H) todo.token todo.task ≡ false = finished-same S H (e ∷ H) todo.token todo.task (done_commands-same H e todo.token isnt) ∙ left.unfinished in
        rw (outstanding-next S H e todo.token old, outstanding-test S H todo.token left.outstanding, unfinished) (and-true (is_none (ending S H e todo.token)))
