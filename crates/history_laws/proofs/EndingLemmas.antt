-- What an entry that ends tokens leaves of their units.
use Rattle.history.specs.Marks.{ending, mark_of, IsOutstanding}
use Rattle.history.specs.Setup.{Setup}
use Rattle.history.specs.Tasks.{units_left}
use Rattle.history.specs.declared.entry.Entry.{Entry}
use Rattle.history_laws.proofs.EndLemmas.{mark-next, command-open}
use Rattle.history_laws.proofs.PendingEndLemmas.{pending-ends}
use Rattle.history_laws.proofs.PendingLemmas.{filter-alike, pending-is}
use Rattle.history_laws.proofs.QuietLemmas.{IsEnding}
use Rattle.std.proofs.Common.{List, ap, sym, ◌∙◌, ◌∷◌, ◌≡◌, ℕ}
use Rattle.std.specs.Prelude.{filter, is_none}
use Rattle.history.specs.Rules.{MayFollow}
use Rattle.history.specs.declared.entry.Command.{Command}
use Rattle.history.specs.declared.entry.Entry.TheVariants.{Fault}

module _ (S : Setup) (H : List Entry) (e : Entry) (is : IsEnding S H e) where
  -- the units of the tokens that stay open are those that are left
  pub units-left : filter (λ todo. is_none (mark_of S (e ∷ H) todo.token)) (units_left S H) ≡ units_left S (e ∷ H)
  units-left =
      filter-alike (λ todo. is_none (mark_of S (e ∷ H) todo.token)) (λ todo. is_none (ending S H e todo.token)) (units_left S H)
      (λ k todo there. (let of = pending-is S H k todo there in ap is_none (mark-next S H e todo.token of.1.outstanding.unmarked)))
      ∙ sym (pending-ends S H e is.adds_none is.unmoving)

module _ (S : Setup) (H : List Entry) (t : ℕ) (command : Command) (done : ℕ) (may : MayFollow S H (Fault t command done)) where
  pub fault-open : IsOutstanding S H t
  unfolding MayFollow
  fault-open = command-open S H t command may.0
