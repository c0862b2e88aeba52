-- The steps of a disk that holds no block are the turns of the plain schedule.
use Rattle.std.proofs.Common.{◌≡◌, ℕ, ◌+◌, ◌<◌, ◌≤◌, ◌∷◌, true, false, nat_lt, [], Option, None, Some, IsSome, option_map, refl, sym, ◌∙◌, ap, subst}
use Rattle.std.proofs.lemmas.Bool.{false_from_ne_true, lt-ltb}
use Rattle.disk_split.specs.Units.{group_start}
use Rattle.history.specs.Setup.{IsSetup}
use Rattle.history.specs.Marks.{Holds, is_held}
use Rattle.history.specs.Tasks.{Todo, first_runnable, task_command}
use Rattle.history.specs.Next.{Turn, next_turn, first_open, Outcome, Made, entry_of}
use Rattle.history.specs.Rules.{IsLegal}
use Rattle.history.specs.Room.{owed_entries}
use Rattle.history_laws.proofs.TurnOwedLemmas.{turn-lowers}
use Rattle.history_laws.specs.Turns.{turn_of_todo}
use Rattle.history_laws.proofs.HolderLemmas.{held-holder}
use Rattle.history_laws.proofs.NextLemmas.{first-open-some, next-turn-is, next-turn-none}
use Rattle.history_laws.proofs.RunnableLemmas.{open-unfinished, next-runnable}
use Rattle.history_laws.proofs.TokenLemmas.{request-some}
use Rattle.block_gate.specs.Gates.{Gate, gate_of}
use Rattle.disk_core.specs.declared.answers.Step.{Step}
use Rattle.disk_core.specs.declared.answers.Step.TheVariants as step
use Rattle.disk_core.specs.State.{State}
use Rattle.disk_core.specs.Facts.{AreFacts}
use Rattle.disk_core.specs.Calls.{StepSays, MakesFirst, is_fetched, first_todo}
use Rattle.disk_core.specs.Turns.{TakesTurn, StepTurns}
use Rattle.history_laws.proofs.FetchLemmas.{fetched-ticket}

-- where no gate is held, no block is
pub none-held : (s : State) (b : ℕ) → AreFacts s → s.gates.held ≡ [] → is_held s.setup s.entries b ≡ false
unfolding gate_of
none-held s b facts none = false_from_ne_true (is_held s.setup s.entries b) (λ held. let (t, holds) = held-holder s.setup s.entries b held in by t holds)
  where
    clash : (k : ℕ) (g : Gate) → gate_of [] k ≡ Some g → ⊥
    clash k g is = cc

    by : (t : ℕ) → Holds s.setup s.entries t (group_start s.setup.geometry b) → ⊥
    by t holds =
        let (k, ticket) = fetched-ticket s.entries t (group_start s.setup.geometry b) holds.fetched in
        let (g, there, block) = facts.gates.all t (group_start s.setup.geometry b) k (record { holds = holds; ticket_is = ticket }) in
        clash k g (subst (λ held. gate_of held k ≡ Some g) none there)

-- the first runnable unit is the next turn
pub first-turn : (s : State) (todo : Todo) → IsSetup s.setup → AreFacts s → s.gates.held ≡ [] → 0 < s.gates.free → first_todo s ≡ Some todo → next_turn s.setup s.entries ≡ Some (turn_of_todo s.entries todo)
first-turn s todo is facts none free first =
    let some : nat_lt 0 s.gates.free ≡ true = lt-ltb 0 s.gates.free free in
    let here : first_runnable (is_held s.setup s.entries) true s.setup s.entries ≡ Some todo = subst (λ b. first_runnable (is_held s.setup s.entries) b s.setup s.entries ≡ Some todo) some first in
    next-runnable s.setup s.entries (is_held s.setup s.entries) is facts.legal (λ b. none-held s b facts none) ∙ ap (option_map (turn_of_todo s.entries)) here

-- with its command it is taken
pub first-taken : (s s' : State) (todo : Todo) (outcome : Outcome) → IsSetup s.setup → AreFacts s → s.gates.held ≡ [] → 0 < s.gates.free → MakesFirst s todo outcome s' → TakesTurn s (turn_of_todo s.entries todo) outcome s'
first-taken s s' todo outcome is facts none free makes = record { next = first-turn s todo is facts none free makes.first; makes = makes.makes }

-- where none is runnable, none is outstanding
idle-drained : (s : State) → IsSetup s.setup → AreFacts s → s.gates.held ≡ [] → 0 < s.gates.free → first_todo s ≡ None → IsSome (first_open s.setup s.entries) → ⊥
unfolding next_turn
idle-drained s is facts none free first open_ =
    let some : nat_lt 0 s.gates.free ≡ true = lt-ltb 0 s.gates.free free in
    let here : first_runnable (is_held s.setup s.entries) true s.setup s.entries ≡ None = subst (λ b. first_runnable (is_held s.setup s.entries) b s.setup s.entries ≡ None) some first in
    let no_turn : next_turn s.setup s.entries ≡ None = next-runnable s.setup s.entries (is_held s.setup s.entries) is facts.legal (λ b. none-held s b facts none) ∙ ap (option_map (turn_of_todo s.entries)) here in
    by (first_open s.setup s.entries) refl open_ no_turn
  where
    by : (o : Option ℕ) → first_open s.setup s.entries ≡ o → IsSome o → next_turn s.setup s.entries ≡ None → ⊥
    by None first some no_turn = cc
    by (Some t) first some no_turn =
        let open_ = (first-open-some s.setup s.entries t first).0 in
        let (r, named) = request-some s.entries t open_.token in
        let (task, next) = open-unfinished s.setup s.entries t r is facts.legal open_ named in
        clash (record { token = t; command = task_command s.entries t r.asked.kind task }) (sym (next-turn-is s.setup s.entries t r task first named next) ∙ no_turn)
      where
        clash : (turn : Turn) → Some turn ≡ None → ⊥
        clash turn e = cc

-- a step is the next turn
pub steps-turn : (old new : State) (answer : Step) → IsSetup old.setup → AreFacts old → old.gates.held ≡ [] → 0 < old.gates.free → StepSays old answer new → StepTurns old answer new
unfolding StepSays
steps-turn old new (step.Lent w) is facts none free (todo, q, lends) =
    (turn_of_todo old.entries todo, first-taken old new todo Made is facts none free lends.makes, ap (λ c. is_fetched c Made) lends.fetch)
steps-turn old new step.Did is facts none free (todo, outcome, does) =
    (turn_of_todo old.entries todo, outcome, first-taken old new todo outcome is facts none free does.makes, does.unfetched, does.gates)
steps-turn old new step.Idle is facts none free (same, first, open_) = idle-drained old is facts none free first open_
steps-turn old new step.Drained is facts none free (same, first) = (next-turn-none old.setup old.entries first, same)

-- a turn that was taken leaves a legal history, of which fewer entries are owed
pub taken-legal : (old new : State) (turn : Turn) (outcome : Outcome) → TakesTurn old turn outcome new → IsLegal old.setup (entry_of turn outcome ∷ old.entries)
taken-legal old new turn outcome takes = subst (λ S. IsLegal S (entry_of turn outcome ∷ old.entries)) takes.makes.setup (subst (λ H. IsLegal new.setup H) takes.makes.entries takes.makes.legal)

pub taken-lowers : (old new : State) (turn : Turn) (outcome : Outcome) → IsSetup old.setup → TakesTurn old turn outcome new → owed_entries old.setup new.entries + 1 ≤ owed_entries old.setup old.entries
taken-lowers old new turn outcome is takes = rw (takes.makes.entries) (turn-lowers old.setup old.entries turn outcome is (taken-legal old new turn outcome takes))
