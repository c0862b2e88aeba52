-- What is stored and made anew before the rest is served.
use Rattle.std.proofs.Common.{◌≡◌, OnOk, Result, ℕ, ◌+◌, ◌-◌, ◌<◌, ◌≤◌, List, [], ◌∷◌, length, drop, Option, None, Some, Ok, Err, refl, sym, ◌∙◌, ap, subst, arith}
use Rattle.std.proofs.lemmas.List.{length-drop}
use Rattle.history.specs.declared.entry.Command.TheVariants.{Store}
use Rattle.history.specs.Setup.{Setup, IsSetup}
use Rattle.history.specs.Room.{owed_entries}
use Rattle.history.specs.Rules.{IsLegal}
use Rattle.history.specs.Next.{Turn, Outcome, entry_of}
use Rattle.history_laws.proofs.TurnOwedLemmas.{turn-lowers}
use Rattle.block_gate.specs.Gates.{Gate, Gates, gate_of, least_ticket, with_new_sets}
use Rattle.block_gate.proofs.GatesLemmas.{least-some}
use Rattle.disk_core.specs.declared.answers.HeldStored.{HeldStored}
use Rattle.disk_core.specs.declared.answers.HeldStored.TheVariants as held_stored
use Rattle.disk_core.specs.State.{State}
use Rattle.disk_core.specs.Calls.{Makes, HeldStoreSays, RefitSays}
use Rattle.disk_core.specs.Turns.{IsIdle}
use Rattle.shared_disk.specs.Desk.{DeskState, OnDisk}
use Rattle.shared_disk.specs.Script.{RunsWholeScript}
use Rattle.history.specs.declared.entry.Entry.{Entry}
use Rattle.device_workers.specs.Serving.{KeepsScriptAndGates}
use Rattle.device_workers.specs.Finishing.{KeepsScriptAndSetup}

pub setup-same : (d : DeskState) → KeepsScriptAndSetup d d
setup-same d = record { setup = refl; script = refl }

held-setup : (old new : State) (ticket : ℕ) (answer : HeldStored) → HeldStoreSays old ticket answer new → new.setup ≡ old.setup
unfolding HeldStoreSays
held-setup old new ticket held_stored.Stale says = ap (λ (s : State). s.setup) says.1
held-setup old new ticket held_stored.Did says =
    let (g, t, q, outcome, stores) = says in
    stores.makes.setup

-- one more group is stored
pub held-stays : (old mid new : DeskState) (ticket : ℕ) (answer : HeldStored) → KeepsScriptAndSetup old mid → OnDisk mid new (λ a b. HeldStoreSays a ticket answer b) → KeepsScriptAndSetup old new
held-stays old mid new ticket answer stays on = record {
  setup = held-setup mid.disk new.disk ticket answer on.says ∙ stays.setup;
  script = on.script ∙ stays.script;
}

made-lowers : (old new : State) (t b : ℕ) (outcome : Outcome) → IsSetup old.setup → Makes old t (Store b) outcome new → owed_entries new.setup new.entries + 1 ≤ owed_entries old.setup old.entries
made-lowers old new t b outcome is makes =
    let turn : Turn = record { token = t; command = Store b } in
    let legal : IsLegal old.setup (entry_of turn outcome ∷ old.entries) = subst (λ H. IsLegal old.setup H) makes.entries (subst (λ S. IsLegal S new.entries) makes.setup makes.legal) in
    rw (makes.setup, makes.entries) (turn-lowers old.setup old.entries turn outcome is legal)

-- and what is owed is less
pub held-lowers : (old new : State) (ticket : ℕ) (answer : HeldStored) → IsSetup old.setup → least_ticket old.gates.held ≡ Some ticket → HeldStoreSays old ticket answer new
    → owed_entries new.setup new.entries + 1 ≤ owed_entries old.setup old.entries
unfolding HeldStoreSays
held-lowers old new ticket held_stored.Stale is least says =
    let (g, there) = least-some old.gates.held ticket least in
    let never : None ≡ Some g = sym says.0 ∙ there in cc
held-lowers old new ticket held_stored.Did is least says =
    let (g, t, q, outcome, stores) = says in
    made-lowers old new t g.block outcome is stores.makes

-- where no group is held, the gates are idle once the buffers are made
pub refit-idle : (E : Type 0) (old new : State) (count : ℕ) → RefitSays {E = E} old (Ok count) new → old.gates.held ≡ [] → IsIdle new.gates
unfolding RefitSays with_new_sets
refit-idle E old new count says none =
    let (all, same, some) = says in
    let gates : new.gates ≡ with_new_sets old.gates count = ap (λ (s : State). s.gates) same in
    let held : new.gates.held ≡ [] = ap (λ (s : Gates). s.held) gates ∙ none in
    record {
      held = held;
      gone = ap (λ (s : Gates). s.gone) gates ∙ (ap (λ n. drop n old.gates.gone) all ∙ drop-all old.gates.gone);
      free = some held;
    }
  where
    drop-all : (xs : List ℕ) → drop (length xs) xs ≡ []
    drop-all [] = refl
    drop-all (x ∷ xs) = drop-all xs

-- the buffers are made anew, or some of them
pub refit-stays : {E : Type 0} (old new : DeskState) (result : Result ℕ E) → OnDisk old new (λ a b. RefitSays a result b) → KeepsScriptAndSetup old new
unfolding RefitSays
refit-stays old new (Ok count) on = record { setup = ap (λ (s : State). s.setup) on.says.1; script = on.script }
refit-stays old new (Err error) on = record { setup = ap (λ (s : State). s.setup) on.says.0; script = on.script }

pub refit-late : {E : Type 0} (old new : State) (error : E) → RefitSays old (Err error) new → 0 < length new.gates.gone
unfolding RefitSays
refit-late old new error says = says.1

pub stays-longer : (old mid late new : DeskState) → KeepsScriptAndSetup old mid → KeepsScriptAndSetup mid late → KeepsScriptAndGates late new → KeepsScriptAndSetup old new
stays-longer old mid late new first second third = record {
  setup = third.disk.setup ∙ second.setup ∙ first.setup;
  script = third.script ∙ second.script ∙ first.script;
}

pub stays-both : (old mid new : DeskState) → KeepsScriptAndSetup old mid → KeepsScriptAndSetup mid new → KeepsScriptAndSetup old new
stays-both old mid new first second = record { setup = second.setup ∙ first.setup; script = second.script ∙ first.script }

-- what is whole of the script then is whole of the same script
pub whole-of : {E : Type 0} (old mid late : DeskState) (result : Result (Unit {0}) E) (H : List Entry) → KeepsScriptAndSetup old mid → KeepsScriptAndSetup mid late
    → OnOk result (RunsWholeScript late.disk.setup late.script H) → OnOk result (RunsWholeScript old.disk.setup old.script H)
whole-of old mid late result H first second whole =
    subst (λ d. OnOk result (RunsWholeScript old.disk.setup d H)) (second.script ∙ first.script)
    (subst (λ S. OnOk result (RunsWholeScript S late.script H)) (second.setup ∙ first.setup) whole)
