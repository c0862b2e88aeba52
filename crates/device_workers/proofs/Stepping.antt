-- What a step of the desk is in the schedule.
use Rattle.std.proofs.Common.{◌≡◌, ◌+◌, ◌≤◌, Bool, true, false, List, [], Some, refl, ◌∙◌, ap, subst}
use Rattle.history.specs.declared.entry.Entry.{Entry}
use Rattle.history.specs.Setup.{Setup, IsSetup}
use Rattle.history.specs.Next.{Turn, next_turn, Outcome, Made}
use Rattle.history_laws.proofs.TurnNoneLemmas.{drained-turn}
use Rattle.block_gate.specs.Works.{Lent}
use Rattle.disk_core.specs.declared.answers.Step.TheVariants as step
use Rattle.disk_core.specs.declared.answers.Stored.{Stored}
use Rattle.disk_core.specs.declared.answers.Stored.TheVariants as stored
use Rattle.disk_core.specs.State.{State}
use Rattle.disk_core.specs.Facts.{AreFacts}
use Rattle.disk_core.specs.Calls.{is_fetched, StepSays, StoreSays}
use Rattle.disk_core.specs.Turns.{IsIdle, KeepsGates, TakesTurn, StepTurns, merge_of, StoresAtOnce}
use Rattle.disk_core.proofs.TurnLemmas.{steps-turn}
use Rattle.disk_core.proofs.AtOnceLemmas.{stores-merged}
use Rattle.disk_core.proofs.IdleLemmas.{idle-stays}
use Rattle.shared_disk.specs.Lines.{Role}
use Rattle.shared_disk.specs.Desk.{DeskState, OnDisk}
use Rattle.device_workers.specs.Plain.{progress, after_step}
use Rattle.device_workers.specs.Leading.{StepsOn, IsTurned}
use Rattle.device_workers.specs.Serving.{Steps, StepsOnce}
use Rattle.device_workers.proofs.Costs.{cost, turned-lightens}
use Rattle.device_workers.proofs.Leading.{step-did, step-fetched, step-drained}

is-turned : (old new : State) (turn : Turn) (outcome : Outcome) (fetched : Bool) → TakesTurn old turn outcome new → is_fetched turn.command outcome ≡ fetched → IsTurned old.setup old.entries new.entries fetched
is-turned old new turn outcome fetched takes answer = record {
  turn = turn;
  outcome = outcome;
  next = takes.next;
  entries = takes.makes.entries;
  answer = answer;
}

-- a step of the disk, and whether a token was outstanding
pub record StepsDisk (old : State) (some : Bool) (new : State) : Type 0 where
  pub keeps : KeepsGates old new
  pub steps : Steps old.setup old.entries new.entries some

-- the disk before a step
module _ (old : State) (is : IsSetup old.setup) (facts : AreFacts old) (idle : IsIdle old.gates) where
  -- a command that was no done fetch
  did-disk : (new : State) → StepSays old step.Did new → StepsDisk old true new
  did-disk new says = by (steps-turn old new step.Did is facts idle.held idle.free says)
    where
      by : StepTurns old step.Did new → StepsDisk old true new
      by (turn, outcome, takes, unfetched, revokes) = record {
        keeps = record { setup = takes.makes.setup; gates = idle-stays old.gates new.gates idle revokes };
        steps = record {
          step = step-did old.setup old.entries new.entries (is-turned old new turn outcome false takes unfetched);
          going = λ going. (turn, takes.next);
          over = λ over. cc;
        };
      }

  -- a store of a merged work has no other answer
  answered-disk : (mid new : State) (w w' : Lent) (answer : Stored) → StepSays old (step.Lent w) mid → w' ≡ merge_of w → StoreSays mid w' answer new → StoresAtOnce old mid answer new
  answered-disk mid new w w' answer says merges stores = stores-merged old mid new w answer is facts idle says (subst (λ v. StoreSays mid v answer new) merges stores)

  -- a done fetch, and its store
  stored-disk : (mid new : State) (w w' : Lent) → StepSays old (step.Lent w) mid → w' ≡ merge_of w → StoreSays mid w' stored.Did new → StepsDisk old true new
  stored-disk mid new w w' says merges stores = by (steps-turn old mid (step.Lent w) is facts idle.held idle.free says) (answered-disk mid new w w' stored.Did says merges stores)
    where
      by : StepTurns old (step.Lent w) mid → StoresAtOnce old mid stored.Did new → StepsDisk old true new
      by (turn, takes, fetched) (turn', outcome, stores) =
          let same : mid.setup ≡ old.setup = takes.makes.setup in
          let turned : IsTurned old.setup mid.entries new.entries false =
          subst (λ S. IsTurned S mid.entries new.entries false) same (is-turned mid new turn' outcome false stores.takes stores.unfetched) in
          record {
            keeps = record { setup = stores.takes.makes.setup ∙ same; gates = stores.gates };
            steps = record {
              step = step-fetched old.setup old.entries mid.entries new.entries false (is-turned old mid turn Made true takes fetched) turned;
              going = λ going. (turn, takes.next);
              over = λ over. cc;
            };
          }

  -- an idle step does not come
  never-disk : (new : State) → StepSays old step.Idle new → ⊥
  never-disk new says = steps-turn old new step.Idle is facts idle.held idle.free says

-- no token is outstanding
drained-disk : (old new : State) → StepSays old step.Drained new → StepsDisk old false new
unfolding StepSays
drained-disk old new (same, none) = record { keeps = record { setup = ap (λ s. s.setup) same; gates = ap (λ s. s.gates) same }; steps = rw (ap (λ (s : State). s.entries) same) still }
  where
    still : Steps old.setup old.entries old.entries false
    still = record {
      step = step-drained old.setup old.entries (drained-turn old.setup old.entries none);
      going = λ going. cc;
      over = λ over. (none, refl);
    }

-- the desk before a step
module _ (old : DeskState) (is : IsSetup old.disk.setup) (facts : AreFacts old.disk) (idle : IsIdle old.disk.gates) where
  pub did : (new : DeskState) → OnDisk old new (λ s t. StepSays s step.Did t) → StepsOnce old true new
  did new on =
      let steps : StepsDisk old.disk true new.disk = did-disk old.disk is facts idle new.disk on.says in
      record { stays = record { disk = steps.keeps; script = on.script }; places = on.places; steps = steps.steps }

  pub answered : (mid new : DeskState) (w w' : Lent) (answer : Stored) → OnDisk old mid (λ s t. StepSays s (step.Lent w) t) → w' ≡ merge_of w → OnDisk mid new (λ s t. StoreSays s w' answer t)
      → StoresAtOnce old.disk mid.disk answer new.disk
  answered mid new w w' answer on merges stores = answered-disk old.disk is facts idle mid.disk new.disk w w' answer on.says merges stores.says

  pub stored-at-once : (mid new : DeskState) (w w' : Lent) → OnDisk old mid (λ s t. StepSays s (step.Lent w) t) → w' ≡ merge_of w → OnDisk mid new (λ s t. StoreSays s w' stored.Did t) → StepsOnce old true new
  stored-at-once mid new w w' on merges stores =
      let steps : StepsDisk old.disk true new.disk = stored-disk old.disk is facts idle mid.disk new.disk w w' on.says merges stores.says in
      record { stays = record { disk = steps.keeps; script = stores.script ∙ on.script }; places = stores.places ∙ on.places; steps = steps.steps }

  pub never-idle : (new : DeskState) → OnDisk old new (λ s t. StepSays s step.Idle t) → ⊥
  never-idle new on = never-disk old.disk is facts idle new.disk on.says

pub drained : (old new : DeskState) → OnDisk old new (λ s t. StepSays s step.Drained t) → StepsOnce old false new
drained old new on =
    let steps : StepsDisk old.disk false new.disk = drained-disk old.disk new.disk on.says in
    record { stays = record { disk = steps.keeps; script = on.script }; places = on.places; steps = steps.steps }

-- a command makes the stand lighter
pub steps-fall : (S : Setup) (H H' : List Entry) (lefts : List Role) → IsSetup S → Steps S H H' true → cost S (progress H' lefts []) + 1 ≤ cost S (progress H lefts [])
steps-fall S H H' lefts is steps = by (steps.going refl) (steps.step lefts [])
  where
    by : (turn : Turn) × (next_turn S H ≡ Some turn) → StepsOn S H H' lefts [] → cost S (progress H' lefts []) + 1 ≤ cost S (progress H lefts [])
    by (turn, next) on =
        let falls : cost S (after_step S (progress H lefts on.given)) + 1 ≤ cost S (progress H lefts on.given) = turned-lightens S is (progress H lefts on.given) turn next in
        rw on.goes at falls
