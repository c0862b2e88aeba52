-- A step over the queue: the first unit, or none.
use Rattle.std.proofs.Common.{◌≡◌, ℕ, List, [], ◌∷◌, map, Option, None, Some, refl, sym, ◌∙◌, ap, IsSome}
use Rattle.std.specs.Prelude.{nat_lt, find}
use Rattle.std.specs.Option.{option_map}
use Rattle.std.proofs.lemmas.Option.{same_Some}
use Rattle.medium.specs.Device.{Device}
use Rattle.drive.specs.Drives.{DriveState}
use Rattle.block_gate.specs.Gates.{is_block_held}
use Rattle.history.specs.Tasks.{Todo, units_left}
use Rattle.history.specs.Next.{first_open}
use Rattle.history_laws.proofs.FinishLemmas.{pending-none, pending-open}
use Rattle.subtask_queue.specs.declared.sub.Sub.{Sub}
use Rattle.subtask_queue.specs.Subs.{may_run, sub_of}
use Rattle.disk_core.specs.declared.parts.Core.{Core}
use Rattle.disk_core.specs.State.{setup_of}
use Rattle.disk_core.specs.Parts.{state_of}
use Rattle.disk_core.specs.Calls.{StepSays, first_todo}
use Rattle.disk_core.specs.Moves.{IsDisk, IsFirst, Reaches, rest_of}
use Rattle.disk_core.proofs.Found.{found-first}
use Rattle.disk_core.proofs.Upcoming.{legal-in}

module _ {M : Type 0} (device : M → Device) (prepared : M → ℕ → Type 0) (drive : DriveState M) (c : Core) (sound : IsDisk device prepared drive c) where
  -- the unit that the queue finds comes first
  pub step-next : (unit : Sub) → Some unit ≡ find (may_run (is_block_held c.gates.held) (nat_lt 0 c.gates.free)) c.queue → (todo : Todo) × IsFirst device drive c unit todo
  step-next unit is = by (first_todo (state_of device drive c)) refl
    where
      by : (o : Option Todo) → first_todo (state_of device drive c) ≡ o → (todo : Todo) × IsFirst device drive c unit todo
      by None first = absurd (no-way (is ∙ found-first device prepared drive c sound ∙ ap (option_map (sub_of drive.size)) first))
        where
          no-way : Some unit ≡ None → ⊥
          no-way e = cc
      by (Some todo) first = (todo, record { first = first; kept_so = sym (same_Some unit (sub_of drive.size todo) (is ∙ found-first device prepared drive c sound ∙ ap (option_map (sub_of drive.size)) first)) })

  none-first : None ≡ find (may_run (is_block_held c.gates.held) (nat_lt 0 c.gates.free)) c.queue → first_todo (state_of device drive c) ≡ None
  none-first is = by (first_todo (state_of device drive c)) refl
    where
      by : (o : Option Todo) → first_todo (state_of device drive c) ≡ o → o ≡ None
      by None first = refl
      by (Some todo) first = absurd (no-way (is ∙ found-first device prepared drive c sound ∙ ap (option_map (sub_of drive.size)) first))
        where
          no-way : None ≡ Some (sub_of drive.size todo) → ⊥
          no-way e = cc

  open-queue : first_open (setup_of device drive c.protected_at_first) c.history.entries ≡ None → c.queue ≡ []
  unfolding setup_of
  open-queue none = sound.queue ∙ ap (map (sub_of drive.size)) (pending-none (setup_of device drive c.protected_at_first) c.history.entries sound.geometry (legal-in device prepared drive c sound) none)

  queue-open : c.queue ≡ [] → first_open (setup_of device drive c.protected_at_first) c.history.entries ≡ None
  unfolding setup_of
  queue-open none = pending-open (setup_of device drive c.protected_at_first) c.history.entries sound.geometry (legal-in device prepared drive c sound) (empty (units_left (setup_of device drive c.protected_at_first) c.history.entries) (sym sound.queue ∙ none))
    where
      empty : (todos : List Todo) → map (sub_of drive.size) todos ≡ [] → todos ≡ []
      empty [] e = refl
      empty (todo ∷ todos) e = cc

  -- where it finds none the disk rests
  pub rest-reaches : None ≡ find (may_run (is_block_held c.gates.held) (nat_lt 0 c.gates.free)) c.queue → Reaches device prepared drive c drive c (λ s s'. StepSays s (rest_of c.queue) s')
  unfolding state_of StepSays
  rest-reaches is = by c.queue refl
    where
      some-open : (s : Sub) (subs : List Sub) (o : Option ℕ) → first_open (setup_of device drive c.protected_at_first) c.history.entries ≡ o → c.queue ≡ s ∷ subs → IsSome o
      some-open s subs (Some t) first queue = refl
      some-open s subs None first queue = absurd (no-way (sym queue ∙ open-queue first))
        where
          no-way : s ∷ subs ≡ [] → ⊥
          no-way e = cc

      by : (queue : List Sub) → c.queue ≡ queue → Reaches device prepared drive c drive c (λ s s'. StepSays s (rest_of queue) s')
      by [] queue = record { sound = sound; says = (refl, queue-open queue) }
      by (s ∷ subs) queue = record { sound = sound; says = (refl, none-first is, some-open s subs (first_open (setup_of device drive c.protected_at_first) c.history.entries) refl queue) }
