-- The sync of a flush.
use Rattle.std.proofs.Common.{◌≡◌, ℕ, ◌+◌, ◌-◌, ◌*◌, ◌^◌, ◌<◌, ◌≤◌, Bool, true, false, List, length, Some, refl, sym, ◌∙◌, ap, subst, arith, Result, Ok, Err, OnOk, IsSome}
use Rattle.std.specs.Prelude.{count_by, if◌then◌else◌, IfSome}
use Rattle.medium.specs.Device.{Device, IsShaped, IsSync}
use Rattle.medium.specs.declared.block_failed.BlockFailed.{BlockFailed}
use Rattle.drive.specs.Drives.{DriveState, medium_in}
use Rattle.history.specs.declared.entry.Command.TheVariants.{Sync}
use Rattle.history.specs.declared.entry.Entry.{Entry}
use Rattle.history.specs.declared.entry.Entry.TheVariants.{Fault}
use Rattle.history.specs.Setup.{Setup}
use Rattle.history.specs.Tokens.{Request, changes_bytes}
use Rattle.history.specs.Marks.{IsOutstanding}
use Rattle.history.specs.Tasks.{Task, Moves, Syncs, Todo, is_finished, task_command}
use Rattle.history_laws.specs.Left.{task_bytes}
use Rattle.history_laws.proofs.CountLemmas.{fetches-same}
use Rattle.token_table.specs.declared.record.Mark.{Mark}
use Rattle.token_table.specs.Records.{request_at, mark_at}
use Rattle.subtask_queue.specs.declared.sub.Sub.{Sub}
use Rattle.subtask_queue.specs.declared.sub.Sub.TheVariants as sub
use Rattle.subtask_queue.specs.Subs.{token_of, is_of, sub_of_task}
use Rattle.disk_core.specs.declared.answers.Step.TheVariants.{Did}
use Rattle.disk_core.specs.declared.parts.Core.{Core}
use Rattle.disk_core.specs.State.{setup_of}
use Rattle.disk_core.specs.Commands.{OnMedium}
use Rattle.disk_core.specs.Parts.{kept_of, state_of}
use Rattle.disk_core.specs.Calls.{StepSays, command_of}
use Rattle.disk_core.specs.Moves.{IsDisk, IsFirst, Reaches, HasPlace, EntersDone, EntersFault, MayEnter, Settles}
use Rattle.disk_core.proofs.Commanded.{command_entry, sync-era}
use Rattle.disk_core.proofs.Finished.{kept-done}
use Rattle.history_laws.proofs.LeftLemmas.{FinishesTask, sync-finishes}
use Rattle.disk_core.proofs.Opened.{open-record}
use Rattle.disk_core.proofs.Stepped.{CommandFollows, did-done, did-failed}
use Rattle.disk_core.proofs.Upcoming.{next-is, is-present, may-fail, may-lower, unit-token}

-- a unit that the queue keeps as a sync is one
sync-task : (size token t : ℕ) (write : Bool) (task : Task) → sub_of_task size token write task ≡ sub.Sync t → task ≡ Syncs
sync-task size token t write Syncs is = refl
sync-task size token t write (Moves u) is = by u.whole is
  where
    by : (w : Bool) → (if w then sub.Run token u.block u.count write else sub.Part token u.block (u.low - u.block * size) (u.high - u.low) write) ≡ sub.Sync t → Moves u ≡ Syncs
    by true same = cc
    by false same = cc

-- another reading of what was done to the medium
pub on-as : {M : Type 0} (device : M → Device) (prepared : M → ℕ → Type 0) (drive drive' : DriveState M) (Does As : Device → Device → Type 0) → ((d d' : Device) → Does d d' → As d d') → OnMedium device prepared drive drive' Does → OnMedium device prepared drive drive' As
on-as device prepared drive drive' Does As reads on = record { before = on.before; after = on.after; was_in = on.was_in; drive = on.drive; does = reads (device on.before) (device on.after) on.does; stay = on.stay }

module _ {M : Type 0} (device : M → Device) (prepared : M → ℕ → Type 0) (drive : DriveState M) (c : Core) (sound : IsDisk device prepared drive c) (unit : Sub) (todo : Todo) (first : IsFirst device drive c unit todo) (token : ℕ) (is : unit ≡ sub.Sync token) where
  abbrev S : Setup
  S = setup_of device drive c.protected_at_first

  abbrev H : List Entry
  H = c.history.entries

  task-is : todo.task ≡ Syncs
  task-is = sync-task drive.size todo.token token (changes_bytes todo.kind) todo.task (first.kept_so ∙ is)

  command-is : command_of (state_of device drive c) todo ≡ Sync
  unfolding state_of
  command-is = ap (task_command H todo.token todo.kind) task-is

  finishing : (r : Request) × FinishesTask S H todo.token Sync r todo.task
  finishing =
      let next = next-is device prepared drive c sound unit todo first in
      let left = next.1.left in (
        next.0,
        subst (FinishesTask S H todo.token Sync next.0) (sym task-is)
            (sync-finishes S H todo.token next.0 left.place left.named (left.listed ∙ ap Some task-is) (ap (is_finished S H todo.token) (sym task-is) ∙ left.unfinished)),
      )

  open_ : IsOutstanding S H todo.token
  open_ = (next-is device prepared drive c sound unit todo first).1.left.outstanding

  token-is : token_of unit ≡ todo.token
  token-is = unit-token device prepared drive c sound unit todo first

  few-entries : length H < 2 ^ 63
  few-entries = (let few = sound.room.few in omega arith)

  pub sync-present : IsSome (medium_in drive)
  sync-present = is-present device prepared drive c sound todo.token finishing.0 open_ finishing.1.named

  sync-may : (mark_at c.tokens (token_of unit) ≡ Mark.Outstanding) × HasPlace c × (count_by (is_of (token_of unit)) c.queue + 2 ≤ c.owed)
  sync-may = subst (λ t. (mark_at c.tokens t ≡ Mark.Outstanding) × HasPlace c × (count_by (is_of t) c.queue + 2 ≤ c.owed)) (sym token-is) (may-fail device prepared drive c sound todo.token open_)

  sync-left : IfSome (request_at c.tokens (token_of unit)) (λ q. 1 ≤ q.left)
  sync-left = subst (λ t. IfSome (request_at c.tokens t) (λ q. 1 ≤ q.left)) (sym token-is)
      (subst (λ task. IfSome (request_at c.tokens todo.token) (λ q. task_bytes task ≤ q.left)) task-is (may-lower device prepared drive c sound todo.token Sync finishing.0 todo.task open_ finishing.1))

  -- it may be entered
  pub sync-enter : (result : Result (Unit {0}) BlockFailed) → MayEnter c unit 1 result
  sync-enter result = record { outstanding = sync-may.0; left = by result; place = sync-may.1; owed = sync-may.2 }
    where
      by : (result : Result (Unit {0}) BlockFailed) → OnOk result (IfSome (request_at c.tokens (token_of unit)) (λ q. 1 ≤ q.left))
      by (Ok done) = sync-left
      by (Err fault) = tt

  module _ (shaped : (m : M) → IsShaped (device m)) (drive' : DriveState M) (c' : Core) where
    follows : (result : Result (Unit {0}) BlockFailed) → OnMedium device prepared drive drive' (λ d d'. IsSync d result d') → OnMedium device prepared drive drive' (CommandFollows S H (command_entry todo.token Sync result) result)
    follows result on = on-as device prepared drive drive' (λ d d'. IsSync d result d') (CommandFollows S H (command_entry todo.token Sync result) result)
        (λ d d' does. record { command = does.command; era = λ meets. sync-era S H todo.token d d' few-entries meets result does }) on

    sync-done : (done : Unit {0}) → OnMedium device prepared drive drive' (λ d d'. IsSync d (Ok done) d') → EntersDone c c' unit Sync 1 → Reaches device prepared drive c drive' c' (λ s s'. StepSays s Did s')
    unfolding state_of
    sync-done done on finished_ =
        did-done device prepared drive c sound shaped unit todo first Sync finishing.0 drive' c c' command-is refl refl refl finishing.1 sound.records
        (let own = open-record device prepared drive c sound todo.token open_ in (own.0, own.2.there)) (kept-done S H todo.token Sync (kept_of c.tokens) refl sound.facts.tokens) refl (follows (Ok done) on)
        (subst (λ task. EntersDone c c' unit Sync (task_bytes task)) (sym task-is) finished_)

    sync-failed : (fault : BlockFailed) → OnMedium device prepared drive drive' (λ d d'. IsSync d (Err fault) d') → EntersFault c c' (token_of unit) Sync fault.done → Reaches device prepared drive c drive' c' (λ s s'. StepSays s Did s')
    sync-failed fault on failed =
        did-failed device prepared drive c sound shaped unit todo first Sync fault drive' c c' c.fetched command-is on.does.done refl (sound.fitted.fetches_are ∙ sym (fetches-same H (Fault todo.token Sync fault.done) refl)) (follows (Err fault) on)
        (subst (λ t. EntersFault c c' t Sync fault.done) token-is failed)

    pub sync-settled : (result : Result (Unit {0}) BlockFailed) → OnMedium device prepared drive drive' (λ d d'. IsSync d result d') → Settles c c' unit Sync 1 result → Reaches device prepared drive c drive' c' (λ s s'. StepSays s Did s')
    sync-settled (Ok done) on settles = sync-done done on settles
    sync-settled (Err fault) on settles = sync-failed fault on settles
