-- The unit that comes next, and what the disk has for its command.
use Rattle.std.proofs.Common.{◌≡◌, ℕ, zero, suc, ◌+◌, ◌-◌, ◌<◌, ◌≤◌, true, List, [], ◌∷◌, length, slice_get, None, Some, refl, sym, ◌∙◌, ap, subst, arith, IsSome}
use Rattle.std.specs.Prelude.{count_by, nat_lt, if◌then◌else◌, IfSome}
use Rattle.std.specs.Option.{option_map}
use Rattle.medium.specs.Device.{Device, IsShaped}
use Rattle.drive.specs.Drives.{DriveState, medium_in}
use Rattle.history.specs.declared.entry.Command.{Command}
use Rattle.history.specs.declared.entry.Entry.{Entry}
use Rattle.history.specs.Setup.{Setup}
use Rattle.history.specs.Tokens.{Request, request}
use Rattle.history.specs.Marks.{is_held, IsOutstanding}
use Rattle.history.specs.Rules.{IsLegal}
use Rattle.history.specs.Tasks.{Task, Todo, units_left, is_runnable, first_runnable}
use Rattle.history_laws.specs.Left.{task_bytes, left_of}
use Rattle.history_laws.specs.Ranges.{AreToldWhole}
use Rattle.history_laws.proofs.MayLemmas.{left-may}
use Rattle.history_laws.proofs.MediaLemmas.{open-media}
use Rattle.history_laws.proofs.NextLemmas.{find-some}
use Rattle.history_laws.proofs.PendingLemmas.{pending-is}
use Rattle.token_table.specs.declared.record.Mark.{Mark}
use Rattle.token_table.specs.Records.{request_at, mark_at}
use Rattle.subtask_queue.specs.declared.sub.Sub.{Sub}
use Rattle.subtask_queue.specs.Subs.{token_of, block_of, is_of}
use Rattle.disk_core.specs.declared.parts.Core.{Core}
use Rattle.disk_core.specs.State.{setup_of}
use Rattle.disk_core.specs.Parts.{state_of}
use Rattle.disk_core.specs.Moves.{IsDisk, IsFirst, HasPlace}
use Rattle.disk_core.proofs.Failed.{units-owed, open-place}
use Rattle.history_laws.proofs.LeftLemmas.{FinishesTask, left-falls}
use Rattle.disk_core.proofs.Links.{disk-closed}
use Rattle.disk_core.proofs.Opened.{open-record, open-marked}
use Rattle.disk_core.proofs.Unqueued.{block-sub}
use Rattle.history_laws.proofs.LeftLemmas.{task_block}
use Rattle.disk_core.proofs.Untouched.{told-whole}
use Rattle.disk_core.proofs.Queued.{sub-token}
use Rattle.history_laws.proofs.OpenLemmas.{IsNext}

module _ {M : Type 0} (device : M → Device) (prepared : M → ℕ → Type 0) (drive : DriveState M) (c : Core) (sound : IsDisk device prepared drive c) where
  abbrev S : Setup
  S = setup_of device drive c.protected_at_first

  abbrev H : List Entry
  H = c.history.entries

  pub legal-in : IsLegal S H
  unfolding state_of
  legal-in = sound.facts.legal

  pub next-is : (unit : Sub) (todo : Todo) → IsFirst device drive c unit todo → (r : Request) × IsNext S H (nat_lt 0 c.gates.free) todo r
  unfolding state_of first_runnable
  next-is unit todo first =
      let found = find-some (is_runnable (is_held S H) (nat_lt 0 c.gates.free)) (units_left S H) todo first.first in
      let left = pending-is S H found.0 todo found.1 in
      (left.0, record { left = left.1; clear = found.2; may = left-may S H (nat_lt 0 c.gates.free) todo left.0 sound.geometry legal-in left.1 found.2 })

  -- an open token has its medium in
  pub medium-present : (t : ℕ) (r : Request) → IsOutstanding S H t → request H t ≡ Some r → (m : M) × (medium_in drive ≡ Some m)
  medium-present t r open_ named =
      let present : drive.present ≡ true = sound.drive_follows.present ∙ (open-media S H t r legal-in open_ named).0 in
      let some = sound.drive_follows.shape.first in
      let within = sound.drive_follows.shape.there in
      let m = at drive.media (drive.media_id - 1) (omega arith) in
      (m.0, ap (λ b. if b then slice_get drive.media (drive.media_id - 1) else None) present ∙ m.1)
    where
      at : (xs : List M) (i : ℕ) → i < length xs → (m : M) × (slice_get xs i ≡ Some m)
      at [] i lt = absurd (omega arith)
      at (x ∷ xs) zero lt = (x, refl)
      at (x ∷ xs) (suc i) lt = at xs i (omega arith)

  pub is-present : (t : ℕ) (r : Request) → IsOutstanding S H t → request H t ≡ Some r → IsSome (medium_in drive)
  is-present t r open_ named = (let m = medium-present t r open_ named in subst IsSome (sym m.1) (some m.0))
    where
      some : (m : M) → IsSome (Some m)
      some m = refl

  -- what `fail` asks
  pub may-fail : (t : ℕ) → IsOutstanding S H t → (mark_at c.tokens t ≡ Mark.Outstanding) × HasPlace c × (count_by (is_of t) c.queue + 2 ≤ c.owed)
  may-fail t open_ =
      let closed = disk-closed device prepared drive c sound in
      (open-marked device prepared drive c sound t open_, open-place S H c t closed open_, units-owed S H c t closed open_)

  -- and `finish`
  pub may-lower : (t : ℕ) (command : Command) (r : Request) (task : Task) → IsOutstanding S H t → FinishesTask S H t command r task → IfSome (request_at c.tokens t) (λ q. task_bytes task ≤ q.left)
  unfolding request_at
  may-lower t command r task open_ finishes =
      let opened = open-record device prepared drive c sound t open_ in
      let own = opened.0 in
      let q = opened.1 in
      let is = opened.2 in
      let same : q ≡ r = one q (sym is.tracks.named ∙ finishes.named) in
      let left : own.request.left ≡ left_of S H t r = is.tracks.left is.unended ∙ ap (left_of S H t) same in
      let fall = left-falls S H t command r task sound.geometry finishes in
      let few : task_bytes task ≤ own.request.left = omega arith in
      subst (λ o. IfSome (option_map (λ x. x.request) o) (λ x. task_bytes task ≤ x.left)) (sym is.there) few
    where
      one : (q : Request) → Some q ≡ Some r → q ≡ r
      one q e = cc

  pub unit-token : (unit : Sub) (todo : Todo) → IsFirst device drive c unit todo → token_of unit ≡ todo.token
  unit-token unit todo first = ap token_of (sym first.kept_so) ∙ sub-token drive.size todo

  pub unit-block : (unit : Sub) (todo : Todo) → IsFirst device drive c unit todo → block_of unit ≡ task_block todo.task
  unit-block unit todo first = ap block_of (sym first.kept_so) ∙ block-sub drive.size todo

  pub whole-in : ((m : M) → IsShaped (device m)) → AreToldWhole S
  whole-in shaped = told-whole device drive c.protected_at_first shaped sound.drive_follows.fit
