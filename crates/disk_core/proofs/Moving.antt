-- A unit that moves bytes: its request, its blocks, and what the disk has for its command.
use Rattle.std.proofs.Common.{◌≡◌, ℕ, ◌+◌, ◌-◌, ◌*◌, ◌^◌, ◌<◌, ◌≤◌, true, false, List, slice_get, Some, sym, ◌∙◌, ap, subst, arith, IsSome, IfSome}
use Rattle.std.specs.Option.{option_map}
use Rattle.medium.specs.Device.{Device, IsShaped, IsTransfer}
use Rattle.drive.specs.Drives.{DriveState, medium_in}
use Rattle.disk_split.specs.declared.span.Span.{Span}
use Rattle.disk_split.specs.Units.{IsUnit}
use Rattle.std.proofs.Math.Nat.{mul-le-mul_right}
use Rattle.history.specs.declared.entry.Command.{Command}
use Rattle.history.specs.declared.entry.Entry.{Entry}
use Rattle.history.specs.Setup.{Setup, size_of, blocks_of, opening_blocks}
use Rattle.history.specs.Eras.{inserts, media_id_of}
use Rattle.history.specs.Tokens.{Request, request, is_flush, from_of, until_of}
use Rattle.history.specs.Commands.{is_transfer}
use Rattle.history.specs.Marks.{IsOutstanding}
use Rattle.history.specs.Tasks.{Moves, Todo, tasks_of, is_finished}
use Rattle.history_laws.specs.Units.{IsUnitCommand}
use Rattle.history_laws.proofs.TaskLemmas.{task-unit, task-moving}
use Rattle.token_table.specs.declared.record.Record.{Record}
use Rattle.token_table.specs.Records.{record_at, request_at}
use Rattle.subtask_queue.specs.declared.sub.Sub.{Sub}
use Rattle.disk_core.specs.declared.parts.Core.{Core}
use Rattle.disk_core.specs.State.{setup_of}
use Rattle.disk_core.specs.Facts.{MeetsEra, IsBuffer}
use Rattle.disk_core.specs.Parts.{kept_from, state_of}
use Rattle.disk_core.specs.Commands.{OfMedium}
use Rattle.disk_core.specs.Inside.{Tracks}
use Rattle.disk_core.specs.Moves.{IsDisk, IsFirst, HasBytesIn}
use Rattle.disk_core.proofs.Driven.{device-in}
use Rattle.history_laws.proofs.LeftLemmas.{FinishesTask, unit-finishes}
use Rattle.disk_core.proofs.Kept.{kept-record}
use Rattle.disk_core.proofs.Opened.{open-record}
use Rattle.history_laws.proofs.FittingLemmas.{UnitFits, open-fits}
use Rattle.disk_core.proofs.Upcoming.{next-is, is-present, may-lower, legal-in}

-- a unit that moves bytes, with its request and its record
pub record IsMoving (S : Setup) (H : List Entry) (c : Core) (t place : ℕ) (r : Request) (u : Span) (own : Record) : Type 0 where
  pub outstanding : IsOutstanding S H t
  pub named : request H t ≡ Some r
  pub listed : slice_get (tasks_of S r) place ≡ Some (Moves u)
  pub unfinished : is_finished S H t (Moves u) ≡ false
  pub unit : IsUnit S.geometry (from_of S r) (until_of S r) u
  pub moves : is_flush r.asked.kind ≡ false
  pub there : record_at c.tokens t ≡ Some own
  pub tracks : Tracks S H t own r
  pub buffer : IsBuffer S H t r own.request.buffer
  pub fits : UnitFits u (blocks_of S (media_id_of H))
  pub inside : until_of S r ≤ blocks_of S (media_id_of H) * size_of S

module _ {M : Type 0} (device : M → Device) (prepared : M → ℕ → Type 0) (drive : DriveState M) (c : Core) (sound : IsDisk device prepared drive c) where
  abbrev S : Setup
  S = setup_of device drive c.protected_at_first

  abbrev H : List Entry
  H = c.history.entries

  some-same : (q r : Request) → Some q ≡ Some r → q ≡ r
  some-same q r e = cc

  -- any open token's unit
  pub token-moving : (t place : ℕ) (r : Request) (u : Span) → IsOutstanding S H t → request H t ≡ Some r → slice_get (tasks_of S r) place ≡ Some (Moves u) → is_finished S H t (Moves u) ≡ false → (own : Record) × IsMoving S H c t place r u own
  unfolding state_of
  token-moving t place r u open_ named listed unfinished =
      let unit = task-unit S r place u sound.geometry listed in
      let moves = task-moving S r place u listed in
      let opened = open-record device prepared drive c sound t open_ in
      let own = opened.0 in
      let same : opened.1 ≡ r = some-same opened.1 r (sym opened.2.tracks.named ∙ named) in
      let kept = sound.facts.tokens.there t (kept_from own) (kept-record c.tokens t ∙ ap (option_map kept_from) opened.2.there) in
      let also : kept.1.0 ≡ r = some-same kept.1.0 r (sym kept.1.1.named ∙ named) in
      let lies = open-fits S H t r u sound.geometry (legal-in device prepared drive c sound) open_ named moves unit in (
        own,
        record {
          outstanding = open_;
          named = named;
          listed = listed;
          unfinished = unfinished;
          unit = unit;
          moves = moves;
          there = opened.2.there;
          tracks = subst (Tracks S H t own) same opened.2.tracks;
          buffer = subst (λ q. IsBuffer S H t q own.request.buffer) also kept.1.1;
          fits = lies.0;
          inside = lies.1;
        },
      )

  -- that of the first unit
  pub unit-moving : (unit : Sub) (todo : Todo) → IsFirst device drive c unit todo → (u : Span) → todo.task ≡ Moves u → (place : ℕ) × (r : Request) × (own : Record) × IsMoving S H c todo.token place r u own × (todo.kind ≡ r.asked.kind)
  unit-moving unit todo first u task_is =
      let next = next-is device prepared drive c sound unit todo first in
      let left = next.1.left in
      let moving = token-moving todo.token left.place next.0 u left.outstanding left.named (left.listed ∙ ap Some task_is) (ap (is_finished S H todo.token) (sym task_is) ∙ left.unfinished) in
      (left.place, next.0, moving.0, moving.1, left.kind)

  -- the medium that is in meets its era
  pub medium-meets : (m : M) → medium_in drive ≡ Some m → MeetsEra S H (media_id_of H) (device m)
  unfolding state_of
  medium-meets m is = (let at = device-in device prepared S H drive m m is sound.drive_follows in subst (λ k. MeetsEra S H k (device m)) (omega arith) (sound.facts.media (inserts H) (device m) at))

  blocks-meet : (m : M) → medium_in drive ≡ Some m → blocks_of S (media_id_of H) ≡ (device m).blocks
  blocks-meet m is = ap opening_blocks (medium-meets m is).opening

  module _ (t place : ℕ) (r : Request) (u : Span) (own : Record) (moving : IsMoving S H c t place r u own) where
    pub moving-request : request_at c.tokens t ≡ Some own.request
    unfolding request_at
    moving-request = ap (option_map (λ x. x.request)) moving.there

    pub moving-present : IsSome (medium_in drive)
    moving-present = is-present device prepared drive c sound t r moving.outstanding moving.named

    pub moving-finishes : (command : Command) → IsUnitCommand S r command u → is_transfer command ≡ true → FinishesTask S H t command r (Moves u)
    moving-finishes command of transfer = unit-finishes S H t command r u place sound.geometry moving.named moving.listed moving.unfinished of transfer

    pub moving-left : (command : Command) → IsUnitCommand S r command u → is_transfer command ≡ true → IfSome (request_at c.tokens t) (λ q. u.high - u.low ≤ q.left)
    moving-left command of transfer = may-lower device prepared drive c sound t command r (Moves u) moving.outstanding (moving-finishes command of transfer)

    -- so many bytes are those of the unit's blocks
    pub moving-transfer : (bytes : ℕ) → bytes ≡ u.count * size_of S → OfMedium drive (λ m. IsTransfer (device m) u.block bytes)
    moving-transfer bytes is m in_ =
        let size : (device m).size ≡ size_of S = (medium-meets m in_).size in
        let blocks = blocks-meet m in_ in
        let fits = moving.fits.fits in
        record { count = u.count; whole = is ∙ ap (λ n. u.count * n) (sym size); some = moving.fits.some; most = moving.fits.most; fits = omega arith }

    -- the request of the table has bytes in the unit's blocks
    pub moving-has : ((m : M) → IsShaped (device m)) → (m : M) → medium_in drive ≡ Some m → HasBytesIn own.request u.block u.count (size_of S)
    moving-has shaped m in_ =
        let size : (device m).size ≡ size_of S = (medium-meets m in_).size in
        let blocks = blocks-meet m in_ in
        let narrow : blocks_of S (media_id_of H) * size_of S < 2 ^ 64 = subst (λ n. n * size_of S < 2 ^ 64) (sym blocks) (subst (λ n. (device m).blocks * n < 2 ^ 64) size (shaped m).fits) in
        let inside = moving.inside in
        let at = moving.tracks.begins in
        let long : own.request.asked.length ≡ r.asked.length = ap (λ a. a.length) moving.tracks.asked in
        let some = moving.unit.some in let low = moving.unit.low in let high = moving.unit.high in
        let within : (u.block + u.count) * size_of S ≤ blocks_of S (media_id_of H) * size_of S = mul-le-mul_right (size_of S) moving.fits.fits in
        let least = sound.geometry.geometry.size_some in
        record { ends = omega arith; sized = omega arith; fits = omega arith; some = omega arith }
