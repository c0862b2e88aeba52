-- What holds of the parts of a disk whenever no call of it runs: its facts, and how its parts carry them (own profile).
use Rattle.std.specs.Prelude.{◌≡◌, ℕ, ◌+◌, ◌-◌, ◌*◌, ◌/◌, ◌^◌, ◌<◌, ◌≤◌, true, List, length, map, replicate, Option, None, Some, vec_capacity}
use Rattle.efi_status.specs.declared.Status.{Status}
use Rattle.disk_split.specs.Units.{group_size}
use Rattle.medium.specs.Device.{Device}
use Rattle.drive.specs.Drives.{DriveState, IsDrive, FitTheDrive, medium_in}
use Rattle.history.specs.declared.entry.Entry.{Entry}
use Rattle.history.specs.Setup.{Setup, IsSetup, size_of, per_of}
use Rattle.history.specs.Eras.{media_id_of, is_present, is_protected}
use Rattle.history.specs.Tokens.{Request, token_count, request, changes_bytes, from_of, until_of}
use Rattle.history.specs.Marks.{mark_of, fetches, IsOutstanding, HoldsBy}
use Rattle.history.specs.Tasks.{units_left}
use Rattle.history.specs.Room.{owed_entries}
use Rattle.history_laws.specs.Left.{left_of}
use Rattle.history_laws.specs.Pending.{Ordered}
use Rattle.token_table.specs.declared.record.Record.{Record}
use Rattle.token_table.specs.Records.{Records, record_at, AreShown}
use Rattle.subtask_queue.specs.Subs.{sub_of}
use Rattle.block_gate.specs.Gates.{Gates, AreSound}
use Rattle.disk_core.specs.declared.parts.Core.{Core}
use Rattle.disk_core.specs.declared.parts.Holder.{Holder}
use Rattle.disk_core.specs.State.{setup_of}
use Rattle.disk_core.specs.Facts.{AreFacts}
use Rattle.disk_core.specs.Parts.{state_of, holder_of}

-- the drive tells which medium is in and whether it is protected
pub record DriveFollows {M : Type 0} (device : M → Device) (S : Setup) (H : List Entry) (drive : DriveState M) : Type 0 where
  pub shape : IsDrive drive
  pub fit : FitTheDrive device drive
  pub media_id : drive.media_id ≡ media_id_of H
  pub present : drive.present ≡ is_present H
  pub protected : drive.protected ≡ is_protected S H

-- the record of a token that was not handed back: what was asked, how it stands by these marks, and what is left of it while it is open
pub record TracksBy (S : Setup) (H : List Entry) (marks : ℕ → Option Status) (t : ℕ) (r : Record) (q : Request) : Type 0 where
  pub named : request H t ≡ Some q
  pub viewed : r.request.view ≡ q.view
  pub asked : r.request.asked ≡ q.asked
  pub begins : r.request.at ≡ from_of S q
  pub mark : marks t ≡ r.ended
  pub left : r.ended ≡ None → r.request.left ≡ left_of S H t q

-- each record tracks its token, and its event shows its mark
pub record RecordsBy (S : Setup) (H : List Entry) (marks : ℕ → Option Status) (records : Records) : Type 0 where
  pub each : (t : ℕ) (r : Record) → record_at records t ≡ Some r → (q : Request) × TracksBy S H marks t r q
  pub shown : AreShown records

-- so by the marks of the history
abbrev pub Tracks : Setup → List Entry → ℕ → Record → Request → Type 0
Tracks S H t r q = TracksBy S H (mark_of S H) t r q

abbrev pub RecordsFollow : Setup → List Entry → Records → Type 0
RecordsFollow S H records = RecordsBy S H (mark_of S H) records

-- a holder fetched before another
abbrev pub IsEarlier : Holder → Holder → Type 0
IsEarlier one other = one.ticket < other.ticket

-- each gate has its holder, both in the order of their tickets, and there is a place for a holder for each buffer set
pub record HoldersFollow (S : Setup) (H : List Entry) (gates : Gates) (holders : List Holder) (places : ℕ) : Type 0 where
  pub each : (k t b : ℕ) → HoldsBy S H t b k → holder_of holders k ≡ Some t
  pub only : (k t : ℕ) → holder_of holders k ≡ Some t → (b : ℕ) × HoldsBy S H t b k
  pub apart : AreSound gates
  pub paired : map (λ h. h.ticket) holders ≡ map (λ g. g.ticket) gates.held
  pub rising : Ordered IsEarlier holders
  pub fits : length gates.held + (length gates.gone + gates.free) ≤ places

-- room suffices
pub record HasRoom (S : Setup) (c : Core) : Type 0 where
  pub owed : owed_entries S c.history.entries ≤ c.owed
  pub places : c.owed ≤ c.history.spare
  pub few : length c.history.entries + c.history.spare < 2 ^ 63

-- the first block of the groups in which a request has a byte, and the block behind them
abbrev pub group_low : Setup → Request → ℕ
group_low S q = from_of S q / group_size S.geometry * per_of S

abbrev pub group_high : Setup → Request → ℕ
group_high S q = (until_of S q + group_size S.geometry - 1) / group_size S.geometry * per_of S

-- blocks are ready: each block of each group in which an open write or erase has a byte may be written without memory
abbrev pub AreReady : Setup → List Entry → (ℕ → Type 0) → Type 0
AreReady S H ready =
    (t b : ℕ) (q : Request) → IsOutstanding S H t → request H t ≡ Some q → changes_bytes q.asked.kind ≡ true → group_low S q ≤ b → b < group_high S q → ready b

-- what the parts know by heart, and the buffers that they keep
pub record AreFitted (S : Setup) (c : Core) : Type 0 where
  pub blocks : c.blocks ≡ S.geometry
  pub accepts : c.accepted ≡ token_count c.history.entries
  pub fetches_are : c.fetched ≡ fetches c.history.entries
  pub group : length c.group.items ≡ group_size S.geometry
  pub zeros : c.zeros.items ≡ replicate (64 * size_of S) 0

-- the parts of a disk with this setup
pub record IsSound {M : Type 0} (device : M → Device) (prepared : M → ℕ → Type 0) (S : Setup) (drive : DriveState M) (c : Core) : Type 0 where
  pub setup : setup_of device drive c.protected_at_first ≡ S
  pub geometry : IsSetup S
  pub facts : AreFacts (state_of device drive c)
  pub drive_follows : DriveFollows device S c.history.entries drive
  pub records : RecordsFollow S c.history.entries c.tokens
  pub queue : c.queue ≡ map (sub_of (size_of S)) (units_left S c.history.entries)
  pub holders : HoldersFollow S c.history.entries c.gates c.holders.items (vec_capacity c.holders)
  pub room : HasRoom S c
  pub ready : (m : M) → medium_in drive ≡ Some m → AreReady S c.history.entries (prepared m)
  pub fitted : AreFitted S c
