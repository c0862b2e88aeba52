-- What an accepted request takes and leaves (own profile).
use Rattle.std.specs.Prelude.{◌≡◌, ℕ, ◌+◌, ◌-◌, ◌*◌, ◌/◌, ◌^◌, ◌<◌, ◌≤◌, true, nat_eq, if◌then◌else◌, List, [], ◌∷◌, ◌++◌, None, Some}
use Rattle.efi_status.specs.declared.Status.TheVariants.{Success}
use Rattle.history.specs.declared.entry.View.{View}
use Rattle.history.specs.declared.entry.Asked.{Asked}
use Rattle.history.specs.declared.entry.Kind.{Kind}
use Rattle.history.specs.declared.entry.Kind.TheVariants.{Read, Write, Flush, Erase}
use Rattle.history.specs.Tokens.{in_bytes, changes_bytes}
use Rattle.history.specs.Rules.{refusal_of}
use Rattle.history.specs.declared.entry.Entry.{Entry}
use Rattle.history.specs.declared.entry.Entry.TheVariants.{Accept}
use Rattle.medium.specs.Device.{Device}
use Rattle.disk_split.specs.declared.geometry.Geometry.{Geometry}
use Rattle.disk_split.specs.declared.parts.Parts.{Parts}
use Rattle.disk_split.specs.Units.{group_size}
use Rattle.drive.specs.Drives.{DriveState, medium_in}
use Rattle.token_table.specs.declared.record.Request.{Request}
use Rattle.token_table.specs.Records.{Records, with_record, with_change, ended_record}
use Rattle.subtask_queue.specs.declared.sub.Sub.{Sub}
use Rattle.subtask_queue.specs.Subs.{subs_of_request, AreParts}
use Rattle.disk_core.specs.declared.accepting.Room.{Room}
use Rattle.disk_core.specs.declared.parts.Core.{Core}
use Rattle.history_laws.specs.Costs.{left_at_first, one_if, cost_by}
use Rattle.disk_core.specs.State.{setup_of}
use Rattle.disk_core.specs.Commands.{OnMedium}

-- the bytes that the entry of an accepted request has: a write's
abbrev pub payload_of : Kind → List ℕ → List ℕ
payload_of Read buffer = []
payload_of Write buffer = buffer
payload_of Flush buffer = []
payload_of Erase buffer = []

-- how many parts a range has
abbrev pub parts_count : Parts → ℕ
parts_count parts = one_if parts.under + one_if parts.over

-- the request of the table for one that was just accepted
unfoldable pub accepted_request : ℕ → View → Asked → ℕ → List ℕ → Request
accepted_request tag view asked at buffer = record { tag = tag; view = view; asked = asked; at = at; buffer = buffer; left = left_at_first asked.kind asked.length }

-- an accept was entered, and so many entries more are owed; these records and units are kept
unfoldable pub after_accept : Core → Entry → ℕ → Records → List Sub → Core
after_accept c e owed tokens queue = record c {
  history = record { entries = e ∷ c.history.entries; spare = c.history.spare - 1 };
  owed = c.owed + owed;
  accepted = c.accepted + 1;
  tokens = tokens;
  queue = queue;
}

-- a new token of which nothing is left has ended with success
unfoldable pub after_empty_end : ℕ → ℕ → Core → Core
after_empty_end left t c = if nat_eq left 0 then record c { tokens = with_change (ended_record Success) c.tokens t; owed = c.owed - 1 } else c

-- a block lies in a group in which a range of bytes has one
pub record IsTouched (G : Geometry) (from until b : ℕ) : Type 0 where
  pub low : from / group_size G * G.per ≤ b
  pub high : b < (until + group_size G - 1) / group_size G * G.per

-- the drive is as it was, but for blocks that are ready to be written
abbrev pub StaysBut : {M : Type 0} → (M → Device) → (M → ℕ → Type 0) → DriveState M → DriveState M → Type 0
StaysBut device prepared drive drive' = OnMedium device prepared drive drive' (λ d d'. d' ≡ d)

-- the first byte of a request's range on its medium
abbrev pub start_at : ℕ → View → Asked → ℕ
start_at size view asked = view.start + in_bytes size asked.unit asked.at

-- no rule refuses the request
abbrev pub IsUnrefused : {M : Type 0} → (M → Device) → DriveState M → Core → View → Asked → ℕ → Type 0
IsUnrefused device drive c view asked media_id = refusal_of (setup_of device drive c.protected_at_first) c.history.entries view asked media_id ≡ None

-- each block of each group in which these bytes have one is ready
abbrev pub AreMadeReady : {M : Type 0} → (M → ℕ → Type 0) → DriveState M → Geometry → ℕ → ℕ → Type 0
AreMadeReady {M} prepared drive G from n = (m : M) → medium_in drive ≡ Some m → (b : ℕ) → IsTouched G from (from + n) b → prepared m b

-- where a request of this kind has bytes to change
abbrev pub AreReadyFor : {M : Type 0} → (M → ℕ → Type 0) → DriveState M → Geometry → Kind → ℕ → ℕ → Type 0
AreReadyFor prepared drive G kind from n = changes_bytes kind ≡ true → 0 < n → AreMadeReady prepared drive G from n

-- what an accepted request needs
pub record IsRoom (G : Geometry) (from : ℕ) (asked : Asked) (buffer : List ℕ) (room : Room) : Type 0 where
  pub begins : room.from ≡ from
  pub fits : room.from + asked.length < 2 ^ 64
  pub parts : AreParts G room.from (room.from + asked.length) room.parts
  pub bytes : room.bytes ≡ payload_of asked.kind buffer
  pub word : room.event.word ≡ room.signaller.word
  pub told : room.signaller.told ≡ 0
  pub seen : room.event.seen ≡ 0
  pub owed : room.owed ≡ cost_by asked.kind (parts_count room.parts) ((room.parts.whole * G.per + 63) / 64) + 2

-- a request was accepted with what it needs
unfoldable pub after_keep : Core → ℕ → View → Asked → Room → List ℕ → Core
after_keep c tag view asked room buffer =
    after_empty_end (left_at_first asked.kind asked.length) c.accepted
    (after_accept c (Accept tag view asked room.bytes) room.owed (with_record c.tokens (accepted_request tag view asked room.from buffer) room.signaller) (c.queue ++ subs_of_request c.blocks c.accepted asked.kind room.parts))
