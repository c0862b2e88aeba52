-- A disk as its callers see it (own profile).
use Rattle.std.specs.Prelude.{ℕ, Bool, List, map, slice_index_or, Option, None}
use Rattle.atomic_table.specs.Seated.{TableId}
use Rattle.medium.specs.Device.{Device}
use Rattle.drive.specs.Drives.{DriveState}
use Rattle.history.specs.declared.entry.Entry.{Entry}
use Rattle.history.specs.Setup.{Setup, Opening}
use Rattle.block_gate.specs.Gates.{Gates}

-- a token that was not handed back: its buffer as it is now, and the word of its event
pub record Kept : Type 0 where
  pub buffer : List ℕ
  pub word : TableId

-- the setup, which is that of the beginning and stays; the entries, the newest first; what is kept of each token, nothing
-- once it was handed back; the gates; and the media by id from 1
pub record State : Type 0 where
  pub setup : Setup
  pub entries : List Entry
  pub kept : List (Option Kept)
  pub gates : Gates
  pub devices : List Device

-- what is kept of a token
unfoldable pub kept_at : List (Option Kept) → ℕ → Option Kept
kept_at kept t = slice_index_or kept t None

abbrev pub opening_from : Device → Opening
opening_from d = record { blocks = d.blocks; first = d.first }

-- the setup of a disk over these media, which was protected so at the beginning
unfoldable pub setup_of : {M : Type 0} → (M → Device) → DriveState M → Bool → Setup
setup_of device drive at_first = record {
  geometry = record { size = drive.size; per = drive.per };
  cached = drive.cached;
  protected = at_first;
  media = map (λ m. opening_from (device m)) drive.media;
}
