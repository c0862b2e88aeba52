-- The parts of a disk beside its drive, as its callers see them (own profile).
use Rattle.std.specs.Prelude.{ℕ, nat_eq, List, map, Option}
use Rattle.std.specs.List.{find}
use Rattle.std.specs.Option.{option_map}
use Rattle.medium.specs.Device.{Device}
use Rattle.drive.specs.Drives.{DriveState, devices_of}
use Rattle.token_table.specs.declared.record.Record.{Record}
use Rattle.token_table.specs.Records.{Records}
use Rattle.disk_core.specs.declared.parts.Core.{Core}
use Rattle.disk_core.specs.declared.parts.Holder.{Holder}
use Rattle.disk_core.specs.State.{State, Kept, setup_of}

abbrev pub kept_from : Record → Kept
kept_from r = record { buffer = r.request.buffer; word = r.signaller.word }

unfoldable pub kept_of : Records → List (Option Kept)
kept_of records = map (option_map kept_from) records

-- the disk of these parts
unfoldable pub state_of : {M : Type 0} → (M → Device) → DriveState M → Core → State
state_of device drive c = record {
  setup = setup_of device drive c.protected_at_first;
  entries = c.history.entries;
  kept = kept_of c.tokens;
  gates = c.gates;
  devices = devices_of device drive;
}

-- the token that holds a gate by this ticket
unfoldable pub holder_of : List Holder → ℕ → Option ℕ
holder_of holders ticket = option_map (λ h. h.token) (find (λ h. nat_eq ticket h.ticket) holders)
