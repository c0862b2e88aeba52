-- What finishing makes of a desk that threads have left (own profile).
use Rattle.std.specs.Prelude.{◌≡◌, ◌<◌, length}
use Rattle.shared_disk.specs.Desk.{DeskState}

-- the script stays, and the setup of the disk
pub record KeepsScriptAndSetup (old new : DeskState) : Type 0 where
  pub setup : new.disk.setup ≡ old.disk.setup
  pub script : new.script ≡ old.script

-- works are out whose gates were revoked, and a buffer is wanted in place of each
abbrev pub HasLateWorks : DeskState → Type 0
HasLateWorks s = 0 < length s.disk.gates.gone
