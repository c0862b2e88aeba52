-- A command on the medium that is in (own profile).
use Rattle.std.specs.Prelude.{◌≡◌, ℕ, Some}
use Rattle.medium.specs.Device.{Device, StayPrepared}
use Rattle.drive.specs.Drives.{DriveState, medium_in, with_medium}

-- the medium that is in became another by what was done to it, prepared blocks stay so, and nothing else of the drive changed
pub record OnMedium {M : Type 0} (device : M → Device) (prepared : M → ℕ → Type 0) (old new : DriveState M) (Does : Device → Device → Type 0) : Type 0 where
  pub before : M
  pub after : M
  pub was_in : medium_in old ≡ Some before
  pub drive : new ≡ with_medium old after
  pub does : Does (device before) (device after)
  pub stay : StayPrepared (prepared before) (prepared after)

-- a fact of the medium that is in
abbrev pub OfMedium : {M : Type 0} → DriveState M → (M → Type 0) → Type 0
OfMedium {M} drive Fact = (m : M) → medium_in drive ≡ Some m → Fact m
