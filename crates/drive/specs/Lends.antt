-- What a drive is once the medium that it lent is back.
use Rattle.std.specs.Prelude.{Option}
use Rattle.std.specs.Borrow.{Fml, RattleType, MutBor, LendsIf}
use Rattle.drive.specs.Drives.{DriveState, with_medium}
use Rattle.drive.specs.contracts.drive.Drive.{the_row}

-- the medium that is in is the last one written through r, and where none is in the drive stays as it is
abbrev pub lends_medium : (R : RattleType) → MutBor (DriveState R.Denot) → Option (MutBor R.Denot) → Fml
lends_medium R d r = LendsIf (the_row R) R d r (with_medium d.now) d.now
