-- How a shared disk is closed (own profile).
use Rattle.std.specs.Prelude.{◌≡◌, ◌≢◌, ℕ, List, sum_by}
use Rattle.history.specs.Setup.{Setup}
use Rattle.shared_disk.specs.declared.answers.Closed.{Closed}
use Rattle.shared_disk.specs.declared.answers.Closed.TheVariants.{Whole, Short}
use Rattle.shared_disk.specs.Script.{Script}
use Rattle.shared_disk.specs.Desk.{DeskState, Keeps}
use Rattle.shared_disk.specs.Seats.{SeatState}

-- the sum of the seats' counts is the lock's: the desk is the one of the name, and keeps its script where the count is 0
pub record IsClosed (S : Setup) (d : Script) (seats : List SeatState) (desk : DeskState) (count : ℕ) : Type 0 where
  pub sum : count ≡ sum_by (λ s. s.count) seats
  pub setup : desk.disk.setup ≡ S
  pub script : desk.script ≡ d
  pub keeps : count ≡ 0 → Keeps desk

-- it differs, and the seats come back
pub record IsClosedShort (seats back : List SeatState) (count sum : ℕ) : Type 0 where
  pub sum_is : sum ≡ sum_by (λ s. s.count) seats
  pub apart : count ≢ sum
  pub same : back ≡ seats

abbrev pub ClosesAs : {M N : Type 0} → Setup → Script → List SeatState → Closed M N → Type 0
ClosesAs S d seats (Whole desk count) = IsClosed S d seats desk count
ClosesAs S d seats (Short shared back count sum) = IsClosedShort seats back.items count sum

abbrev pub IsClosedWhole : {M N : Type 0} → Closed M N → Type 0
IsClosedWhole (Whole desk count) = Unit {0}
IsClosedWhole (Short shared back count sum) = ⊥
