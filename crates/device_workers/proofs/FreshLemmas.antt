-- Desks of which no line is done, for callers.
use Rattle.std.proofs.Common.{◌≡◌, ℕ, zero, suc, List, [], ◌∷◌, length, map, None, refl, arith}
use Rattle.history.specs.Setup.{Setup, IsSetup}
use Rattle.history.specs.Next.{first_open}
use Rattle.history_laws.proofs.CountLemmas.{accepted-none}
use Rattle.disk_core.specs.State.{State}
use Rattle.shared_disk.specs.Lines.{Role}
use Rattle.shared_disk.specs.Script.{Script, IsOpening, places_at}
use Rattle.shared_disk.specs.Desk.{desk_over}
use Rattle.device_workers.specs.Serving.{IsAtOpening, IsPlainFront}
use Rattle.device_workers.proofs.Fronts.{is-front}
use Rattle.device_workers.proofs.Leading.{first-none, leads-same}

-- no entry is an opening history
pub opens-none : IsOpening []
opens-none = record { tags = λ k e less. absurd (omega arith); collected = λ t less. absurd (omega (arith, less, accepted-none)) }

no-places : (roles : List Role) (i : ℕ) → length (places_at (map (λ role. []) roles) i) ≡ 0
no-places [] i = refl
no-places (role ∷ more) zero = refl
no-places (role ∷ more) (suc i) = no-places more i

-- a new desk stands at its opening
pub new-desk : (disk : State) (roles : List Role) → IsAtOpening (desk_over disk roles)
new-desk disk roles = record { entries = refl; lines = λ i. no-places roles i }

-- the opening history is a front of a plain run
pub opening-front : (S : Setup) (d : Script) → IsSetup S → first_open S d.opening ≡ None → IsPlainFront S d d.opening
opening-front S d is drained = is-front S d d.opening d.roles d.opening d.roles 0 is drained (leads-same S d.opening d.roles) (omega arith) (first-none S d.opening d.roles)
