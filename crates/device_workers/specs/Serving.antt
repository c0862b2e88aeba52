-- What the plain schedule makes of a desk: its lines, its steps, its rounds and its last collects (own profile).
use Rattle.std.specs.Prelude.{◌≡◌, ℕ, ◌+◌, ◌≤◌, Bool, true, false, List, [], ◌∷◌, ◌++◌, length, drop, None, Some}
use Rattle.history.specs.declared.entry.Entry.{Entry}
use Rattle.history.specs.declared.order.Order.{Order}
use Rattle.history.specs.Setup.{Setup}
use Rattle.history.specs.Room.{faults}
use Rattle.history.specs.Next.{first_open, Turn, next_turn, Outcome}
use Rattle.disk_core.specs.Turns.{KeepsGates}
use Rattle.shared_disk.specs.Lines.{Role, first_left}
use Rattle.shared_disk.specs.Script.{Script}
use Rattle.shared_disk.specs.Desk.{DeskState, done_of, next_of, HasNoLine, wants_memory}
use Rattle.device_workers.specs.Plain.{with_last_collects, outcomes_after, plain_history}
use Rattle.device_workers.specs.Leading.{TakesBy, TakesFirst, IsStep, Leads}

-- what each client has left, where client i has done so many lines
unfoldable pub lefts_from : (ℕ → ℕ) → ℕ → List Role → List Role
lefts_from done i [] = []
lefts_from done i (role ∷ more) = record role { orders = drop (done i) role.orders } ∷ lefts_from done (i + 1) more

abbrev pub lefts_of : DeskState → List Role
lefts_of s = lefts_from (done_of s) 0 s.script.roles

-- nothing was done yet
pub record IsAtOpening (s : DeskState) : Type 0 where
  pub entries : s.disk.entries ≡ s.script.opening
  pub lines : (i : ℕ) → done_of s i ≡ 0

-- the script stays, and the setup and the gates of the disk
pub record KeepsScriptAndGates (old new : DeskState) : Type 0 where
  pub disk : KeepsGates old.disk new.disk
  pub script : new.script ≡ old.script

-- a client's next line is a request or a change of protection, which may want memory
abbrev pub WantsMemory : DeskState → Type 0
WantsMemory s = (i : ℕ) × (order : Order) × (next_of s i ≡ Some order) × (wants_memory order ≡ true)

-- client i took its next line
abbrev pub TakesLine : DeskState → ℕ → DeskState → Type 0
TakesLine old i new = TakesBy old.disk.setup i old.disk.entries (lefts_of old) new.disk.entries (lefts_of new)

-- the first n clients took their next lines
abbrev pub TakesLines : DeskState → ℕ → DeskState → Type 0
TakesLines old n new = TakesFirst old.disk.setup n old.disk.entries (lefts_of old) new.disk.entries (lefts_of new)

-- the line was not taken, for want of memory
pub record Untaken (old new : DeskState) : Type 0 where
  pub entries : new.disk.entries ≡ old.disk.entries
  pub places : new.places ≡ old.places

-- the clients before one of them took their lines
pub record StopsIn (old new : DeskState) : Type 0 where
  pub count : ℕ
  pub within : count ≤ length old.script.roles
  pub takes : TakesLines old count new

-- a step, and whether a token was outstanding
pub record Steps (S : Setup) (H H' : List Entry) (some : Bool) : Type 0 where
  pub step : IsStep S H H'
  pub going : some ≡ true → (turn : Turn) × (next_turn S H ≡ Some turn)
  pub over : some ≡ false → (first_open S H ≡ None) × (H' ≡ H)

-- so on a desk
pub record StepsOnce (old : DeskState) (some : Bool) (new : DeskState) : Type 0 where
  pub stays : KeepsScriptAndGates old new
  pub places : new.places ≡ old.places
  pub steps : Steps old.disk.setup old.disk.entries new.disk.entries some

-- a round: each client took its next line, and a step followed
pub record RunsRound (old : DeskState) (some : Bool) (new : DeskState) : Type 0 where
  pub lined : List Entry
  pub takes : TakesFirst old.disk.setup (length (lefts_of old)) old.disk.entries (lefts_of old) lined (lefts_of new)
  pub steps : Steps old.disk.setup lined new.disk.entries some

-- rounds until all is over
pub record RunsRounds (old new : DeskState) : Type 0 where
  pub leads : Leads old.disk.setup old.disk.entries (lefts_of old) new.disk.entries (lefts_of new)
  pub over : HasNoLine new
  pub drained : first_open new.disk.setup new.disk.entries ≡ None

-- rounds, and in the next one the clients before one of them took their lines
pub record StopsAfter (old new : DeskState) : Type 0 where
  pub between : List Entry
  pub lefts : List Role
  pub count : ℕ
  pub within : count ≤ length lefts
  pub leads : Leads old.disk.setup old.disk.entries (lefts_of old) between lefts
  pub takes : TakesFirst old.disk.setup count between lefts new.disk.entries (lefts_of new)

-- the last collects
pub record CollectsRest (old new : DeskState) : Type 0 where
  pub entries : new.disk.entries ≡ with_last_collects old.disk.entries
  pub none : first_left new.disk.entries ≡ None
  pub places : new.places ≡ old.places

-- the history is that of the plain schedule, with the outcomes that its commands had
abbrev pub IsPlain : Setup → Script → List Entry → Type 0
IsPlain S d H = H ≡ plain_history S d.opening d.roles (outcomes_after d.opening H)

-- without a fault since the opening it is a function of the script and the setup alone
abbrev pub IsFaultlessPlain : Setup → Script → List Entry → Type 0
IsFaultlessPlain S d H = faults H ≡ faults d.opening → H ≡ plain_history S d.opening d.roles []

-- it is a front of what the plain schedule makes with some outcomes
pub record IsPlainFront (S : Setup) (d : Script) (H : List Entry) : Type 0 where
  pub outcomes : List Outcome
  pub more : List Entry
  pub front : plain_history S d.opening d.roles outcomes ≡ more ++ H
