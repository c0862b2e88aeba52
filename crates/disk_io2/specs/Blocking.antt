-- What a blocking call does: its request is accepted, served to its end by commands alone, and handed back (UEFI 2.10, 13.7 and 13.9; which
-- commands, and in which order: own profile). Histories and lists of commands stand newest entry first.
use Rattle.std.specs.Prelude.{◌≡◌, ℕ, ◌≤◌, ◌⊎◌, Bool, true, false, List, ◌++◌, slice_get, None, Some, Result, Ok, Err}
use Rattle.std.specs.Global.{Vec}
use Rattle.efi_status.specs.declared.Status.{Status}
use Rattle.efi_status.specs.declared.Status.TheVariants.{Success, DeviceError}
use Rattle.medium.specs.Device.{Device}
use Rattle.medium.specs.Counts.{Rose}
use Rattle.history.specs.declared.entry.View.{View}
use Rattle.history.specs.declared.entry.Entry.{Entry}
use Rattle.history.specs.Setup.{Setup}
use Rattle.history.specs.Eras.{inserts}
use Rattle.history.specs.Tokens.{Request}
use Rattle.history.specs.Next.{first_open}
use Rattle.disk_core.specs.declared.answers.Ask.{Ask}
use Rattle.disk_core.specs.declared.answers.Refused.{Refused}
use Rattle.disk_core.specs.declared.answers.Token.{Token}
use Rattle.disk_core.specs.declared.answers.Why.{Why}
use Rattle.disk_core.specs.declared.answers.Why.TheVariants as why
use Rattle.disk_core.specs.State.{State, Kept}
use Rattle.disk_core.specs.Calls.{asked_of, bytes_of, buffer_of, Accepts, Refuses, Forgets, Collects}
use Rattle.history_laws.specs.Serving.{AreWhileOpen, ends_in_fault, AreOwnInOrder}
use Rattle.disk_core.specs.GoingOn.{IsBufferRest, GoesOn}

-- the medium that is in before and after, with what became of its faults
pub record OnFaults (old new : State) (become : ℕ → ℕ → Type 0) : Type 0 where
  pub before : Device
  pub after : Device
  pub was : slice_get old.devices (inserts old.entries) ≡ Some before
  pub is : slice_get new.devices (inserts old.entries) ≡ Some after
  pub faults : become before.faults after.faults

-- the faults of the medium that is in rose
abbrev pub FaultsRose : State → State → Type 0
FaultsRose old new = OnFaults old new Rose

-- a token is served by commands alone; where the last of them failed, the medium's faults rose
pub record Serves (old : State) (t : ℕ) (new : State) : Type 0 where
  pub commands : List Entry
  pub entries : new.entries ≡ commands ++ old.entries
  pub while_open : AreWhileOpen old.setup old.entries t commands
  pub goes_on : GoesOn old new
  pub media : (new.devices ≡ old.devices) ⊎ OnFaults old new ◌≤◌
  pub cause : ends_in_fault commands ≡ true → FaultsRose old new

-- a token is served until it has ended with this status, by a last command that failed or not, and is handed back
pub record Finishes (old : State) (tag t : ℕ) (status : Status) (failed : Bool) (buffer : List ℕ) (new : State) : Type 0 where
  pub served : State
  pub serves : Serves old t served
  pub last : ends_in_fault serves.commands ≡ failed
  pub asked : Request
  pub was : Kept
  pub collects : Collects served tag t status buffer new asked was

-- a token that is served alone: no command is of another one, and none is outstanding afterwards
pub record IsServedAlone (S : Setup) (t : ℕ) (q : Request) (commands : List Entry) (new : State) : Type 0 where
  pub own : AreOwnInOrder S t q commands
  pub drained : first_open new.setup new.entries ≡ None

-- a request is accepted, served until it has ended, and handed back with the buffer that it came with but for what its commands moved
pub record CarriesOut (old : State) (tag : ℕ) (view : View) (media_id : ℕ) (ask : Ask) (status : Status) (failed : Bool) (buffer : List ℕ) (new : State) : Type 0 where
  pub token : Token
  pub begun : State
  pub accepts : Accepts old tag view media_id (asked_of ask) (bytes_of ask) (buffer_of ask) token begun
  pub finishes : Finishes begun tag token.number status failed buffer new
  pub rest : IsBufferRest finishes.served token.number finishes.asked (buffer_of ask) buffer
  pub alone : first_open old.setup old.entries ≡ None → IsServedAlone old.setup token.number finishes.asked finishes.serves.commands new

-- it failed: its last command did, and the faults of the medium rose
pub record Fails (old : State) (tag : ℕ) (view : View) (media_id : ℕ) (ask : Ask) (status : Status) (buffer : List ℕ) (new : State) : Type 0 where
  pub device : status ≡ DeviceError
  pub carries_out : CarriesOut old tag view media_id ask DeviceError true buffer new
  pub cause : FaultsRose old new

abbrev pub FailsFor : State → ℕ → View → ℕ → Ask → Why → List ℕ → State → Type 0
FailsFor old tag view media_id ask (why.Status status) buffer new =
    Refuses old tag view media_id (asked_of ask) status (buffer_of ask) buffer new ⊎ Fails old tag view media_id ask status buffer new
FailsFor old tag view media_id ask why.Memory buffer new = Forgets old (buffer_of ask) buffer new

-- a blocking call: the buffer of a request that ended with success; else its refusal, or device error, or want of memory
unfoldable pub BlockingSays : State → ℕ → View → ℕ → Ask → Result (Vec ℕ) Refused → State → Type 0
BlockingSays old tag view media_id ask (Ok buffer) new = CarriesOut old tag view media_id ask Success false buffer.items new
BlockingSays old tag view media_id ask (Err refused) new = FailsFor old tag view media_id ask refused.why refused.buffer.items new
