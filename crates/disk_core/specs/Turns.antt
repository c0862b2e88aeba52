-- What a disk does that holds no block: its steps are the turns of the plain schedule, and a work that is merged is written at once (own profile).
use Rattle.std.specs.Prelude.{◌≡◌, ℕ, ◌<◌, true, false, [], None, Some, Result}
use Rattle.byte_lists.specs.Patching.{patch}
use Rattle.history.specs.declared.entry.View.{View}
use Rattle.history.specs.Setup.{IsSetup}
use Rattle.history.specs.Next.{Turn, next_turn, Outcome, Made}
use Rattle.block_gate.specs.Works.{Lent}
use Rattle.block_gate.specs.Gates.{Gates}
use Rattle.token_table.specs.declared.record.Done.{Done}
use Rattle.token_table.specs.declared.record.NotThere.{NotThere}
use Rattle.disk_core.specs.declared.answers.Ask.{Ask}
use Rattle.disk_core.specs.declared.answers.Refused.{Refused}
use Rattle.disk_core.specs.declared.answers.Token.{Token}
use Rattle.disk_core.specs.declared.answers.Step.{Step}
use Rattle.disk_core.specs.declared.answers.Step.TheVariants as step
use Rattle.disk_core.specs.declared.answers.Stored.{Stored}
use Rattle.disk_core.specs.declared.answers.Stored.TheVariants as stored
use Rattle.disk_core.specs.State.{State}
use Rattle.disk_core.specs.Facts.{AreFacts}
use Rattle.disk_core.specs.Calls.{Makes, Revokes, SubmitSays, StepSays, StoreSays, CollectSays, is_fetched}

-- no block is held, no work is out, and a buffer set is free
pub record IsIdle (gates : Gates) : Type 0 where
  pub held : gates.held ≡ []
  pub gone : gates.gone ≡ []
  pub free : 0 < gates.free

-- the command that comes next was made
pub record TakesTurn (old : State) (turn : Turn) (outcome : Outcome) (new : State) : Type 0 where
  pub next : next_turn old.setup old.entries ≡ Some turn
  pub makes : Makes old turn.token turn.command outcome new

-- a step makes the command that comes next, and none exactly where none comes next
abbrev pub StepTurns : State → Step → State → Type 0
StepTurns old (step.Lent w) new = (turn : Turn) × TakesTurn old turn Made new × (is_fetched turn.command Made ≡ true)
StepTurns old step.Did new =
    (turn : Turn) × (outcome : Outcome) × TakesTurn old turn outcome new × (is_fetched turn.command outcome ≡ false) × Revokes old.gates new.gates
StepTurns old step.Idle new = ⊥
StepTurns old step.Drained new = (next_turn old.setup old.entries ≡ None) × (new ≡ old)

-- where no block is held and a buffer set is free, a step is the next turn of the plain schedule
abbrev pub StepsAreTurns : Type 0
StepsAreTurns =
    (old new : State) (answer : Step) → IsSetup old.setup → AreFacts old → old.gates.held ≡ [] → 0 < old.gates.free → StepSays old answer new → StepTurns old answer new

-- the work with its patch put in, as it is merged
abbrev pub merge_of : Lent → Lent
merge_of w = record w { bytes = patch w.bytes w.from w.patch }

-- the store that comes next was made, and the gates are as they were before its fetch
pub record StoresNext (old mid : State) (turn : Turn) (outcome : Outcome) (new : State) : Type 0 where
  pub takes : TakesTurn mid turn outcome new
  pub unfetched : is_fetched turn.command outcome ≡ false
  pub gates : new.gates ≡ old.gates

abbrev pub StoresAtOnce : State → State → Stored → State → Type 0
StoresAtOnce old mid (stored.Foreign back) new = ⊥
StoresAtOnce old mid stored.Stale new = ⊥
StoresAtOnce old mid (stored.Strange back place expected found) new = ⊥
StoresAtOnce old mid stored.Did new = (turn : Turn) × (outcome : Outcome) × StoresNext old mid turn outcome new

-- where the gates were idle, a lent work that is merged is written: the next turn after its fetch is its store
abbrev pub MergedAreStored : Type 0
MergedAreStored =
    (old mid new : State) (w : Lent) (result : Stored) → IsSetup old.setup → AreFacts old → IsIdle old.gates
    → StepSays old (step.Lent w) mid → StoreSays mid (merge_of w) result new → StoresAtOnce old mid result new

-- the setup and the gates are as they were
pub record KeepsGates (old new : State) : Type 0 where
  pub setup : new.setup ≡ old.setup
  pub gates : new.gates ≡ old.gates

-- a submit leaves the gates, and so does a collect
abbrev pub SubmitKeeps : Type 0
SubmitKeeps = (old : State) (tag : ℕ) (view : View) (media_id : ℕ) (ask : Ask) (result : Result Token Refused) (new : State) → SubmitSays old tag view media_id ask result new → KeepsGates old new

abbrev pub CollectKeeps : Type 0
CollectKeeps = (old : State) (tag number : ℕ) (result : Result Done NotThere) (new : State) → CollectSays old tag number result new → KeepsGates old new

-- idle gates stay as they are, where only gates of ended tokens are revoked
abbrev pub IdleStay : Type 0
IdleStay = (old new : Gates) → IsIdle old → Revokes old new → new ≡ old

-- a disk on which nothing has happened has idle gates, where a set is free
abbrev pub FreshAreIdle : Type 0
FreshAreIdle = (s : State) → AreFacts s → s.entries ≡ [] → 0 < s.gates.free → IsIdle s.gates
