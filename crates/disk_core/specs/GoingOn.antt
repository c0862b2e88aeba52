-- How a disk goes on over any list of calls, and what a read's buffer is at its end (own profile).
use Rattle.std.specs.Prelude.{◌≡◌, ℕ, ◌-◌, ◌<◌, ◌≤◌, Bool, false, List, ◌++◌, length, slice_get, Some, Result}
use Rattle.std.specs.declared.alloc.AllocError.{AllocError}
use Rattle.efi_status.specs.declared.Status.{Status}
use Rattle.history.specs.declared.entry.View.{View}
use Rattle.history.specs.declared.entry.Asked.{Asked}
use Rattle.history.specs.declared.entry.Entry.{Entry}
use Rattle.history.specs.Tokens.{Request, token_count, request, was_collected, from_of, until_of}
use Rattle.history.specs.Commands.{is_moved}
use Rattle.block_gate.specs.Works.{Lent}
use Rattle.token_table.specs.declared.record.Done.{Done}
use Rattle.token_table.specs.declared.record.NotThere.{NotThere}
use Rattle.drive.specs.declared.answers.InsertFault.{InsertFault}
use Rattle.disk_core.specs.declared.answers.Ask.{Ask}
use Rattle.disk_core.specs.declared.answers.Refused.{Refused}
use Rattle.disk_core.specs.declared.answers.Token.{Token}
use Rattle.disk_core.specs.declared.answers.Step.{Step}
use Rattle.disk_core.specs.declared.answers.Stored.{Stored}
use Rattle.disk_core.specs.declared.answers.HeldStored.{HeldStored}
use Rattle.disk_core.specs.declared.answers.EjectRefused.{EjectRefused}
use Rattle.disk_core.specs.State.{State, Kept, kept_at}
use Rattle.disk_core.specs.Calls.{Accepts, Collects, SubmitSays, StepSays, StoreSays, HeldStoreSays, RefitSays, CollectSays, EndSays, EjectSays, InsertSays, ProtectSays}

-- what became of a token's buffer: it is as long, and each byte that no done command of the token moved is as it was
pub record IsBufferRest (s : State) (t : ℕ) (q : Request) (buffer buffer' : List ℕ) : Type 0 where
  pub long : length buffer' ≡ length buffer
  pub same : (x : ℕ) → from_of s.setup q ≤ x → x < until_of s.setup q → is_moved s.setup s.entries t x ≡ false
      → slice_get buffer' (x - from_of s.setup q) ≡ slice_get buffer (x - from_of s.setup q)

-- a token that was not handed back is kept, with the rest of its buffer
pub record StaysKept (old new : State) (t : ℕ) (q : Request) (was : Kept) : Type 0 where
  pub now : Kept
  pub there : kept_at new.kept t ≡ Some now
  pub word : now.word ≡ was.word
  pub rest : IsBufferRest new t q was.buffer now.buffer

-- the same disk later: entries were added, and each token that was not handed back is kept
pub record GoesOn (old new : State) : Type 0 where
  pub setup : new.setup ≡ old.setup
  pub more : List Entry
  pub entries : new.entries ≡ more ++ old.entries
  pub kept : (t : ℕ) (q : Request) (was : Kept) → t < token_count old.entries → request new.entries t ≡ Some q → was_collected new.entries t ≡ false → kept_at old.kept t ≡ Some was → StaysKept old new t q was

-- each call lets the disk go on
abbrev pub SubmitGoesOn : Type 0
SubmitGoesOn = (old new : State) (tag : ℕ) (view : View) (media_id : ℕ) (ask : Ask) (result : Result Token Refused) → SubmitSays old tag view media_id ask result new → GoesOn old new

abbrev pub StepGoesOn : Type 0
StepGoesOn = (old new : State) (result : Step) → StepSays old result new → GoesOn old new

abbrev pub StoreGoesOn : Type 0
StoreGoesOn = (old new : State) (work : Lent) (result : Stored) → StoreSays old work result new → GoesOn old new

abbrev pub HeldStoreGoesOn : Type 0
HeldStoreGoesOn = (old new : State) (ticket : ℕ) (result : HeldStored) → HeldStoreSays old ticket result new → GoesOn old new

abbrev pub RefitGoesOn : Type 0
RefitGoesOn = (old new : State) (result : Result ℕ AllocError) → RefitSays old result new → GoesOn old new

abbrev pub CollectGoesOn : Type 0
CollectGoesOn = (old new : State) (tag number : ℕ) (result : Result Done NotThere) → CollectSays old tag number result new → GoesOn old new

-- a cancel or a reset
abbrev pub EndGoesOn : Type 0
EndGoesOn = (old new : State) (e : Entry) (count : ℕ) → EndSays old e count new → GoesOn old new

abbrev pub EjectGoesOn : Type 0
EjectGoesOn = (old new : State) (tag : ℕ) (result : Result ℕ EjectRefused) → EjectSays old tag result new → GoesOn old new

abbrev pub InsertGoesOn : Type 0
InsertGoesOn = (old new : State) (tag : ℕ) (result : Result ℕ InsertFault) → InsertSays old tag result new → GoesOn old new

abbrev pub ProtectGoesOn : Type 0
ProtectGoesOn = (old new : State) (tag : ℕ) (on : Bool) (result : Result ℕ AllocError) → ProtectSays old tag on result new → GoesOn old new

-- a disk that goes on twice goes on
abbrev pub GoesOnTwice : Type 0
GoesOnTwice = (a b c : State) → GoesOn a b → GoesOn b c → GoesOn a c

-- whatever is called between, a token is handed back with the rest of the buffer that it came with
abbrev pub RestComesBack : Type 0
RestComesBack =
    (a b c d : State) (tag tag' : ℕ) (view : View) (media_id : ℕ) (asked : Asked) (bytes buffer buffer' : List ℕ) (token : Token) (status : Status) (q : Request) (was : Kept)
    → length a.kept ≡ token_count a.entries → Accepts a tag view media_id asked bytes buffer token b → GoesOn b c → Collects c tag' token.number status buffer' d q was → IsBufferRest c token.number q buffer buffer'
