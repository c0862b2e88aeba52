-- What a caller asks for, in the words of a history.
use Rattle.std.proofs.Common.{◌≡◌, ℕ, List, length, refl, subst, Result}
use Rattle.history.specs.declared.entry.View.{View}
use Rattle.history.specs.declared.entry.Asked.{Asked}
use Rattle.history.specs.Rules.{IsWellAsked}
use Rattle.disk_core.specs.declared.answers.Ask.{Ask}
use Rattle.disk_core.specs.declared.answers.Ask.TheVariants as ask
use Rattle.disk_core.specs.declared.answers.Refused.{Refused}
use Rattle.disk_core.specs.declared.answers.Token.{Token}
use Rattle.disk_core.specs.State.{State}
use Rattle.disk_core.specs.Facts.{buffer_length}
use Rattle.disk_core.specs.Calls.{buffer_of, asked_of, bytes_of, SubmitSays, SubmitsAsked}
use Rattle.disk_core.specs.Admission.{payload_of}

pub asked-well : (a : Ask) → IsWellAsked (asked_of a)
asked-well (ask.Read at buffer) = tt
asked-well (ask.Write at buffer) = tt
asked-well (ask.ReadBlocks lba buffer) = tt
asked-well (ask.WriteBlocks lba buffer) = tt
asked-well ask.Flush = (refl, refl, refl)
asked-well (ask.EraseBlocks lba n) = refl

pub asked-long : (a : Ask) → length (buffer_of a) ≡ buffer_length (asked_of a).kind (asked_of a).length
asked-long (ask.Read at buffer) = refl
asked-long (ask.Write at buffer) = refl
asked-long (ask.ReadBlocks lba buffer) = refl
asked-long (ask.WriteBlocks lba buffer) = refl
asked-long ask.Flush = refl
asked-long (ask.EraseBlocks lba n) = refl

pub asked-bytes : (a : Ask) → payload_of (asked_of a).kind (buffer_of a) ≡ bytes_of a
asked-bytes (ask.Read at buffer) = refl
asked-bytes (ask.Write at buffer) = refl
asked-bytes (ask.ReadBlocks lba buffer) = refl
asked-bytes (ask.WriteBlocks lba buffer) = refl
asked-bytes ask.Flush = refl
asked-bytes (ask.EraseBlocks lba n) = refl

-- a call with what is asked and the buffer taken apart says what the call of all says
pub submit-says : (old new : State) (tag : ℕ) (view : View) (media_id : ℕ) (a : Ask) (asked : Asked) (bytes buffer : List ℕ) (result : Result Token Refused) → asked ≡ asked_of a → bytes ≡ bytes_of a → buffer ≡ buffer_of a
    → SubmitsAsked old tag view media_id asked bytes buffer result new → SubmitSays old tag view media_id a result new
unfolding SubmitSays
submit-says old new tag view media_id a asked bytes buffer result asked_is bytes_is buffer_is says =
    subst (λ x. SubmitsAsked old tag view media_id x (bytes_of a) (buffer_of a) result new) asked_is
    (subst (λ x. SubmitsAsked old tag view media_id asked x (buffer_of a) result new) bytes_is (subst (λ x. SubmitsAsked old tag view media_id asked bytes x result new) buffer_is says))
