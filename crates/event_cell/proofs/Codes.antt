-- The number that the word holds for a status, and the code of that status.
use Rattle.std.proofs.Common.{◌≡◌, ℕ, ◌+◌, ◌-◌, ◌%◌, ◌^◌, [], ◌∷◌, Option, Some, ◌⊎◌, inl, inr, refl, ap, sym, ◌∙◌, arith}
use Rattle.std.specs.Prelude.{◌==◌, find, if◌then◌else◌}
use Rattle.efi_status.specs.declared.Status.{Status}
use Rattle.efi_status.specs.declared.Status.TheVariants.{Success, InvalidParameter, BadBufferSize, DeviceError, WriteProtected, OutOfResources, NoMedia, MediaChanged, Aborted}
use Rattle.efi_status.specs.StatusTable.{code_of}
use Rattle.event_cell.specs.EventWord.{word_of}

-- the code without the bit of an error is the number
pub rem-code_of : (status : Status) → 1 + code_of status % 2 ^ 63 ≡ word_of status
unfolding word_of
rem-code_of Success = refl
rem-code_of InvalidParameter = refl
rem-code_of BadBufferSize = refl
rem-code_of DeviceError = refl
rem-code_of WriteProtected = refl
rem-code_of OutOfResources = refl
rem-code_of NoMedia = refl
rem-code_of MediaChanged = refl
rem-code_of Aborted = refl

-- and the code is the number with that bit, which success lacks
pub code_of-word_of : (status : Status) → code_of status ≡ (if word_of status == 1 then 0 else 2 ^ 63 + (word_of status - 1))
unfolding word_of
code_of-word_of Success = refl
code_of-word_of InvalidParameter = refl
code_of-word_of BadBufferSize = refl
code_of-word_of DeviceError = refl
code_of-word_of WriteProtected = refl
code_of-word_of OutOfResources = refl
code_of-word_of NoMedia = refl
code_of-word_of MediaChanged = refl
code_of-word_of Aborted = refl

-- the status that a word tells
abbrev status_with : ℕ → Option Status
unfolding word_of
status_with word =
    find (λ status. word_of status == word) (Success ∷ InvalidParameter ∷ BadBufferSize ∷ DeviceError ∷ WriteProtected ∷ OutOfResources ∷ NoMedia ∷ MediaChanged ∷ Aborted ∷ [])

status_with-word_of : (status : Status) → status_with (word_of status) ≡ Some status
unfolding word_of
status_with-word_of Success = refl
status_with-word_of InvalidParameter = refl
status_with-word_of BadBufferSize = refl
status_with-word_of DeviceError = refl
status_with-word_of WriteProtected = refl
status_with-word_of OutOfResources = refl
status_with-word_of NoMedia = refl
status_with-word_of MediaChanged = refl
status_with-word_of Aborted = refl

pub word_of-injective : (s t : Status) → word_of s ≡ word_of t → Some s ≡ Some t
word_of-injective s t same = sym (status_with-word_of s) ∙ ap status_with same ∙ status_with-word_of t

-- a status that was seen is what the word holds
seen-word : (status : Status) (seen word : ℕ) → seen ≡ word_of status → (seen ≡ 0) ⊎ (seen ≡ word) → word_of status ≡ word
unfolding word_of
seen-word status seen word is (inl h) = omega arith
seen-word status seen word is (inr h) = omega arith

pub seen-zero : (status : Status) (seen : ℕ) → seen ≡ word_of status → (seen ≡ 0) ⊎ (seen ≡ 0) → ⊥
unfolding word_of
seen-zero status seen is h = let e = seen-word status seen 0 is h in omega arith

pub seen-again : (status again : Status) (seen word : ℕ) → seen ≡ word_of status → (seen ≡ 0) ⊎ (seen ≡ word) → word_of again ≡ word → Some again ≡ Some status
seen-again status again seen word is h now = word_of-injective again status (now ∙ sym (seen-word status seen word is h))
