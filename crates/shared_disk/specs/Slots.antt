-- What is kept of each token, as a desk hands it out with its disk (own profile).
use Rattle.std.specs.Prelude.{◌≡◌, ℕ, true, false, List, length, map, slice_get, Option, None, Some}
use Rattle.history.specs.declared.entry.Entry.{Entry}
use Rattle.history.specs.Setup.{Setup}
use Rattle.history.specs.Tokens.{Request, token_count, request, was_collected}
use Rattle.shared_disk.specs.declared.books.Buffer.{Buffer}
use Rattle.shared_disk.specs.declared.books.Buffer.TheVariants.{Awaited, Kept, Gone}
use Rattle.shared_disk.specs.declared.books.Slot.{Slot}
use Rattle.shared_disk.specs.Lines.{has_tag}
use Rattle.shared_disk.specs.Desk.{IsHandedBack}

abbrev pub buffer_in : Buffer → Option (List ℕ)
buffer_in Awaited = None
buffer_in (Kept done) = Some done.buffer
buffer_in Gone = None

-- a buffer is awaited exactly where the token was not collected, and what is kept is what the token gave back
abbrev pub IsBufferOf : Setup → List Entry → ℕ → Buffer → Type 0
IsBufferOf S H t Awaited = was_collected H t ≡ false
IsBufferOf S H t (Kept done) = (q : Request) × IsHandedBack S H t done.buffer q done.status
IsBufferOf S H t Gone = was_collected H t ≡ true

pub record IsSlot (S : Setup) (H : List Entry) (t : ℕ) (s : Slot) : Type 0 where
  pub tagged : has_tag s.tag (request H t) ≡ true
  pub buffer : IsBufferOf S H t s.buffer

-- one for each token in order
pub record AreSlots (S : Setup) (H : List Entry) (slots : List Slot) : Type 0 where
  pub counted : length slots ≡ token_count H
  pub each : (t : ℕ) (s : Slot) → slice_get slots t ≡ Some s → IsSlot S H t s

abbrev pub buffers_of : List Slot → List (Option (List ℕ))
buffers_of slots = map (λ slot. buffer_in slot.buffer) slots
