-- The records of accepted requests by number, and what each call makes of them (UEFI 2.10, 13.8; the table: own profile).
use Rattle.std.specs.Prelude.{◌≡◌, ℕ, ◌-◌, List, [], ◌∷◌, ◌++◌, length, slice_index_or, slice_set, Option, None, Some, Result, Ok, Err}
use Rattle.std.specs.List.{refill}
use Rattle.std.specs.Option.{option_map}
use Rattle.efi_status.specs.declared.Status.{Status}
use Rattle.event_cell.specs.EventWord.{word_of}
use Rattle.event_cell.specs.Ends.{SignallerEnd}
use Rattle.token_table.specs.declared.record.Request.{Request}
use Rattle.token_table.specs.declared.record.Record.{Record}
use Rattle.token_table.specs.declared.record.Done.{Done}
use Rattle.token_table.specs.declared.record.NotThere.{NotThere}
use Rattle.token_table.specs.declared.record.Mark.{Mark}

-- The number of a request is how many were added before it. The place of one that was handed out is empty.
abbrev pub Records : Type 0
Records = List (Option Record)

-- the record with this number; none where the number was never given, or the request was handed out
unfoldable pub record_at : Records → ℕ → Option Record
record_at s n = slice_index_or s n None

-- what was asked, of a request that was not handed out
unfoldable pub request_at : Records → ℕ → Option Request
request_at s n = option_map (λ r. r.request) (record_at s n)

-- a request that has not ended
unfoldable pub new_record : Request → SignallerEnd → Record
new_record request signaller = record { request = request; ended = None; signaller = signaller }

-- one request more
unfoldable pub with_record : Records → Request → SignallerEnd → Records
with_record s request signaller = s ++ Some (new_record request signaller) ∷ []

-- the record with this number is changed
unfoldable pub with_change : (Record → Record) → Records → ℕ → Records
with_change change s n = slice_set s n (option_map change (record_at s n))

-- so much less is left
unfoldable pub lower_record : ℕ → Record → Record
lower_record by r = record r { request = record r.request { left = r.request.left - by } }

-- these bytes are written over those of the buffer, whose length stays
unfoldable pub fill_record : Record → List ℕ → Record
fill_record r bytes = record r { request = record r.request { buffer = refill (length r.request.buffer) r.request.buffer bytes } }

-- the request ends with this status, which its event is told
unfoldable pub ended_record : Status → Record → Record
ended_record status r = record { request = r.request; ended = Some status; signaller = record r.signaller { told = word_of status } }

-- the request with this number is handed out
unfoldable pub without_record : Records → ℕ → Records
without_record s n = slice_set s n None

abbrev pub mark_of_end : Option Status → Mark
mark_of_end None = Mark.Outstanding
mark_of_end (Some status) = Mark.Ended status

abbrev pub mark_of_record : Option Record → Mark
mark_of_record None = Mark.Unknown
mark_of_record (Some r) = mark_of_end r.ended

-- how the request with this number stands
unfoldable pub mark_at : Records → ℕ → Mark
mark_at s n = mark_of_record (record_at s n)

abbrev pub done_by : Option Status → List ℕ → Result Done NotThere
done_by None buffer = Err NotThere.Outstanding
done_by (Some status) buffer = Ok (record { status = status; buffer = buffer })

abbrev pub done_or_fault : Option Record → Result Done NotThere
done_or_fault None = Err NotThere.Unknown
done_or_fault (Some r) = done_by r.ended r.request.buffer

-- what is handed out of the request with this number
unfoldable pub done_at : Records → ℕ → Result Done NotThere
done_at s n = done_or_fault (record_at s n)

-- the word of an event whose request stands so: 0 until it ended
unfoldable pub word_for : Option Status → ℕ
word_for None = 0
word_for (Some status) = word_of status

-- the event word of the record shows its mark: what its signaller has told is the number of the status with which it ended
unfoldable pub IsShown : Record → Type 0
IsShown r = r.signaller.told ≡ word_for r.ended

-- that of each record does
pub record AreShown (s : Records) : Type 0 where
  pub each : (n : ℕ) (r : Record) → record_at s n ≡ Some r → IsShown r
