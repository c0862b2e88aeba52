-- When a token is complete, how it ended, and who holds a group (UEFI 2.10, 13.8 and 13.10; ends, gates and tickets: own profile).
use Rattle.std.specs.Prelude.{◌≡◌, ℕ, zero, suc, ◌+◌, ◌<◌, Bool, true, false, not, nat_eq, nat_lt, ◌&&◌, if◌then◌else◌, List, [], ◌∷◌, Option, None, Some, is_some, is_none, count_by}
use Rattle.efi_status.specs.declared.Status.{Status}
use Rattle.efi_status.specs.declared.Status.TheVariants.{Success, DeviceError, WriteProtected, NoMedia, Aborted}
use Rattle.disk_split.specs.Units.{group_start}
use Rattle.history.specs.declared.entry.View.{View}
use Rattle.history.specs.declared.entry.Entry.{Entry}
use Rattle.history.specs.declared.entry.Entry.TheVariants.{Accept, Done, Fault, Cancel, Reset, Eject, Protect}
use Rattle.history.specs.Setup.{Setup}
use Rattle.history.specs.Tokens.{Request, token_count, request, is_flush, changes_bytes, from_of}
use Rattle.history.specs.Commands.{is_fetch, is_store, is_sync, is_at, has_done, is_moved}

-- the test holds of the n numbers from a on
unfoldable pub all_from : (ℕ → Bool) → ℕ → ℕ → Bool
all_from test a zero = true
all_from test a (suc n) = test a && all_from test (a + 1) n

-- the least of the n numbers from a on of which the test holds
unfoldable pub first_from : (ℕ → Bool) → ℕ → ℕ → Option ℕ
first_from test a zero = None
first_from test a (suc n) = if test a then Some a else first_from test (a + 1) n

abbrev pub is_request_complete : Setup → List Entry → ℕ → Option Request → Bool
is_request_complete S H t None = false
is_request_complete S H t (Some r) =
    if is_flush r.asked.kind
    then has_done is_sync H t
    else all_from (is_moved S H t) (from_of S r) r.asked.length

-- each byte of the token's range was moved by a done command of it; a flush was done
unfoldable pub is_complete : Setup → List Entry → ℕ → Bool
is_complete S H t = is_request_complete S H t (request H t)

abbrev pub is_same_view : View → View → Bool
is_same_view v w =
    nat_eq v.start w.start && nat_eq v.length w.length && nat_eq v.media_id w.media_id && nat_eq v.index w.index

abbrev pub has_view : View → Option Request → Bool
has_view view None = false
has_view view (Some r) = is_same_view r.view view

abbrev pub is_some_change : Option Request → Bool
is_some_change None = false
is_some_change (Some r) = changes_bytes r.asked.kind

abbrev pub status_if : Bool → Status → Option Status
status_if true status = Some status
status_if false status = None

-- the status with which this entry would end the token
unfoldable pub ending : Setup → List Entry → Entry → ℕ → Option Status
ending S before (Accept tag view asked bytes) t =
    status_if (nat_eq t (token_count before) && is_complete S (Accept tag view asked bytes ∷ before) t) Success
ending S before (Done u c) t = status_if (nat_eq u t && is_complete S (Done u c ∷ before) t) Success
ending S before (Fault u c done) t = status_if (nat_eq u t) DeviceError
ending S before (Cancel tag view) t = status_if (has_view view (request before t)) Aborted
ending S before (Reset tag) t = status_if (nat_lt t (token_count before)) Aborted
ending S before (Eject tag) t = status_if (nat_lt t (token_count before)) NoMedia
ending S before (Protect tag on) t = status_if (on && is_some_change (request before t)) WriteProtected
ending S before e t = None

abbrev pub or_else : Option Status → Option Status → Option Status
or_else None later = later
or_else (Some status) later = Some status

-- the status with which the token ended, and none while it is outstanding: its first ending entry decides
unfoldable pub mark_of : Setup → List Entry → ℕ → Option Status
mark_of S [] t = None
mark_of S (e ∷ before) t = or_else (mark_of S before t) (ending S before e t)

-- the token is accepted and has not ended
pub record IsOutstanding (S : Setup) (H : List Entry) (t : ℕ) : Type 0 where
  pub token : t < token_count H
  pub unmarked : mark_of S H t ≡ None

abbrev pub is_outstanding : Setup → List Entry → ℕ → Bool
is_outstanding S H t = nat_lt t (token_count H) && is_none (mark_of S H t)

-- the token has fetched the group that begins at this block
abbrev pub was_fetched : List Entry → ℕ → ℕ → Bool
was_fetched H t b = has_done (is_at is_fetch b) H t

-- it has stored that group
abbrev pub was_stored : List Entry → ℕ → ℕ → Bool
was_stored H t b = has_done (is_at is_store b) H t

-- the outstanding token that has fetched the group of this first block and not yet stored it
pub record Holds (S : Setup) (H : List Entry) (t b : ℕ) : Type 0 where
  pub outstanding : IsOutstanding S H t
  pub fetched : was_fetched H t b ≡ true
  pub unstored : was_stored H t b ≡ false

-- the same as a test
abbrev pub is_holder : Setup → List Entry → ℕ → ℕ → Bool
is_holder S H b t = is_outstanding S H t && (was_fetched H t b && not (was_stored H t b))

-- a block is held where a token holds its group
unfoldable pub is_held : Setup → List Entry → ℕ → Bool
is_held S H b = is_some (first_from (is_holder S H (group_start S.geometry b)) 0 (token_count H))

abbrev pub is_fetch_entry : Entry → Bool
is_fetch_entry (Done t c) = is_fetch c
is_fetch_entry (Fault t c done) = is_fetch c
is_fetch_entry e = false

-- how many fetches were made, done or failed
unfoldable pub fetches : List Entry → ℕ
fetches H = count_by is_fetch_entry H

-- the ticket of a token's fetch of a group: the number of fetches before it
unfoldable pub ticket_of : List Entry → ℕ → ℕ → Option ℕ
ticket_of [] t b = None
ticket_of (Done u c ∷ before) t b = if nat_eq u t && is_at is_fetch b c then Some (fetches before) else ticket_of before t b
ticket_of (e ∷ before) t b = ticket_of before t b

-- the token holds the group by the fetch with this ticket
pub record HoldsBy (S : Setup) (H : List Entry) (t b ticket : ℕ) : Type 0 where
  pub holds : Holds S H t b
  pub ticket_is : ticket_of H t b ≡ Some ticket
