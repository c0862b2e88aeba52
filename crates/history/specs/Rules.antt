-- Which request is refused, which entry may follow, and which history is legal (UEFI 2.10, 13.7 to 13.10; order of refusals, gates, groups and erase: own profile).
use Rattle.std.specs.Prelude.{◌≡◌, ℕ, ◌+◌, ◌-◌, ◌*◌, ◌%◌, ◌<◌, ◌≤◌, ◌⊎◌, Bool, true, false, not, nat_eq, nat_lt, ◌&&◌, ◌||◌, if◌then◌else◌, List, [], ◌∷◌, length, Option, None, Some, IsSome}
use Rattle.efi_status.specs.declared.Status.{Status}
use Rattle.efi_status.specs.declared.Status.TheVariants.{InvalidParameter, BadBufferSize, WriteProtected, NoMedia, MediaChanged}
use Rattle.disk_split.specs.Units.{IsGroupPart, IsRun, group_start}
use Rattle.history.specs.declared.entry.View.{View}
use Rattle.history.specs.declared.entry.Kind.{Kind}
use Rattle.history.specs.declared.entry.Kind.TheVariants.{Read, Write, Flush, Erase}
use Rattle.history.specs.declared.entry.UnitKind.{UnitKind}
use Rattle.history.specs.declared.entry.UnitKind.TheVariants.{Bytes, Blocks}
use Rattle.history.specs.declared.entry.Asked.{Asked}
use Rattle.history.specs.declared.entry.Command.{Command}
use Rattle.history.specs.declared.entry.Command.TheVariants.{Fetch, Store, Put, Get, Wipe, Sync}
use Rattle.history.specs.declared.entry.Entry.{Entry}
use Rattle.history.specs.declared.entry.Entry.TheVariants.{Accept, Refuse, Done, Fault, Collect, Cancel, Reset, Eject, Insert, Protect}
use Rattle.history.specs.Setup.{Setup, size_of, per_of, blocks_of}
use Rattle.history.specs.Eras.{media_id_of, is_present, is_protected}
use Rattle.history.specs.Tokens.{Request, request, was_collected, is_read, is_write, is_flush, is_erase, changes_bytes, offset, from_of, until_of}
use Rattle.history.specs.Commands.{is_put, is_get, is_wipe, is_at, has_done}
use Rattle.history.specs.Marks.{mark_of, IsOutstanding, Holds, was_stored}

-- the unit is blocks and the length is no whole number of them
abbrev pub is_ragged : ℕ → UnitKind → ℕ → Bool
is_ragged size Bytes n = false
is_ragged size Blocks n = not (nat_eq (n % size) 0)

-- the view leaves the medium, or the range leaves the view
abbrev pub is_outside : Setup → ℕ → View → Asked → Bool
is_outside S blocks view asked =
    nat_lt (blocks * size_of S) (view.start + view.length)
    || nat_lt view.length (offset S asked)
    || nat_lt (view.length - offset S asked) asked.length

-- the refusals of a read, write or erase that need the medium, in their order
abbrev pub range_refusal : Setup → List Entry → View → Asked → Option Status
range_refusal S H view asked =
    if changes_bytes asked.kind && is_protected S H then Some WriteProtected
    else (if is_ragged (size_of S) asked.unit asked.length then Some BadBufferSize
    else (if is_outside S (blocks_of S (media_id_of H)) view asked then Some InvalidParameter
    else None))

-- the status with which a request is refused, and none where it is accepted; the media id is the one given
unfoldable pub refusal_of : Setup → List Entry → View → Asked → ℕ → Option Status
refusal_of S H view asked media_id =
    if not (is_present H) then Some NoMedia
    else (if not (nat_eq media_id (media_id_of H) && nat_eq view.media_id (media_id_of H)) then Some MediaChanged
    else (if is_flush asked.kind then None
    else range_refusal S H view asked))

-- a write brings its bytes, and the other kinds none
abbrev pub IsPayload : Kind → ℕ → List ℕ → Type 0
IsPayload Write n bytes = length bytes ≡ n
IsPayload Read n bytes = bytes ≡ []
IsPayload Flush n bytes = bytes ≡ []
IsPayload Erase n bytes = bytes ≡ []

-- a flush has the unit bytes and zeros, and an erase the unit blocks
abbrev pub IsAsked : Kind → UnitKind → ℕ → ℕ → Type 0
IsAsked Flush unit at n = (unit ≡ Bytes) × (at ≡ 0) × (n ≡ 0)
IsAsked Erase unit at n = unit ≡ Blocks
IsAsked Read unit at n = Unit {0}
IsAsked Write unit at n = Unit {0}

abbrev pub IsWellAsked : Asked → Type 0
IsWellAsked asked = IsAsked asked.kind asked.unit asked.at asked.length

pub record MayAccept (S : Setup) (H : List Entry) (view : View) (asked : Asked) (bytes : List ℕ) : Type 0 where
  pub unrefused : refusal_of S H view asked view.media_id ≡ None
  pub payload : IsPayload asked.kind asked.length bytes
  pub well_asked : IsWellAsked asked

pub record MayRefuse (S : Setup) (H : List Entry) (view : View) (asked : Asked) (media_id : ℕ) (status : Status) : Type 0 where
  pub refusal : refusal_of S H view asked media_id ≡ Some status
  pub well_asked : IsWellAsked asked

-- an outstanding token of such a kind, with its request
pub record IsOpen (S : Setup) (H : List Entry) (t : ℕ) (of_kind : Kind → Bool) (r : Request) : Type 0 where
  pub outstanding : IsOutstanding S H t
  pub named : request H t ≡ Some r
  pub kind : of_kind r.asked.kind ≡ true

-- no token holds the group of this block
abbrev pub IsUnheld : Setup → List Entry → ℕ → Type 0
IsUnheld S H b = (u : ℕ) → Holds S H u (group_start S.geometry b) → ⊥

-- the group that begins at this block is a part of the token's range
abbrev pub HasPart : Setup → Request → ℕ → Type 0
HasPart S r b = IsGroupPart S.geometry (from_of S r) (until_of S r) b

-- the n blocks from this one on are a run of the token's range
abbrev pub HasRun : Setup → Request → ℕ → ℕ → Type 0
HasRun S r b n = IsRun S.geometry (from_of S r) (until_of S r) b n

pub record MayFetch (S : Setup) (H : List Entry) (t b : ℕ) (r : Request) : Type 0 where
  pub at : IsOpen S H t changes_bytes r
  pub part : HasPart S r b
  pub unstored : was_stored H t b ≡ false
  pub free : IsUnheld S H b

-- a run of the token on which no such command was done, and of which no block is held
pub record MayCover (S : Setup) (H : List Entry) (t b n : ℕ) (of_kind : Kind → Bool) (test : Command → Bool) (r : Request) : Type 0 where
  pub at : IsOpen S H t of_kind r
  pub run : HasRun S r b n
  pub undone : has_done (is_at test b) H t ≡ false
  pub free : (c : ℕ) → b ≤ c → c < b + n → IsUnheld S H c

pub record MayGet (S : Setup) (H : List Entry) (t b n : ℕ) (r : Request) : Type 0 where
  pub at : IsOpen S H t is_read r
  pub unit : HasRun S r b n ⊎ (HasPart S r b × (n ≡ per_of S))
  pub undone : has_done (is_at is_get b) H t ≡ false

-- a command that may be made for the token
unfoldable pub MayCommand : Setup → List Entry → ℕ → Command → Type 0
MayCommand S H t (Fetch b) = (r : Request) × MayFetch S H t b r
MayCommand S H t (Store b) = Holds S H t b
MayCommand S H t (Put b n) = (r : Request) × MayCover S H t b n is_write is_put r
MayCommand S H t (Get b n) = (r : Request) × MayGet S H t b n r
MayCommand S H t (Wipe b n) = (r : Request) × MayCover S H t b n is_erase is_wipe r
MayCommand S H t Sync = (r : Request) × IsOpen S H t is_flush r

-- a command may fail with so many blocks done: one that changes bytes before its last block, another with none
abbrev pub StopsAt : Setup → Command → ℕ → Type 0
StopsAt S (Fetch b) done = done ≡ 0
StopsAt S (Store b) done = done < per_of S
StopsAt S (Put b n) done = done < n
StopsAt S (Get b n) done = done ≡ 0
StopsAt S (Wipe b n) done = done < n
StopsAt S Sync done = done ≡ 0

-- the entry may come after this history
unfoldable pub MayFollow : Setup → List Entry → Entry → Type 0
MayFollow S H (Accept tag view asked bytes) = MayAccept S H view asked bytes
MayFollow S H (Refuse tag view asked media_id status) = MayRefuse S H view asked media_id status
MayFollow S H (Done t c) = MayCommand S H t c
MayFollow S H (Fault t c done) = MayCommand S H t c × StopsAt S c done
MayFollow S H (Collect tag t) = IsSome (mark_of S H t) × (was_collected H t ≡ false)
MayFollow S H (Cancel tag view) = (t : ℕ) × (r : Request) × IsOutstanding S H t × (request H t ≡ Some r) × (r.view ≡ view)
MayFollow S H (Reset tag) = (t : ℕ) × IsOutstanding S H t
MayFollow S H (Eject tag) = is_present H ≡ true
MayFollow S H (Insert tag k) = (is_present H ≡ false) × (k ≡ media_id_of H + 1) × (k ≤ length S.media)
MayFollow S H (Protect tag on) = Unit {0}

-- each entry may come after the entries before it
unfoldable pub IsLegal : Setup → List Entry → Type 0
IsLegal S [] = Unit {0}
IsLegal S (e ∷ before) = IsLegal S before × MayFollow S before e
