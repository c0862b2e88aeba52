-- The tokens of a history and what was asked of them (UEFI 2.10, 13.7 and 13.9; erase: own profile). A history stands newest entry first.
use Rattle.std.specs.Prelude.{ℕ, ◌+◌, ◌*◌, Bool, true, false, nat_eq, if◌then◌else◌, List, [], ◌∷◌, replicate, Option, None, Some, count_by}
use Rattle.std.specs.List.{list_any}
use Rattle.history.specs.declared.entry.View.{View}
use Rattle.history.specs.declared.entry.Kind.{Kind}
use Rattle.history.specs.declared.entry.Kind.TheVariants.{Read, Write, Flush, Erase}
use Rattle.history.specs.declared.entry.UnitKind.{UnitKind}
use Rattle.history.specs.declared.entry.UnitKind.TheVariants.{Bytes, Blocks}
use Rattle.history.specs.declared.entry.Asked.{Asked}
use Rattle.history.specs.declared.entry.Entry.{Entry}
use Rattle.history.specs.declared.entry.Entry.TheVariants.{Accept, Collect}
use Rattle.history.specs.Setup.{Setup, size_of}

-- an accepted request
pub record Request : Type 0 where
  pub tag : ℕ
  pub view : View
  pub asked : Asked
  pub bytes : List ℕ

abbrev pub is_accept : Entry → Bool
is_accept (Accept tag view asked bytes) = true
is_accept e = false

-- how many requests were accepted
unfoldable pub token_count : List Entry → ℕ
token_count H = count_by is_accept H

-- the request of a token: token t is the t-th accepted one, from 0
unfoldable pub request : List Entry → ℕ → Option Request
request [] t = None
request (Accept tag view asked bytes ∷ before) t =
    if nat_eq t (token_count before)
    then Some (record { tag = tag; view = view; asked = asked; bytes = bytes })
    else request before t
request (e ∷ before) t = request before t

abbrev pub is_collect_of : ℕ → Entry → Bool
is_collect_of t (Collect tag u) = nat_eq u t
is_collect_of t e = false

-- the token was handed back
unfoldable pub was_collected : List Entry → ℕ → Bool
was_collected H t = list_any (is_collect_of t) H

abbrev pub is_read : Kind → Bool
is_read Read = true
is_read Write = false
is_read Flush = false
is_read Erase = false

abbrev pub is_write : Kind → Bool
is_write Read = false
is_write Write = true
is_write Flush = false
is_write Erase = false

abbrev pub is_flush : Kind → Bool
is_flush Read = false
is_flush Write = false
is_flush Flush = true
is_flush Erase = false

abbrev pub is_erase : Kind → Bool
is_erase Read = false
is_erase Write = false
is_erase Flush = false
is_erase Erase = true

-- a write and an erase change bytes of the medium
abbrev pub changes_bytes : Kind → Bool
changes_bytes Read = false
changes_bytes Write = true
changes_bytes Flush = false
changes_bytes Erase = true

-- the bytes that a request puts on its medium: those that came with a write, and zeros for an erase
abbrev pub bytes_to_put : Kind → ℕ → List ℕ → List ℕ
bytes_to_put Read n bytes = bytes
bytes_to_put Write n bytes = bytes
bytes_to_put Flush n bytes = bytes
bytes_to_put Erase n bytes = replicate n 0

abbrev pub request_bytes : Request → List ℕ
request_bytes r = bytes_to_put r.asked.kind r.asked.length r.bytes

-- a place in these units, in bytes
abbrev pub in_bytes : ℕ → UnitKind → ℕ → ℕ
in_bytes size Bytes at = at
in_bytes size Blocks at = at * size

-- where a request begins in its view, in bytes
abbrev pub offset : Setup → Asked → ℕ
offset S asked = in_bytes (size_of S) asked.unit asked.at

-- the range of a request on its medium: from this byte on ..
abbrev pub from_of : Setup → Request → ℕ
from_of S r = r.view.start + offset S r.asked

-- .. and before that one
abbrev pub until_of : Setup → Request → ℕ
until_of S r = from_of S r + r.asked.length
