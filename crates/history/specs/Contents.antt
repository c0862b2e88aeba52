-- What a medium holds after a history (UEFI 2.10, 13.7; the failure model and the cache: own profile).
use Rattle.std.specs.Prelude.{ℕ, ◌+◌, ◌-◌, ◌*◌, min, max, Bool, nat_eq, nat_lt, ◌&&◌, if◌then◌else◌, List, [], ◌∷◌, take, drop, slice_get, Option, None, Some, option_map, option_and_then}
use Rattle.byte_lists.specs.Patching.{patch}
use Rattle.history.specs.declared.entry.Entry.{Entry}
use Rattle.history.specs.declared.entry.Entry.TheVariants.{Done, Fault}
use Rattle.history.specs.Setup.{Setup, size_of, first_of}
use Rattle.history.specs.Eras.{media_id_of}
use Rattle.history.specs.Tokens.{Request, request, request_bytes, from_of, until_of}
use Rattle.history.specs.Commands.{first_block, block_count, is_get, is_change, is_sync, lies_in}

-- bytes that one command of a token put on the medium, from this byte on
pub record Piece : Type 0 where
  pub token : ℕ
  pub at : ℕ
  pub bytes : List ℕ

-- the bytes of a request that lie from low on and before high
abbrev pub bytes_between : Setup → Request → ℕ → ℕ → List ℕ
bytes_between S r low high = take (high - low) (drop (low - from_of S r) (request_bytes r))

-- the bytes from low on and before high as a piece, where there are any
abbrev pub piece_between : Setup → ℕ → Request → ℕ → ℕ → Option Piece
piece_between S t r low high =
    if nat_lt low high
    then Some (record { token = t; at = low; bytes = bytes_between S r low high })
    else None

-- the part of a token's range in n blocks from b on, with the token's bytes there
unfoldable pub piece_in : Setup → ℕ → ℕ → ℕ → Option Request → Option Piece
piece_in S t b n None = None
piece_in S t b n (Some r) = piece_between S t r (max (from_of S r) (b * size_of S)) (min (until_of S r) ((b + n) * size_of S))

-- the piece that an entry gives: a done store, put or wipe that of its blocks, a failed one that of its first done ones
unfoldable pub piece_of : Setup → List Entry → Entry → Option Piece
piece_of S before (Done t c) = if is_change c then piece_in S t (first_block c) (block_count S c) (request before t) else None
piece_of S before (Fault t c done) = if is_change c then piece_in S t (first_block c) done (request before t) else None
piece_of S before e = None

abbrev pub with_piece : Option Piece → List Piece → List Piece
with_piece None older = older
with_piece (Some p) older = p ∷ older

-- the pieces of era k, the newest first
unfoldable pub pieces_of : Setup → ℕ → List Entry → List Piece
pieces_of S k [] = []
pieces_of S k (e ∷ before) =
    if nat_eq (media_id_of before) k
    then with_piece (piece_of S before e) (pieces_of S k before)
    else pieces_of S k before

-- bytes patched by pieces, the oldest first
unfoldable pub patch_all : List Piece → List ℕ → List ℕ
patch_all [] bytes = bytes
patch_all (p ∷ older) bytes = patch (patch_all older bytes) p.at p.bytes

-- the contents of medium k: its opening bytes patched by the pieces of its era
unfoldable pub contents : Setup → ℕ → List Entry → Option (List ℕ)
contents S k H = option_map (patch_all (pieces_of S k H)) (first_of S k)

-- the contents at the last flush of era k, or the opening bytes where there is none
unfoldable pub flushed_contents : Setup → ℕ → List Entry → Option (List ℕ)
flushed_contents S k [] = first_of S k
flushed_contents S k (Done t c ∷ before) =
    if is_sync c && nat_eq (media_id_of before) k then contents S k before else flushed_contents S k before
flushed_contents S k (e ∷ before) = flushed_contents S k before

-- what stays when medium k leaves the drive
unfoldable pub kept_contents : Setup → ℕ → List Entry → Option (List ℕ)
kept_contents S k H = if S.cached then flushed_contents S k H else contents S k H

abbrev pub byte_at : Option (List ℕ) → ℕ → Option ℕ
byte_at told x = option_and_then (λ bytes. slice_get bytes x) told

-- what token t read at byte x of its medium: the byte that was there as its read of that block came
unfoldable pub bytes_read : Setup → List Entry → ℕ → ℕ → Option ℕ
bytes_read S [] t x = None
bytes_read S (Done u c ∷ before) t x =
    if nat_eq u t && (is_get c && lies_in S (first_block c) (block_count S c) x)
    then byte_at (contents S (media_id_of before) before) x
    else bytes_read S before t x
bytes_read S (e ∷ before) t x = bytes_read S before t x
