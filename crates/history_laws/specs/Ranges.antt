-- Where the range of a request lies, and where its pieces do (UEFI 2.10, 13.7; own profile).
use Rattle.std.specs.Prelude.{◌≡◌, ◌≢◌, ℕ, ◌+◌, ◌*◌, ◌<◌, ◌≤◌, min, max, ◌⊎◌, true, List, [], ◌∷◌, ◌++◌, length, Some}
use Rattle.history.specs.declared.entry.View.{View}
use Rattle.history.specs.declared.entry.Entry.{Entry}
use Rattle.history.specs.Setup.{Setup, size_of, blocks_of, first_of}
use Rattle.history.specs.Tokens.{Request, request, changes_bytes, from_of, until_of}
use Rattle.history.specs.Contents.{Piece, bytes_between, contents, byte_at}
use Rattle.history.specs.Room.{is_command_of}

-- the range lies in the request's view, and the view on its medium
pub record IsInView (S : Setup) (r : Request) : Type 0 where
  pub begins : r.view.start ≤ from_of S r
  pub ends : until_of S r ≤ r.view.start + r.view.length
  pub lies : r.view.start + r.view.length ≤ blocks_of S r.view.media_id * size_of S

-- the bytes of the medium in n blocks from b on that the request is for: from the first one ..
abbrev pub low_in : Setup → Request → ℕ → ℕ
low_in S q b = max (from_of S q) (b * size_of S)

-- .. and before this one
abbrev pub high_in : Setup → Request → ℕ → ℕ → ℕ
high_in S q b n = min (until_of S q) ((b + n) * size_of S)

-- the piece has bytes of this request, which is its token's, at their place in its range
pub record IsPieceOf (S : Setup) (H : List Entry) (p : Piece) (r : Request) : Type 0 where
  pub named : request H p.token ≡ Some r
  pub changes : changes_bytes r.asked.kind ≡ true
  pub some : 0 < length p.bytes
  pub begins : from_of S r ≤ p.at
  pub ends : p.at + length p.bytes ≤ until_of S r
  pub bytes : p.bytes ≡ bytes_between S r p.at (p.at + length p.bytes)

-- each piece is of a request whose range and view lie on medium k
unfoldable pub AreInViews : Setup → ℕ → List Entry → List Piece → Type 0
AreInViews S k H [] = Unit {0}
AreInViews S k H (p ∷ older) = ((r : Request) × IsPieceOf S H p r × IsInView S r × (r.view.media_id ≡ k)) × AreInViews S k H older

-- the opening bytes that are told are those of all blocks
abbrev pub AreToldWhole : Setup → Type 0
AreToldWhole S = (k : ℕ) (bytes : List ℕ) → first_of S k ≡ Some bytes → length bytes ≡ blocks_of S k * size_of S

-- a byte of medium k lies outside a view
abbrev pub IsOutside : View → ℕ → ℕ → Type 0
IsOutside view k x = (view.media_id ≢ k) ⊎ ((x < view.start) ⊎ (view.start + view.length ≤ x))

-- it lies outside the view of each request of which one of these entries is a command; they stand on top of a history
unfoldable pub AreOutside : List Entry → List Entry → ℕ → ℕ → Type 0
AreOutside H [] k x = Unit {0}
AreOutside H (e ∷ earlier) k x =
    ((t : ℕ) (r : Request) → is_command_of t e ≡ true → request (earlier ++ H) t ≡ Some r → IsOutside r.view k x) × AreOutside H earlier k x

-- such a byte is as it was, whatever else these entries are
abbrev pub OutsideStays : Setup → List Entry → Type 0
OutsideStays S all =
    (k x : ℕ) (more before : List Entry) → all ≡ more ++ before → AreOutside before more k x → byte_at (contents S k all) x ≡ byte_at (contents S k before) x
