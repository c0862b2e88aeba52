-- The table of the program's words, one row for each thing that it does (own profile).
use Rattle.std.specs.Prelude.{ℕ, ◌*◌, Bool, true, false, ◌&&◌, ◌==◌, nat_le, if◌then◌else◌, List, [], ◌∷◌, length, slice_index, codes, bytes_eq, Option, None, Some}
use Rattle.std.specs.List.{list_any, list_all}
use Rattle.medium.specs.Device.{is_block_size}
use Rattle.script_text.specs.Fitting.{is_name_byte}
use Rattle.script_text.specs.Limits.{most_name_bytes}
use Rattle.script_text.specs.Words.{number_of}
use Rattle.stack_run.specs.declared.listing.Listing.{Listing}
use Rattle.stack_run.specs.declared.listing.Listing.TheVariants as listing
use Rattle.stack_run.specs.declared.words.Row.{Row}
use Rattle.stack_run.specs.declared.words.Row.TheVariants as row

-- a word that begins with `-` (45)
abbrev pub is_dashed : List ℕ → Bool
is_dashed word = slice_index word 0 == 45

-- FILE: 1 to 255 printable bytes, none of them a space
abbrev pub is_file : List ℕ → Bool
is_file word = nat_le 1 (length word) && nat_le (length word) most_name_bytes && list_all is_name_byte word

-- CLIENTS, and how many LINES each has
abbrev pub are_counts : ℕ → ℕ → Bool
are_counts clients lines = nat_le 1 clients && nat_le clients 64 && nat_le 1 lines && nat_le (clients * lines) 100000

-- SIZE: 512, 1024, 2048 or 4096
abbrev pub if_size : Option ℕ → Option ℕ
if_size None = None
if_size (Some size) = if is_block_size size then Some size else None

unfoldable pub block_size_of : List ℕ → Option ℕ
block_size_of word = if_size (number_of word)

-- FILE SIZE
unfoldable pub file_size : List ℕ → List ℕ → Option ℕ
file_size file size = if is_file file then block_size_of size else None

abbrev pub sized_row : (ℕ → Row) → Option ℕ → Option Row
sized_row one None = None
sized_row one (Some size) = Some (one size)

abbrev pub counted_row : Option ℕ → Option ℕ → Option ℕ → Option Row
counted_row (Some number) (Some clients) (Some lines) =
    if are_counts clients lines then Some (row.Generated number clients lines) else None
counted_row number clients lines = None

-- NUMBER CLIENTS LINES
unfoldable pub generated_row : List ℕ → List ℕ → List ℕ → Option Row
generated_row number clients lines = counted_row (number_of number) (number_of clients) (number_of lines)

-- the table: `plain`, `probe FILE SIZE`, `paths FILE SIZE`, and `gen NUMBER CLIENTS LINES`
unfoldable pub row_by : List (List ℕ) → Option Row
row_by (word ∷ []) = if bytes_eq word (codes "plain") then Some row.Plain else None
row_by (word ∷ file ∷ size ∷ []) =
    if bytes_eq word (codes "probe") then sized_row (row.Probe file) (file_size file size)
    else if bytes_eq word (codes "paths") then sized_row (row.Paths file) (file_size file size)
    else None
row_by (word ∷ number ∷ clients ∷ lines ∷ []) =
    if bytes_eq word (codes "gen") then generated_row number clients lines else None
row_by words = None

-- the row that words are in; a word that begins with `-` is in none
unfoldable pub row_of : List (List ℕ) → Option Row
row_of words = if list_any is_dashed words then None else row_by words

-- a row that keeps the name of a file
abbrev pub is_file_row : Option Row → Bool
is_file_row None = false
is_file_row (Some row.Plain) = false
is_file_row (Some (row.Probe file size)) = true
is_file_row (Some (row.Paths file size)) = true
is_file_row (Some (row.Generated number clients lines)) = false

-- of the rows `probe` and `paths` this holds, with what they tell
abbrev pub IfProbe : Option Row → (Listing → List ℕ → ℕ → Type 0) → Type 0
IfProbe None P = Unit {0}
IfProbe (Some row.Plain) P = Unit {0}
IfProbe (Some (row.Probe file size)) P = P listing.Table file size
IfProbe (Some (row.Paths file size)) P = P listing.Paths file size
IfProbe (Some (row.Generated number clients lines)) P = Unit {0}

-- of the row `gen` this holds
abbrev pub IfGenerated : Option Row → (ℕ → ℕ → ℕ → Type 0) → Type 0
IfGenerated None P = Unit {0}
IfGenerated (Some row.Plain) P = Unit {0}
IfGenerated (Some (row.Probe file size)) P = Unit {0}
IfGenerated (Some (row.Paths file size)) P = Unit {0}
IfGenerated (Some (row.Generated number clients lines)) P = P number clients lines
