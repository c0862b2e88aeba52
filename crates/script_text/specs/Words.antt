-- The lines and words of a script, and what a word says (own profile).
use Rattle.std.specs.Prelude.{ℕ, ◌-◌, ◌^◌, Bool, not, ◌&&◌, ◌==◌, nat_le, if◌then◌else◌, List, [], length, map, filter, slice_index, codes, bytes_eq, Option, Some, None}
use Rattle.std.specs.List.{slice_split, list_all}
use Rattle.std.specs.Result.{result_ok}
use Rattle.std.specs.Char.{is_ascii_digit}
use Rattle.std.specs.Str.Lines.{strip_carriage_return}
use Rattle.std.specs.Str.Parse.{digits_value}
use Rattle.hex.specs.Hex.{decode_of}

-- the lines between line feeds (10), each without one carriage return at its end
unfoldable pub lines_of : List ℕ → List (List ℕ)
lines_of bytes = map strip_carriage_return (slice_split (λ b. b == 10) bytes)

-- the words between runs of spaces (32)
unfoldable pub words_of : List ℕ → List (List ℕ)
words_of line = filter (λ word. not (length word == 0)) (slice_split (λ b. b == 32) line)

-- a line that begins with `#` (35)
abbrev pub is_comment : List ℕ → Bool
is_comment line = slice_index line 0 == 35

-- the bytes of a line: a space and the printable ones
abbrev pub is_line_byte : ℕ → Bool
is_line_byte b = nat_le 32 b && nat_le b 126

-- 1 to 20 digits with a value of 64 bits
unfoldable pub number_of : List ℕ → Option ℕ
number_of word =
    if nat_le 1 (length word) && nat_le (length word) 20 && list_all is_ascii_digit word && nat_le (digits_value 10 word) (2 ^ 64 - 1)
    then Some (digits_value 10 word)
    else None

-- an even number of hexadecimal digits, at least two, or `-` for no bytes
unfoldable pub hex_of : List ℕ → Option (List ℕ)
hex_of word =
    if bytes_eq word (codes "-") then Some []
    else if nat_le 2 (length word) then result_ok (decode_of word)
    else None
