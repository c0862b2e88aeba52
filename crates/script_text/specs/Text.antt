-- Text of a report (own profile).
use Rattle.std.specs.Prelude.{ℕ, ◌+◌, List, [], ◌∷◌, ◌++◌, codes, decimal}
use Rattle.hex.specs.Hex.{encode_lower}
use Rattle.history.specs.declared.entry.View.{View}
use Rattle.history.specs.declared.entry.Asked.{Asked}
use Rattle.history.specs.declared.entry.Kind.{Kind}
use Rattle.history.specs.declared.entry.Kind.TheVariants.{Read, Write, Flush, Erase}
use Rattle.history.specs.declared.entry.UnitKind.{UnitKind}
use Rattle.history.specs.declared.entry.UnitKind.TheVariants.{Bytes, Blocks}

-- a line: its parts with one space (32) between them, and a line feed (10)
unfoldable pub line_of : List (List ℕ) → List ℕ
line_of [] = 10 ∷ []
line_of (part ∷ []) = part ++ 10 ∷ []
line_of (part ∷ next ∷ more) = part ++ (32 ∷ line_of (next ∷ more))

-- bytes in lower-case hexadecimal digits, and `-` for none
unfoldable pub hex_text : List ℕ → List ℕ
hex_text [] = codes "-"
hex_text (b ∷ more) = encode_lower (b ∷ more)

-- a view: START+LENGTH@ID/INDEX
unfoldable pub view_text : View → List ℕ
view_text v =
    decimal v.start ++ (codes "+" ++ (decimal v.length ++ (codes "@" ++ (decimal v.media_id ++ (codes "/" ++ decimal v.index)))))

unfoldable pub kind_text : Kind → List ℕ
kind_text Read = codes "read"
kind_text Write = codes "write"
kind_text Flush = codes "flush"
kind_text Erase = codes "erase"

unfoldable pub unit_text : UnitKind → List ℕ
unit_text Bytes = codes "bytes"
unit_text Blocks = codes "blocks"

-- what was asked: KIND UNIT AT LENGTH
unfoldable pub asked_text : Asked → List ℕ
asked_text asked =
    kind_text asked.kind ++ (codes " " ++ (unit_text asked.unit ++ (codes " " ++ (decimal asked.at ++ (codes " " ++ decimal asked.length)))))

-- the lines of these items in order, the first of them at this place
unfoldable pub lines_text : {X : Type 0} → (ℕ → X → List ℕ) → ℕ → List X → List ℕ
lines_text line place [] = []
lines_text line place (item ∷ more) = line place item ++ lines_text line (place + 1) more
