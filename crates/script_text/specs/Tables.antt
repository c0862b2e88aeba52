-- The lines of a partition table (own profile).
use Rattle.std.specs.Prelude.{ℕ, ◌-◌, false, List, [], ◌∷◌, ◌++◌, length, replicate, codes, decimal}
use Rattle.std.specs.Fmt.{digits}
use Rattle.uuid.specs.Text.{hyphenated_text, lower}
use Rattle.partition_tables.specs.declared.table.TableKind.{TableKind}
use Rattle.partition_tables.specs.declared.table.TableKind.TheVariants.{Plain, Mbr, GptPrimary, GptBackup, GptDamaged}
use Rattle.partition_tables.specs.declared.table.Origin.{Origin}
use Rattle.partition_tables.specs.declared.table.Origin.TheVariants as origin
use Rattle.partition_tables.specs.declared.table.Child.{Child}
use Rattle.partition_tables.specs.declared.table.Table.{Table}
use Rattle.script_text.specs.Text.{line_of, lines_text}

abbrev pub table_word : TableKind → List ℕ
table_word Plain = codes "plain"
table_word Mbr = codes "mbr"
table_word GptPrimary = codes "gpt-primary"
table_word GptBackup = codes "gpt-backup"
table_word GptDamaged = codes "gpt-damaged"

-- lower-case hexadecimal digits, as many as these with zeros (48) before them
abbrev pub digits_of : ℕ → ℕ → List ℕ
digits_of n number = replicate (n - length (digits 16 false number)) 48 ++ digits 16 false number

-- the type of a child, its signature or GUID, and its boot indicator or attributes
unfoldable pub origin_text : Origin → List ℕ
origin_text (origin.Mbr os_type signature boot) =
    codes "type " ++ (digits_of 2 os_type ++ (codes " id " ++ (digits_of 8 signature ++ (codes " attributes " ++ decimal boot))))
origin_text (origin.Gpt kind unique attributes) =
    codes "type " ++ (hyphenated_text lower kind ++ (codes " id " ++ (hyphenated_text lower unique ++ (codes " attributes " ++ decimal attributes))))

-- the line of a child: its number, its first block, how many blocks it has, and what its table says of it beside
unfoldable pub child_text : Child → List ℕ
child_text child =
    line_of (codes "child" ∷ decimal child.number ∷ codes "first" ∷ decimal child.first ∷ codes "blocks" ∷ decimal child.blocks ∷ origin_text child.origin ∷ [])

-- the line of a table
unfoldable pub kind_line_text : TableKind → List ℕ
kind_line_text kind = line_of (codes "table" ∷ table_word kind ∷ [])

abbrev pub children_text : List Child → List ℕ
children_text children = lines_text (λ place child. child_text child) 0 children

-- the lines of a table and its children in order
unfoldable pub table_text : Table → List ℕ
table_text table = kind_line_text table.kind ++ children_text table.children

-- the line of a table that could not be read
unfoldable pub unread_text : List ℕ
unread_text = line_of (codes "table" ∷ codes "unread" ∷ [])
