-- The text of a hard drive node, HD(NUMBER,TYPE,SIGN,START,SIZE) (own profile).
use Rattle.std.specs.Prelude.{◌≡◌, ℕ, ◌-◌, false, List, [], ◌∷◌, ◌++◌, length, replicate, codes}
use Rattle.std.specs.List.{concat}
use Rattle.std.specs.Fmt.{decimal, digits}
use Rattle.uuid.specs.Text.{hyphenated_text, lower}
use Rattle.device_path.specs.declared.hard_drive.Format.{Format}
use Rattle.device_path.specs.declared.hard_drive.Format.TheVariants as formats
use Rattle.device_path.specs.declared.hard_drive.Sign.{Sign}
use Rattle.device_path.specs.declared.hard_drive.Sign.TheVariants as signs
use Rattle.device_path.specs.declared.hard_drive.HardDrive.{HardDrive}

-- TYPE
abbrev pub format_text : Format → List ℕ
format_text formats.Mbr = codes "MBR"
format_text formats.Gpt = codes "GPT"

-- lower-case hexadecimal digits without leading zeros, 0 for zero
abbrev pub hexadecimal : ℕ → List ℕ
hexadecimal n = digits 16 false n

-- eight of them, with zeros before
abbrev pub eight_digits : ℕ → List ℕ
eight_digits n = replicate (8 - length (hexadecimal n)) 48 ++ hexadecimal n

-- START and SIZE
abbrev pub block_text : ℕ → List ℕ
block_text n = codes "0x" ++ hexadecimal n

-- SIGN
abbrev pub sign_text : Sign → List ℕ
sign_text signs.None = codes "0"
sign_text (signs.Mbr signature) = codes "0x" ++ eight_digits signature
sign_text (signs.Guid guid) = hyphenated_text lower guid

-- The text, piece by piece. NUMBER is decimal, without leading zeros.
abbrev pub text_pieces : HardDrive → List (List ℕ)
text_pieces node =
    codes "HD("
    ∷ decimal node.number
    ∷ codes ","
    ∷ format_text node.format
    ∷ codes ","
    ∷ sign_text node.sign
    ∷ codes ","
    ∷ block_text node.start
    ∷ codes ","
    ∷ block_text node.size
    ∷ codes ")"
    ∷ []

-- the text
unfoldable pub text_of : HardDrive → List ℕ
text_of node = concat (text_pieces node)

-- these bytes are the text
unfoldable pub IsTextOf : HardDrive → List ℕ → Type 0
IsTextOf node text = text ≡ text_of node
