-- What is read back from the pieces of a text.
use Rattle.std.proofs.Common.{◌≡◌, ℕ, ◌^◌, ◌<◌, ◌≤◌, List, [], ◌∷◌, length, get_or, Result, Ok, if◌then◌else◌, refl, sym, ap, ◌∙◌, arith}
use Rattle.std.specs.List.{AllByRecursion, concat}
use Rattle.std.specs.Str.{IsAscii}
use Rattle.std.specs.Str.Parse.{IsNumeral, ParsesUnsigned, digits_value}
use Rattle.std.proofs.lemmas.Result.{Ok-from_Ok_iff}
use Rattle.std.proofs.lemmas.Str.{IsAscii-append}
use Rattle.std.proofs.lemmas.Str.Ascii.{IsAscii-nil, IsAscii-cons}
use Rattle.std.proofs.lemmas.Str.Parse.{without_leading_plus_none}
use Rattle.std.proofs.lemmas.Bool.Decides.{nat_tests}
use Rattle.std.specs.Fmt.{decimal}
use Rattle.uuid.specs.Text.{hex_digit, hyphenated_text, is_hyphen_place, digit_place, lower, nibble}
use Rattle.uuid.proofs.TextLemmas.{by_index_at, by_index_length, nibble_small}
use Rattle.device_path.specs.declared.hard_drive.Sign.{Sign}
use Rattle.device_path.specs.declared.hard_drive.Sign.TheVariants as signs
use Rattle.device_path.specs.declared.hard_drive.HardDrive.{HardDrive}
use Rattle.device_path.specs.Node.{IsHardDrive, IsSign}
use Rattle.device_path.specs.Text.{text_of, IsTextOf, block_text, format_text, sign_text, text_pieces}
use Rattle.device_path.specs.Reading.{TellsNumber}
use Rattle.device_path.proofs.Plain.{block-tells, decimal-plain, digits-plain, eight-tells, format-plain, plain-ascii, plain-at, sign-plain, tells-plain}

-- `from_str_radix` of hexadecimal digits
pub parse-hexadecimal : {E : Type 0} (n : ℕ) (bs : List ℕ) (r : Result ℕ E) → IsNumeral 16 bs → digits_value 16 bs ≡ n → n < 2 ^ 64 → ParsesUnsigned 64 16 bs r → r ≡ Ok n
parse-hexadecimal n bs r numeral value small h =
    let first : 44 < get_or bs 0 0 = plain-at bs 0 (digits-plain 16 bs (omega arith) numeral.1) numeral.0 in
    let parses = rw (without_leading_plus_none bs (λ e. omega arith)) at h in
    Ok-from_Ok_iff r _ (digits_value 16 bs) parses (numeral, rw value small) ∙ ap Ok value

-- the second digit of a GUID is no x
low-digit : (d : ℕ) → d < 16 → hex_digit lower d ≤ 102
low-digit d h = grind (arith, nat_tests)

second-digit : (guid : List ℕ) → get_or (hyphenated_text lower guid) 1 0 ≤ 102
second-digit guid = rw (by_index_at 36 (λ k. if is_hyphen_place k then 45 else hex_digit lower (nibble guid (digit_place k))) 1 0 (omega arith)) (low-digit (nibble guid 1) (nibble_small guid 1))

-- a text of 0 is that of no signature
pub sign-none : (sign : Sign) (text : List ℕ) → text ≡ sign_text sign → text ≡ 48 ∷ [] → signs.None ≡ sign
sign-none signs.None text is zero = refl
sign-none (signs.Mbr signature) text is zero = absurd (cc)
sign-none (signs.Guid guid) text is zero =
    let long : length (hyphenated_text lower guid) ≡ 36 = by_index_length 36 _ in
    let short : length (hyphenated_text lower guid) ≡ 1 = ap length (sym is ∙ zero) in absurd (omega arith)

-- a text that begins with 0x is that of an MBR signature
pub record IsMbr (sign : Sign) (text : List ℕ) : Type 0 where
  pub signature : ℕ
  pub is : signs.Mbr signature ≡ sign
  pub small : signature < 2 ^ 32
  pub tells : TellsNumber signature text

pub sign-mbr : (sign : Sign) (text rest : List ℕ) → IsSign sign → text ≡ sign_text sign → text ≡ 48 ∷ 120 ∷ rest → IsMbr sign text
sign-mbr signs.None text rest can is begins = absurd (cc)
sign-mbr (signs.Mbr signature) text rest can is begins = record { signature = signature; is = refl; small = can; tells = rw is (eight-tells signature can) }
sign-mbr (signs.Guid guid) text rest can is begins =
    let second : get_or (hyphenated_text lower guid) 1 0 ≡ 120 = ap (λ t. get_or t 1 0) (sym is ∙ begins) in
    let low = second-digit guid in absurd (omega arith)

-- a text is ASCII, since its pieces are
concat-ascii : (pieces : List (List ℕ)) → AllByRecursion IsAscii pieces → IsAscii (concat pieces)
concat-ascii [] all = IsAscii-nil
concat-ascii (piece ∷ pieces) all = IsAscii-append piece (concat pieces) all.0 (concat-ascii pieces all.1)

pub text-ascii : (node : HardDrive) (text : List ℕ) → IsHardDrive node → IsTextOf node text → IsAscii text
unfolding IsTextOf text_of
text-ascii node text can is =
    let head = IsAscii-cons 72 (68 ∷ 40 ∷ []) (omega arith) (IsAscii-cons 68 (40 ∷ []) (omega arith) (IsAscii-cons 40 [] (omega arith) IsAscii-nil)) in
    let comma = IsAscii-cons 44 [] (omega arith) IsAscii-nil in
    let end = IsAscii-cons 41 [] (omega arith) IsAscii-nil in
    let number = plain-ascii (decimal node.number) (decimal-plain node.number can.number) in
    let format = plain-ascii (format_text node.format) (format-plain node.format) in
    let sign = plain-ascii (sign_text node.sign) (sign-plain node.sign can.sign) in
    let start = plain-ascii (block_text node.start) (tells-plain node.start _ (block-tells node.start can.start)) in
    let size = plain-ascii (block_text node.size) (tells-plain node.size _ (block-tells node.size can.size)) in
    rw is (concat-ascii (text_pieces node) (head, (number, (comma, (format, (comma, (sign, (comma, (start, (comma, (size, (end, tt))))))))))))
