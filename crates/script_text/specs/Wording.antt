-- What a line says by its words alone: of a script's plans it knows nothing (own profile).
use Rattle.std.specs.Prelude.{ℕ, ◌-◌, ◌^◌, Bool, true, false, not, ◌&&◌, ◌||◌, ◌==◌, nat_lt, if◌then◌else◌, List, [], ◌∷◌, length, take, drop, slice_index, slice_index_or, codes, bytes_eq, Option, Some, None, ok_or, Result, Ok, Err}
use Rattle.std.specs.List.{list_any, list_all}
use Rattle.history.specs.declared.entry.Kind.{Kind}
use Rattle.history.specs.declared.entry.Kind.TheVariants.{Read, Write, Flush, Erase}
use Rattle.history.specs.declared.entry.UnitKind.{UnitKind}
use Rattle.history.specs.declared.entry.UnitKind.TheVariants.{Bytes, Blocks}
use Rattle.history.specs.declared.order.Order.{Order}
use Rattle.history.specs.declared.order.Order.TheVariants as order
use Rattle.history.specs.declared.order.Payload.{Payload}
use Rattle.history.specs.declared.order.Payload.TheVariants.{Given, Fill, Nothing}
use Rattle.script_text.specs.declared.language.refusal.Reason.{Reason}
use Rattle.script_text.specs.declared.language.refusal.Reason.TheVariants.{Form, Number, Hex}
use Rattle.script_text.specs.declared.language.line.Flags.{Flags}
use Rattle.script_text.specs.declared.language.line.Line.{Line}
use Rattle.script_text.specs.declared.language.line.Line.TheVariants.{Disk, Spare, Client, Asks}
use Rattle.script_text.specs.Words.{words_of, is_comment, is_line_byte, number_of, hex_of}
use Rattle.script_text.specs.Replies.{◌>>=◌}

-- a word that begins with `@` (64)
abbrev pub is_mark : List ℕ → Bool
is_mark word = slice_index word 0 == 64

-- the words that are wrong outside places of their own
abbrev pub is_fixed_word : List ℕ → Bool
is_fixed_word word =
    is_mark word || bytes_eq word (codes "cached") || bytes_eq word (codes "protected") || bytes_eq word (codes "physical")
    || bytes_eq word (codes "part") || bytes_eq word (codes "on") || bytes_eq word (codes "off")

abbrev pub if_short : Option ℕ → Option ℕ
if_short None = None
if_short (Some n) = if nat_lt n (2 ^ 32) then Some n else None

-- the number of a partition, of a medium, or of blocks has 32 bits
unfoldable pub short_number_of : List ℕ → Option ℕ
short_number_of word = if_short (number_of word)

abbrev pub only_byte : Option (List ℕ) → Option ℕ
only_byte (Some (b ∷ [])) = Some b
only_byte bytes = None

-- two hexadecimal digits
unfoldable pub byte_of : List ℕ → Option ℕ
byte_of word = only_byte (hex_of word)

-- the words have this one in front
abbrev pub begins_with : List ℕ → List (List ℕ) → Bool
begins_with word [] = false
begins_with word (first ∷ rest) = bytes_eq first word

-- the words behind this one, where it stands in front
abbrev pub words_after : List ℕ → List (List ℕ) → List (List ℕ)
words_after word words = if begins_with word words then drop 1 words else words

-- `physical N` or nothing, which is 1
unfoldable pub physical_of : List (List ℕ) → Result ℕ Reason
physical_of [] = Ok 1
physical_of (word ∷ n ∷ []) =
    if bytes_eq word (codes "physical") && not (is_fixed_word n) then ok_or (short_number_of n) Number else Err Form
physical_of words = Err Form

-- `cached`, `protected` and `physical N`, each or more in this order
unfoldable pub flags_of : List (List ℕ) → Result Flags Reason
flags_of words = do
  n ← physical_of (words_after (codes "protected") (words_after (codes "cached") words))
  Ok (record {
    cached = begins_with (codes "cached") words;
    protected = begins_with (codes "protected") (words_after (codes "cached") words);
    physical = n;
  })

-- `disk IMAGE SIZE WORKERS` and its flags
unfoldable pub disk_words : List (List ℕ) → Result Line Reason
disk_words (image ∷ size ∷ workers ∷ more) =
    if list_any is_fixed_word (image ∷ size ∷ workers ∷ [])
    then Err Form
    else do
      flags ← flags_of more
      s ← ok_or (number_of size) Number
      w ← ok_or (number_of workers) Number
      Ok (Disk image s w flags)
disk_words words = Err Form

-- `spare IMAGE`
unfoldable pub spare_words : List (List ℕ) → Result Line Reason
spare_words (image ∷ []) = if is_fixed_word image then Err Form else Ok (Spare image)
spare_words words = Err Form

-- `client`, or `client part N`
unfoldable pub client_words : List (List ℕ) → Result Line Reason
client_words [] = Ok (Client None)
client_words (word ∷ n ∷ []) =
    if not (bytes_eq word (codes "part") && not (is_fixed_word n))
    then Err Form
    else do
      part ← ok_or (short_number_of n) Number
      Ok (Client (Some part))
client_words words = Err Form

-- a request on medium k: what it asks for, and the bytes that it brings
abbrev pub request_order : Kind → UnitKind → ℕ → ℕ → Payload → ℕ → Order
request_order kind units at n payload k = order.Request (record { kind = kind; unit = units; at = at; length = n }) payload k

-- `AT HEX`
unfoldable pub given_order : UnitKind → ℕ → List (List ℕ) → Result Order Reason
given_order units k (at ∷ hex ∷ []) = do
  a ← ok_or (number_of at) Number
  bytes ← ok_or (hex_of hex) Hex
  Ok (request_order Write units a (length bytes) (Given bytes) k)
given_order units k words = Err Form

-- `AT LENGTH BYTE`
unfoldable pub fill_order : ℕ → List (List ℕ) → Result Order Reason
fill_order k (at ∷ count ∷ byte ∷ []) = do
  a ← ok_or (number_of at) Number
  n ← ok_or (number_of count) Number
  b ← ok_or (byte_of byte) Hex
  Ok (request_order Write Bytes a n (Fill b) k)
fill_order k words = Err Form

-- `AT LENGTH`
unfoldable pub sized_order : Kind → UnitKind → ℕ → List (List ℕ) → Result Order Reason
sized_order kind units k (at ∷ count ∷ []) = do
  a ← ok_or (number_of at) Number
  n ← ok_or (number_of count) Number
  Ok (request_order kind units a n Nothing k)
sized_order kind units k words = Err Form

-- no word
abbrev pub alone : Order → List (List ℕ) → Result Order Reason
alone one [] = Ok one
alone one words = Err Form

-- a line that may name a medium, which is medium k
unfoldable pub aimed_order : List ℕ → ℕ → List (List ℕ) → Result Order Reason
aimed_order first k words =
    if bytes_eq first (codes "write") then given_order Bytes k words
    else if bytes_eq first (codes "fill") then fill_order k words
    else if bytes_eq first (codes "read") then sized_order Read Bytes k words
    else if bytes_eq first (codes "wblocks") then given_order Blocks k words
    else if bytes_eq first (codes "rblocks") then sized_order Read Blocks k words
    else if bytes_eq first (codes "erase") then sized_order Erase Blocks k words
    else if bytes_eq first (codes "flush") then alone (request_order Flush Bytes 0 0 Nothing k) words
    else alone (order.Cancel k) words

-- the same, with no word out of its place
unfoldable pub plain_order : List ℕ → ℕ → List (List ℕ) → Result Order Reason
plain_order first k words = if list_any is_fixed_word words then Err Form else aimed_order first k words

-- a line of a client, with the medium of its last word
abbrev pub asks : Option ℕ → Result Order Reason → Result Line Reason
asks mark (Ok one) = Ok (Asks one mark)
asks mark (Err reason) = Err reason

abbrev pub last_word : List (List ℕ) → List ℕ
last_word words = slice_index_or words (length words - 1) []

-- a line that may have a last word `@K`; without it the medium is 1
unfoldable pub aimed_words : List ℕ → List (List ℕ) → Result Line Reason
aimed_words first words =
    if not (is_mark (last_word words))
    then asks None (plain_order first 1 words)
    else do
      k ← ok_or (short_number_of (drop 1 (last_word words))) Form
      asks (Some k) (plain_order first k (take (length words - 1) words))

-- `on` or `off`
unfoldable pub protect_order : List (List ℕ) → Result Order Reason
protect_order (word ∷ []) =
    if bytes_eq word (codes "on") then Ok (order.Protect true)
    else if bytes_eq word (codes "off") then Ok (order.Protect false)
    else Err Form
protect_order words = Err Form

-- a line that names no medium
unfoldable pub whole_order : List ℕ → List (List ℕ) → Result Order Reason
whole_order first words =
    if bytes_eq first (codes "wait") then alone order.Wait words
    else if bytes_eq first (codes "reset") then alone order.Reset words
    else if bytes_eq first (codes "eject") then alone order.Eject words
    else if bytes_eq first (codes "insert") then alone order.Insert words
    else if bytes_eq first (codes "protect") then protect_order words
    else Err Form

-- the lines that may name a medium
abbrev pub is_aimed : List ℕ → Bool
is_aimed first =
    bytes_eq first (codes "write") || bytes_eq first (codes "fill") || bytes_eq first (codes "read") || bytes_eq first (codes "wblocks")
    || bytes_eq first (codes "rblocks") || bytes_eq first (codes "erase") || bytes_eq first (codes "flush") || bytes_eq first (codes "cancel")

-- a line by its first word
unfoldable pub line_of_kind : List ℕ → List (List ℕ) → Result Line Reason
line_of_kind first words =
    if bytes_eq first (codes "disk") then disk_words words
    else if bytes_eq first (codes "spare") then spare_words words
    else if bytes_eq first (codes "client") then client_words words
    else if is_aimed first then aimed_words first words
    else asks None (whole_order first words)

-- what words say; none say nothing
unfoldable pub line_of_words : List (List ℕ) → Result (Option Line) Reason
line_of_words [] = Ok None
line_of_words (first ∷ words) = do
  one ← line_of_kind first words
  Ok (Some one)

-- what a line says; a comment and a line without words say nothing
unfoldable pub line_of_bytes : List ℕ → Result (Option Line) Reason
line_of_bytes line =
    if is_comment line then Ok None
    else if list_all is_line_byte line then line_of_words (words_of line)
    else Err Form
