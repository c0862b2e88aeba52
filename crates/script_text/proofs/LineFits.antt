-- What a line says by its words fits.
use Rattle.std.proofs.Common.{◌≡◌, ℕ, ◌-◌, ◌^◌, ◌<◌, ◌≤◌, Bool, true, false, not, ◌&&◌, nat_le, if◌then◌else◌, List, [], ◌∷◌, length, take, drop, codes, bytes_eq, ok_or, Option, None, Some, Result, Ok, Err, refl, arith}
use Rattle.std.specs.List.{list_all, list_any}
use Rattle.std.specs.Char.{is_ascii_digit}
use Rattle.std.specs.Str.Parse.{digits_value}
use Rattle.std.proofs.lemmas.Bool.Decides.{nat_tests}
use Rattle.history.specs.declared.entry.Kind.{Kind}
use Rattle.history.specs.declared.entry.Kind.TheVariants.{Read, Write, Flush, Erase}
use Rattle.history.specs.declared.entry.UnitKind.{UnitKind}
use Rattle.history.specs.declared.entry.UnitKind.TheVariants.{Bytes, Blocks}
use Rattle.history.specs.declared.order.Order.{Order}
use Rattle.history.specs.declared.order.Order.TheVariants as order
use Rattle.history.specs.declared.order.Payload.TheVariants.{Given, Fill, Nothing}
use Rattle.history.specs.Rules.{IsAsked}
use Rattle.script_text.specs.declared.language.refusal.Reason.{Reason}
use Rattle.script_text.specs.declared.language.refusal.Reason.TheVariants.{Form, Number, Hex}
use Rattle.script_text.specs.declared.language.line.Line.{Line}
use Rattle.script_text.specs.declared.language.line.Line.TheVariants.{Disk, Spare, Client, Asks}
use Rattle.script_text.specs.Limits.{most_request_bytes}
use Rattle.script_text.specs.Words.{words_of, is_comment, is_line_byte, number_of, hex_of}
use Rattle.script_text.specs.Wording.{is_mark, is_fixed_word, short_number_of, byte_of, flags_of, disk_words, spare_words, client_words, request_order, given_order, fill_order, sized_order, alone, aimed_order, plain_order, asks, last_word, aimed_words, protect_order, whole_order, is_aimed, line_of_kind, line_of_words, line_of_bytes}
use Rattle.script_text.specs.Replies.{◌>>=◌}
use Rattle.script_text.specs.Fitting.{is_name_byte, Brings, IsRequest}
use Rattle.script_text.proofs.Chains.{then_ok, else_ok, either_ok, next_ok, some_ok, ok_same, never_ok, both_true}
use Rattle.script_text.proofs.NamesOf.{AreWords, words_are_names}

-- a line is for medium k, and brings what it asks for
abbrev pub IsAimed : ℕ → Order → Type 0
IsAimed k (order.Request asked payload id) = (id ≡ k) × (asked.length ≤ most_request_bytes → IsRequest asked payload)
IsAimed k order.Wait = Unit {0}
IsAimed k (order.Cancel id) = id ≡ k
IsAimed k order.Reset = Unit {0}
IsAimed k order.Eject = Unit {0}
IsAimed k order.Insert = Unit {0}
IsAimed k (order.Protect on) = Unit {0}

abbrev pub medium_of : Option ℕ → ℕ
medium_of None = 1
medium_of (Some k) = k

abbrev pub IsPrintable : List ℕ → Type 0
IsPrintable word = (0 < length word) × (list_all is_name_byte word ≡ true)

abbrev pub IsLine : Line → Type 0
IsLine (Disk image size workers flags) = IsPrintable image
IsLine (Spare image) = IsPrintable image
IsLine (Client part) = Unit {0}
IsLine (Asks one mark) = IsAimed (medium_of mark) one

-- numbers have 64 bits
some_if : (b : Bool) (v n : ℕ) → (if b then Some v else None) ≡ Some n → (b ≡ true) × (v ≡ n)
some_if true v n is = (refl, cc)
some_if false v n is = absurd (cc)

below_most : (v : ℕ) → nat_le v (2 ^ 64 - 1) ≡ true → v < 2 ^ 64
below_most v is = grind (arith, nat_tests)

number_below : (word : List ℕ) (n : ℕ) → number_of word ≡ Some n → n < 2 ^ 64
unfolding number_of
number_below word n is =
    let (fits, same) = some_if (nat_le 1 (length word) && nat_le (length word) 20 && list_all is_ascii_digit word && nat_le (digits_value 10 word) (2 ^ 64 - 1)) (digits_value 10 word) n is in
    rw (← same) (below_most (digits_value 10 word) (both_true _ _ fits).1)

said_below : (word : List ℕ) (n : ℕ) → ok_or (number_of word) Number ≡ Ok n → n < 2 ^ 64
said_below word n is = number_below word n (some_ok (number_of word) Number n is)

-- requests
given_fits : (units : UnitKind) (k : ℕ) (words : List (List ℕ)) (one : Order) → given_order units k words ≡ Ok one → IsAimed k one
unfolding given_order
given_fits units k (at ∷ hex ∷ []) one is =
    let (a, placed, rest) = next_ok (ok_or (number_of at) Number) (λ a. ok_or (hex_of hex) Hex >>= (λ bytes. Ok (request_order Write units a (length bytes) (Given bytes) k))) one is in
    let (bytes, read, last) = next_ok (ok_or (hex_of hex) Hex) (λ bytes. Ok (request_order Write units a (length bytes) (Given bytes) k)) one rest in
    rw (← ok_same (request_order Write units a (length bytes) (Given bytes) k) one last)
    (refl, λ most. record { at = said_below at a placed; most = most; brings = refl; well_asked = tt })
given_fits units k [] one is = absurd (cc)
given_fits units k (a ∷ []) one is = absurd (cc)
given_fits units k (a ∷ b ∷ c ∷ more) one is = absurd (cc)

fill_fits : (k : ℕ) (words : List (List ℕ)) (one : Order) → fill_order k words ≡ Ok one → IsAimed k one
unfolding fill_order
fill_fits k (at ∷ count ∷ byte ∷ []) one is =
    let (a, placed, rest) = next_ok (ok_or (number_of at) Number) (λ a. ok_or (number_of count) Number >>= (λ n. ok_or (byte_of byte) Hex >>= (λ b. Ok (request_order Write Bytes a n (Fill b) k)))) one is in
    let (n, counted, more) = next_ok (ok_or (number_of count) Number) (λ n. ok_or (byte_of byte) Hex >>= (λ b. Ok (request_order Write Bytes a n (Fill b) k))) one rest in
    let (b, read, last) = next_ok (ok_or (byte_of byte) Hex) (λ b. Ok (request_order Write Bytes a n (Fill b) k)) one more in
    rw (← ok_same (request_order Write Bytes a n (Fill b) k) one last)
    (refl, λ most. record { at = said_below at a placed; most = most; brings = tt; well_asked = tt })
fill_fits k [] one is = absurd (cc)
fill_fits k (a ∷ []) one is = absurd (cc)
fill_fits k (a ∷ b ∷ []) one is = absurd (cc)
fill_fits k (a ∷ b ∷ c ∷ d ∷ more) one is = absurd (cc)

sized_fits : (kind : Kind) (units : UnitKind) (k : ℕ) → ((n : ℕ) → Brings kind units Nothing n) → ((at n : ℕ) → IsAsked kind units at n)
    → (words : List (List ℕ)) (one : Order) → sized_order kind units k words ≡ Ok one → IsAimed k one
unfolding sized_order
sized_fits kind units k brings asks (at ∷ count ∷ []) one is =
    let (a, placed, rest) = next_ok (ok_or (number_of at) Number) (λ a. ok_or (number_of count) Number >>= (λ n. Ok (request_order kind units a n Nothing k))) one is in
    let (n, counted, last) = next_ok (ok_or (number_of count) Number) (λ n. Ok (request_order kind units a n Nothing k)) one rest in
    rw (← ok_same (request_order kind units a n Nothing k) one last)
    (refl, λ most. record { at = said_below at a placed; most = most; brings = brings n; well_asked = asks a n })
sized_fits kind units k brings asks [] one is = absurd (cc)
sized_fits kind units k brings asks (a ∷ []) one is = absurd (cc)
sized_fits kind units k brings asks (a ∷ b ∷ c ∷ more) one is = absurd (cc)

alone_fits : (k : ℕ) (one : Order) (words : List (List ℕ)) (found : Order) → IsAimed k one → alone one words ≡ Ok found → IsAimed k found
alone_fits k one [] found fits is = rw (← ok_same one found is) fits
alone_fits k one (word ∷ more) found fits is = absurd (cc)

flush_fits : (k : ℕ) → IsAimed k (request_order Flush Bytes 0 0 Nothing k)
flush_fits k = (refl, λ most. record { at = omega arith; most = most; brings = refl; well_asked = (refl, refl, refl) })

aimed_fits : (first : List ℕ) (k : ℕ) (words : List (List ℕ)) (one : Order) → aimed_order first k words ≡ Ok one → IsAimed k one
unfolding aimed_order
aimed_fits first k words one is =
    either_ok (bytes_eq first (codes "write")) _ _ one _ (λ r. given_fits Bytes k words one r)
    (λ r. either_ok (bytes_eq first (codes "fill")) _ _ one _ (λ r. fill_fits k words one r)
    (λ r. either_ok (bytes_eq first (codes "read")) _ _ one _ (λ r. sized_fits Read Bytes k (λ n. tt) (λ a n. tt) words one r)
    (λ r. either_ok (bytes_eq first (codes "wblocks")) _ _ one _ (λ r. given_fits Blocks k words one r)
    (λ r. either_ok (bytes_eq first (codes "rblocks")) _ _ one _ (λ r. sized_fits Read Blocks k (λ n. tt) (λ a n. tt) words one r)
    (λ r. either_ok (bytes_eq first (codes "erase")) _ _ one _ (λ r. sized_fits Erase Blocks k (λ n. tt) (λ a n. refl) words one r)
    (λ r. either_ok (bytes_eq first (codes "flush")) _ _ one _ (λ r. alone_fits k (request_order Flush Bytes 0 0 Nothing k) words one (flush_fits k) r)
    (λ r. alone_fits k (order.Cancel k) words one refl r) r) r) r) r) r) r) is

plain_fits : (first : List ℕ) (k : ℕ) (words : List (List ℕ)) (one : Order) → plain_order first k words ≡ Ok one → IsAimed k one
unfolding plain_order
plain_fits first k words one is = aimed_fits first k words one (else_ok (list_any is_fixed_word words) (aimed_order first k words) Form one is).1

asks_fits : (mark : Option ℕ) (r : Result Order Reason) (one : Line) → ((found : Order) → r ≡ Ok found → IsAimed (medium_of mark) found) → asks mark r ≡ Ok one → IsLine one
asks_fits mark (Ok found) one fits is = rw (← ok_same (Asks found mark) one is) (fits found refl)
asks_fits mark (Err reason) one fits is = absurd (cc)

marked_fits : (first : List ℕ) (words : List (List ℕ)) (one : Line) → aimed_words first words ≡ Ok one → IsLine one
unfolding aimed_words
marked_fits first words one is =
    either_ok (not (is_mark (last_word words))) _ _ one _ (λ r. asks_fits None (plain_order first 1 words) one (λ found f. plain_fits first 1 words found f) r)
    (λ r.
    let (k, read, rest) = next_ok (ok_or (short_number_of (drop 1 (last_word words))) Form) (λ k. asks (Some k) (plain_order first k (take (length words - 1) words))) one r in
    asks_fits (Some k) (plain_order first k (take (length words - 1) words)) one (λ found f. plain_fits first k (take (length words - 1) words) found f) rest) is

protect_fits : (words : List (List ℕ)) (one : Order) → protect_order words ≡ Ok one → IsAimed 1 one
unfolding protect_order
protect_fits (word ∷ []) one is =
    either_ok (bytes_eq word (codes "on")) _ _ one _ (λ r. rw (← ok_same (order.Protect true) one r) tt)
    (λ r. either_ok (bytes_eq word (codes "off")) _ _ one _ (λ r. rw (← ok_same (order.Protect false) one r) tt) (λ r. never_ok _ one _ r) r) is
protect_fits [] one is = absurd (cc)
protect_fits (a ∷ b ∷ more) one is = absurd (cc)

whole_fits : (first : List ℕ) (words : List (List ℕ)) (one : Order) → whole_order first words ≡ Ok one → IsAimed 1 one
unfolding whole_order
whole_fits first words one is =
    either_ok (bytes_eq first (codes "wait")) _ _ one _ (λ r. alone_fits 1 order.Wait words one tt r)
    (λ r. either_ok (bytes_eq first (codes "reset")) _ _ one _ (λ r. alone_fits 1 order.Reset words one tt r)
    (λ r. either_ok (bytes_eq first (codes "eject")) _ _ one _ (λ r. alone_fits 1 order.Eject words one tt r)
    (λ r. either_ok (bytes_eq first (codes "insert")) _ _ one _ (λ r. alone_fits 1 order.Insert words one tt r)
    (λ r. either_ok (bytes_eq first (codes "protect")) _ _ one _ (λ r. protect_fits words one r) (λ r. never_ok _ one _ r) r) r) r) r) is

-- disks, spares and clients
disk_fits : (words : List (List ℕ)) (one : Line) → AreWords words → disk_words words ≡ Ok one → IsLine one
unfolding disk_words
disk_fits (image ∷ size ∷ workers ∷ more) one named is =
    let (plain, rest) = else_ok (list_any is_fixed_word (image ∷ size ∷ workers ∷ [])) _ Form one is in
    let (flags, f, rest) = next_ok (flags_of more) (λ flags. ok_or (number_of size) Number >>= (λ s. ok_or (number_of workers) Number >>= (λ w. Ok (Disk image s w flags)))) one rest in
    let (s, sized, rest) = next_ok (ok_or (number_of size) Number) (λ s. ok_or (number_of workers) Number >>= (λ w. Ok (Disk image s w flags))) one rest in
    let (w, worked, last) = next_ok (ok_or (number_of workers) Number) (λ w. Ok (Disk image s w flags)) one rest in
    rw (← ok_same (Disk image s w flags) one last) (named.0, named.1)
disk_fits [] one named is = absurd (cc)
disk_fits (a ∷ []) one named is = absurd (cc)
disk_fits (a ∷ b ∷ []) one named is = absurd (cc)

spare_fits : (words : List (List ℕ)) (one : Line) → AreWords words → spare_words words ≡ Ok one → IsLine one
unfolding spare_words
spare_fits (image ∷ []) one named is =
    let (plain, last) = else_ok (is_fixed_word image) (Ok (Spare image)) Form one is in
    rw (← ok_same (Spare image) one last) (named.0, named.1)
spare_fits [] one named is = absurd (cc)
spare_fits (a ∷ b ∷ more) one named is = absurd (cc)

client_fits : (words : List (List ℕ)) (one : Line) → client_words words ≡ Ok one → IsLine one
unfolding client_words
client_fits [] one is = rw (← ok_same (Client None) one is) tt
client_fits (word ∷ n ∷ []) one is =
    let (plain, rest) = else_ok (not (bytes_eq word (codes "part") && not (is_fixed_word n))) (ok_or (short_number_of n) Number >>= (λ part. Ok (Client (Some part)))) Form one is in
    let (part, read, last) = next_ok (ok_or (short_number_of n) Number) (λ part. Ok (Client (Some part))) one rest in
    rw (← ok_same (Client (Some part)) one last) tt
client_fits (a ∷ []) one is = absurd (cc)
client_fits (a ∷ b ∷ c ∷ more) one is = absurd (cc)

kind_fits : (first : List ℕ) (words : List (List ℕ)) (one : Line) → AreWords words → line_of_kind first words ≡ Ok one → IsLine one
unfolding line_of_kind
kind_fits first words one named is =
    either_ok (bytes_eq first (codes "disk")) _ _ one _ (λ r. disk_fits words one named r)
    (λ r. either_ok (bytes_eq first (codes "spare")) _ _ one _ (λ r. spare_fits words one named r)
    (λ r. either_ok (bytes_eq first (codes "client")) _ _ one _ (λ r. client_fits words one r)
    (λ r. either_ok (is_aimed first) _ _ one _ (λ r. marked_fits first words one r)
    (λ r. asks_fits None (whole_order first words) one (λ found f. whole_fits first words found f) r) r) r) r) is

words_fit : (words : List (List ℕ)) (one : Line) → AreWords words → line_of_words words ≡ Ok (Some one) → IsLine one
unfolding line_of_words
words_fit [] one named is = absurd (cc)
words_fit (first ∷ words) one named is =
    let (found, f, last) = next_ok (line_of_kind first words) (λ l. Ok (Some l)) (Some one) is in
    let same : found ≡ one = cc in
    rw (← same) (kind_fits first words found named.2 f)

else_some : (b : Bool) (x : Result (Option Line) Reason) (one : Line) → (if b then Ok None else x) ≡ Ok (Some one) → (b ≡ false) × (x ≡ Ok (Some one))
else_some true x one is = absurd (cc)
else_some false x one is = (refl, is)

-- what a line says fits
pub line_fits : (line : List ℕ) (one : Line) → line_of_bytes line ≡ Ok (Some one) → IsLine one
unfolding line_of_bytes
line_fits line one is =
    let (plain, rest) = else_some (is_comment line) (if list_all is_line_byte line then line_of_words (words_of line) else Err Form) one is in
    let (clean, said) = then_ok (list_all is_line_byte line) (line_of_words (words_of line)) Form (Some one) rest in
    words_fit (words_of line) one (words_are_names line clean) said
