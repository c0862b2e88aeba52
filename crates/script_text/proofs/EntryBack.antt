-- Entries, read back from their lines.
use Rattle.std.proofs.Common.{◌≡◌, ℕ, true, false, if◌then◌else◌, List, [], ◌∷◌, ◌++◌, bytes_eq, codes, decimal, Option, None, Some, refl, ap, sym, ◌∙◌, append_assoc}
use Rattle.std.specs.List.{slice_split}
use Rattle.std.specs.Option.{option_and_then}
use Rattle.efi_status.specs.declared.Status.{Status}
use Rattle.efi_status.specs.declared.Status.TheVariants.{Success, InvalidParameter, BadBufferSize, DeviceError, WriteProtected, OutOfResources, NoMedia, MediaChanged, Aborted}
use Rattle.efi_status.specs.StatusTable.{name_of}
use Rattle.history.specs.declared.entry.View.{View}
use Rattle.history.specs.declared.entry.Kind.{Kind}
use Rattle.history.specs.declared.entry.Kind.TheVariants.{Read, Write, Flush, Erase}
use Rattle.history.specs.declared.entry.UnitKind.{UnitKind}
use Rattle.history.specs.declared.entry.UnitKind.TheVariants.{Bytes, Blocks}
use Rattle.history.specs.declared.entry.Asked.{Asked}
use Rattle.history.specs.declared.entry.Command.TheVariants.{Fetch, Store, Put, Get, Wipe, Sync}
use Rattle.history.specs.declared.entry.Entry.{Entry}
use Rattle.history.specs.declared.entry.Entry.TheVariants.{Accept, Refuse, Done, Fault, Collect, Cancel, Reset, Eject, Insert, Protect}
use Rattle.script_text.specs.Words.{number_of, hex_of}
use Rattle.script_text.specs.Text.{line_of, hex_text, view_text, asked_text, kind_text, unit_text}
use Rattle.script_text.specs.Entries.{line_text, entry_words, accepted_words, done_words, failed_words, switch_text}
use Rattle.script_text.specs.Law.{IsWord64, IsShortAsked, AsksWell, IsWell, LinesTellEntries}
use Rattle.script_text.proofs.Back.{lacks, is_end, cut_word, number_back, decimal_lacks, with_number, read_view, view_back, view_lacks, hex_back, hex_lacks}

-- the words of what was asked
abbrev asked_words : Asked → List (List ℕ) → List (List ℕ)
asked_words asked more = kind_text asked.kind ∷ unit_text asked.unit ∷ decimal asked.at ∷ decimal asked.length ∷ more

abbrev accepted_spread : Kind → Asked → List ℕ → List (List ℕ)
accepted_spread Read asked bytes = asked_words asked []
accepted_spread Write asked bytes = asked_words asked (hex_text bytes ∷ [])
accepted_spread Erase asked bytes = asked_words asked []
accepted_spread Flush asked bytes = codes "flush" ∷ []

-- the words of an entry, one by one
unfoldable pub spread : ℕ → Entry → List (List ℕ)
spread per (Accept tag view asked bytes) = codes "accept" ∷ decimal tag ∷ view_text view ∷ accepted_spread asked.kind asked bytes
spread per (Refuse tag view asked media_id status) = codes "refuse" ∷ decimal tag ∷ view_text view ∷ asked_words asked (decimal media_id ∷ name_of status ∷ [])
spread per (Done token command) = done_words token command
spread per (Fault token command done) = codes "fault" ∷ decimal token ∷ failed_words per command done
spread per (Collect tag token) = codes "collect" ∷ decimal tag ∷ decimal token ∷ []
spread per (Cancel tag view) = codes "cancel" ∷ decimal tag ∷ view_text view ∷ []
spread per (Reset tag) = codes "reset" ∷ decimal tag ∷ []
spread per (Eject tag) = codes "eject" ∷ decimal tag ∷ []
spread per (Insert tag media_id) = codes "insert" ∷ decimal tag ∷ decimal media_id ∷ []
spread per (Protect tag on) = codes "protect" ∷ decimal tag ∷ switch_text on ∷ []

asked_spread : (asked : Asked) (more : List (List ℕ)) → line_of (asked_text asked ∷ more) ≡ line_of (asked_words asked more)
unfolding line_of asked_text
asked_spread asked [] = simp append_assoc refl
asked_spread asked (word ∷ more) = simp append_assoc refl

accepted_line : (k : Kind) (asked : Asked) (bytes : List ℕ) (a b c d : List ℕ) → line_of (a ∷ b ∷ c ∷ d ∷ accepted_words k asked bytes) ≡ line_of (a ∷ b ∷ c ∷ d ∷ accepted_spread k asked bytes)
unfolding line_of
accepted_line Read asked bytes a b c d = ap (λ t. a ++ (32 ∷ (b ++ (32 ∷ (c ++ (32 ∷ (d ++ (32 ∷ t)))))))) (asked_spread asked [])
accepted_line Write asked bytes a b c d = ap (λ t. a ++ (32 ∷ (b ++ (32 ∷ (c ++ (32 ∷ (d ++ (32 ∷ t)))))))) (asked_spread asked (hex_text bytes ∷ []))
accepted_line Erase asked bytes a b c d = ap (λ t. a ++ (32 ∷ (b ++ (32 ∷ (c ++ (32 ∷ (d ++ (32 ∷ t)))))))) (asked_spread asked [])
accepted_line Flush asked bytes a b c d = refl

refused_line : (asked : Asked) (more : List (List ℕ)) (a b c d : List ℕ) → line_of (a ∷ b ∷ c ∷ d ∷ asked_text asked ∷ more) ≡ line_of (a ∷ b ∷ c ∷ d ∷ asked_words asked more)
unfolding line_of
refused_line asked more a b c d = ap (λ t. a ++ (32 ∷ (b ++ (32 ∷ (c ++ (32 ∷ (d ++ (32 ∷ t)))))))) (asked_spread asked more)

pub line_is : (per place : ℕ) (e : Entry) → line_text per place e ≡ line_of (decimal place ∷ spread per e)
unfolding line_text entry_words spread
line_is per place (Accept tag view asked bytes) = accepted_line asked.kind asked bytes (decimal place) (codes "accept") (decimal tag) (view_text view)
line_is per place (Refuse tag view asked media_id status) = refused_line asked (decimal media_id ∷ name_of status ∷ []) (decimal place) (codes "refuse") (decimal tag) (view_text view)
line_is per place (Done token command) = refl
line_is per place (Fault token command done) = refl
line_is per place (Collect tag token) = refl
line_is per place (Cancel tag view) = refl
line_is per place (Reset tag) = refl
line_is per place (Eject tag) = refl
line_is per place (Insert tag media_id) = refl
line_is per place (Protect tag on) = refl

-- words without a space and a line feed
abbrev pub AreWords : List (List ℕ) → Type 0
AreWords [] = Unit {0}
AreWords (word ∷ more) = (lacks is_end word ≡ true) × AreWords more

line_cut : (word : List ℕ) (more : List (List ℕ)) → AreWords (word ∷ more) → slice_split is_end (line_of (word ∷ more)) ≡ (word ∷ more) ++ ([] ∷ [])
unfolding line_of
line_cut word [] all = cut_word is_end word 10 [] all.0 refl
line_cut word (next ∷ more) all = cut_word is_end word 32 (line_of (next ∷ more)) all.0 refl ∙ ap (λ l. word ∷ l) (line_cut next more all.1)

name_lacks : (s : Status) → lacks is_end (name_of s) ≡ true
name_lacks Success = refl
name_lacks InvalidParameter = refl
name_lacks BadBufferSize = refl
name_lacks DeviceError = refl
name_lacks WriteProtected = refl
name_lacks OutOfResources = refl
name_lacks NoMedia = refl
name_lacks MediaChanged = refl
name_lacks Aborted = refl

kind_lacks : (k : Kind) → lacks is_end (kind_text k) ≡ true
unfolding kind_text
kind_lacks Read = refl
kind_lacks Write = refl
kind_lacks Flush = refl
kind_lacks Erase = refl

unit_lacks : (u : UnitKind) → lacks is_end (unit_text u) ≡ true
unfolding unit_text
unit_lacks Bytes = refl
unit_lacks Blocks = refl

asked_are_words : (asked : Asked) (more : List (List ℕ)) → IsShortAsked asked → AreWords more → AreWords (asked_words asked more)
asked_are_words asked more s rest = (kind_lacks asked.kind, (unit_lacks asked.unit, (decimal_lacks asked.at s.at, (decimal_lacks asked.length s.length, rest))))

accepted_are_words : (k : Kind) (asked : Asked) (bytes : List ℕ) → IsShortAsked asked → AreWords (accepted_spread k asked bytes)
accepted_are_words Read asked bytes s = asked_are_words asked [] s tt
accepted_are_words Write asked bytes s = asked_are_words asked (hex_text bytes ∷ []) s (hex_lacks bytes, tt)
accepted_are_words Erase asked bytes s = asked_are_words asked [] s tt
accepted_are_words Flush asked bytes s = (refl, tt)

pub are_words : (per : ℕ) → IsWord64 per → (e : Entry) → IsWell e → AreWords (spread per e)
unfolding spread
are_words per few (Accept tag view asked bytes) well = (refl, (decimal_lacks tag well.0, (view_lacks view well.1, accepted_are_words asked.kind asked bytes well.2)))
are_words per few (Refuse tag view asked media_id status) well = (refl, (decimal_lacks tag well.0, (view_lacks view well.1, asked_are_words asked (decimal media_id ∷ name_of status ∷ []) well.2 (decimal_lacks media_id well.3, (name_lacks status, tt)))))
are_words per few (Done token (Fetch block)) well = (refl, (decimal_lacks token well.0, (decimal_lacks block well.1, tt)))
are_words per few (Done token (Store block)) well = (refl, (decimal_lacks token well.0, (decimal_lacks block well.1, tt)))
are_words per few (Done token (Put block count)) well = (refl, (decimal_lacks token well.0, (decimal_lacks block well.1.0, (decimal_lacks count well.1.1, tt))))
are_words per few (Done token (Get block count)) well = (refl, (decimal_lacks token well.0, (decimal_lacks block well.1.0, (decimal_lacks count well.1.1, tt))))
are_words per few (Done token (Wipe block count)) well = (refl, (decimal_lacks token well.0, (decimal_lacks block well.1.0, (decimal_lacks count well.1.1, tt))))
are_words per few (Done token Sync) well = (refl, (decimal_lacks token well.0, tt))
are_words per few (Fault token (Fetch block) done) well = (refl, (decimal_lacks token well.0, (refl, (decimal_lacks block well.1, (decimal_lacks per few, (decimal_lacks done well.2, tt))))))
are_words per few (Fault token (Store block) done) well = (refl, (decimal_lacks token well.0, (refl, (decimal_lacks block well.1, (decimal_lacks per few, (decimal_lacks done well.2, tt))))))
are_words per few (Fault token (Put block count) done) well = (refl, (decimal_lacks token well.0, (refl, (decimal_lacks block well.1.0, (decimal_lacks count well.1.1, (decimal_lacks done well.2, tt))))))
are_words per few (Fault token (Get block count) done) well = (refl, (decimal_lacks token well.0, (refl, (decimal_lacks block well.1.0, (decimal_lacks count well.1.1, (decimal_lacks done well.2, tt))))))
are_words per few (Fault token (Wipe block count) done) well = (refl, (decimal_lacks token well.0, (refl, (decimal_lacks block well.1.0, (decimal_lacks count well.1.1, (decimal_lacks done well.2, tt))))))
are_words per few (Fault token Sync done) well = (refl, (decimal_lacks token well.0, (refl, (refl, (refl, (decimal_lacks done well.2, tt))))))
are_words per few (Collect tag token) well = (refl, (decimal_lacks tag well.0, (decimal_lacks token well.1, tt)))
are_words per few (Cancel tag view) well = (refl, (decimal_lacks tag well.0, (view_lacks view well.1, tt)))
are_words per few (Reset tag) well = (refl, (decimal_lacks tag well, tt))
are_words per few (Eject tag) well = (refl, (decimal_lacks tag well, tt))
are_words per few (Insert tag media_id) well = (refl, (decimal_lacks tag well.0, (decimal_lacks media_id well.1, tt)))
are_words per few (Protect tag true) well = (refl, (decimal_lacks tag well, (refl, tt)))
are_words per few (Protect tag false) well = (refl, (decimal_lacks tag well, (refl, tt)))

without_last : List (List ℕ) → List (List ℕ)
without_last [] = []
without_last (x ∷ []) = []
without_last (x ∷ y ∷ more) = x ∷ without_last (y ∷ more)

all_but_last : (words : List (List ℕ)) → without_last (words ++ ([] ∷ [])) ≡ words
unfolding without_last
all_but_last [] = refl
all_but_last (x ∷ []) = refl
all_but_last (x ∷ y ∷ more) = ap (λ l. x ∷ l) (all_but_last (y ∷ more))

-- the text tells the words
words_told : (per place : ℕ) (e : Entry) → IsWord64 per → IsWord64 place → IsWell e → without_last (slice_split is_end (line_text per place e)) ≡ decimal place ∷ spread per e
words_told per place e few short well =
    ap (λ t. without_last (slice_split is_end t)) (line_is per place e)
    ∙ ap without_last (line_cut (decimal place) (spread per e) (decimal_lacks place short, are_words per few e well))
    ∙ all_but_last (decimal place ∷ spread per e)

-- a word back to what it names
abbrev named : {A : Type 0} → List ℕ → List ℕ → A → Option A → Option A
named word name value other = if bytes_eq word name then Some value else other

kind_of : List ℕ → Option Kind
kind_of w = named w (codes "read") Read (named w (codes "write") Write (named w (codes "flush") Flush (named w (codes "erase") Erase None)))

kind_back : (k : Kind) → kind_of (kind_text k) ≡ Some k
unfolding kind_of kind_text
kind_back Read = refl
kind_back Write = refl
kind_back Flush = refl
kind_back Erase = refl

unit_of : List ℕ → Option UnitKind
unit_of w = named w (codes "bytes") Bytes (named w (codes "blocks") Blocks None)

unit_back : (u : UnitKind) → unit_of (unit_text u) ≡ Some u
unfolding unit_of unit_text
unit_back Bytes = refl
unit_back Blocks = refl

status_of : List ℕ → Option Status
status_of w =
    named w (name_of Success) Success (named w (name_of InvalidParameter) InvalidParameter (named w (name_of BadBufferSize) BadBufferSize
    (named w (name_of DeviceError) DeviceError (named w (name_of WriteProtected) WriteProtected (named w (name_of OutOfResources) OutOfResources
    (named w (name_of NoMedia) NoMedia (named w (name_of MediaChanged) MediaChanged (named w (name_of Aborted) Aborted None))))))))

status_back : (s : Status) → status_of (name_of s) ≡ Some s
unfolding status_of
status_back Success = refl
status_back InvalidParameter = refl
status_back BadBufferSize = refl
status_back DeviceError = refl
status_back WriteProtected = refl
status_back OutOfResources = refl
status_back NoMedia = refl
status_back MediaChanged = refl
status_back Aborted = refl

abbrev with_asked : {A : Type 0} → List ℕ → List ℕ → List ℕ → List ℕ → (Asked → Option A) → Option A
with_asked k u a n f =
    option_and_then (λ kind. option_and_then (λ units. with_number a (λ at. with_number n (λ count. f (record { kind = kind; unit = units; at = at; length = count })))) (unit_of u)) (kind_of k)

asked_back : {A : Type 0} (asked : Asked) (f : Asked → Option A) → IsShortAsked asked → with_asked (kind_text asked.kind) (unit_text asked.unit) (decimal asked.at) (decimal asked.length) f ≡ f asked
asked_back asked f s = rw (kind_back asked.kind, unit_back asked.unit, number_back asked.at s.at, number_back asked.length s.length) refl

abbrev with_view : {A : Type 0} → List ℕ → (View → Option A) → Option A
with_view w f = option_and_then f (read_view w)

flush_is : (asked : Asked) → asked.kind ≡ Flush → asked.unit ≡ Bytes → asked.at ≡ 0 → asked.length ≡ 0 → record { kind = Flush; unit = Bytes; at = 0; length = 0 } ≡ asked
flush_is asked kind units at count =
    ap (λ k. record { kind = k; unit = Bytes; at = 0; length = 0 }) (sym kind)
    ∙ ap (λ u. record { kind = asked.kind; unit = u; at = 0; length = 0 }) (sym units)
    ∙ ap (λ a. record { kind = asked.kind; unit = asked.unit; at = a; length = 0 }) (sym at)
    ∙ ap (λ n. record { kind = asked.kind; unit = asked.unit; at = asked.at; length = n }) (sym count)

accepted_of : ℕ → View → List (List ℕ) → Option Entry
accepted_of tag view (flush ∷ []) = Some (Accept tag view (record { kind = Flush; unit = Bytes; at = 0; length = 0 }) [])
accepted_of tag view (k ∷ u ∷ a ∷ n ∷ []) = with_asked k u a n (λ asked. Some (Accept tag view asked []))
accepted_of tag view (k ∷ u ∷ a ∷ n ∷ h ∷ []) = with_asked k u a n (λ asked. option_and_then (λ bytes. Some (Accept tag view asked bytes)) (hex_of h))
accepted_of tag view words = None

accepted_back : (k : Kind) (tag : ℕ) (view : View) (asked : Asked) (bytes : List ℕ) → asked.kind ≡ k → IsShortAsked asked → AsksWell k asked bytes → accepted_of tag view (accepted_spread k asked bytes) ≡ Some (Accept tag view asked bytes)
unfolding accepted_of
accepted_back Read tag view asked bytes is s well = asked_back asked (λ a. Some (Accept tag view a [])) s ∙ ap (λ b. Some (Accept tag view asked b)) (sym well)
accepted_back Write tag view asked bytes is s well =
    asked_back asked (λ a. option_and_then (λ b. Some (Accept tag view a b)) (hex_of (hex_text bytes))) s
    ∙ ap (λ o. option_and_then (λ b. Some (Accept tag view asked b)) o) (hex_back bytes well)
accepted_back Erase tag view asked bytes is s well = asked_back asked (λ a. Some (Accept tag view a [])) s ∙ ap (λ b. Some (Accept tag view asked b)) (sym well)
accepted_back Flush tag view asked bytes is s well =
    let same : record { kind = Flush; unit = Bytes; at = 0; length = 0 } ≡ asked = flush_is asked is well.0 well.1 well.2 in
    ap (λ a. Some (Accept tag view a [])) same ∙ ap (λ b. Some (Accept tag view asked b)) (sym well.3)

done_of : List ℕ → List (List ℕ) → Option Entry
done_of w (t ∷ []) = with_number t (λ token. Some (Done token Sync))
done_of w (t ∷ b ∷ []) = with_number t (λ token. with_number b (λ block. named w (codes "fetch") (Done token (Fetch block)) (Some (Done token (Store block)))))
done_of w (t ∷ b ∷ n ∷ []) = with_number t (λ token. with_number b (λ block. with_number n (λ count. named w (codes "put") (Done token (Put block count)) (named w (codes "get") (Done token (Get block count)) (Some (Done token (Wipe block count)))))))
done_of w words = None

failed_of : List (List ℕ) → Option Entry
failed_of (t ∷ w ∷ b ∷ n ∷ d ∷ []) =
    with_number t (λ token. with_number d (λ done. with_number b (λ block. with_number n (λ count.
    named w (codes "fetch") (Fault token (Fetch block) done) (named w (codes "store") (Fault token (Store block) done)
    (named w (codes "put") (Fault token (Put block count) done) (named w (codes "get") (Fault token (Get block count) done) (named w (codes "wipe") (Fault token (Wipe block count) done) (Some (Fault token Sync done))))))))))
failed_of words = None

refused_of : List (List ℕ) → Option Entry
refused_of (t ∷ v ∷ k ∷ u ∷ a ∷ n ∷ m ∷ s ∷ []) =
    with_number t (λ tag. with_view v (λ view. with_asked k u a n (λ asked. with_number m (λ id. option_and_then (λ status. Some (Refuse tag view asked id status)) (status_of s)))))
refused_of words = None

accept_of : List (List ℕ) → Option Entry
accept_of (t ∷ v ∷ more) = with_number t (λ tag. with_view v (λ view. accepted_of tag view more))
accept_of words = None

one_of : List ℕ → List (List ℕ) → Option Entry
one_of w (t ∷ []) = with_number t (λ tag. named w (codes "reset") (Reset tag) (Some (Eject tag)))
one_of w words = None

collect_of : List (List ℕ) → Option Entry
collect_of (t ∷ n ∷ []) = with_number t (λ tag. with_number n (λ token. Some (Collect tag token)))
collect_of words = None

cancel_of : List (List ℕ) → Option Entry
cancel_of (t ∷ v ∷ []) = with_number t (λ tag. with_view v (λ view. Some (Cancel tag view)))
cancel_of words = None

insert_of : List (List ℕ) → Option Entry
insert_of (t ∷ m ∷ []) = with_number t (λ tag. with_number m (λ id. Some (Insert tag id)))
insert_of words = None

protect_of : List (List ℕ) → Option Entry
protect_of (t ∷ s ∷ []) = with_number t (λ tag. named s (codes "on") (Protect tag true) (Some (Protect tag false)))
protect_of words = None

entry_of : List (List ℕ) → Option Entry
entry_of (place ∷ w ∷ more) =
    if bytes_eq w (codes "accept") then accept_of more
    else if bytes_eq w (codes "refuse") then refused_of more
    else if bytes_eq w (codes "fault") then failed_of more
    else if bytes_eq w (codes "collect") then collect_of more
    else if bytes_eq w (codes "cancel") then cancel_of more
    else if bytes_eq w (codes "insert") then insert_of more
    else if bytes_eq w (codes "protect") then protect_of more
    else if bytes_eq w (codes "reset") then one_of w more
    else if bytes_eq w (codes "eject") then one_of w more
    else done_of w more
entry_of words = None

zero_back : number_of (codes "0") ≡ Some 0
unfolding number_of
zero_back = refl

-- an entry is read back from its words
entry_back : (per place : ℕ) → IsWord64 per → (e : Entry) → IsWell e → entry_of (decimal place ∷ spread per e) ≡ Some e
unfolding entry_of spread accept_of refused_of failed_of collect_of cancel_of insert_of protect_of one_of done_of
entry_back per place few (Accept tag view asked bytes) well = rw (number_back tag well.0, view_back view well.1) (accepted_back asked.kind tag view asked bytes refl well.2 well.3)
entry_back per place few (Refuse tag view asked media_id status) well =
    rw (number_back tag well.0, view_back view well.1)
    (asked_back asked (λ a. with_number (decimal media_id) (λ id. option_and_then (λ s. Some (Refuse tag view a id s)) (status_of (name_of status)))) well.2
    ∙ rw (number_back media_id well.3, status_back status) refl)
entry_back per place few (Done token (Fetch block)) well = rw (number_back token well.0, number_back block well.1) refl
entry_back per place few (Done token (Store block)) well = rw (number_back token well.0, number_back block well.1) refl
entry_back per place few (Done token (Put block count)) well = rw (number_back token well.0, number_back block well.1.0, number_back count well.1.1) refl
entry_back per place few (Done token (Get block count)) well = rw (number_back token well.0, number_back block well.1.0, number_back count well.1.1) refl
entry_back per place few (Done token (Wipe block count)) well = rw (number_back token well.0, number_back block well.1.0, number_back count well.1.1) refl
entry_back per place few (Done token Sync) well = rw (number_back token well.0) refl
entry_back per place few (Fault token (Fetch block) done) well = rw (number_back token well.0, number_back done well.2, number_back block well.1, number_back per few) refl
entry_back per place few (Fault token (Store block) done) well = rw (number_back token well.0, number_back done well.2, number_back block well.1, number_back per few) refl
entry_back per place few (Fault token (Put block count) done) well = rw (number_back token well.0, number_back done well.2, number_back block well.1.0, number_back count well.1.1) refl
entry_back per place few (Fault token (Get block count) done) well = rw (number_back token well.0, number_back done well.2, number_back block well.1.0, number_back count well.1.1) refl
entry_back per place few (Fault token (Wipe block count) done) well = rw (number_back token well.0, number_back done well.2, number_back block well.1.0, number_back count well.1.1) refl
entry_back per place few (Fault token Sync done) well = rw (number_back token well.0, number_back done well.2, zero_back) refl
entry_back per place few (Collect tag token) well = rw (number_back tag well.0, number_back token well.1) refl
entry_back per place few (Cancel tag view) well = rw (number_back tag well.0, view_back view well.1) refl
entry_back per place few (Reset tag) well = rw (number_back tag well) refl
entry_back per place few (Eject tag) well = rw (number_back tag well) refl
entry_back per place few (Insert tag media_id) well = rw (number_back tag well.0, number_back media_id well.1) refl
entry_back per place few (Protect tag true) well = rw (number_back tag well) refl
entry_back per place few (Protect tag false) well = rw (number_back tag well) refl

same_entry : (e f : Entry) → ◌≡◌ {A = Option Entry} (Some e) (Some f) → e ≡ f
same_entry e f is = cc

pub lines_tell_entries : LinesTellEntries
lines_tell_entries per place e f few short one two same =
    same_entry e f
    (sym (entry_back per place few e one)
    ∙ ap entry_of (sym (words_told per place e few short one) ∙ ap (λ t. without_last (slice_split is_end t)) same ∙ words_told per place f few short two)
    ∙ entry_back per place few f two)
