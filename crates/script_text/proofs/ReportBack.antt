-- The entries of a report, read back from its text.
use Rattle.std.proofs.Common.{◌≡◌, ℕ, ◌+◌, ◌<◌, Bool, true, false, not, ◌==◌, ◌||◌, List, [], ◌∷◌, ◌++◌, length, reverse, slice_index, decimal, Option, refl, ap, sym, ◌∙◌, append_assoc, arith}
use Rattle.std.specs.Char.{is_ascii_digit}
use Rattle.std.proofs.lemmas.Fmt.{decimal_is_IsNumeral}
use Rattle.std.proofs.lemmas.List.{reverse-append, reverse-reverse, length-reverse}
use Rattle.std.specs.List.{list_all, slice_split}
use Rattle.history.specs.declared.entry.Entry.{Entry}
use Rattle.history.specs.Setup.{per_of, size_of}
use Rattle.history.specs.Marks.{mark_of}
use Rattle.efi_status.specs.declared.Status.{Status}
use Rattle.script_text.specs.declared.report.parts.KeptMedium.{KeptMedium}
use Rattle.script_text.specs.Text.{line_of, lines_text}
use Rattle.script_text.specs.Entries.{line_text, entry_words, entries_text}
use Rattle.script_text.specs.Report.{head_text, token_text, gives_bytes, given_if, tokens_text, medium_text, media_text, body_text, report_text}
use Rattle.script_text.specs.Law.{IsWord64, IsWell, AreWell, ReportsTellEntries}
use Rattle.script_text.proofs.Chains.{both_true}
use Rattle.script_text.proofs.Back.{lacks, is_end, cut_word, decimal_digits, decimal_lacks, lacks_both}
use Rattle.script_text.proofs.EntryBack.{AreWords, spread, line_is, are_words, lines_tell_entries}

-- a line without its line feed
record IsCutLine (line : List ℕ) : Type 0 where
  front : List ℕ
  is : line ≡ front ++ 10 ∷ []
  clean : lacks (λ c. c == 10) front ≡ true

either : (a b : Bool) → b ≡ true → not (a || b) ≡ true → ⊥
either true b second is = cc
either false b second is = let both : not true ≡ true = rw second at is in cc

ten_ends : (c : ℕ) → (c == 10) ≡ true → not ((c == 32) || (c == 10)) ≡ true → ⊥
ten_ends c ten is = either (c == 32) (c == 10) ten is

end_or : (c : ℕ) (b : Bool) → (c == 10) ≡ b → not ((c == 32) || (c == 10)) ≡ true → not (c == 10) ≡ true
end_or c true ten is = absurd (ten_ends c ten is)
end_or c false ten is = ap not ten

no_feed : (w : List ℕ) → lacks is_end w ≡ true → lacks (λ c. c == 10) w ≡ true
no_feed [] is = refl
no_feed (c ∷ w) is =
    let (one, more) = both_true (not (is_end c)) (lacks is_end w) is in
    rw (end_or c (c == 10) refl one, no_feed w more) refl

cut_line : (word : List ℕ) (more : List (List ℕ)) → AreWords (word ∷ more) → IsCutLine (line_of (word ∷ more))
unfolding line_of
cut_line word [] all = record { front = word; is = refl; clean = no_feed word all.0 }
cut_line word (next ∷ more) all =
    let rest : IsCutLine (line_of (next ∷ more)) = cut_line next more all.1 in
    record {
      front = word ++ (32 ∷ rest.front);
      is = ap (λ l. word ++ (32 ∷ l)) rest.is ∙ sym (append_assoc word (32 ∷ rest.front) (10 ∷ []));
      clean = lacks_both (λ c. c == 10) word (32 ∷ rest.front) (no_feed word all.0) rest.clean;
    }

entry_cut : (per place : ℕ) (e : Entry) → IsWord64 per → IsWord64 place → IsWell e → IsCutLine (line_text per place e)
entry_cut per place e few short well = rw (line_is per place e) (cut_line (decimal place) (spread per e) (decimal_lacks place short, are_words per few e well))

-- two texts that begin with a line each
first_of : List (List ℕ) → List ℕ
first_of [] = []
first_of (x ∷ more) = x

same_front : (a b : List ℕ) (s t : List ℕ) → lacks (λ c. c == 10) a ≡ true → lacks (λ c. c == 10) b ≡ true → a ++ 10 ∷ s ≡ b ++ 10 ∷ t → a ≡ b
unfolding first_of
same_front a b s t one two same =
    ap first_of (sym (cut_word (λ c. c == 10) a 10 s one refl) ∙ ap (slice_split (λ c. c == 10)) same ∙ cut_word (λ c. c == 10) b 10 t two refl)

tail_of : List ℕ → List ℕ
tail_of [] = []
tail_of (x ∷ more) = more

same_rest : (a s t : List ℕ) → a ++ s ≡ a ++ t → s ≡ t
unfolding tail_of
same_rest [] s t same = same
same_rest (x ∷ a) s t same = same_rest a s t (ap tail_of same)

feed_behind : (a s : List ℕ) → (a ++ 10 ∷ []) ++ s ≡ a ++ 10 ∷ s
feed_behind a s = append_assoc a (10 ∷ []) s

same_lines : (x y s t : List ℕ) → IsCutLine x → IsCutLine y → x ++ s ≡ y ++ t → x ≡ y
same_lines x y s t one two same =
    let fronts : one.front ≡ two.front =
    same_front one.front two.front s t one.clean two.clean
    (sym (feed_behind one.front s) ∙ ap (λ l. l ++ s) (sym one.is) ∙ same ∙ ap (λ l. l ++ t) two.is ∙ feed_behind two.front t) in
    one.is ∙ ap (λ l. l ++ 10 ∷ []) fronts ∙ sym two.is

-- an entry's line begins with a digit, what follows the entries does not
abbrev starts_with_digit : List ℕ → Bool
starts_with_digit text = is_ascii_digit (slice_index text 0)

front_digit : (w rest : List ℕ) → 0 < length w → list_all is_ascii_digit w ≡ true → starts_with_digit (w ++ rest) ≡ true
front_digit [] rest some digits = absurd (omega arith)
front_digit (c ∷ w) rest some digits = (both_true (is_ascii_digit c) (list_all is_ascii_digit w) digits).0

line_front : (word : List ℕ) (more : List (List ℕ)) → (rest : List ℕ) × (line_of (word ∷ more) ≡ word ++ rest)
unfolding line_of
line_front word [] = (10 ∷ [], refl)
line_front word (next ∷ more) = (32 ∷ line_of (next ∷ more), refl)

line_digit : (per place : ℕ) (e : Entry) (rest : List ℕ) → IsWord64 place → starts_with_digit (line_text per place e ++ rest) ≡ true
unfolding line_text
line_digit per place e rest short =
    let (behind, is) = line_front (decimal place) (entry_words per e) in
    let some : 0 < length (decimal place) = (decimal_is_IsNumeral place short).0.0 in
    ap (λ l. starts_with_digit (l ++ rest)) is
    ∙ ap starts_with_digit (append_assoc (decimal place) behind rest)
    ∙ front_digit (decimal place) (behind ++ rest) some (decimal_digits place short)

media_tail : (id : ℕ) (media : List KeptMedium) → starts_with_digit (lines_text medium_text id media) ≡ false
unfolding lines_text medium_text line_of
media_tail id [] = refl
media_tail id (medium ∷ more) = refl

tokens_tail : (mark : ℕ → Option Status) (gives : ℕ → Bool) (t : ℕ) (given : List (Option (List ℕ))) (media : List KeptMedium) → starts_with_digit (lines_text (λ u bytes. token_text u (mark u) (given_if (gives u) bytes)) t given ++ lines_text medium_text 1 media) ≡ false
unfolding lines_text token_text line_of
tokens_tail mark gives t [] media = media_tail 1 media
tokens_tail mark gives t (one ∷ more) media = refl

true_false : (b : Bool) → b ≡ true → b ≡ false → ⊥
true_false b is isnt = let same : true ≡ false = sym is ∙ isnt in cc

-- the entries of two texts
same_entries : (per p : ℕ) (es fs : List Entry) (s t : List ℕ) → IsWord64 per → IsWord64 (p + length es) → IsWord64 (p + length fs) → AreWell es → AreWell fs → starts_with_digit s ≡ false → starts_with_digit t ≡ false → lines_text (line_text per) p es ++ s ≡ lines_text (line_text per) p fs ++ t → es ≡ fs
unfolding lines_text
same_entries per p [] [] s t few n m one two first second same = refl
same_entries per p [] (f ∷ fs) s t few n m one two first second same =
    let short : IsWord64 p = omega arith in
    let digit : starts_with_digit s ≡ true = ap starts_with_digit (same ∙ append_assoc (line_text per p f) (lines_text (line_text per) (p + 1) fs) t) ∙ line_digit per p f (lines_text (line_text per) (p + 1) fs ++ t) short in
    absurd (true_false (starts_with_digit s) digit first)
same_entries per p (e ∷ es) [] s t few n m one two first second same =
    let short : IsWord64 p = omega arith in
    let digit : starts_with_digit t ≡ true = ap starts_with_digit (sym same ∙ append_assoc (line_text per p e) (lines_text (line_text per) (p + 1) es) s) ∙ line_digit per p e (lines_text (line_text per) (p + 1) es ++ s) short in
    absurd (true_false (starts_with_digit t) digit second)
same_entries per p (e ∷ es) (f ∷ fs) s t few n m one two first second same =
    let short : IsWord64 p = omega arith in
    let es_short : IsWord64 (p + 1 + length es) = omega arith in
    let fs_short : IsWord64 (p + 1 + length fs) = omega arith in
    let apart : line_text per p e ++ (lines_text (line_text per) (p + 1) es ++ s) ≡ line_text per p f ++ (lines_text (line_text per) (p + 1) fs ++ t) =
    sym (append_assoc (line_text per p e) (lines_text (line_text per) (p + 1) es) s) ∙ same ∙ append_assoc (line_text per p f) (lines_text (line_text per) (p + 1) fs) t in
    let lines : line_text per p e ≡ line_text per p f =
    same_lines (line_text per p e) (line_text per p f) (lines_text (line_text per) (p + 1) es ++ s) (lines_text (line_text per) (p + 1) fs ++ t) (entry_cut per p e few short one.0) (entry_cut per p f few short two.0) apart in
    let rest : lines_text (line_text per) (p + 1) es ++ s ≡ lines_text (line_text per) (p + 1) fs ++ t =
    same_rest (line_text per p f) (lines_text (line_text per) (p + 1) es ++ s) (lines_text (line_text per) (p + 1) fs ++ t) (ap (λ l. l ++ (lines_text (line_text per) (p + 1) es ++ s)) (sym lines) ∙ apart) in
    let here : e ≡ f = lines_tell_entries per p e f few short one.0 two.0 lines in
    let more : es ≡ fs = same_entries per (p + 1) es fs s t few es_short fs_short one.1 two.1 first second rest in
    ap (λ x. x ∷ es) here ∙ ap (λ l. f ∷ l) more

well_both : (es fs : List Entry) → AreWell es → AreWell fs → AreWell (es ++ fs)
well_both [] fs one two = two
well_both (e ∷ es) fs one two = (one.0, well_both es fs one.1 two)

well_reversed : (es : List Entry) → AreWell es → AreWell (reverse es)
well_reversed [] all = tt
well_reversed (e ∷ es) all =
    let split : reverse (e ∷ es) ≡ reverse es ++ (e ∷ []) = reverse-append (e ∷ []) es in
    rw split (well_both (reverse es) (e ∷ []) (well_reversed es all.1) (all.0, tt))

pub reports_tell_entries : ReportsTellEntries
unfolding report_text body_text
reports_tell_entries number blocks image S H H' given given' media media' few n m one two same =
    let bodies : entries_text (per_of S) (reverse H) ++ (tokens_text S H given ++ media_text media) ≡ entries_text (per_of S) (reverse H') ++ (tokens_text S H' given' ++ media_text media') =
    same_rest (head_text number image (size_of S) blocks (per_of S)) _ _ same in
    let count : IsWord64 (0 + length (reverse H)) = omega (arith, length-reverse H) in
    let count' : IsWord64 (0 + length (reverse H')) = omega (arith, length-reverse H') in
    let turned : reverse H ≡ reverse H' =
    same_entries (per_of S) 0 (reverse H) (reverse H') _ _ few count count' (well_reversed H one) (well_reversed H' two) (tokens_tail (mark_of S H) (gives_bytes S H) 0 given media) (tokens_tail (mark_of S H') (gives_bytes S H') 0 given' media') bodies in
    sym (reverse-reverse H) ∙ ap reverse turned ∙ reverse-reverse H'
