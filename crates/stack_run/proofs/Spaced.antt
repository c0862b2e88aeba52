-- Lines of words with one space between them, and a text that has been read so far.
use Rattle.std.proofs.Common.{◌≡◌, ℕ, zero, suc, ◌+◌, ◌-◌, ◌<◌, Bool, true, false, not, ◌==◌, ◌&&◌, List, [], ◌∷◌, ◌++◌, length, get_or, filter, refl, ap, sym, ◌∙◌, append_assoc, Some, Ok, arith}
use Rattle.std.specs.List.{slice_split, list_all}
use Rattle.std.specs.Str.Lines.{strip_carriage_return}
use Rattle.std.proofs.lemmas.Bool.Decides.{nat_tests}
use Rattle.std.proofs.lemmas.List.Folds.{list_all-append}
use Rattle.script_text.specs.declared.language.line.Line.{Line}
use Rattle.script_text.specs.declared.language.plans.DiskPlan.{DiskPlan}
use Rattle.script_text.specs.Fitting.{is_name_byte}
use Rattle.script_text.specs.OneLine.{is_one_line}
use Rattle.script_text.specs.Planned.{plans_behind}
use Rattle.script_text.specs.Text.{line_of}
use Rattle.script_text.specs.Whole.{line_says, lines_say}
use Rattle.script_text.specs.Wording.{line_of_kind, line_of_words, line_of_bytes}
use Rattle.script_text.specs.Words.{lines_of, words_of, is_comment, is_line_byte}
use Rattle.script_text.proofs.Back.{cut_word, last_word, lacks}
use Rattle.script_text.proofs.Chains.{both_true}
use Rattle.script_text.proofs.Pieces.{ended_said}

-- a word: printable bytes, and none of them a space
pub record IsWord (w : List ℕ) : Type 0 where
  pub some : 0 < length w
  pub clean : list_all is_name_byte w ≡ true

abbrev pub AreWords : List (List ℕ) → Type 0
AreWords [] = Unit {0}
AreWords (w ∷ more) = IsWord w × AreWords more

-- words with one space (32) between them
abbrev pub spaced : List ℕ → List (List ℕ) → List ℕ
spaced w [] = w
spaced w (next ∷ more) = w ++ (32 ∷ spaced next more)

pub line-spaced : (w : List ℕ) (more : List (List ℕ)) → line_of (w ∷ more) ≡ spaced w more ++ 10 ∷ []
unfolding line_of
line-spaced w [] = refl
line-spaced w (next ∷ more) = ap (λ l. w ++ (32 ∷ l)) (line-spaced next more) ∙ sym (append_assoc w (32 ∷ spaced next more) (10 ∷ []))

-- a test that is weaker
pub weaker : (p q : ℕ → Bool) → ((b : ℕ) → p b ≡ true → q b ≡ true) → (l : List ℕ) → list_all p l ≡ true → list_all q l ≡ true
weaker p q holds [] all = refl
weaker p q holds (b ∷ l) all =
    let (one, rest) = both_true (p b) (list_all p l) all in
    rw (holds b one, weaker p q holds l rest) refl

word-no-space : (b : ℕ) → is_name_byte b ≡ true → not (b == 32) ≡ true
word-no-space b is = grind (arith, nat_tests)

word-in-line : (b : ℕ) → is_name_byte b ≡ true → is_line_byte b ≡ true
word-in-line b is = grind (arith, nat_tests)

line-no-feed : (b : ℕ) → is_line_byte b ≡ true → not (b == 10) ≡ true
line-no-feed b is = grind (arith, nat_tests)

line-no-return : (b : ℕ) → is_line_byte b ≡ true → (b == 13) ≡ false
line-no-return b is = grind (arith, nat_tests)

word-lacks : (w : List ℕ) → IsWord w → lacks (λ b. b == 32) w ≡ true
word-lacks w word = weaker is_name_byte (λ b. not (b == 32)) word-no-space w word.clean

word-kept : (n : ℕ) → 0 < n → not (n == 0) ≡ true
word-kept n some = grind (arith, nat_tests)

pub words-spaced : (w : List ℕ) (more : List (List ℕ)) → IsWord w → AreWords more → words_of (spaced w more) ≡ w ∷ more
unfolding words_of
words-spaced w [] word rest = rw (last_word (λ b. b == 32) w (word-lacks w word), word-kept (length w) word.some) refl
words-spaced w (next ∷ more) word rest =
    rw (cut_word (λ b. b == 32) w 32 (spaced next more) (word-lacks w word) refl, word-kept (length w) word.some)
    (ap (λ l. w ∷ l) (words-spaced next more rest.0 rest.1))

pub line-clean : (w : List ℕ) (more : List (List ℕ)) → IsWord w → AreWords more → list_all is_line_byte (spaced w more) ≡ true
line-clean w [] word rest = weaker is_name_byte is_line_byte word-in-line w word.clean
line-clean w (next ∷ more) word rest =
    rw (list_all-append is_line_byte w (32 ∷ spaced next more), weaker is_name_byte is_line_byte word-in-line w word.clean)
    (line-clean next more rest.0 rest.1)

at-byte : (l : List ℕ) (k : ℕ) → list_all is_line_byte l ≡ true → (get_or l k 0 == 13) ≡ false
at-byte [] k clean = refl
at-byte (b ∷ l) zero clean = line-no-return b (both_true (is_line_byte b) (list_all is_line_byte l) clean).0
at-byte (b ∷ l) (suc k) clean = at-byte l k (both_true (is_line_byte b) (list_all is_line_byte l) clean).1

no-return : (l : List ℕ) → list_all is_line_byte l ≡ true → strip_carriage_return l ≡ l
no-return l clean = rw (at-byte l (length l - 1) clean) refl

-- a line of words says what the words say
pub line-says : (w : List ℕ) (more : List (List ℕ)) (one : Line) → IsWord w → AreWords more → is_comment (spaced w more) ≡ false → line_of_kind w more ≡ Ok one → line_of_bytes (spaced w more) ≡ Ok (Some one)
unfolding line_of_bytes line_of_words
line-says w more one word rest comment kind = rw (comment, line-clean w more word rest, words-spaced w more word rest, kind) refl

-- whatever follows, the text says first what led to these plans, and the line that comes next has this number
pub record ReadsPlans (text : List ℕ) (n : ℕ) (plans : List DiskPlan) : Type 0 where
  pub said : (more : List ℕ) → lines_say 1 [] (lines_of (text ++ more)) ≡ lines_say n plans (lines_of more)

-- a line more
pub reads-line : (text : List ℕ) (n : ℕ) (plans next : List DiskPlan) (w : List ℕ) (more : List (List ℕ)) (one : Line) → ReadsPlans text n plans → IsWord w → AreWords more → is_comment (spaced w more) ≡ false → line_of_kind w more ≡ Ok one → plans_behind n plans one ≡ Ok next → ReadsPlans (text ++ line_of (w ∷ more)) (n + 1) next
unfolding line_says
reads-line text n plans next w more one reads word rest comment kind plan = record {
  said = λ behind.
      let clean = line-clean w more word rest in
      let body : line_says n plans (strip_carriage_return (spaced w more)) ≡ Ok next = rw (no-return (spaced w more) clean, line-says w more one word rest comment kind) plan in
      let feedless : is_one_line (spaced w more) ≡ true = weaker is_line_byte (λ b. not (b == 10)) line-no-feed (spaced w more) clean in
      let ended = ended_said n plans next [] (spaced w more) [] behind refl feedless body in
      ap (λ l. lines_say 1 [] (lines_of l)) (append_assoc text (line_of (w ∷ more)) behind)
      ∙ (reads.said (line_of (w ∷ more) ++ behind)
      ∙ (ap (λ l. lines_say n plans (lines_of (l ++ behind))) (line-spaced w more) ∙ ended));
}
