-- Lines that come in pieces.
use Rattle.std.proofs.Common.{◌≡◌, ℕ, ◌+◌, ◌<◌, ◌≤◌, Bool, true, false, ◌==◌, List, [], ◌∷◌, ◌++◌, map, length, take, drop, get_or, zero, suc, nat_lt, cond, position, Some, None, Result, Ok, Err, refl, ap, sym, ◌∙◌, append_assoc, arith}
use Rattle.std.specs.List.{slice_split, position_or_len}
use Rattle.std.proofs.lemmas.Bool.{lt-ltb, le-ltb}
use Rattle.std.proofs.lemmas.Bool.Decides.{nat_tests}
use Rattle.std.proofs.lemmas.List.Quantifiers.{position-Some}
use Rattle.std.specs.Str.Lines.{strip_carriage_return}
use Rattle.script_text.specs.declared.language.refusal.Reason.{Reason}
use Rattle.script_text.specs.declared.language.refusal.Reason.TheVariants.{Size}
use Rattle.script_text.specs.declared.language.plans.DiskPlan.{DiskPlan}
use Rattle.script_text.specs.Words.{lines_of}
use Rattle.script_text.specs.OneLine.{is_one_line}
use Rattle.script_text.specs.Limits.{most_script_bytes}
use Rattle.script_text.specs.Whole.{line_says, lines_say, script_of}
use Rattle.script_text.proofs.Back.{cut_word, last_word, lacks_both}

-- a begun line that goes on with the front of a piece ends there
pub line_ends : (begun front rest more : List ℕ) → is_one_line begun ≡ true → is_one_line front ≡ true → lines_of (begun ++ ((front ++ 10 ∷ rest) ++ more)) ≡ strip_carriage_return (begun ++ front) ∷ lines_of (rest ++ more)
unfolding lines_of
line_ends begun front rest more one two =
    let whole : begun ++ ((front ++ 10 ∷ rest) ++ more) ≡ (begun ++ front) ++ (10 ∷ (rest ++ more)) =
    ap (λ l. begun ++ l) (append_assoc front (10 ∷ rest) more) ∙ sym (append_assoc begun front (10 ∷ (rest ++ more))) in
    ap (λ l. map strip_carriage_return (slice_split (λ b. b == 10) l)) whole
    ∙ ap (map strip_carriage_return) (cut_word (λ b. b == 10) (begun ++ front) 10 (rest ++ more) (lacks_both (λ b. b == 10) begun front one two) refl)

-- bytes without a line feed are one line
pub one_line : (bytes : List ℕ) → is_one_line bytes ≡ true → lines_of bytes ≡ strip_carriage_return bytes ∷ []
unfolding lines_of
one_line bytes one = ap (map strip_carriage_return) (last_word (λ b. b == 10) bytes one)

-- the lines behind one that ended
pub ended_said : (n : ℕ) (plans next : List DiskPlan) (begun front rest more : List ℕ) → is_one_line begun ≡ true → is_one_line front ≡ true → line_says n plans (strip_carriage_return (begun ++ front)) ≡ Ok next → lines_say n plans (lines_of (begun ++ ((front ++ 10 ∷ rest) ++ more))) ≡ lines_say (n + 1) next (lines_of (rest ++ more))
unfolding lines_say
ended_said n plans next begun front rest more one two says = rw (line_ends begun front rest more one two, says) refl

-- a faulty line that ended
pub faulty_said : (n : ℕ) (plans : List DiskPlan) (reason : Reason) (begun front rest more : List ℕ) → is_one_line begun ≡ true → is_one_line front ≡ true → line_says n plans (strip_carriage_return (begun ++ front)) ≡ Err reason → lines_say n plans (lines_of (begun ++ ((front ++ 10 ∷ rest) ++ more))) ≡ Err (n, reason)
unfolding lines_say
faulty_said n plans reason begun front rest more one two says = rw (line_ends begun front rest more one two, says) refl

-- the last line
pub last_said : (n : ℕ) (plans next : List DiskPlan) (line : List ℕ) → is_one_line line ≡ true → line_says n plans (strip_carriage_return line) ≡ Ok next → lines_say n plans (lines_of line) ≡ Ok next
unfolding lines_say
last_said n plans next line one says = rw (one_line line one, says) refl

pub last_faulty : (n : ℕ) (plans : List DiskPlan) (reason : Reason) (line : List ℕ) → is_one_line line ≡ true → line_says n plans (strip_carriage_return line) ≡ Err reason → lines_say n plans (lines_of line) ≡ Err (n, reason)
unfolding lines_say
last_faulty n plans reason line one says = rw (one_line line one, says) refl

-- a script within its limit says what its lines say
pub short_says : (bytes : List ℕ) (said : Result (List DiskPlan) (ℕ × Reason)) → length bytes ≤ most_script_bytes → lines_say 1 [] (lines_of bytes) ≡ said → script_of bytes ≡ said
unfolding script_of
short_says bytes said few is = rw (le-ltb most_script_bytes (length bytes) few) is

pub long_says : (bytes : List ℕ) → most_script_bytes < length bytes → script_of bytes ≡ Err (0, Size)
unfolding script_of
long_says bytes long = rw (lt-ltb most_script_bytes (length bytes) long) refl

is_ten : (b : ℕ) → (b == 10) ≡ true → b ≡ 10
is_ten b is = grind (arith, nat_tests)

both : (b : ℕ) (rest : List ℕ) → (b == 10) ≡ false → is_one_line rest ≡ true → is_one_line (b ∷ rest) ≡ true
both b rest other more = rw other more

-- a piece up to its first line feed
at_first : (xs : List ℕ) (i : ℕ) → i < length xs → (get_or xs i 0 == 10) ≡ true → ((k : ℕ) → k < i → (get_or xs k 0 == 10) ≡ false) → (xs ≡ take i xs ++ 10 ∷ drop (i + 1) xs) × (is_one_line (take i xs) ≡ true)
at_first [] i inside here before = absurd (omega arith)
at_first (x ∷ xs) zero inside here before = (ap (λ y. y ∷ xs) (is_ten x here), refl)
at_first (x ∷ xs) (suc i) inside here before =
    let (whole, one) = at_first xs i (omega arith) here (λ k low. before (suc k) (omega arith)) in
    let z : suc i + 1 ≡ suc (i + 1) = omega arith in
    rw z (ap (λ l. x ∷ l) whole, both x (take i xs) (before zero (omega arith)) one)

pub first_line : (xs : List ℕ) (i : ℕ) → Some i ≡ position (λ b. b == 10) xs → (xs ≡ take i xs ++ 10 ∷ drop (i + 1) xs) × (is_one_line (take i xs) ≡ true)
first_line xs i is =
    let (inside, here, before) = position-Some (λ b. b == 10) xs i 0 (sym is) in
    at_first xs i inside here before

none_far : (xs : List ℕ) (b : Bool) → nat_lt (position_or_len (λ c. c == 10) xs) (length xs) ≡ b → None ≡ cond b (Some (position_or_len (λ c. c == 10) xs)) None → length xs ≤ position_or_len (λ c. c == 10) xs
none_far xs true test is = absurd (cc)
none_far xs false test is = grind (arith, nat_tests)

far_if : (x : ℕ) (xs : List ℕ) (b : Bool) → (x == 10) ≡ b → length (x ∷ xs) ≤ position_or_len (λ c. c == 10) (x ∷ xs) → (length xs ≤ position_or_len (λ c. c == 10) xs → is_one_line xs ≡ true) → is_one_line (x ∷ xs) ≡ true
far_if x xs true test far rest = let at : position_or_len (λ c. c == 10) (x ∷ xs) ≡ 0 = rw test refl in absurd (omega arith)
far_if x xs false test far rest =
    let at : position_or_len (λ c. c == 10) (x ∷ xs) ≡ 1 + position_or_len (λ c. c == 10) xs = rw test refl in
    both x xs test (rest (omega arith))

far_one : (xs : List ℕ) → length xs ≤ position_or_len (λ c. c == 10) xs → is_one_line xs ≡ true
far_one [] far = refl
far_one (x ∷ xs) far = far_if x xs (x == 10) refl far (far_one xs)

-- a piece without a line feed
pub no_line : (xs : List ℕ) → None ≡ position (λ b. b == 10) xs → is_one_line xs ≡ true
no_line xs is = far_one xs (none_far xs (nat_lt (position_or_len (λ c. c == 10) xs) (length xs)) refl is)
