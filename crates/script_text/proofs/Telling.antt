-- What a reader tells of all that it was fed.
use Rattle.std.proofs.Common.{◌≡◌, ℕ, zero, suc, ◌+◌, ◌<◌, ◌≤◌, true, ◌==◌, List, [], ◌∷◌, ◌++◌, length, take, drop, map, get_or, position, Some, None, Ok, Err, refl, ap, sym, ◌∙◌, append_assoc, arith, length-append}
use Rattle.std.specs.List.{concat}
use Rattle.std.specs.Str.Lines.{strip_carriage_return}
use Rattle.std.proofs.lemmas.List.{append-nil}
use Rattle.script_text.specs.declared.language.refusal.Reason.{Reason}
use Rattle.script_text.specs.declared.language.plans.DiskPlan.{DiskPlan}
use Rattle.script_text.specs.declared.language.reader.Reading.{Reading}
use Rattle.script_text.specs.declared.language.reader.Found.{Found}
use Rattle.script_text.specs.Words.{lines_of}
use Rattle.script_text.specs.OneLine.{is_one_line, EndsIn}
use Rattle.script_text.specs.Limits.{most_script_bytes}
use Rattle.script_text.specs.Whole.{line_says, lines_say, script_of}
use Rattle.script_text.specs.Fed.{IsReading, IsFaulty}
use Rattle.script_text.specs.Ended.{IsReadSoFar, IsStopped}
use Rattle.script_text.proofs.Back.{lacks_both}
use Rattle.script_text.proofs.Pieces.{ended_said, faulty_said, last_said, last_faulty, short_says, first_line, no_line}

-- a faulty script
pub found_tells : (f : Found) (bytes : List ℕ) → f.length ≤ most_script_bytes → IsFaulty f bytes → script_of bytes ≡ Err (f.line, f.reason)
found_tells f bytes few is =
    short_says bytes (Err (f.line, f.reason)) (rw (← is.count) few) (ap (λ l. lines_say 1 [] (lines_of l)) (sym (append-nil bytes)) ∙ is.said [])

-- what the last line makes of all bytes
all_said : (r : Reading) (bytes : List ℕ) → IsReading r bytes → lines_say 1 [] (lines_of bytes) ≡ lines_say r.number r.draft (lines_of r.line.items)
all_said r bytes is =
    ap (λ l. lines_say 1 [] (lines_of l)) (sym (append-nil bytes)) ∙ is.said [] ∙ ap (λ l. lines_say r.number r.draft (lines_of l)) (append-nil r.line.items)

pub reading_tells : (r : Reading) (bytes : List ℕ) (next : List DiskPlan) → r.length ≤ most_script_bytes → is_one_line r.line.items ≡ true → IsReading r bytes → line_says r.number r.draft (strip_carriage_return r.line.items) ≡ Ok next → script_of bytes ≡ Ok next
reading_tells r bytes next few one is says =
    short_says bytes (Ok next) (rw (← is.count) few) (all_said r bytes is ∙ last_said r.number r.draft next r.line.items one says)

pub reading_refuses : (r : Reading) (bytes : List ℕ) (reason : Reason) → r.length ≤ most_script_bytes → is_one_line r.line.items ≡ true → IsReading r bytes → line_says r.number r.draft (strip_carriage_return r.line.items) ≡ Err reason → script_of bytes ≡ Err (r.number, reason)
reading_refuses r bytes reason few one is says =
    short_says bytes (Err (r.number, reason)) (rw (← is.count) few) (all_said r bytes is ∙ last_faulty r.number r.draft reason r.line.items one says)

-- how far the lines of a piece were taken
pub record HasEnded (plans0 : List DiskPlan) (n0 : ℕ) (begun0 piece : List ℕ) (plans : List DiskPlan) (n : ℕ) (begun left : List ℕ) : Type 0 where
  pub unended : is_one_line begun ≡ true
  pub few : n + length left ≤ n0 + length piece
  pub kept : EndsIn (begun0 ++ piece) (begun ++ left)
  pub said : (more : List ℕ) → lines_say n0 plans0 (lines_of (begun0 ++ (piece ++ more))) ≡ lines_say n plans (lines_of (begun ++ (left ++ more)))

pub none_ended : (plans : List DiskPlan) (n : ℕ) (begun piece : List ℕ) → is_one_line begun ≡ true → HasEnded plans n begun piece plans n begun piece
none_ended plans n begun piece one = record { unended = one; few = omega arith; kept = ([], refl); said = λ more. refl }

-- behind a line that ended
kept_behind : (all begun left head rest : List ℕ) → EndsIn all (begun ++ left) → left ≡ head ++ 10 ∷ rest → EndsIn all rest
kept_behind all begun left head rest (front, is) whole = (
  front ++ (begun ++ (head ++ 10 ∷ [])),
  rw (append_assoc front (begun ++ (head ++ 10 ∷ [])) rest, append_assoc begun (head ++ 10 ∷ []) rest, append_assoc head (10 ∷ []) rest) (is ∙ ap (λ l. front ++ (begun ++ l)) whole),
)

-- of two pieces
kept_of_both : (bytes line piece line' : List ℕ) → EndsIn bytes line → EndsIn (line ++ piece) line' → EndsIn (bytes ++ piece) line'
kept_of_both bytes line piece line' (front, is) (behind, is') =
    (front ++ behind, ap (λ l. l ++ piece) is ∙ append_assoc front line piece ∙ ap (λ l. front ++ l) is' ∙ sym (append_assoc front behind line'))

pub one_ended : (plans0 : List DiskPlan) (n0 : ℕ) (begun0 piece : List ℕ) (plans : List DiskPlan) (n : ℕ) (begun left : List ℕ) (i : ℕ) (front rest begun' : List ℕ) (next : List DiskPlan) → HasEnded plans0 n0 begun0 piece plans n begun left → Some i ≡ position (λ b. b == 10) left → front ≡ take i left → rest ≡ drop (i + 1) left → begun' ≡ [] → line_says n plans (strip_carriage_return (begun ++ front)) ≡ Ok next → HasEnded plans0 n0 begun0 piece next (n + 1) begun' rest
one_ended plans0 n0 begun0 piece plans n begun left i front rest begun' next so_far is f r b says =
    let (whole, one) = first_line left i is in
    let says' : line_says n plans (strip_carriage_return (begun ++ take i left)) ≡ Ok next = rw f at says in
    let count : length left ≡ length (take i left) + (length (drop (i + 1) left) + 1) = ap length whole ∙ length-append (take i left) (10 ∷ drop (i + 1) left) ∙ omega arith in
    rw (r, b) (record {
      unended = refl;
      few = omega (arith, so_far.few, count);
      kept = kept_behind (begun0 ++ piece) begun left (take i left) (drop (i + 1) left) so_far.kept whole;
      said = λ more.
          so_far.said more
          ∙ ap (λ l. lines_say n plans (lines_of (begun ++ (l ++ more)))) whole
          ∙ ended_said n plans next begun (take i left) (drop (i + 1) left) more so_far.unended one says';
    })

pub one_stopped : (plans0 : List DiskPlan) (n0 : ℕ) (begun0 piece : List ℕ) (plans : List DiskPlan) (n : ℕ) (begun left : List ℕ) (i : ℕ) (front : List ℕ) (reason : Reason) → HasEnded plans0 n0 begun0 piece plans n begun left → Some i ≡ position (λ b. b == 10) left → front ≡ take i left → line_says n plans (strip_carriage_return (begun ++ front)) ≡ Err reason → IsStopped plans0 n0 begun0 piece n reason
one_stopped plans0 n0 begun0 piece plans n begun left i front reason so_far is f says =
    let (whole, one) = first_line left i is in
    let says' : line_says n plans (strip_carriage_return (begun ++ take i left)) ≡ Err reason = rw f at says in
    record {
      said = λ more.
          so_far.said more
          ∙ ap (λ l. lines_say n plans (lines_of (begun ++ (l ++ more)))) whole
          ∙ faulty_said n plans reason begun (take i left) (drop (i + 1) left) more so_far.unended one says';
    }

pub all_ended : (plans0 : List DiskPlan) (n0 : ℕ) (begun0 piece : List ℕ) (plans : List DiskPlan) (n : ℕ) (begun left begun' : List ℕ) → HasEnded plans0 n0 begun0 piece plans n begun left → None ≡ position (λ b. b == 10) left → begun' ≡ begun ++ left → IsReadSoFar plans0 n0 begun0 piece plans n begun'
all_ended plans0 n0 begun0 piece plans n begun left begun' so_far is b =
    rw b (record {
      unended = lacks_both (λ b. b == 10) begun left so_far.unended (no_line left is);
      few = omega (arith, so_far.few);
      kept = so_far.kept;
      said = λ more. so_far.said more ∙ ap (λ l. lines_say n plans (lines_of l)) (sym (append_assoc begun left more));
    })

-- what the lines of a piece leave of a reading
pub still_reading : (r r' : Reading) (bytes piece : List ℕ) → IsReading r bytes → IsReadSoFar r.draft r.number r.line.items piece r'.draft r'.number r'.line.items → r'.length ≡ r.length + length piece → IsReading r' (bytes ++ piece)
still_reading r r' bytes piece is open' count = record {
  count = count ∙ ap (λ n. n + length piece) is.count ∙ sym (length-append bytes piece);
  kept = kept_of_both bytes r.line.items piece r'.line.items is.kept open'.kept;
  said = λ more. ap (λ l. lines_say 1 [] (lines_of l)) (append_assoc bytes piece more) ∙ is.said (piece ++ more) ∙ open'.said more;
}

-- the pieces up to the next one, joined
pub one_piece : {X : Type 0} (f : X → List ℕ) (xs : List X) (i : ℕ) (d : X) → i < length xs → concat (map f (take i xs)) ++ f (get_or xs i d) ≡ concat (map f (take (i + 1) xs))
one_piece f [] i d inside = absurd (omega arith)
one_piece f (x ∷ xs) zero d inside = sym (append-nil (f x))
one_piece f (x ∷ xs) (suc i) d inside =
    let z : suc i + 1 ≡ suc (i + 1) = omega arith in
    let low : i < length xs = omega arith in
    rw z (append_assoc (f x) (concat (map f (take i xs))) (f (get_or xs i d)) ∙ ap (λ l. f x ++ l) (one_piece f xs i d low))
