-- Loops that add the lines of items to a text.
use Rattle.std.proofs.Common.{◌≡◌, ℕ, ◌+◌, ◌<◌, List, [], ◌∷◌, ◌++◌, map, length, take, drop, get_or, ◌≤◌, Option, refl, ap, sym, ◌∙◌, append_assoc, arith, length-take}
use Rattle.std.proofs.lemmas.List.{append-nil, take-append-drop, take_more, take_all}
use Rattle.image_store.specs.Edge.{AppendsUpTo, AppendsFront}
use Rattle.script_text.specs.Text.{lines_text}
use Rattle.script_text.proofs.HeldText.{still_held, then_more, front_of_more}

-- the lines of two lists
lines_of_both : {X : Type 0} (line : ℕ → X → List ℕ) (p : ℕ) (xs ys : List X) → lines_text line p (xs ++ ys) ≡ lines_text line p xs ++ lines_text line (p + length xs) ys
unfolding lines_text
lines_of_both line p [] ys = ap (λ n. lines_text line n ys) (omega arith)
lines_of_both line p (x ∷ xs) ys =
    ap (λ l. line p x ++ l) (lines_of_both line (p + 1) xs ys)
    ∙ (let at : p + 1 + length xs ≡ p + length (x ∷ xs) = omega arith in rw at (sym (append_assoc (line p x) (lines_text line (p + 1) xs) (lines_text line (p + length (x ∷ xs)) ys))))

-- how far a loop came: the lines of the first i items were added
pub record AddedUpTo {X : Type 0} (line : ℕ → X → List ℕ) (p : ℕ) (items : List X) (i : ℕ) (w0 w : Option (List ℕ)) (h0 h : List ℕ) : Type 0 where
  pub added : AppendsUpTo w0 w (h0 ++ lines_text line p (take i items)) h

pub none_added : {X : Type 0} (line : ℕ → X → List ℕ) (p : ℕ) (items : List X) (w : Option (List ℕ)) (h : List ℕ) → AddedUpTo line p items 0 w w h h
unfolding lines_text
none_added line p items w h = record { added = still_held w _ h (sym (append-nil h)) }

-- the lines up to this item, the item's, and those behind it
lines_at : {X : Type 0} (line : ℕ → X → List ℕ) (p : ℕ) (items : List X) (i : ℕ) (x : X) → i < length items → x ≡ get_or items i x → lines_text line p (take (i + 1) items) ≡ lines_text line p (take i items) ++ line (p + i) x
unfolding lines_text
lines_at line p items i x inside is =
    let more : take (i + 1) items ≡ take i items ++ x ∷ [] = take_more items i x inside ∙ ap (λ y. take i items ++ y ∷ []) (sym is) in
    let count : length (take i items) ≡ i = omega (arith, length-take i items) in
    rw (more, lines_of_both, count) (ap (λ l. lines_text line p (take i items) ++ l) (append-nil (line (p + i) x)))

lines_up_to : {X : Type 0} (line : ℕ → X → List ℕ) (p : ℕ) (items : List X) (i : ℕ) → lines_text line p items ≡ lines_text line p (take i items) ++ lines_text line (p + length (take i items)) (drop i items)
lines_up_to line p items i =
    ap (lines_text line p) (sym (take-append-drop i items)) ∙ lines_of_both line p (take i items) (drop i items)

-- one more item
pub one_added : {X : Type 0} (line : ℕ → X → List ℕ) (p : ℕ) (items : List X) (i q : ℕ) (x : X) (w0 w w' : Option (List ℕ)) (h0 h h' : List ℕ) → AddedUpTo line p items i w0 w h0 h → i < length items → x ≡ get_or items i x → p + i ≡ q → AppendsUpTo w w' (h ++ line q x) h' → AddedUpTo line p items (i + 1) w0 w' h0 h'
one_added line p items i q x w0 w w' h0 h h' so_far inside is at put = record {
  added =
      rw (lines_at line p items i x inside is, at, ← append_assoc h0 (lines_text line p (take i items)) (line q x))
      (then_more w0 w w' (h0 ++ lines_text line p (take i items)) h (line q x) h' so_far.added put);
}

-- what was put where a loop stops is a front of the whole
pub stopped : {X : Type 0} (line : ℕ → X → List ℕ) (p : ℕ) (items : List X) (i : ℕ) (w0 w : Option (List ℕ)) (h0 h : List ℕ) → AddedUpTo line p items i w0 w h0 h → AppendsFront w0 w (h0 ++ lines_text line p items)
stopped line p items i w0 w h0 h so_far =
    rw (lines_up_to line p items i, ← append_assoc h0 (lines_text line p (take i items)) (lines_text line (p + length (take i items)) (drop i items)))
    (front_of_more w0 w (h0 ++ lines_text line p (take i items)) _ (h, so_far.added))

pub stopped_in : {X : Type 0} (line : ℕ → X → List ℕ) (p : ℕ) (items : List X) (i q : ℕ) (x : X) (w0 w w' : Option (List ℕ)) (h0 h : List ℕ) → AddedUpTo line p items i w0 w h0 h → i < length items → x ≡ get_or items i x → p + i ≡ q → AppendsFront w w' (h ++ line q x) → AppendsFront w0 w' (h0 ++ lines_text line p items)
stopped_in line p items i q x w0 w w' h0 h so_far inside is at (rest, up) =
    stopped line p items (i + 1) w0 w' h0 rest (one_added line p items i q x w0 w w' h0 h rest so_far inside is at up)

-- all items
pub all_added : {X : Type 0} (line : ℕ → X → List ℕ) (p : ℕ) (items : List X) (i : ℕ) (w0 w : Option (List ℕ)) (h0 h : List ℕ) → AddedUpTo line p items i w0 w h0 h → length items ≤ i → AppendsUpTo w0 w (h0 ++ lines_text line p items) h
all_added line p items i w0 w h0 h so_far end =
    let all : take i items ≡ items = take_all i items end in
    rw all at so_far.added

-- lines of mapped items
pub lines_of_map : {X Y : Type 0} (line : ℕ → Y → List ℕ) (f : X → Y) (p : ℕ) (xs : List X) → lines_text line p (map f xs) ≡ lines_text (λ i x. line i (f x)) p xs
unfolding lines_text
lines_of_map line f p [] = refl
lines_of_map line f p (x ∷ xs) = ap (λ l. line p (f x) ++ l) (lines_of_map line f (p + 1) xs)
