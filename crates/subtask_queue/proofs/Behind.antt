-- Units that are put behind the others.
use Rattle.std.proofs.Common.{◌≡◌, ℕ, ◌+◌, ◌<◌, true, false, ◌||◌, List, [], ◌∷◌, ◌++◌, length, take, slice_get, get_or, Option, None, Some, option_map, eqb, inl, inr, eq-eqb, refl, sym, ◌∙◌, ap, arith, append_assoc}
use Rattle.std.specs.List.{list_any}
use Rattle.std.proofs.lemmas.Bool.{cases_eq, or_cases, or_left, or_right, eqb-true}
use Rattle.std.proofs.lemmas.List.{append-nil, take_more, get_or_append_left}
use Rattle.index_links.specs.Lists.{LinkedLists, list_at, is_among, is_listed, with_node_at_end, AreApart}
use Rattle.index_links.proofs.LinkedListsLemmas.{listed-in, listed-from, among-append, pushed-here, pushed-other}
use Rattle.subtask_queue.specs.declared.sub.Sub.{Sub}
use Rattle.subtask_queue.specs.declared.sub.Sub.TheVariants.{Part}
use Rattle.subtask_queue.specs.Owned.{sub_at, units_at, subs_in, AreAppended}
use Rattle.subtask_queue.proofs.Leading.{subs-append}

pub behind-none : (old : List (ℕ × Sub)) → AreAppended [] None old old
unfolding subs_in
behind-none old = record { units = []; value = sym (append-nil old); subs_is = refl; first_is = refl }

head-of : (first either : Option ℕ) (us : List (ℕ × Sub)) (x : ℕ) (s : Sub) → first ≡ option_map (λ e. e.0) (slice_get us 0) → (first ≡ None → either ≡ Some x) → ((y : ℕ) → first ≡ Some y → either ≡ Some y)
    → either ≡ option_map (λ e. e.0) (slice_get (us ++ (x, s) ∷ []) 0)
head-of first either [] x s is none some = none is
head-of first either (e ∷ us) x s is none some = some e.0 is

pub behind-more : (subs : List Sub) (i x : ℕ) (s : Sub) (first either : Option ℕ) (old now new : List (ℕ × Sub)) → i < length subs → AreAppended (take i subs) first old now → new ≡ now ++ (x, s) ∷ [] → s ≡ get_or subs i (Part 0 0 0 0 false)
    → (first ≡ None → either ≡ Some x) → ((y : ℕ) → first ≡ Some y → either ≡ Some y) → AreAppended (take (i + 1) subs) either old new
unfolding subs_in
behind-more subs i x s first either old now new inside is more read none some = record {
  units = is.units ++ (x, s) ∷ [];
  value = more ∙ ap (λ us. us ++ (x, s) ∷ []) is.value ∙ append_assoc old is.units ((x, s) ∷ []);
  subs_is = subs-append is.units ((x, s) ∷ []) ∙ ap (λ ss. ss ++ s ∷ []) is.subs_is ∙ ap (λ z. take i subs ++ z ∷ []) read ∙ sym (take_more subs i (Part 0 0 0 0 false) inside);
  first_is = head-of first either is.units x s is.first_is none some;
}

-- more places change no unit
pub units-more : (subs : List Sub) (s : Sub) (xs : List ℕ) → ((x : ℕ) → is_among xs x ≡ true → x < length subs) → units_at (subs ++ s ∷ []) xs ≡ units_at subs xs
unfolding units_at sub_at is_among
units-more subs s [] inside = refl
units-more subs s (x ∷ xs) inside =
    rw (get_or_append_left subs (s ∷ []) (Part 0 0 0 0 false) x (inside x (or_left (eqb x x) (list_any (eqb x) xs) (eq-eqb x x refl))))
    (ap (λ us. (x, get_or subs x (Part 0 0 0 0 false)) ∷ us) (units-more subs s xs (λ y among. inside y (or_right (eqb y x) (list_any (eqb y) xs) among))))

pub listed-inside : (s : LinkedLists) (x : ℕ) → AreApart s → is_listed s x ≡ true → x < s.nodes
listed-inside s x apart listed = let (l, there, among) = listed-in s x listed in apart.within l x among

among-one : (n x : ℕ) → is_among (n ∷ []) x ≡ true → x ≡ n
unfolding is_among
among-one n x is = elim (or_cases (eqb x n) false is) [ inl here ↦ eqb-true x n here | inr never ↦ cc ]

-- a node is listed once more, at the end of a list
pub listed-pushed : (s : LinkedLists) (l n x : ℕ) → l < length s.lists → is_listed (with_node_at_end s l n) x ≡ true → ((x ≡ n → ⊥) → is_listed s x ≡ true)
listed-pushed s l n x inside listed other =
    let (m, there, among) = listed-in (with_node_at_end s l n) x listed in
    elim (cases_eq m l) [
      | inl same ↦
          let both : (is_among (list_at s l) x || is_among (n ∷ []) x) ≡ true =
          sym (among-append (list_at s l) (n ∷ []) x) ∙ ap (λ xs. is_among xs x) (sym (pushed-here s l n inside)) ∙ ap (λ k. is_among (list_at (with_node_at_end s l n) k) x) (sym same) ∙ among in
          elim (or_cases (is_among (list_at s l) x) (is_among (n ∷ []) x) both) [
            | inl before ↦ listed-from s l x before
            | inr last ↦ absurd (other (among-one n x last))
          ]
      | inr differ ↦ listed-from s m x (ap (λ xs. is_among xs x) (sym (pushed-other s l n m differ)) ∙ among)
    ]

pub below-next : (s : LinkedLists) (l n x long : ℕ) → l < length s.lists → is_listed (with_node_at_end s l n) x ≡ true → ((y : ℕ) → is_listed s y ≡ true → y < n) → long ≡ n + 1 → x < long
below-next s l n x long inside listed below is = elim (cases_eq x n) [
  | inl same ↦ omega arith
  | inr other ↦ let low = below x (listed-pushed s l n x inside listed other) in omega arith
]
