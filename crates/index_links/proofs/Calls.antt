-- What each call makes of the lists.
use Rattle.std.proofs.Common.{◌≡◌, ℕ, zero, suc, ◌+◌, ◌-◌, ◌<◌, ◌≤◌, ◌^◌, Bool, true, false, cond, not, List, [], ◌∷◌, ◌++◌, length, get_or, map, slice_get, Some, append-nil, eqb, inl, inr, eq-eqb, refl, sym, ◌∙◌, ap, subst, arith}
use Rattle.std.specs.List.{IsDistinct, range_with_len}
use Rattle.std.proofs.lemmas.Bool.{cases_eq, cases_lt, cases_Bool, ne_eqb, lt-ltb, le-ltb}
use Rattle.std.proofs.lemmas.List.{length-replicate, get_or-replicate}
use Rattle.std.proofs.lemmas.List.FromFn.{length-map-range_with_len, fill_by_all}
use Rattle.index_links.specs.declared.rings.Link.{Link}
use Rattle.index_links.specs.Lists.{LinkedLists, list_at, is_among, is_listed, without, empty_lists, with_more_nodes, with_node_at_end, without_node, with_list_at_end, AreApart}
use Rattle.index_links.specs.Rings.{after_at, before_at, exchange, walk, lists_of, node_of, Path, AreRings, AreLinked}
use Rattle.index_links.proofs.Places.{exchanged-left, exchanged-right, exchanged-other}
use Rattle.index_links.proofs.LinkedListsLemmas.{among-at, among-last, among-moved, among-pushed, among-without, grown-at, grown-listed, list-exists, listed-from, listed-in, long-grown, long-moved, long-pushed, long-unlinked, moved-from, moved-other, moved-to, nodes-grown, nodes-moved, nodes-pushed, nodes-unlinked, past-lists, pushed-here, pushed-other, unlinked-at, unlisted-before}
use Rattle.index_links.proofs.Paths.{path-kept, paths-same, alone-leads, path-from, path-distinct, path-within, path-short, walk-path, list-is, list-path}

-- lists whose paths lie in the table are the table's
pub lists-are : (links : List Link) → AreRings links → (k : ℕ) → k ≤ length links → (s : LinkedLists) → s.nodes ≡ length links - k → length s.lists ≡ k →
    ((l : ℕ) → l < k → Path (after_at links) k l (list_at s l) l) → lists_of links k ≡ s
unfolding lists_of list_at
lists-are links r k room s nodes long paths =
    let after : ℕ → ℕ = after_at links in
    let walks : ℕ → List ℕ = λ l. walk after k (length links - k) (after l) in
    let each : (l : ℕ) → l < k → get_or s.lists l [] ≡ walks l = λ l there.
    sym (walk-path after k (length links - k) l (list_at s l) l there (path-short links r k l (list_at s l) l there (omega arith) (paths l there)) (paths l there)) in
    let lists : map walks (range_with_len 0 k) ≡ s.lists = sym (fill_by_all walks s.lists k [] long each) in
    ap (λ n. record { nodes = n; lists = map walks (range_with_len 0 k) }) (sym nodes) ∙ ap (λ ls. record { nodes = s.nodes; lists = ls }) lists

-- and the table is then linked
pub linked-so : (links : List Link) → AreRings links → (k : ℕ) → k ≤ length links → k < 2 ^ 32 → length links - k < 2 ^ 32 → (s : LinkedLists) → lists_of links k ≡ s →
    ((l : ℕ) → l < k → Path (after_at links) k l (list_at s l) l) → ((x : ℕ) → is_listed s x ≡ false → after_at links (k + x) ≡ k + x) → AreLinked links k
linked-so links r k room heads few s same paths idle = record {
  heads_few = heads;
  rings = r;
  room = room;
  few = few;
  paths = λ l there. (list_at s l, paths l there);
  idle = λ x none. idle x (subst (λ t. is_listed t x ≡ false) same none);
}

pub many-lists : (links : List Link) (k : ℕ) → length (lists_of links k).lists ≡ k
unfolding lists_of
many-lists links k = length-map-range_with_len (λ l. walk (after_at links) k (length links - k) (after_at links l)) 0 k

pub many-nodes : (links : List Link) (k : ℕ) → (lists_of links k).nodes ≡ length links - k
unfolding lists_of
many-nodes links k = refl

-- the path from a node of a list on
pub node-path : (links : List Link) (k l x : ℕ) → AreLinked links k → is_among (list_at (lists_of links k) l) x ≡ true → (l < k) × ((ys : List ℕ) × Path (after_at links) k (k + x) ys l)
node-path links k l x linked among =
    let there : l < k = omega (arith, list-exists (lists_of links k) l x among, many-lists links k) in
    let (ys, less, path) = path-from (after_at links) k l (list_at (lists_of links k) l) l x among (list-path links k l linked there) in
    (there, (ys, path))

-- linked lists keep their nodes apart
pub apart_of : (links : List Link) (k : ℕ) → AreLinked links k → AreApart (lists_of links k)
unfolding IsDistinct
apart_of links k linked = record {
  within = λ l x among.
      let there : l < k = (node-path links k l x linked among).0 in
      let inside : k + x < length links = path-within links linked.rings k l (list_at (lists_of links k) l) l x (omega (arith, linked.room)) (list-path links k l linked there) among in
      omega (arith, many-nodes links k);
  alone = λ l m x one other.
      let (l-in, (ys, path)) = node-path links k l x linked one in
      let (m-in, (zs, also)) = node-path links k m x linked other in
      (paths-same (after_at links) k (k + x) ys zs l m l-in m-in path also).0;
  distinct = λ l. elim (cases_lt l k) [
    | inl there ↦ path-distinct (after_at links) k l (list_at (lists_of links k) l) l there (list-path links k l linked there)
    | inr past ↦ subst (IsDistinct eqb) (sym (past-lists (lists_of links k) l (omega (arith, many-lists links k)))) tt
  ];
}

-- ---- push_back

path-pushed : (f g : ℕ → ℕ) (k a x p : ℕ) (xs : List ℕ) (l : ℕ) → l < k → f a ≡ l → ((r : ℕ) → f r ≡ l → r ≡ a) → f (k + x) ≡ k + x →
    ((r : ℕ) → g r ≡ f (exchange a (k + x) r)) → (p ≡ k + x → ⊥) → Path f k p xs l → Path g k p (xs ++ x ∷ []) l
unfolding Path
path-pushed f g k a x p [] l l-in last only alone says other path =
    let same : p ≡ a = only p path in (
      says p ∙ ap (λ r. f (exchange a (k + x) r)) same ∙ ap f (exchanged-left a (k + x)) ∙ alone,
      says (k + x) ∙ ap f (exchanged-right a (k + x)) ∙ last,
    )
path-pushed f g k a x p (y ∷ ys) l l-in last only alone says other path =
    let not-last : p ≡ a → ⊥ = λ same. omega (arith, sym path.0 ∙ ap f same ∙ last) in
    let next-other : k + y ≡ k + x → ⊥ = λ same. alone-leads f k x ys l l-in alone (subst (λ r. Path f k r ys l) same path.1) in (
      says p ∙ ap f (exchanged-other a (k + x) p not-last other) ∙ path.0,
      path-pushed f g k a x (k + y) ys l l-in last only alone says next-other path.1,
    )

-- a place from which a head comes at once leads to no other
paths-to : (f : ℕ → ℕ) (k p : ℕ) (ys : List ℕ) (m l : ℕ) → m < k → l < k → Path f k p ys m → f p ≡ l → l ≡ m
unfolding Path
paths-to f k p ys m l m-in l-in path is = (paths-same f k p [] ys l m l-in m-in is path).0

-- a node that is a ring alone, spliced in before the head of a list, ends that list
pub pushed-is : (old new : List Link) (k l x : ℕ) → AreLinked old k → AreRings new → length new ≡ length old → l < k → is_listed (lists_of old k) x ≡ false →
    ((p : ℕ) → after_at new p ≡ after_at old (exchange (before_at old l) (k + x) p)) → (lists_of new k ≡ with_node_at_end (lists_of old k) l x) × AreLinked new k
pushed-is old new k l x linked r long there none says =
    let s = lists_of old k in
    let a = before_at old l in
    let f : ℕ → ℕ = after_at old in
    let g : ℕ → ℕ = after_at new in
    let room : k ≤ length new = omega (arith, linked.room) in
    let last : f a ≡ l = linked.rings.forth l in
    let only : (r : ℕ) → f r ≡ l → r ≡ a = λ p is. sym (linked.rings.back p) ∙ ap (before_at old) is in
    let alone : f (k + x) ≡ k + x = linked.idle x none in
    let paths : (m : ℕ) → m < k → Path g k m (list_at (with_node_at_end s l x) m) m = λ m inside. elim (cases_eq m l) [
      | inl same ↦ subst (λ h. Path g k h (list_at (with_node_at_end s l x) h) h) (sym same)
          (subst (λ ys. Path g k l ys l) (sym (pushed-here s l x (omega (arith, many-lists old k))))
          (path-pushed f g k a x l (list_at s l) l there last only alone says (λ is. omega arith) (list-path old k l linked there)))
      | inr other ↦ subst (λ ys. Path g k m ys m) (sym (pushed-other s l x m other))
          (path-kept f g k m (list_at s m) m
          (λ p ys path. says p ∙ ap f (exchanged-other a (k + x) p
          (λ is. other (sym (paths-to f k p ys m l inside there path (ap f is ∙ last))))
          (λ is. alone-leads f k x ys m inside alone (subst (λ h. Path f k h ys m) is path))))
          (list-path old k m linked inside))
    ] in
    let many : length (with_node_at_end s l x).lists ≡ k = long-pushed s l x ∙ many-lists old k in
    let nodes : (with_node_at_end s l x).nodes ≡ length new - k = nodes-pushed s l x ∙ many-nodes old k ∙ ap (λ n. n - k) (sym long) in
    let same : lists_of new k ≡ with_node_at_end s l x = lists-are new r k room (with_node_at_end s l x) nodes many paths in (
      same,
      linked-so new r k room linked.heads_few (omega (arith, linked.few)) (with_node_at_end s l x) same paths
          (λ y unlisted.
          let was : is_listed s y ≡ false = unlisted-before s (with_node_at_end s l x) y (λ m among. (m, among-pushed s l x m y among)) unlisted in
          let other : k + y ≡ k + x → ⊥ = λ is.
          let here : is_among (list_at (with_node_at_end s l x) l) x ≡ true = rw (pushed-here s l x (omega (arith, many-lists old k))) (among-last (list_at s l) x) in
          let never : is_listed (with_node_at_end s l x) y ≡ true = listed-from (with_node_at_end s l x) l y (subst (λ z. is_among (list_at (with_node_at_end s l x) l) z ≡ true) (omega arith) here) in
          cc in
          let not-last : k + y ≡ a → ⊥ = λ is. omega (arith, sym (linked.idle y was) ∙ ap f is ∙ last) in
          says (k + y) ∙ ap f (exchanged-other a (k + x) (k + y) not-last other) ∙ linked.idle y was),
    )

-- ---- unlink

-- what comes after a place, with place b passed over
passed : (ℕ → ℕ) → ℕ → ℕ → ℕ
passed f b v = cond (eqb v b) (f b) v

passed-here : (f : ℕ → ℕ) (b v : ℕ) → v ≡ b → passed f b v ≡ f b
unfolding passed
passed-here f b v is = rw (eq-eqb v b is) refl

passed-other : (f : ℕ → ℕ) (b v : ℕ) → (v ≡ b → ⊥) → passed f b v ≡ v
unfolding passed
passed-other f b v other = rw (ne_eqb v b other) refl

passed-twice : (f : ℕ → ℕ) (b : ℕ) → passed f b (f b) ≡ f b
passed-twice f b = elim (cases_eq (f b) b) [ inl is ↦ passed-here f b (f b) is | inr other ↦ passed-other f b (f b) other ]

path-without : (f g : ℕ → ℕ) (k x p r : ℕ) (xs : List ℕ) (q : ℕ) → q < k → ((h : ℕ) → (h ≡ k + x → ⊥) → g h ≡ passed f (k + x) (f h)) →
    Path f k p xs q → g r ≡ passed f (k + x) (f p) → Path g k r (without x xs) q
unfolding Path without
path-without f g k x p r [] q q-in says path here = here ∙ ap (passed f (k + x)) path ∙ passed-other f (k + x) q (λ is. omega arith)
path-without f g k x p r (y ∷ ys) q q-in says path here = elim (cases_eq x y) [
  | inl same ↦ rw (eq-eqb x y same)
      (path-without f g k x (k + x) r ys q q-in says (subst (λ z. Path f k (k + z) ys q) (sym same) path.1)
      (here ∙ ap (passed f (k + x)) (path.0 ∙ ap (λ z. k + z) (sym same)) ∙ passed-here f (k + x) (k + x) refl ∙ sym (passed-twice f (k + x))))
  | inr other ↦ rw (ne_eqb x y other) (
    here ∙ ap (passed f (k + x)) path.0 ∙ passed-other f (k + x) (k + y) (λ is. other (omega arith)),
    path-without f g k x (k + y) (k + y) ys q q-in says path.1 (says (k + y) (λ is. other (omega arith))),
  )
]

pub unlinked-is : (old new : List Link) (k x : ℕ) → AreLinked old k → AreRings new → length new ≡ length old →
    ((p : ℕ) → after_at new p ≡ after_at old (exchange (before_at old (k + x)) (k + x) p)) → (lists_of new k ≡ without_node (lists_of old k) x) × AreLinked new k
unlinked-is old new k x linked r long says =
    let s = lists_of old k in
    let b = k + x in
    let a = before_at old b in
    let f : ℕ → ℕ = after_at old in
    let g : ℕ → ℕ = after_at new in
    let room : k ≤ length new = omega (arith, linked.room) in
    let ahead : f a ≡ b = linked.rings.forth b in
    let step : (h : ℕ) → (h ≡ b → ⊥) → g h ≡ passed f b (f h) = λ h other. elim (cases_eq h a) [
      | inl same ↦ says h ∙ ap (λ p. f (exchange a b p)) same ∙ ap f (exchanged-left a b) ∙ sym (passed-here f b (f h) (ap f same ∙ ahead))
      | inr apart ↦ says h ∙ ap f (exchanged-other a b h apart other)
          ∙ sym (passed-other f b (f h) (λ is. apart (sym (linked.rings.back h) ∙ ap (before_at old) is)))
    ] in
    let paths : (l : ℕ) → l < k → Path g k l (list_at (without_node s x) l) l = λ l there. subst (λ ys. Path g k l ys l) (sym (unlinked-at s x l))
    (path-without f g k x l l (list_at s l) l there step (list-path old k l linked there) (step l (λ is. omega arith))) in
    let many : length (without_node s x).lists ≡ k = long-unlinked s x ∙ many-lists old k in
    let nodes : (without_node s x).nodes ≡ length new - k = nodes-unlinked s x ∙ many-nodes old k ∙ ap (λ n. n - k) (sym long) in
    let same : lists_of new k ≡ without_node s x = lists-are new r k room (without_node s x) nodes many paths in (
      same,
      linked-so new r k room linked.heads_few (omega (arith, linked.few)) (without_node s x) same paths
          (λ y unlisted. elim (cases_eq y x) [
            | inl here ↦ says (k + y) ∙ ap (λ z. f (exchange a b (k + z))) here ∙ ap f (exchanged-right a b) ∙ ahead ∙ ap (λ z. k + z) (sym here)
            | inr other ↦
                let was : is_listed s y ≡ false = unlisted-before s (without_node s x) y
                (λ m among. (m, subst (λ ys. is_among ys y ≡ true) (sym (unlinked-at s x m)) (among-without x y (list_at s m) other among))) unlisted in
                let alone : f (k + y) ≡ k + y = linked.idle y was in
                says (k + y) ∙ ap f (exchanged-other a b (k + y) (λ is. other (omega (arith, sym alone ∙ ap f is ∙ ahead))) (λ is. other (omega arith))) ∙ alone
          ]),
    )

-- a node is listed exactly where its ring has another place
pub listed-is : (links : List Link) (k x : ℕ) (b : Bool) → AreLinked links k → b ≡ not (eqb (before_at links (k + x)) (k + x)) → b ≡ is_listed (lists_of links k) x
listed-is links k x b linked is = elim (cases_Bool (is_listed (lists_of links k) x)) [
  | inl listed ↦
      let (l, inside, among) = listed-in (lists_of links k) x listed in
      let (there, (ys, path)) = node-path links k l x linked among in
      let apart : before_at links (k + x) ≡ k + x → ⊥ = λ same. alone-leads (after_at links) k x ys l there (ap (after_at links) (sym same) ∙ linked.rings.forth (k + x)) path in
      is ∙ ap not (ne_eqb (before_at links (k + x)) (k + x) apart) ∙ sym listed
  | inr none ↦
      let same : before_at links (k + x) ≡ k + x = ap (before_at links) (sym (linked.idle x none)) ∙ linked.rings.back (k + x) in
      is ∙ ap not (eq-eqb (before_at links (k + x)) (k + x) same) ∙ sym none
]

-- ---- move_all

-- the nodes of the list that was appended
path-appended : (f g : ℕ → ℕ) (k p : ℕ) (ys : List ℕ) (from to last : ℕ) → from < k → k ≤ p → ((r : ℕ) → f r ≡ from → r ≡ last) → g last ≡ to →
    ((r : ℕ) → k ≤ r → (f r ≡ from → ⊥) → (f r ≡ to → ⊥) → g r ≡ f r) → to < k → Path f k p ys from → Path g k p ys to
unfolding Path
path-appended f g k p [] from to last from-in node only ends same to-in path = ap g (only p path) ∙ ends
path-appended f g k p (y ∷ ys) from to last from-in node only ends same to-in path = (
  same p node (λ is. omega (arith, sym path.0 ∙ is)) (λ is. omega (arith, sym path.0 ∙ is)) ∙ path.0,
  path-appended f g k (k + y) ys from to last from-in (omega arith) only ends same to-in path.1,
)

-- the nodes of the list that they were appended to
path-joined : (f g : ℕ → ℕ) (k p : ℕ) (xs : List ℕ) (y : ℕ) (ys : List ℕ) (from to last end : ℕ) → from < k → to < k → ((r : ℕ) → f r ≡ from → r ≡ last) → g last ≡ to →
    ((r : ℕ) → f r ≡ to → r ≡ end) → g end ≡ f from → ((r : ℕ) → (r ≡ from → ⊥) → (f r ≡ from → ⊥) → (f r ≡ to → ⊥) → g r ≡ f r) →
    (p ≡ from → ⊥) → Path f k p xs to → Path f k from (y ∷ ys) from → Path g k p (xs ++ y ∷ ys) to
unfolding Path
path-joined f g k p [] y ys from to last end from-in to-in only-from ends only-to begins same other path more = (
  ap g (only-to p path) ∙ begins ∙ more.0,
  path-appended f g k (k + y) ys from to last from-in (omega arith) only-from ends (λ r node. same r (λ is. omega arith)) to-in more.1,
)
path-joined f g k p (x ∷ xs) y ys from to last end from-in to-in only-from ends only-to begins same other path more = (
  same p other (λ is. omega (arith, sym path.0 ∙ is)) (λ is. omega (arith, sym path.0 ∙ is)) ∙ path.0,
  path-joined f g k (k + x) xs y ys from to last end from-in to-in only-from ends only-to begins same (λ is. omega arith) path.1 more,
)

-- both, where the list that is appended has nodes
joined-path : (f g : ℕ → ℕ) (k : ℕ) (xs ys : List ℕ) (from to last end : ℕ) → from < k → to < k → ((r : ℕ) → f r ≡ from → r ≡ last) → g last ≡ to →
    ((r : ℕ) → f r ≡ to → r ≡ end) → g end ≡ f from → ((r : ℕ) → (r ≡ from → ⊥) → (f r ≡ from → ⊥) → (f r ≡ to → ⊥) → g r ≡ f r) →
    (to ≡ from → ⊥) → (f from ≡ from → ⊥) → Path f k to xs to → Path f k from ys from → Path g k to (xs ++ ys) to
unfolding Path
joined-path f g k xs [] from to last end from-in to-in only-from ends only-to begins same differ full path more = absurd (full more)
joined-path f g k xs (y ∷ ys) from to last end from-in to-in only-from ends only-to begins same differ full path more =
    path-joined f g k to xs y ys from to last end from-in to-in only-from ends only-to begins same differ path more

-- the path from a head leads to that head alone
ends-at-from : (f : ℕ → ℕ) (k : ℕ) (xs ys : List ℕ) (from l : ℕ) → from < k → l < k → Path f k from xs from → Path f k from ys l → from ≡ l
ends-at-from f k xs ys from l from-in l-in own path = (paths-same f k from xs ys from l from-in l-in own path).0

-- an empty list moves nothing
pub moved-none : (links : List Link) (k from to : ℕ) → AreLinked links k → from < k → to < k → (to ≡ from → ⊥) → before_at links from ≡ from →
    lists_of links k ≡ with_list_at_end (lists_of links k) from to
unfolding Path
moved-none links k from to linked from-in to-in differ empty =
    let s = lists_of links k in
    let alone : after_at links from ≡ from = ap (after_at links) (sym empty) ∙ linked.rings.forth from in
    let none : list_at s from ≡ [] = list-is links linked.rings k from [] linked.room from-in alone in
    let from-there : from < length s.lists = omega (arith, many-lists links k) in
    let to-there : to < length s.lists = omega (arith, many-lists links k) in
    lists-are links linked.rings k linked.room (with_list_at_end s from to) (nodes-moved s from to ∙ many-nodes links k) (long-moved s from to ∙ many-lists links k)
    (λ l there. elim (cases_eq l from) [
      | inl same ↦ subst (λ h. Path (after_at links) k h (list_at (with_list_at_end s from to) h) h) (sym same)
          (subst (λ ys. Path (after_at links) k from ys from) (sym (moved-from s from to from-there)) alone)
      | inr not-from ↦ elim (cases_eq l to) [
        | inl same ↦ subst (λ h. Path (after_at links) k h (list_at (with_list_at_end s from to) h) h) (sym same)
            (subst (λ ys. Path (after_at links) k to ys to) (sym (moved-to s from to to-there differ ∙ ap (λ ys. list_at s to ++ ys) none ∙ append-nil (list_at s to)))
            (list-path links k to linked to-in))
        | inr not-to ↦ subst (λ ys. Path (after_at links) k l ys l) (sym (moved-other s from to l not-from not-to)) (list-path links k l linked there)
      ]
    ])

pub moved-is : (old new : List Link) (k from to : ℕ) → AreLinked old k → AreRings new → length new ≡ length old → from < k → to < k → (to ≡ from → ⊥) → (before_at old from ≡ from → ⊥) →
    ((p : ℕ) → after_at new p ≡ after_at old (exchange (before_at old to) (before_at old from) (exchange (before_at old to) from p))) →
    (lists_of new k ≡ with_list_at_end (lists_of old k) from to) × AreLinked new k
unfolding Path
moved-is old new k from to linked r long from-in to-in differ full says =
    let s = lists_of old k in
    let end = before_at old to in
    let last = before_at old from in
    let f : ℕ → ℕ = after_at old in
    let g : ℕ → ℕ = after_at new in
    let room : k ≤ length new = omega (arith, linked.room) in
    let after-end : f end ≡ to = linked.rings.forth to in
    let after-last : f last ≡ from = linked.rings.forth from in
    let only-to : (p : ℕ) → f p ≡ to → p ≡ end = λ p is. sym (linked.rings.back p) ∙ ap (before_at old) is in
    let only-from : (p : ℕ) → f p ≡ from → p ≡ last = λ p is. sym (linked.rings.back p) ∙ ap (before_at old) is in
    let from-there : from < length s.lists = omega (arith, many-lists old k) in
    let to-there : to < length s.lists = omega (arith, many-lists old k) in
    let from-end : from ≡ end → ⊥ = λ is.
    differ (paths-to f k from (list_at s from) from to from-in to-in (list-path old k from linked from-in) (ap f is ∙ after-end)) in
    let last-end : last ≡ end → ⊥ = λ is. differ (sym after-end ∙ ap f (sym is) ∙ after-last) in
    let begins : g end ≡ f from =
    says end ∙ ap (λ p. f (exchange end last p)) (exchanged-left end from) ∙ ap f (exchanged-other end last from from-end (λ is. full (sym is))) in
    let ends : g last ≡ to =
    says last ∙ ap (λ p. f (exchange end last p)) (exchanged-other end from last last-end full) ∙ ap f (exchanged-right end last) ∙ after-end in
    let alone : g from ≡ from =
    says from ∙ ap (λ p. f (exchange end last p)) (exchanged-right end from) ∙ ap f (exchanged-left end last) ∙ after-last in
    let same : (p : ℕ) → (p ≡ from → ⊥) → (f p ≡ from → ⊥) → (f p ≡ to → ⊥) → g p ≡ f p = λ p not-head not-from not-to.
    says p ∙ ap (λ q. f (exchange end last q)) (exchanged-other end from p (λ is. not-to (ap f is ∙ after-end)) not-head)
    ∙ ap f (exchanged-other end last p (λ is. not-to (ap f is ∙ after-end)) (λ is. not-from (ap f is ∙ after-last))) in
    let joined : Path g k to (list_at s to ++ list_at s from) to =
    joined-path f g k (list_at s to) (list_at s from) from to last end from-in to-in only-from ends only-to begins same differ
    (λ is. full (sym (only-from from is))) (list-path old k to linked to-in) (list-path old k from linked from-in) in
    let paths : (l : ℕ) → l < k → Path g k l (list_at (with_list_at_end s from to) l) l = λ l there. elim (cases_eq l from) [
      | inl is ↦ subst (λ h. Path g k h (list_at (with_list_at_end s from to) h) h) (sym is)
          (subst (λ ys. Path g k from ys from) (sym (moved-from s from to from-there)) alone)
      | inr not-from ↦ elim (cases_eq l to) [
        | inl is ↦ subst (λ h. Path g k h (list_at (with_list_at_end s from to) h) h) (sym is)
            (subst (λ ys. Path g k to ys to) (sym (moved-to s from to to-there differ)) joined)
        | inr not-to ↦ subst (λ ys. Path g k l ys l) (sym (moved-other s from to l not-from not-to))
            (path-kept f g k l (list_at s l) l
            (λ p ys path. same p
            (λ is. not-from (sym (ends-at-from f k (list_at s from) ys from l from-in there (list-path old k from linked from-in) (subst (λ h. Path f k h ys l) is path))))
            (λ is. not-from (sym (paths-to f k p ys l from there from-in path is)))
            (λ is. not-to (sym (paths-to f k p ys l to there to-in path is))))
            (list-path old k l linked there))
      ]
    ] in
    let are : lists_of new k ≡ with_list_at_end s from to =
    lists-are new r k room (with_list_at_end s from to) (nodes-moved s from to ∙ many-nodes old k ∙ ap (λ n. n - k) (sym long)) (long-moved s from to ∙ many-lists old k) paths in (
      are,
      linked-so new r k room linked.heads_few (omega (arith, linked.few)) (with_list_at_end s from to) are paths
          (λ y unlisted.
          let was : is_listed s y ≡ false = unlisted-before s (with_list_at_end s from to) y (λ l among. among-moved s from to l y from-there to-there differ among) unlisted in
          let here : f (k + y) ≡ k + y = linked.idle y was in
          same (k + y) (λ is. omega arith) (λ is. omega (arith, sym here ∙ is)) (λ is. omega (arith, sym here ∙ is)) ∙ here),
    )

-- ---- make and grow

pub made-is : (links : List Link) (k n : ℕ) → AreRings links → length links ≡ k + n → k < 2 ^ 32 → n < 2 ^ 32 → ((p : ℕ) → after_at links p ≡ p) → (lists_of links k ≡ empty_lists n k) × AreLinked links k
unfolding Path empty_lists list_at
made-is links k n r long heads few alone =
    let s = empty_lists n k in
    let empty : (l : ℕ) → l < k → list_at s l ≡ [] = λ l there. get_or-replicate k l [] [] there in
    let paths : (l : ℕ) → l < k → Path (after_at links) k l (list_at s l) l = λ l there. subst (λ ys. Path (after_at links) k l ys l) (sym (empty l there)) (alone l) in
    let room : k ≤ length links = omega arith in
    let are : lists_of links k ≡ s = lists-are links r k room s (omega arith) (length-replicate k []) paths in
    (are, linked-so links r k room heads (omega arith) s are paths (λ x none. alone (k + x)))

pub grown-is : (old new : List Link) (k n : ℕ) → AreLinked old k → AreRings new → length new ≡ length old + n → length old - k + n < 2 ^ 32 →
    ((p : ℕ) → after_at new p ≡ after_at old p) → (lists_of new k ≡ with_more_nodes (lists_of old k) n) × AreLinked new k
grown-is old new k n linked r long few same =
    let s = lists_of old k in
    let room : k ≤ length new = omega (arith, linked.room) in
    let nodes : (with_more_nodes s n).nodes ≡ length new - k = omega (arith, nodes-grown s n, many-nodes old k, linked.room) in
    let paths : (l : ℕ) → l < k → Path (after_at new) k l (list_at (with_more_nodes s n) l) l = λ l there.
    subst (λ ys. Path (after_at new) k l ys l) (sym (grown-at s n l))
    (path-kept (after_at old) (after_at new) k l (list_at s l) l (λ p ys path. same p) (list-path old k l linked there)) in
    let are : lists_of new k ≡ with_more_nodes s n = lists-are new r k room (with_more_nodes s n) nodes (long-grown s n ∙ many-lists old k) paths in
    (are, linked-so new r k room linked.heads_few (omega (arith, linked.room)) (with_more_nodes s n) are paths (λ x none. same (k + x) ∙ linked.idle x (sym (grown-listed s n x) ∙ none)))

-- ---- first and next

first-of : (f : ℕ → ℕ) (k p : ℕ) (xs : List ℕ) (q : ℕ) → q < k → Path f k p xs q → node_of k (f p) ≡ slice_get xs 0
unfolding Path node_of
first-of f k p [] q q-in path = rw (path, lt-ltb q k q-in) refl
first-of f k p (x ∷ xs) q q-in path = rw (path.0, le-ltb (k + x) k (omega arith)) (ap Some (omega arith))

next-of : (f : ℕ → ℕ) (k p : ℕ) (xs : List ℕ) (q i x : ℕ) → q < k → Path f k p xs q → slice_get xs i ≡ Some x → node_of k (f (k + x)) ≡ slice_get xs (suc i)
unfolding Path
next-of f k p [] q i x q-in path is = cc
next-of f k p (y ∷ ys) q zero x q-in path is =
    let same : y ≡ x = cc in
    first-of f k (k + x) ys q q-in (subst (λ z. Path f k (k + z) ys q) same path.1)
next-of f k p (y ∷ ys) q (suc i) x q-in path is = next-of f k (k + y) ys q i x q-in path.1 is

pub first-is : (links : List Link) (k l : ℕ) → AreLinked links k → l < k → node_of k (after_at links l) ≡ slice_get (list_at (lists_of links k) l) 0
first-is links k l linked there = first-of (after_at links) k l (list_at (lists_of links k) l) l there (list-path links k l linked there)

pub next-is : (links : List Link) (k x l i : ℕ) → AreLinked links k → slice_get (list_at (lists_of links k) l) i ≡ Some x → node_of k (after_at links (k + x)) ≡ slice_get (list_at (lists_of links k) l) (suc i)
next-is links k x l i linked is =
    let there : l < k = (node-path links k l x linked (among-at (list_at (lists_of links k) l) i x is)).0 in
    next-of (after_at links) k l (list_at (lists_of links k) l) l i x there (list-path links k l linked there) is

-- ---- a place of the lists in the table

pub head_there : (links : List Link) (k l : ℕ) (s : LinkedLists) → AreLinked links k → lists_of links k ≡ s → l < length s.lists → l < k
head_there links k l s linked is there = omega (arith, ap (λ t. length t.lists) is, many-lists links k)

pub node-there : (links : List Link) (k x : ℕ) (s : LinkedLists) → AreLinked links k → lists_of links k ≡ s → x < s.nodes → k + x < length links
node-there links k x s linked is there = omega (arith, ap (λ t. t.nodes) is, many-nodes links k, linked.room)

pub listed-there : (links : List Link) (k x : ℕ) (s : LinkedLists) → AreLinked links k → lists_of links k ≡ s → is_listed s x ≡ true → k + x < length links
listed-there links k x s linked is listed =
    let (l, inside, among) = listed-in (lists_of links k) x (subst (λ t. is_listed t x ≡ true) (sym is) listed) in
    node-there links k x s linked is (subst (λ t. x < t.nodes) is ((apart_of links k linked).within l x among))
