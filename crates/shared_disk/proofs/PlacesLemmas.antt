-- The lines of a script stand at their places.
use Rattle.std.proofs.Common.{◌≡◌, ℕ, zero, suc, ◌+◌, ◌<◌, ◌≤◌, inl, inr, ◌⊎◌, Bool, true, false, List, [], ◌∷◌, ◌++◌, length, slice_get, Option, None, Some, IsSome, refl, sym, ◌∙◌, ap, subst, arith, nat_eq}
use Rattle.std.proofs.lemmas.Bool.{cases_lt, eqb-true, eq-eqb}
use Rattle.std.proofs.lemmas.Option.{slice_get_within}
use Rattle.efi_status.specs.declared.Status.{Status}
use Rattle.history.specs.declared.entry.Entry.{Entry}
use Rattle.history.specs.declared.entry.Entry.TheVariants.{Accept, Refuse, Done, Fault, Collect, Cancel, Reset, Eject, Insert, Protect}
use Rattle.history.specs.declared.entry.View.{View}
use Rattle.history.specs.declared.entry.Asked.{Asked}
use Rattle.history.specs.declared.order.Order.{Order}
use Rattle.history.specs.declared.order.Order.TheVariants as order
use Rattle.history.specs.Setup.{Setup}
use Rattle.shared_disk.specs.declared.clients.Stand.{Stand}
use Rattle.shared_disk.specs.Lines.{view_of, payload_bytes, answer_of, line_entry, entry_if, with_line_entry}
use Rattle.shared_disk.specs.Script.{tag_of, Script, Deed, Enters, Does, entries_by, places_by, with_place, line_count_by, MayComeNext, DoesNext, Follows, places_at, KeepsScript}
use Rattle.shared_disk.specs.Inside.{first_entries}
use Rattle.shared_disk.specs.Laws.{HasEntryAt, StandsAt, is_handed_back}
use Rattle.shared_disk.proofs.MakingLemmas.{first-all}
use Rattle.shared_disk.proofs.SoundLemmas.{first-entries-more}

snoc-at : (xs : List ℕ) (x p n : ℕ) → slice_get (xs ++ x ∷ []) n ≡ Some p → (slice_get xs n ≡ Some p) ⊎ ((n ≡ length xs) × (x ≡ p))
snoc-at [] x p zero at = inr (refl, cc)
snoc-at [] x p (suc n) at = cc
snoc-at (y ∷ xs) x p zero at = inl at
snoc-at (y ∷ xs) x p (suc n) at = elim (snoc-at xs x p n at) [ inl there ↦ inl there | inr (is, same) ↦ inr (ap suc is, same) ]

snoc-last : (xs : List ℕ) (x : ℕ) → slice_get (xs ++ x ∷ []) (length xs) ≡ Some x
snoc-last [] x = refl
snoc-last (y ∷ xs) x = snoc-last xs x

snoc-before : (xs : List ℕ) (x p n : ℕ) → slice_get xs n ≡ Some p → slice_get (xs ++ x ∷ []) n ≡ Some p
snoc-before [] x p n at = cc
snoc-before (y ∷ xs) x p zero at = at
snoc-before (y ∷ xs) x p (suc n) at = snoc-before xs x p n at

-- what stands in a history stands there with an entry more
entry-later : (H : List Entry) (p : ℕ) (e : Entry) (o : Option Entry) → HasEntryAt H p o → HasEntryAt (e ∷ H) p o
entry-later H p e None there = tt
entry-later H p e (Some x) (lt, is) =
    (omega (arith, lt), first-entries-more (p + 1) H e (omega (arith, lt)) ∙ (is ∙ ap (λ xs. x ∷ xs) (sym (first-entries-more p H e (omega (arith, lt))))))

stands-later : (S : Setup) (d : Script) (H : List Entry) (e : Entry) (i n p : ℕ) → (at : StandsAt S d H i n p) → (later : StandsAt S d (e ∷ H) i n p) × (later.entry ≡ at.entry)
stands-later S d H e i n p at = (
  record {
    within = omega (arith, at.within);
    entry = at.entry;
    does = subst (λ G. DoesNext S d.roles G i n at.entry) (sym (first-entries-more p H e at.within)) at.does;
    there = entry-later H p e at.entry at.there;
  },
  refl,
)

-- the same with a line's entry or none
stands-on : (S : Setup) (d : Script) (H : List Entry) (o : Option Entry) (i n p : ℕ) → (at : StandsAt S d H i n p) → (later : StandsAt S d (with_line_entry o H) i n p) × (later.entry ≡ at.entry)
stands-on S d H None i n p at = (at, refl)
stands-on S d H (Some e) i n p at = stands-later S d H e i n p at

-- a line stands where it was done
stands-here : (S : Setup) (d : Script) (H : List Entry) (o : Option Entry) (i n : ℕ) → DoesNext S d.roles H i n o → (at : StandsAt S d (with_line_entry o H) i n (length H)) × (at.entry ≡ o)
stands-here S d H None i n does = (
  record {
    within = omega arith;
    entry = None;
    does = subst (λ G. DoesNext S d.roles G i n None) (sym (first-all H (length H) refl)) does;
    there = tt;
  },
  refl,
)
stands-here S d H (Some e) i n does =
    let old : first_entries (length H) (e ∷ H) ≡ H = first-entries-more (length H) H e (omega arith) ∙ first-all H (length H) refl in
    let new : first_entries (length H + 1) (e ∷ H) ≡ e ∷ H = first-all (e ∷ H) (length H + 1) (omega arith) in (
      record {
        within = omega arith;
        entry = Some e;
        does = subst (λ G. DoesNext S d.roles G i n (Some e)) (sym old) does;
        there = (omega arith, new ∙ ap (λ xs. e ∷ xs) (sym old));
      },
      refl,
    )

same-client : (j i : ℕ) → nat_eq j i ≡ true → j ≡ i
same-client j i is = eqb-true j i is

stands-by : (S : Setup) (d : Script) (log : List Deed) → Follows S d log → (i n p : ℕ) → slice_get (places_by d.opening log i) n ≡ Some p → StandsAt S d (entries_by d.opening log) i n p
unfolding Follows entries_by places_by
stands-by S d [] follows i n p at = cc
stands-by S d (Enters e ∷ log) follows i n p at = (stands-later S d (entries_by d.opening log) e i n p (stands-by S d log follows.0 i n p at)).0
stands-by S d (Does j e ∷ log) follows i n p at = by (λ there. stands-by S d log follows.0 i n p there) (nat_eq j i) refl at
  where
    H : List Entry
    H = entries_by d.opening log

    by : (slice_get (places_by d.opening log i) n ≡ Some p → StandsAt S d H i n p) → (b : Bool) → nat_eq j i ≡ b → slice_get (with_place b (length H) (places_by d.opening log i)) n ≡ Some p → StandsAt S d (with_line_entry e H) i n p
    by earlier false other there = (stands-on S d H e i n p (earlier there)).0
    by earlier true is there = elim (snoc-at (places_by d.opening log i) (length H) p n there) [
      | inl before ↦ (stands-on S d H e i n p (earlier before)).0
      | inr (last, place) ↦
          let client : j ≡ i = same-client j i is in
          let does : DoesNext S d.roles H i (length (places_by d.opening log i)) e = subst (λ k. DoesNext S d.roles H k (length (places_by d.opening log k)) e) client follows.1 in
          subst (λ q. StandsAt S d (with_line_entry e H) i n q) place (subst (λ k. StandsAt S d (with_line_entry e H) i k (length H)) (sym last) (stands-here S d H e i (length (places_by d.opening log i)) does).0)
    ]

pub lines-stand : (S : Setup) (d : Script) (places : List (List ℕ)) (H : List Entry) → KeepsScript S d places H → (i n p : ℕ) → slice_get (places_at places i) n ≡ Some p → StandsAt S d H i n p
lines-stand S d places H keeps i n p at = subst (λ G. StandsAt S d G i n p) keeps.history (stands-by S d keeps.log keeps.follows i n p (rw (keeps.at i) at at))

-- at the place of line n, which is not above that of a later line
abbrev Before : Setup → Script → List Entry → ℕ → ℕ → ℕ → ℕ → Type 0
Before S d H i n p q = (at : StandsAt S d H i n p) × (p ≤ q) × (IsSome at.entry → p < q)

entry-below : (H : List Entry) (p : ℕ) (o : Option Entry) → HasEntryAt H p o → IsSome o → p < length H
entry-below H p None there some = cc
entry-below H p (Some e) there some = there.0

before-later : (S : Setup) (d : Script) (H : List Entry) (e : Entry) (i n p q : ℕ) → Before S d H i n p q → Before S d (e ∷ H) i n p q
before-later S d H e i n p q (at, le, lt) = let (later, same) = stands-later S d H e i n p at in (later, le, λ some. lt (subst (λ o. IsSome o) same some))

before-on : (S : Setup) (d : Script) (H : List Entry) (o : Option Entry) (i n p q : ℕ) → Before S d H i n p q → Before S d (with_line_entry o H) i n p q
before-on S d H None i n p q before = before
before-on S d H (Some e) i n p q before = before-later S d H e i n p q before

ascend-by : (S : Setup) (d : Script) (log : List Deed) → Follows S d log → (i n m p q : ℕ) → n < m → slice_get (places_by d.opening log i) n ≡ Some p → slice_get (places_by d.opening log i) m ≡ Some q
    → Before S d (entries_by d.opening log) i n p q
unfolding Follows entries_by places_by
ascend-by S d [] follows i n m p q lt first second = cc
ascend-by S d (Enters e ∷ log) follows i n m p q lt first second = before-later S d (entries_by d.opening log) e i n p q (ascend-by S d log follows.0 i n m p q lt first second)
ascend-by S d (Does j e ∷ log) follows i n m p q lt first second = by (λ one two. ascend-by S d log follows.0 i n m p q lt one two) (nat_eq j i) refl first second
  where
    H : List Entry
    H = entries_by d.opening log

    xs : List ℕ
    xs = places_by d.opening log i

    by : (slice_get xs n ≡ Some p → slice_get xs m ≡ Some q → Before S d H i n p q) → (b : Bool) → nat_eq j i ≡ b → slice_get (with_place b (length H) xs) n ≡ Some p → slice_get (with_place b (length H) xs) m ≡ Some q → Before S d (with_line_entry e H) i n p q
    by earlier false other one two = before-on S d H e i n p q (earlier one two)
    by earlier true is one two = both (snoc-at xs (length H) p n one) (snoc-at xs (length H) q m two)
      where
        both : (slice_get xs n ≡ Some p) ⊎ ((n ≡ length xs) × (length H ≡ p)) → (slice_get xs m ≡ Some q) ⊎ ((m ≡ length xs) × (length H ≡ q)) → Before S d (with_line_entry e H) i n p q
        both (inl there) (inl then_) = before-on S d H e i n p q (earlier there then_)
        both (inl there) (inr (last, place)) =
            let at : StandsAt S d H i n p = stands-by S d log follows.0 i n p there in
            before-on S d H e i n p q (at, omega (arith, at.within, place), λ some. omega (arith, entry-below H p at.entry at.there some, place))
        both (inr (last, place)) (inl then_) = absurd (omega (arith, lt, last, slice_get_within xs m q then_))
        both (inr (last, place)) (inr (last_too, place_too)) = absurd (omega (arith, lt, last, last_too))

pub places-ascend : (S : Setup) (d : Script) (places : List (List ℕ)) (H : List Entry) → KeepsScript S d places H → (i n m p q : ℕ) → n < m → slice_get (places_at places i) n ≡ Some p → slice_get (places_at places i) m ≡ Some q
    → (at : StandsAt S d H i n p) × (p ≤ q) × (IsSome at.entry → p < q)
places-ascend S d places H keeps i n m p q lt first second =
    subst (λ G. Before S d G i n p q) keeps.history (ascend-by S d keeps.log keeps.follows i n m p q lt (rw (keeps.at i) at first) (rw (keeps.at i) at second))

-- a line's entry has its client's tag
if-tag : (b : Bool) (x e : Entry) (tag : ℕ) → tag_of x ≡ tag → entry_if b x ≡ Some e → tag_of e ≡ tag
if-tag true x e tag own is = let same : x ≡ e = cc in rw (← same) own
if-tag false x e tag own is = cc

answer-tag : (tag : ℕ) (view : View) (asked : Asked) (bytes : List ℕ) (k : ℕ) (refusal : Option Status) (e : Entry) → Some (answer_of tag view asked bytes k refusal) ≡ Some e → tag_of e ≡ tag
answer-tag tag view asked bytes k None e is = let same : answer_of tag view asked bytes k None ≡ e = cc in rw (← same) refl
answer-tag tag view asked bytes k (Some status) e is = let same : answer_of tag view asked bytes k (Some status) ≡ e = cc in rw (← same) refl

line-tag : (S : Setup) (H : List Entry) (tag : ℕ) (stand : Stand) (line : Order) (e : Entry) → line_entry S H tag stand line ≡ Some e → tag_of e ≡ tag
unfolding line_entry
line-tag S H tag stand (order.Request asked payload k) e is = answer-tag tag (view_of S stand k) asked (payload_bytes asked.length payload) k _ e is
line-tag S H tag stand order.Wait e is = cc
line-tag S H tag stand (order.Cancel k) e is = if-tag _ _ e tag refl is
line-tag S H tag stand order.Reset e is = if-tag _ _ e tag refl is
line-tag S H tag stand order.Eject e is = if-tag _ _ e tag refl is
line-tag S H tag stand order.Insert e is = if-tag _ _ e tag refl is
line-tag S H tag stand (order.Protect on) e is = let same : Protect tag on ≡ e = cc in rw (← same) refl

-- an entry with a client's tag that is no collect is no other one's
enters-none : (S : Setup) (d : Script) (H : List Entry) (done : ℕ → ℕ) (e : Entry) (i : ℕ) → MayComeNext S d H done e → tag_of e ≡ i + 1 → is_handed_back e ≡ false → ⊥
enters-none S d H done (Done t c) i may tag other = absurd (omega (arith, tag))
enters-none S d H done (Fault t c n) i may tag other = absurd (omega (arith, tag))
enters-none S d H done (Collect tag t) i may own other = cc
enters-none S d H done (Accept tag view asked bytes) i may own other = may
enters-none S d H done (Refuse tag view asked media_id status) i may own other = may
enters-none S d H done (Cancel tag view) i may own other = may
enters-none S d H done (Reset tag) i may own other = may
enters-none S d H done (Eject tag) i may own other = may
enters-none S d H done (Insert tag media_id) i may own other = may
enters-none S d H done (Protect tag on) i may own other = may

-- the newest entry, or one of those before
newest : (H : List Entry) (x e : Entry) (p : ℕ) → HasEntryAt (x ∷ H) p (Some e) → HasEntryAt H p (Some e) ⊎ ((p ≡ length H) × (x ≡ e))
newest H x e p (lt, is) = elim (cases_lt p (length H)) [
  | inl below ↦ inl (below, sym (first-entries-more (p + 1) H x (omega (arith, below))) ∙ (is ∙ ap (λ xs. e ∷ xs) (first-entries-more p H x (omega (arith, below)))))
  | inr not_below ↦
      let last : p ≡ length H = omega (arith, lt, not_below) in
      let all : first_entries (p + 1) (x ∷ H) ≡ x ∷ H = first-all (x ∷ H) (p + 1) (omega (arith, last)) in
      let heads : x ∷ H ≡ e ∷ first_entries p (x ∷ H) = sym all ∙ is in
      inr (last, cc)
]

abbrev IsLine : Setup → Script → List Entry → List ℕ → ℕ → ℕ → Entry → Type 0
IsLine S d H xs i p e = (n : ℕ) × (slice_get xs n ≡ Some p) × (at : StandsAt S d H i n p) × (at.entry ≡ Some e)

own-by : (S : Setup) (d : Script) (log : List Deed) → Follows S d log → (i p : ℕ) (e : Entry) → length d.opening ≤ p → HasEntryAt (entries_by d.opening log) p (Some e) → tag_of e ≡ i + 1 → is_handed_back e ≡ false
    → IsLine S d (entries_by d.opening log) (places_by d.opening log i) i p e
unfolding Follows entries_by places_by
own-by S d [] follows i p e behind there tag other = absurd (omega (arith, behind, there.0))
own-by S d (Enters x ∷ log) follows i p e behind there tag other = elim (newest (entries_by d.opening log) x e p there) [
  | inl before ↦
      let (n, place, at, is) = own-by S d log follows.0 i p e behind before tag other in
      let (later, same) = stands-later S d (entries_by d.opening log) x i n p at in
      (n, place, later, same ∙ is)
  | inr (last, same) ↦ absurd (enters-none S d (entries_by d.opening log) (line_count_by d.opening log) x i follows.1 (rw same tag) (rw same other))
]
own-by S d (Does j None ∷ log) follows i p e behind there tag other = by (own-by S d log follows.0 i p e behind there tag other) (nat_eq j i)
  where
    H : List Entry
    H = entries_by d.opening log

    by : IsLine S d H (places_by d.opening log i) i p e → (b : Bool) → IsLine S d H (with_place b (length H) (places_by d.opening log i)) i p e
    by old false = old
    by (n, place, at, is) true = (n, snoc-before (places_by d.opening log i) (length H) p n place, at, is)
own-by S d (Does j (Some x) ∷ log) follows i p e behind there tag other = elim (newest (entries_by d.opening log) x e p there) [
  | inl before ↦ by (own-by S d log follows.0 i p e behind before tag other) (nat_eq j i)
  | inr (last, same) ↦ here last same
]
  where
    H : List Entry
    H = entries_by d.opening log

    xs : List ℕ
    xs = places_by d.opening log i

    by : IsLine S d H xs i p e → (b : Bool) → IsLine S d (x ∷ H) (with_place b (length H) xs) i p e
    by (n, place, at, is) false = let (later, same) = stands-later S d H x i n p at in (n, place, later, same ∙ is)
    by (n, place, at, is) true = let (later, same) = stands-later S d H x i n p at in (n, snoc-before xs (length H) p n place, later, same ∙ is)

    here : p ≡ length H → x ≡ e → IsLine S d (x ∷ H) (with_place (nat_eq j i) (length H) xs) i p e
    here last same =
        let does : DoesNext S d.roles H j (length (places_by d.opening log j)) (Some x) = follows.1 in
        let own : tag_of x ≡ j + 1 = line-tag S H (j + 1) does.role.stand does.order x (sym does.entry) in
        let theirs : tag_of x ≡ i + 1 = subst (λ (y : Entry). tag_of y ≡ i + 1) (sym same) tag in
        let client : j ≡ i = omega (arith, own, theirs) in
        let mine : DoesNext S d.roles H i (length xs) (Some x) = subst (λ k. DoesNext S d.roles H k (length (places_by d.opening log k)) (Some x)) client does in
        let eq : nat_eq j i ≡ true = rw client (eq-eqb i i refl) in
        let (at, is) = stands-here S d H (Some x) i (length xs) mine in
        let place : slice_get (xs ++ length H ∷ []) (length xs) ≡ Some p = snoc-last xs (length H) ∙ ap Some (sym last) in
        let stands : (at : StandsAt S d (x ∷ H) i (length xs) p) × (at.entry ≡ Some e) =
        subst (λ q. (at : StandsAt S d (x ∷ H) i (length xs) q) × (at.entry ≡ Some e)) (sym last) (at, is ∙ ap Some same) in
        let line : IsLine S d (x ∷ H) (xs ++ length H ∷ []) i p e = (length xs, place, stands.0, stands.1) in
        subst (λ b. IsLine S d (x ∷ H) (with_place b (length H) xs) i p e) (sym eq) line

pub own-entries : (S : Setup) (d : Script) (places : List (List ℕ)) (H : List Entry) → KeepsScript S d places H → (i p : ℕ) (e : Entry) → length d.opening ≤ p → HasEntryAt H p (Some e) → tag_of e ≡ i + 1 → is_handed_back e ≡ false
    → (n : ℕ) × (slice_get (places_at places i) n ≡ Some p) × (at : StandsAt S d H i n p) × (at.entry ≡ Some e)
own-entries S d places H keeps i p e behind there tag other =
    subst (λ G. IsLine S d G (places_at places i) i p e) keeps.history
    (subst (λ xs. IsLine S d (entries_by d.opening keeps.log) xs i p e) (sym (keeps.at i))
    (own-by S d keeps.log keeps.follows i p e behind (subst (λ G. HasEntryAt G p (Some e)) (sym keeps.history) there) tag other))
