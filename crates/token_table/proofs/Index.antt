-- How the records of a slab and its index change.
use Rattle.std.proofs.Common.{◌≡◌, ◌≢◌, ℕ, ◌+◌, ◌<◌, ◌≤◌, [], ◌∷◌, ◌++◌, length, map, set, Option, None, Some, inl, inr, refl, sym, subst, ap, ◌∙◌, arith, zero-add, eq-eqb}
use Rattle.std.specs.List.{range_with_len}
use Rattle.std.specs.Ordering.{nat_cmp}
use Rattle.std.specs.BTreeMap.{BTreeMap, get as key_at, is_at, Updates as KeyUpdates, IsOrdered}
use Rattle.std.proofs.lemmas.Bool.{cases_eq, cases_lt, ne_eqb}
use Rattle.std.proofs.lemmas.List.{ext_get_or, get_or_past, length-append}
use Rattle.std.proofs.lemmas.List.FromFn.{get_or-map-range_with_len, length-map-range_with_len}
use Rattle.std.proofs.Math.ListN.{length-set}
use Rattle.std.specs.Prelude.{unwrap_or}
use Rattle.std.specs.Cmp.{unsigned_tied}
use Rattle.std.specs.Map.{lookup}
use Rattle.std.specs.Option.{option_map}
use Rattle.slab.specs.Slab.{Slab, get, Updates}
use Rattle.token_table.specs.declared.record.Record.{Record}
use Rattle.std.specs.Prelude.{Ok, Err, IfSome, IsSome, is_some}
use Rattle.slab.specs.Slab.{with_value}
use Rattle.slab.proofs.SlabLemmas.{Updates-with_value}
use Rattle.efi_status.specs.declared.Status.{Status}
use Rattle.event_cell.specs.EventWord.{word_of}
use Rattle.event_cell.specs.Ends.{SignallerEnd}
use Rattle.token_table.specs.declared.record.NotThere.{NotThere}
use Rattle.token_table.specs.declared.record.Mark.{Mark}
use Rattle.token_table.specs.Records.{Records, record_at, request_at, with_change, ended_record, without_record, mark_of_end, mark_of_record, mark_at, done_by, done_or_fault, done_at, word_for, IsShown, AreShown}
use Rattle.token_table.proofs.RecordsLemmas.{at-set, at-push}
use Rattle.token_table.specs.Index.{slot_under, slot_of, records_of, IsIndexed}

pub length-records_of : (index : BTreeMap ℕ ℕ) (slab : Slab Record) (given : ℕ) → length (records_of index slab given) ≡ given
unfolding records_of
length-records_of index slab given = length-map-range_with_len (slot_of index slab) 0 given

-- no key, no record
under-none : (slab : Slab Record) (key : Option ℕ) → ((k : ℕ) → key ≡ Some k → ⊥) → slot_under slab key ≡ None
under-none slab None absent = refl
under-none slab (Some k) absent = absurd (absent k refl)

-- a number that was not given has no record
slot-past : (index : BTreeMap ℕ ℕ) (slab : Slab Record) (given n : ℕ) → IsIndexed index slab given → given ≤ n → slot_of index slab n ≡ None
unfolding slot_of
slot-past index slab given n is past = under-none slab (key_at nat_cmp index n) (λ k at. let below = is.below n k at in omega arith)

-- the record with this number
pub record-at : (index : BTreeMap ℕ ℕ) (slab : Slab Record) (given n : ℕ) → IsIndexed index slab given → record_at (records_of index slab given) n ≡ slot_of index slab n
unfolding record_at records_of
record-at index slab given n is = elim (cases_lt n given) [
  | inl within ↦ get_or-map-range_with_len (slot_of index slab) 0 given n n None within (zero-add n)
  | inr past ↦ get_or_past (map (slot_of index slab) (range_with_len 0 given)) n None (subst (λ l. l ≤ n) (sym (length-map-range_with_len (slot_of index slab) 0 given)) past) ∙ sym (slot-past index slab given n is past)
]

-- lists of records with the same record at each number are equal
records-are : (index : BTreeMap ℕ ℕ) (slab : Slab Record) (given : ℕ) (rs : Records) → IsIndexed index slab given → length rs ≡ given → ((n : ℕ) → slot_of index slab n ≡ record_at rs n) → records_of index slab given ≡ rs
unfolding record_at
records-are index slab given rs is long same = ext_get_or None (records_of index slab given) rs (length-records_of index slab given ∙ sym long) (λ n _. record-at index slab given n is ∙ same n)

-- the events show the marks
pub are-shown : (index : BTreeMap ℕ ℕ) (slab : Slab Record) (given : ℕ) → IsIndexed index slab given → AreShown (records_of index slab given)
are-shown index slab given is = record { each = λ n r at. shown-under index slab given is (key_at nat_cmp index n) r (unfold slot_of in sym (record-at index slab given n is) ∙ at) }
  where
    shown-under : (index : BTreeMap ℕ ℕ) (slab : Slab Record) (given : ℕ) → IsIndexed index slab given → (key : Option ℕ) (r : Record) → slot_under slab key ≡ Some r → IsShown r
    shown-under index slab given is None r at = absurd (cc)
    shown-under index slab given is (Some k) r at = is.shown k r at

-- a number that has a record was given
pub given-of : (index : BTreeMap ℕ ℕ) (slab : Slab Record) (given n key : ℕ) → IsIndexed index slab given → key_at nat_cmp index n ≡ Some key → n < length (records_of index slab given)
given-of index slab given n key is at = subst (λ l. n < l) (sym (length-records_of index slab given)) (is.below n key at)

-- another key keeps its record
slot-other : (before after : Slab Record) (k : ℕ) (slot : Option Record) (key : Option ℕ) → Updates before after k slot → ((other : ℕ) → key ≡ Some other → other ≢ k) → slot_under after key ≡ slot_under before key
slot-other before after k slot None updates apart = refl
slot-other before after k slot (Some other) updates apart = updates.others other (apart other refl)

-- another number keeps its key
key-other : (old new : BTreeMap ℕ ℕ) (n m : ℕ) (key : Option ℕ) → KeyUpdates nat_cmp old new n key → m ≢ n → key_at nat_cmp new m ≡ key_at nat_cmp old m
key-other old new n m key updates other = updates.2 m (unsigned_tied n m ∙ ne_eqb n m (λ same. other (sym same)))

same-some : {X : Type 0} (a b : X) → Some a ≡ Some b → a ≡ b
same-some a b same = ap (λ o. unwrap_or o a) same

-- nothing is None and something
none-some : {X : Type 0} (o : Option X) (x : X) → o ≡ None → o ≡ Some x → ⊥
none-some o x none some = let e : None ≡ Some x = sym none ∙ some in cc

-- the record under a key is changed
kept-change : (index : BTreeMap ℕ ℕ) (before after : Slab Record) (given key : ℕ) (r : Record) → IsIndexed index before given → Updates before after key (Some r) → IsShown r → IsIndexed index after given
kept-change index before after given key r is updates new = record {
  ordered = is.ordered;
  below = is.below;
  stored = λ n k at. elim (cases_eq k key) [
    | inl same ↦ (r, ap (get after) same ∙ updates.changed)
    | inr other ↦ let old = is.stored n k at in (old.0, updates.others k other ∙ old.1)
  ];
  apart = is.apart;
  shown = λ k s at. elim (cases_eq k key) [
    | inl same ↦ subst IsShown (same-some r s (sym updates.changed ∙ sym (ap (get after) same) ∙ at)) new
    | inr other ↦ is.shown k s (sym (updates.others k other) ∙ at)
  ];
}

-- what each number has after a record was changed, or what it had was replaced
pub changed-is : (change : Record → Record) (index : BTreeMap ℕ ℕ) (before after : Slab Record) (given n key : ℕ) (r : Record) (s : Records) → records_of index before given ≡ s → IsIndexed index before given → key_at nat_cmp index n ≡ Some key → get before key ≡ Some r → Updates before after key (Some (change r)) → IsShown (change r)
    → (records_of index after given ≡ with_change change s n) × IsIndexed index after given
unfolding with_change slot_of
changed-is change index before after given n key r s view is at has updates new =
    let old = records_of index before given in
    let slot = option_map change (record_at old n) in
    let there = given-of index before given n key is at in
    let had : record_at old n ≡ Some r = record-at index before given n is ∙ ap (slot_under before) at ∙ has in
    let indexed = kept-change index before after given key (change r) is updates new in (
      records-are index after given (set old n slot) indexed (length-set old n slot ∙ length-records_of index before given) (λ m. elim (cases_eq m n) [
        | inl same ↦ ap (λ k. slot_under after (key_at nat_cmp index k)) same ∙ ap (slot_under after) at ∙ updates.changed ∙ sym (ap (option_map change) had) ∙ sym (at-set old n m slot there ∙ rw (eq-eqb m n same) refl)
        | inr other ↦ slot-other before after key (Some (change r)) (key_at nat_cmp index m) updates (λ k found same. other (is.apart m n key (found ∙ ap Some same) at)) ∙ sym (record-at index before given m is) ∙ sym (at-set old n m slot there ∙ rw (ne_eqb m n other) refl)
      ]) ∙ ap (λ rs. with_change change rs n) view,
      indexed,
    )

-- a number that has a key after one was taken out of the index had it before
had-key : (old new : BTreeMap ℕ ℕ) (n m key : ℕ) → KeyUpdates nat_cmp old new n None → key_at nat_cmp new m ≡ Some key → (m ≢ n) × (key_at nat_cmp old m ≡ Some key)
had-key old new n m key updates at =
    let other : m ≢ n = λ same. none-some (key_at nat_cmp new m) key (ap (key_at nat_cmp new) same ∙ updates.1) at in
    (other, sym (key-other old new n m None updates other) ∙ at)

kept-without : (old new : BTreeMap ℕ ℕ) (before after : Slab Record) (given n key : ℕ) → IsIndexed old before given → key_at nat_cmp old n ≡ Some key → KeyUpdates nat_cmp old new n None → Updates before after key None → IsOrdered nat_cmp new → IsIndexed new after given
kept-without old new before after given n key is at keys updates ordered = record {
  ordered = ordered;
  below = λ m k found. is.below m k (had-key old new n m k keys found).1;
  stored = λ m k found.
      let had = had-key old new n m k keys found in
      let kept = is.stored m k had.1 in
      (kept.0, updates.others k (λ same. had.0 (is.apart m n key (had.1 ∙ ap Some same) at)) ∙ kept.1);
  apart = λ l m k one two. is.apart l m k (had-key old new n l k keys one).1 (had-key old new n m k keys two).1;
  shown = λ k r found. elim (cases_eq k key) [
    | inl same ↦ absurd (none-some (get after k) r (ap (get after) same ∙ updates.changed) found)
    | inr other ↦ is.shown k r (sym (updates.others k other) ∙ found)
  ];
}

-- what each number has after a record was handed out
pub without-is : (old new : BTreeMap ℕ ℕ) (before after : Slab Record) (given n key : ℕ) (s : Records) → records_of old before given ≡ s → IsIndexed old before given → key_at nat_cmp old n ≡ Some key → KeyUpdates nat_cmp old new n None → Updates before after key None → IsOrdered nat_cmp new
    → (records_of new after given ≡ without_record s n) × IsIndexed new after given
unfolding without_record slot_of
without-is old new before after given n key s view is at keys updates ordered =
    let was = records_of old before given in
    let there = given-of old before given n key is at in
    let indexed = kept-without old new before after given n key is at keys updates ordered in (
      records-are new after given (set was n None) indexed (length-set was n None ∙ length-records_of old before given) (λ m. elim (cases_eq m n) [
        | inl same ↦ ap (slot_under after) (ap (key_at nat_cmp new) same ∙ keys.1) ∙ sym (at-set was n m None there ∙ rw (eq-eqb m n same) refl)
        | inr other ↦
            ap (slot_under after) (key-other old new n m None keys other)
            ∙ slot-other before after key None (key_at nat_cmp old m) updates (λ k found same. other (is.apart m n key (found ∙ ap Some same) at))
            ∙ sym (record-at old before given m is) ∙ sym (at-set was n m None there ∙ rw (ne_eqb m n other) refl)
      ]) ∙ ap (λ rs. without_record rs n) view,
      indexed,
    )

-- a number that has a key after one was put into the index has that one, or had its own before
pub data Had (old : BTreeMap ℕ ℕ) (given key m k : ℕ) : Type 0 where
  New : m ≡ given → k ≡ key → Had old given key m k
  Old : m ≢ given → key_at nat_cmp old m ≡ Some k → Had old given key m k

had-or-new : (old new : BTreeMap ℕ ℕ) (given key m k : ℕ) → KeyUpdates nat_cmp old new given (Some key) → key_at nat_cmp new m ≡ Some k → Had old given key m k
had-or-new old new given key m k keys at = elim (cases_eq m given) [
  | inl same ↦ New same (same-some k key (sym at ∙ ap (key_at nat_cmp new) same ∙ keys.1))
  | inr other ↦ Old other (sym (key-other old new given m (Some key) keys other) ∙ at)
]

-- a key that is in use is not the vacant one
used : (index : BTreeMap ℕ ℕ) (slab : Slab Record) (given n k key : ℕ) → IsIndexed index slab given → get slab key ≡ None → key_at nat_cmp index n ≡ Some k → k ≢ key
used index slab given n k key is vacant at same = let kept = is.stored n k at in none-some (get slab k) kept.0 (ap (get slab) same ∙ vacant) kept.1

kept-added : (old new : BTreeMap ℕ ℕ) (before after : Slab Record) (given key : ℕ) (r : Record) → IsIndexed old before given → get before key ≡ None → KeyUpdates nat_cmp old new given (Some key) → Updates before after key (Some r) → IsShown r → IsOrdered nat_cmp new
    → IsIndexed new after (given + 1)
kept-added old new before after given key r is vacant keys updates fresh ordered = record {
  ordered = ordered;
  below = λ m k at. elim (had-or-new old new given key m k keys at) [
    | New same _ ↦ omega arith
    | Old other had ↦ let below = is.below m k had in omega arith
  ];
  stored = λ m k at. elim (had-or-new old new given key m k keys at) [
    | New same is-key ↦ (r, ap (get after) is-key ∙ updates.changed)
    | Old other had ↦ let kept = is.stored m k had in (kept.0, updates.others k (used old before given m k key is vacant had) ∙ kept.1)
  ];
  apart = λ l m k one two. elim (had-or-new old new given key l k keys one) [
    | New l-same k-same ↦ elim (had-or-new old new given key m k keys two) [
      | New m-same _ ↦ l-same ∙ sym m-same
      | Old other had ↦ absurd (used old before given m k key is vacant had k-same)
    ]
    | Old l-other l-had ↦ elim (had-or-new old new given key m k keys two) [
      | New m-same k-same ↦ absurd (used old before given l k key is vacant l-had k-same)
      | Old other had ↦ is.apart l m k l-had had
    ]
  ];
  shown = λ k s at. elim (cases_eq k key) [
    | inl same ↦ subst IsShown (same-some r s (sym updates.changed ∙ sym (ap (get after) same) ∙ at)) fresh
    | inr other ↦ is.shown k s (sym (updates.others k other) ∙ at)
  ];
}

-- what each number has after a request was added
pub added-is : (old new : BTreeMap ℕ ℕ) (before after : Slab Record) (given key : ℕ) (r : Record) (s : Records) → records_of old before given ≡ s → IsIndexed old before given → get before key ≡ None → KeyUpdates nat_cmp old new given (Some key) → Updates before after key (Some r) → IsShown r → IsOrdered nat_cmp new
    → (records_of new after (given + 1) ≡ s ++ Some r ∷ []) × IsIndexed new after (given + 1)
unfolding slot_of
added-is old new before after given key r s view is vacant keys updates fresh ordered =
    let was = records_of old before given in
    let long = length-records_of old before given in
    let indexed = kept-added old new before after given key r is vacant keys updates fresh ordered in (
      records-are new after (given + 1) (was ++ Some r ∷ []) indexed (length-append was (Some r ∷ []) ∙ ap (λ l. l + 1) long) (λ m. elim (cases_eq m given) [
        | inl same ↦ ap (slot_under after) (ap (key_at nat_cmp new) same ∙ keys.1) ∙ updates.changed ∙ sym (at-push was m (Some r) ∙ rw (long, eq-eqb m given same) refl)
        | inr other ↦
            ap (slot_under after) (key-other old new given m (Some key) keys other)
            ∙ slot-other before after key (Some r) (key_at nat_cmp old m) updates (λ k found. used old before given m k key is vacant found)
            ∙ sym (record-at old before given m is) ∙ sym (at-push was m (Some r) ∙ rw (long, ne_eqb m given other) refl)
      ]) ∙ ap (λ rs. rs ++ Some r ∷ []) view,
      indexed,
    )

-- an index and a slab that say the same
pub same-is : (old new : BTreeMap ℕ ℕ) (before after : Slab Record) (given : ℕ) → IsIndexed old before given → new.entries ≡ old.entries → IsOrdered nat_cmp new → ((k : ℕ) → get after k ≡ get before k)
    → (records_of new after given ≡ records_of old before given) × IsIndexed new after given
unfolding slot_of
same-is old new before after given is entries ordered values =
    let keys : (n : ℕ) → key_at nat_cmp new n ≡ key_at nat_cmp old n = λ n. ap (lookup (is_at (nat_cmp n))) entries in
    let indexed : IsIndexed new after given = record {
      ordered = ordered;
      below = λ n k at. is.below n k (sym (keys n) ∙ at);
      stored = λ n k at. let kept = is.stored n k (sym (keys n) ∙ at) in (kept.0, values k ∙ kept.1);
      apart = λ m n k one two. is.apart m n k (sym (keys m) ∙ one) (sym (keys n) ∙ two);
      shown = λ k r at. is.shown k r (sym (values k) ∙ at);
    } in (
      records-are new after given (records_of old before given) indexed (length-records_of old before given) (λ n. ap (slot_under after) (keys n) ∙ under-same before after (key_at nat_cmp old n) values ∙ sym (record-at old before given n is)),
      indexed,
    )
  where
    under-same : (before after : Slab Record) (key : Option ℕ) → ((k : ℕ) → get after k ≡ get before k) → slot_under after key ≡ slot_under before key
    under-same before after None values = refl
    under-same before after (Some k) values = values k

-- a number without a key has no record
pub record-none : (index : BTreeMap ℕ ℕ) (slab : Slab Record) (given n : ℕ) (s : Records) → records_of index slab given ≡ s → IsIndexed index slab given → None ≡ key_at nat_cmp index n → None ≡ record_at s n
unfolding slot_of
record-none index slab given n s view is at = ap (slot_under slab) at ∙ sym (record-at index slab given n is) ∙ ap (λ rs. record_at rs n) view

-- a number with a key has the record under it
pub record-some : (index : BTreeMap ℕ ℕ) (slab : Slab Record) (given n key : ℕ) (s : Records) → records_of index slab given ≡ s → IsIndexed index slab given → Some key ≡ key_at nat_cmp index n → get slab key ≡ record_at s n
unfolding slot_of
record-some index slab given n key s view is at = ap (slot_under slab) at ∙ sym (record-at index slab given n is) ∙ ap (λ rs. record_at rs n) view

-- the events show the marks
pub view-shown : (index : BTreeMap ℕ ℕ) (slab : Slab Record) (given : ℕ) (s : Records) → records_of index slab given ≡ s → IsIndexed index slab given → AreShown s
view-shown index slab given s view is = subst AreShown view (are-shown index slab given is)

-- a request that is there is not unknown
unknown : (s : Records) (n : ℕ) → None ≡ record_at s n → mark_at s n ≡ Mark.Outstanding → ⊥
unfolding mark_at
unknown s n none mark = let e : Mark.Unknown ≡ Mark.Outstanding = ap mark_of_record none ∙ mark in cc

-- an outstanding request has a key
pub outstanding-key : (index : BTreeMap ℕ ℕ) (slab : Slab Record) (given n : ℕ) (s : Records) → records_of index slab given ≡ s → IsIndexed index slab given → mark_at s n ≡ Mark.Outstanding → IsSome (key_at nat_cmp index n)
outstanding-key index slab given n s view is mark = go (key_at nat_cmp index n) refl
  where
    go : (key : Option ℕ) → key_at nat_cmp index n ≡ key → IsSome key
    go (Some k) at = refl
    go None at = absurd (unknown s n (record-none index slab given n s view is (sym at)) mark)

-- the record of a request that is outstanding has no status
not-ended : (s : Records) (n : ℕ) (r : Record) → record_at s n ≡ Some r → mark_at s n ≡ Mark.Outstanding → r.ended ≡ None
unfolding mark_at
not-ended s n r at mark = go r.ended (ap mark_of_record (sym at) ∙ mark)
  where
    go : (end : Option Status) → mark_of_end end ≡ Mark.Outstanding → end ≡ None
    go None mark = refl
    go (Some status) mark = absurd (cc)

-- the record under the key of a number
pub record-is : (index : BTreeMap ℕ ℕ) (slab : Slab Record) (given n key : ℕ) (r : Record) (s : Records) → records_of index slab given ≡ s → IsIndexed index slab given → key_at nat_cmp index n ≡ Some key → get slab key ≡ Some r → record_at s n ≡ Some r
record-is index slab given n key r s view is at has = sym (record-some index slab given n key s view is (sym at)) ∙ has

-- nothing was told of an outstanding request
pub silent : (index : BTreeMap ℕ ℕ) (slab : Slab Record) (given n key : ℕ) (r : Record) (s : Records) → records_of index slab given ≡ s → IsIndexed index slab given → key_at nat_cmp index n ≡ Some key → get slab key ≡ Some r → mark_at s n ≡ Mark.Outstanding → r.signaller.told ≡ 0
unfolding IsShown word_for
silent index slab given n key r s view is at has mark = is.shown key r has ∙ ap word_for (not-ended s n r (record-is index slab given n key r s view is at has) mark)

-- what is left of the request under a key
pub left-of : (s : Records) (n by : ℕ) (r : Record) → record_at s n ≡ Some r → IfSome (request_at s n) (λ q. by ≤ q.left) → by ≤ r.request.left
unfolding request_at
left-of s n by r at left = subst (λ (o : Option Record). IfSome (option_map (λ q. q.request) o) (λ q. by ≤ q.left)) at left

-- the record under a key is changed, which still shows its mark
pub rewritten-is : (change : Record → Record) → ((r : Record) → IsShown r → IsShown (change r)) → (index : BTreeMap ℕ ℕ) (slab : Slab Record) (given n key : ℕ) (r : Record) (s : Records) → records_of index slab given ≡ s → IsIndexed index slab given
    → key_at nat_cmp index n ≡ Some key → get slab key ≡ Some r
    → (records_of index (with_value slab key (change r)) given ≡ with_change change s n) × IsIndexed index (with_value slab key (change r)) given
rewritten-is change kept index slab given n key r s view is at has =
    changed-is change index slab (with_value slab key (change r)) given n key r s view is at has (Updates-with_value slab key (change r) (ap is_some has)) (kept r (is.shown key r has))

-- the request under a key ends
pub ended-is : (status : Status) (index : BTreeMap ℕ ℕ) (slab : Slab Record) (given n key : ℕ) (r : Record) (e : SignallerEnd) (s : Records) → e ≡ record r.signaller { told = word_of status } → records_of index slab given ≡ s → IsIndexed index slab given
    → key_at nat_cmp index n ≡ Some key → get slab key ≡ Some r
    → (records_of index (with_value slab key (record { request = r.request; ended = Some status; signaller = e })) given ≡ with_change (ended_record status) s n)
    × IsIndexed index (with_value slab key (record { request = r.request; ended = Some status; signaller = e })) given
unfolding ended_record IsShown word_for
ended-is status index slab given n key r e s told view is at has =
    let new : Record = record { request = r.request; ended = Some status; signaller = e } in
    let same : new ≡ ended_record status r = ap (λ (f : SignallerEnd). let x : Record = record { request = r.request; ended = Some status; signaller = f } in x) told in
    changed-is (ended_record status) index slab (with_value slab key new) given n key r s view is at has (subst (λ x. Updates slab (with_value slab key new) key (Some x)) same (Updates-with_value slab key new (ap is_some has))) refl

-- what is handed out
pub done-none : (s : Records) (n : ℕ) (r : Record) → record_at s n ≡ Some r → r.ended ≡ None → Err NotThere.Outstanding ≡ done_at s n
unfolding done_at
done-none s n r at none = sym (ap done_or_fault at ∙ ap (λ end. done_by end r.request.buffer) none)

pub done-some : (s : Records) (slab : Slab Record) (n key : ℕ) (r out : Record) (status : Status) → record_at s n ≡ Some r → get slab key ≡ Some r → get slab key ≡ Some out → r.ended ≡ Some status → Ok (record { status = status; buffer = out.request.buffer }) ≡ done_at s n
unfolding done_at
done-some s slab n key r out status at has handed end =
    let same : r ≡ out = same-some r out (sym has ∙ handed) in
    ap (λ (x : Record). done_by (Some status) x.request.buffer) (sym same) ∙ sym (ap done_or_fault at ∙ ap (λ e. done_by e r.request.buffer) end)

-- a value that was put under a vacant key and removed again
pub restored : (before mid after : Slab Record) (key : ℕ) (slot : Option Record) → get before key ≡ None → Updates before mid key slot → Updates mid after key None → (k : ℕ) → get after k ≡ get before k
restored before mid after key slot vacant put taken k = elim (cases_eq k key) [
  | inl same ↦ ap (get after) same ∙ taken.changed ∙ sym (ap (get before) same ∙ vacant)
  | inr other ↦ taken.others k other ∙ put.others k other
]
