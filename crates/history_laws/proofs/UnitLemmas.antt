-- Each done command of a token is of one of its units, and moves the bytes of that unit and no others of the token.
use Rattle.std.proofs.Common.{◌≡◌, ℕ, ◌+◌, ◌*◌, ◌<◌, ◌≤◌, ◌⊎◌, inl, inr, min, max, Bool, true, false, ◌&&◌, ◌||◌, List, [], ◌∷◌, Some, refl, sym, ◌∙◌, ap, subst, arith, nat_eq, nat_lt, nat_le}
use Rattle.std.specs.List.{list_any}
use Rattle.std.proofs.lemmas.Bool.{cases_eq, cases_lt, cases_Bool, and_parts, and_from, or_cases, both_ways, eqb-true, eq-eqb, lt-ltb, le-ltb, le-leb, lt-leb, leb-true, ltb-true, false_from_ne_true, ne_eqb, or_parts, or_from}
use Rattle.std.proofs.Math.Nat.{add-mul}
use Rattle.disk_split.specs.declared.geometry.Geometry.{Geometry}
use Rattle.disk_split.specs.declared.span.Span.{Span}
use Rattle.disk_split.specs.Units.{IsGeometry, IsGroupPart, IsUnit, group_size}
use Rattle.disk_split.proofs.Shared.{part-bytes, run-unit, units-same}
use Rattle.history.specs.declared.entry.Command.{Command}
use Rattle.history.specs.declared.entry.Command.TheVariants.{Fetch, Store, Put, Get, Wipe, Sync}
use Rattle.history.specs.declared.entry.Entry.{Entry}
use Rattle.history.specs.declared.entry.Entry.TheVariants.{Accept, Done}
use Rattle.history.specs.Setup.{Setup, size_of, per_of, IsSetup}
use Rattle.history.specs.Tokens.{Request, token_count, request, is_write, is_erase, changes_bytes, from_of, until_of}
use Rattle.history.specs.Commands.{first_block, block_count, is_fetch, is_store, is_put, is_get, is_wipe, is_transfer, lies_in, moves, is_at, done_commands, has_done, is_moved}
use Rattle.history.specs.Rules.{HasPart, HasRun, MayCommand, MayFollow, IsLegal}
use Rattle.history_laws.specs.Units.{is_span_command, IsUnitCommand, IsTaskCommand, AreTaskCommands}
use Rattle.history_laws.proofs.TokenLemmas.{has_done-done}
use Rattle.history_laws.proofs.EndLemmas.{unaccepted, untold-done}

-- the part of a range in one group, as a unit
abbrev pub part_span : Geometry → ℕ → ℕ → ℕ → Span
part_span G a z b = record { whole = false; block = b; count = G.per; low = max a (b * G.size); high = min z ((b + G.per) * G.size) }

pub part-unit-at : (G : Geometry) (a z b : ℕ) → IsGroupPart G a z b → IsUnit G a z (part_span G a z b)
part-unit-at G a z b part =
    let (begins, ends) = part-bytes G a z b part in
    record { low = refl; high = refl; some = omega (arith, part.part.some, begins, ends, add-mul part.number 1 (group_size G)); kind = (part, refl) }

-- a part's fetch or store
part-command : (S : Setup) (r : Request) (b : ℕ) (c : Command) → HasPart S r b → first_block c ≡ b → block_count S c ≡ per_of S → is_span_command r.asked.kind false c ≡ true → IsTaskCommand S r c
part-command S r b c part block count kind =
    inl (part_span S.geometry (from_of S r) (until_of S r) b, record { unit = part-unit-at S.geometry (from_of S r) (until_of S r) b part; block = block; count = count; kind = kind })

-- a run's put, wipe or get
run-command : (S : Setup) (r : Request) (b n : ℕ) (c : Command) → IsSetup S → HasRun S r b n → first_block c ≡ b → block_count S c ≡ n → is_span_command r.asked.kind true c ≡ true → IsTaskCommand S r c
run-command S r b n c is run block count kind =
    inl (
      record { whole = true; block = b; count = n; low = b * S.geometry.size; high = (b + n) * S.geometry.size },
      record { unit = run-unit S.geometry (from_of S r) (until_of S r) b n is.geometry run; block = block; count = count; kind = kind },
    )

-- one of the commands passes the test
pub find-command : (S : Setup) (r : Request) (test : Command → Bool) (cs : List Command) → AreTaskCommands S r cs → list_any test cs ≡ true → (c : Command) × (test c ≡ true) × IsTaskCommand S r c
unfolding AreTaskCommands
find-command S r test [] all some = cc
find-command S r test (c ∷ cs) (one, others) some = elim (or_cases (test c) (list_any test cs) some) [
  | inl here ↦ (c, here, one)
  | inr later ↦ find-command S r test cs others later
]

-- where a group may be fetched it may be stored
fetch-store : (S : Setup) (r : Request) (b : ℕ) (c : Command) → is_at is_fetch b c ≡ true → IsTaskCommand S r c → IsTaskCommand S r (Store b)
fetch-store S r b (Fetch d) at (inl (u, is)) = let same : d ≡ b = eqb-true d b at in inl (u, record { unit = is.unit; block = sym same ∙ is.block; count = is.count; kind = is.kind })
fetch-store S r b (Fetch d) at (inr (sync, flush)) = cc
fetch-store S r b c at is = cc

-- a command that may be made is of a unit of its token
pub may-task : (S : Setup) (H : List Entry) (t : ℕ) (c : Command) (r : Request) → IsSetup S → AreTaskCommands S r (done_commands H t) → request H t ≡ Some r → MayCommand S H t c → IsTaskCommand S r c
unfolding MayCommand has_done
may-task S H t (Store b) r is all named holds =
    let (c, at, of) = find-command S r (is_at is_fetch b) (done_commands H t) all holds.fetched in
    fetch-store S r b c at of
may-task S H t (Fetch b) r is all named (q, may) =
    let same : q ≡ r = (let e : Some q ≡ Some r = sym may.at.named ∙ named in cc) in
    subst (λ s. IsTaskCommand S s (Fetch b)) same (part-command S q b (Fetch b) may.part refl refl (and_from (changes_bytes q.asked.kind) true may.at.kind refl))
may-task S H t (Put b n) r is all named (q, may) =
    let same : q ≡ r = (let e : Some q ≡ Some r = sym may.at.named ∙ named in cc) in
    subst (λ s. IsTaskCommand S s (Put b n)) same (run-command S q b n (Put b n) is may.run refl refl (and_from (is_write q.asked.kind) true may.at.kind refl))
may-task S H t (Wipe b n) r is all named (q, may) =
    let same : q ≡ r = (let e : Some q ≡ Some r = sym may.at.named ∙ named in cc) in
    subst (λ s. IsTaskCommand S s (Wipe b n)) same (run-command S q b n (Wipe b n) is may.run refl refl (and_from (is_erase q.asked.kind) true may.at.kind refl))
may-task S H t (Get b n) r is all named (q, may) =
    let same : q ≡ r = (let e : Some q ≡ Some r = sym may.at.named ∙ named in cc) in
    subst (λ s. IsTaskCommand S s (Get b n)) same (by may.unit)
  where
    by : HasRun S q b n ⊎ (HasPart S q b × (n ≡ per_of S)) → IsTaskCommand S q (Get b n)
    by (inl run) = run-command S q b n (Get b n) is run refl refl may.at.kind
    by (inr (part, so_many)) = part-command S q b (Get b n) part refl so_many may.at.kind
may-task S H t Sync r is all named (q, may) =
    let same : q ≡ r = (let e : Some q ≡ Some r = sym may.named ∙ named in cc) in
    inr (refl, rw (← same) may.kind)

-- in a legal history each done command of a token is of a unit of it
pub done-tasks : (S : Setup) (H : List Entry) (t : ℕ) (r : Request) → IsSetup S → IsLegal S H → request H t ≡ Some r → AreTaskCommands S r (done_commands H t)
unfolding IsLegal request done_commands AreTaskCommands MayFollow
done-tasks S [] t r is legal named = tt
done-tasks S (Done u c ∷ H) t r is (legal, may) named = elim (cases_eq u t) [
  | inl same ↦
      let before : AreTaskCommands S r (done_commands H t) = done-tasks S H t r is legal named in
      rw (same, eq-eqb t t refl) (may-task S H t c r is before named (rw same at may), before)
  | inr other ↦ rw (ne_eqb u t other) (done-tasks S H t r is legal named)
]
done-tasks S (Accept tag view asked bytes ∷ H) t r is (legal, may) named = elim (cases_eq t (token_count H)) [
  | inl new ↦ let none : done_commands H t ≡ [] = untold-done S H t (unaccepted S H t legal (omega (arith, new))) in rw none tt
  | inr old ↦ done-tasks S H t r is legal (rw (ne_eqb t (token_count H) old) at named)
]
done-tasks S (e ∷ H) t r is (legal, may) named = done-tasks S H t r is legal named

-- a command that may be made for a token of a legal history is of a unit of it
pub legal-task : (S : Setup) (H : List Entry) (t : ℕ) (c : Command) (r : Request) → IsSetup S → IsLegal S H → request H t ≡ Some r → MayCommand S H t c → IsTaskCommand S r c
legal-task S H t c r is legal named may = may-task S H t c r is (done-tasks S H t r is legal named) named may

-- the byte lies in the unit
abbrev pub is_within : Span → ℕ → Bool
is_within u x = nat_le u.low x && nat_lt x u.high

-- within the range, the bytes in a unit's blocks are those of the unit
pub lies-in-unit : (S : Setup) (a z x : ℕ) (u : Span) → IsUnit S.geometry a z u → a ≤ x → x < z → lies_in S u.block u.count x ≡ is_within u x
lies-in-unit S a z x u unit from until = elim (cases_lt x (u.block * size_of S)) [
  | inl below ↦ rw (lt-leb (u.block * size_of S) x below, lt-leb u.low x (omega (arith, unit.low)))
  | inr above ↦ elim (cases_lt x ((u.block + u.count) * size_of S)) [
    | inl inside ↦
        rw (le-leb (u.block * size_of S) x above, lt-ltb x ((u.block + u.count) * size_of S) inside, le-leb u.low x (omega (arith, unit.low)), lt-ltb x u.high (omega (arith, unit.high)))
    | inr behind ↦
        rw (le-leb (u.block * size_of S) x above, le-ltb x ((u.block + u.count) * size_of S) behind, le-leb u.low x (omega (arith, unit.low)), le-ltb x u.high (omega (arith, unit.high)))
  ]
]

pub within-from : (u : Span) (x : ℕ) → u.low ≤ x → x < u.high → is_within u x ≡ true
within-from u x from until = and_from (nat_le u.low x) (nat_lt x u.high) (le-leb u.low x from) (lt-ltb x u.high until)

pub within-parts : (u : Span) (x : ℕ) → is_within u x ≡ true → (u.low ≤ x) × (x < u.high)
within-parts u x is =
    let parts : (nat_le u.low x ≡ true) × (nat_lt x u.high ≡ true) = and_parts (nat_le u.low x) (nat_lt x u.high) is in
    (leb-true u.low x parts.0, ltb-true x u.high parts.1)

-- a unit lies in its range
pub unit-inside : (G : Geometry) (a z x : ℕ) (u : Span) → IsUnit G a z u → u.low ≤ x → x < u.high → (a ≤ x) × (x < z)
unit-inside G a z x u unit from until = (omega (arith, unit.low), omega (arith, unit.high))

-- a command of a unit moves its bytes, where it is a transfer
pub moves-unit : (S : Setup) (r : Request) (c : Command) (u : Span) (x : ℕ) → IsUnitCommand S r c u → from_of S r ≤ x → x < until_of S r → moves S x c ≡ (is_transfer c && is_within u x)
moves-unit S r c u x is from until = rw (is.block, is.count) (ap (λ in_. is_transfer c && in_) (lies-in-unit S (from_of S r) (until_of S r) x u is.unit from until))

-- two units with a byte in common are one, so a unit has all bytes of another or none
unit-alike : (G : Geometry) (a z x : ℕ) (u v : Span) → IsGeometry G → IsUnit G a z u → IsUnit G a z v → v.low ≤ x → x < v.high → is_within u x ≡ is_within u v.low
unit-alike G a z x u v is first second from until = elim (cases_Bool (is_within u x)) [
  | inl here ↦
      let (lo, hi) = within-parts u x here in
      let same : u ≡ v = units-same G a z x u v is first second lo hi from until in
      here ∙ sym (rw same (within-from v v.low (omega arith) (omega (arith, second.some))))
  | inr outside ↦
      outside
      ∙ sym (
      false_from_ne_true (is_within u v.low) (λ low.
      let (lo, hi) = within-parts u v.low low in
      let same : u ≡ v = units-same G a z v.low u v is first second lo hi (omega arith) (omega (arith, second.some)) in
      both_ways (is_within u x) outside (rw same (within-from v x from until)))
      )
]

-- a command moves all bytes of a unit or none
pub moves-alike : (S : Setup) (r : Request) (c : Command) (v : Span) (x : ℕ) → IsSetup S → IsTaskCommand S r c → IsUnit S.geometry (from_of S r) (until_of S r) v → v.low ≤ x → x < v.high → moves S x c ≡ moves S v.low c
moves-alike S r c v x is (inr (sync, flush)) unit from until = rw sync
moves-alike S r c v x is (inl (u, of)) unit from until =
    let (lo, hi) = unit-inside S.geometry (from_of S r) (until_of S r) x v unit from until in
    let (lo', hi') = unit-inside S.geometry (from_of S r) (until_of S r) v.low v unit (omega arith) (omega (arith, unit.some)) in
    moves-unit S r c u x of lo hi
    ∙ (ap (λ in_. is_transfer c && in_) (unit-alike S.geometry (from_of S r) (until_of S r) x u v is.geometry of.unit unit from until)
    ∙ sym (moves-unit S r c u v.low of lo' hi'))

list-alike : (S : Setup) (r : Request) (cs : List Command) (v : Span) (x : ℕ) → IsSetup S → AreTaskCommands S r cs → IsUnit S.geometry (from_of S r) (until_of S r) v → v.low ≤ x → x < v.high
    → list_any (moves S x) cs ≡ list_any (moves S v.low) cs
unfolding AreTaskCommands
list-alike S r [] v x is all unit from until = refl
list-alike S r (c ∷ cs) v x is (one, others) unit from until = rw (moves-alike S r c v x is one unit from until, list-alike S r cs v x is others unit from until)

-- the bytes of a unit are moved together
pub moved-alike : (S : Setup) (H : List Entry) (t : ℕ) (r : Request) (v : Span) (x : ℕ) → IsSetup S → IsLegal S H → request H t ≡ Some r → IsUnit S.geometry (from_of S r) (until_of S r) v
    → v.low ≤ x → x < v.high → is_moved S H t x ≡ is_moved S H t v.low
unfolding has_done
moved-alike S H t r v x is legal named unit from until = list-alike S r (done_commands H t) v x is (done-tasks S H t r is legal named) unit from until

-- a done command of a unit moves the bytes of that unit, and no others of its token
pub moved-more : (S : Setup) (H : List Entry) (t : ℕ) (r : Request) (c : Command) (u : Span) (x : ℕ) → IsUnitCommand S r c u → is_transfer c ≡ true → from_of S r ≤ x → x < until_of S r
    → is_moved S (Done t c ∷ H) t x ≡ (is_within u x || is_moved S H t x)
moved-more S H t r c u x is transfer from until =
    has_done-done (moves S x) H t c ∙ ap (λ now. now || is_moved S H t x) (moves-unit S r c u x is from until ∙ rw transfer)

-- a done command that is no transfer moves nothing
pub moved-same : (S : Setup) (H : List Entry) (t : ℕ) (c : Command) (x : ℕ) → is_transfer c ≡ false → is_moved S (Done t c ∷ H) t x ≡ is_moved S H t x
moved-same S H t c x none = has_done-done (moves S x) H t c ∙ rw none

-- a transfer at the first block of a unit moves its first byte
transfer-at : (S : Setup) (r : Request) (c : Command) (v : Span) → IsTaskCommand S r c → IsUnit S.geometry (from_of S r) (until_of S r) v → is_transfer c ≡ true → first_block c ≡ v.block → moves S v.low c ≡ true
transfer-at S r c v (inr (sync, flush)) unit transfer at = let none : is_transfer c ≡ false = rw sync refl in absurd (both_ways (is_transfer c) none transfer)
transfer-at S r c v (inl (u, of)) unit transfer at =
    let block : u.block ≡ v.block = sym of.block ∙ at in
    let begins : max (from_of S r) (u.block * size_of S) ≡ max (from_of S r) (v.block * size_of S) = ap (λ b. max (from_of S r) (b * size_of S)) block in
    let low : u.low ≡ v.low = of.unit.low ∙ (begins ∙ sym unit.low) in
    let (lo, hi) = unit-inside S.geometry (from_of S r) (until_of S r) v.low v unit (omega arith) (omega (arith, unit.some)) in
    moves-unit S r c u v.low of lo hi ∙ and_from (is_transfer c) (is_within u v.low) transfer (within-from u v.low (omega (arith, low)) (omega (arith, low, of.unit.some)))

none-at : (S : Setup) (r : Request) (test : Command → Bool) (cs : List Command) (v : Span) → AreTaskCommands S r cs → IsUnit S.geometry (from_of S r) (until_of S r) v
    → ((c : Command) → test c ≡ true → is_transfer c ≡ true) → list_any (moves S v.low) cs ≡ false → list_any (is_at test v.block) cs ≡ false
unfolding AreTaskCommands
none-at S r test [] v all unit only unmoved = refl
none-at S r test (c ∷ cs) v (one, others) unit only unmoved =
    let parts : (moves S v.low c ≡ false) × (list_any (moves S v.low) cs ≡ false) = or_parts (moves S v.low c) (list_any (moves S v.low) cs) unmoved in
    or_from (is_at test v.block c) (list_any (is_at test v.block) cs)
    (false_from_ne_true (is_at test v.block c) (λ here.
    let passed : (test c ≡ true) × (nat_eq (first_block c) v.block ≡ true) = and_parts (test c) (nat_eq (first_block c) v.block) here in
    both_ways (moves S v.low c) parts.0 (transfer-at S r c v one unit (only c passed.0) (eqb-true (first_block c) v.block passed.1))))
    (none-at S r test cs v others unit only parts.1)

-- a unit that is not moved had no transfer at its block: it was not stored, put, got or wiped
pub unmoved-undone : (S : Setup) (H : List Entry) (t : ℕ) (r : Request) (test : Command → Bool) (v : Span) → IsSetup S → IsLegal S H → request H t ≡ Some r → IsUnit S.geometry (from_of S r) (until_of S r) v
    → ((c : Command) → test c ≡ true → is_transfer c ≡ true) → is_moved S H t v.low ≡ false → has_done (is_at test v.block) H t ≡ false
unfolding has_done
unmoved-undone S H t r test v is legal named unit only unmoved = none-at S r test (done_commands H t) v (done-tasks S H t r is legal named) unit only unmoved

pub store-transfers : (c : Command) → is_store c ≡ true → is_transfer c ≡ true
store-transfers (Store b) is = refl
store-transfers c is = cc

pub put-transfers : (c : Command) → is_put c ≡ true → is_transfer c ≡ true
put-transfers (Put b n) is = refl
put-transfers c is = cc

pub get-transfers : (c : Command) → is_get c ≡ true → is_transfer c ≡ true
get-transfers (Get b n) is = refl
get-transfers c is = cc

pub wipe-transfers : (c : Command) → is_wipe c ≡ true → is_transfer c ≡ true
wipe-transfers (Wipe b n) is = refl
wipe-transfers c is = cc
