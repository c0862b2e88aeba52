-- Who holds a group after an entry, and that at most one token does.
use Rattle.std.proofs.Common.{◌≡◌, ◌⊎◌, ℕ, ◌<◌, inl, inr, true, false, not, ◌&&◌, List, [], ◌∷◌, Option, None, Some, is_some, refl, sym, ◌∙◌, ap, subst, arith, nat_eq}
use Rattle.std.proofs.lemmas.Bool.{cases_eq, or_cases, or_parts, or_left, and_parts, and_from, eq-eqb, eqb-true, both_ways, not-true, not_from_false}
use Rattle.efi_status.specs.declared.Status.TheVariants.{Success}
use Rattle.disk_split.specs.Units.{IsKind, group_start}
use Rattle.history.specs.declared.entry.Kind.{Kind}
use Rattle.history.specs.declared.entry.Kind.TheVariants.{Read, Write, Flush, Erase}
use Rattle.history.specs.declared.entry.Command.{Command}
use Rattle.history.specs.declared.entry.Command.TheVariants.{Fetch, Store}
use Rattle.history.specs.declared.entry.Entry.{Entry}
use Rattle.history.specs.declared.entry.Entry.TheVariants.{Accept, Done}
use Rattle.history.specs.Setup.{Setup, IsSetup}
use Rattle.history.specs.Tokens.{Request, token_count, request, changes_bytes, is_flush, from_of, until_of}
use Rattle.history.specs.Commands.{is_fetch, is_store, is_transfer, is_at, done_commands, has_done, is_moved}
use Rattle.history.specs.Marks.{first_from, mark_of, is_outstanding, IsOutstanding, was_fetched, was_stored, Holds, is_holder, is_held, status_if, is_complete, all_from}
use Rattle.history.specs.Rules.{HasPart, IsUnheld, MayCommand, MayFollow, IsLegal}
use Rattle.history_laws.specs.TokenFacts.{concerns}
use Rattle.history_laws.specs.Units.{IsTaskCommand}
use Rattle.history_laws.proofs.CountLemmas.{accepted-none, accepted-more, accepted-same}
use Rattle.history_laws.proofs.TokenLemmas.{has_done-done, has_done-other, has_done-same, done-concerns, request-same}
use Rattle.history_laws.proofs.EndLemmas.{mark-before, mark-done, open-request, unaccepted, untold-has_done}
use Rattle.history_laws.proofs.ScanLemmas.{all_from-same, first_from-some, first_from-fails}
use Rattle.history_laws.proofs.UnitLemmas.{done-tasks, find-command, moved-same}
use Rattle.history_laws.proofs.TaskLemmas.{complete-moved, open-incomplete}
use Rattle.history_laws.proofs.OwedLemmas.{group-start-part}
use Rattle.history_laws.proofs.NextLemmas.{outstanding-test, outstanding-from}

fetch-part : (S : Setup) (r : Request) (b : ℕ) (c : Command) → is_at is_fetch b c ≡ true → IsTaskCommand S r c → HasPart S r b × (changes_bytes r.asked.kind ≡ true)
fetch-part S r b (Fetch d) at (inl (u, is)) =
    let same : d ≡ b = eqb-true d b at in
    let parts : (changes_bytes r.asked.kind ≡ true) × (not u.whole ≡ true) = and_parts (changes_bytes r.asked.kind) (not u.whole) is.kind in
    let part : IsKind S.geometry (from_of S r) (until_of S r) false u.block u.count = rw (not-true u.whole parts.1) at is.unit.kind in
    (subst (λ n. HasPart S r n) (sym is.block ∙ same) part.0, parts.0)
fetch-part S r b (Fetch d) at (inr (sync, flush)) = cc
fetch-part S r b c at is = cc

-- a group that a token has fetched is a part of its range
pub fetched-part : (S : Setup) (H : List Entry) (t b : ℕ) (r : Request) → IsSetup S → IsLegal S H → request H t ≡ Some r → was_fetched H t b ≡ true → HasPart S r b × (changes_bytes r.asked.kind ≡ true)
unfolding has_done
fetched-part S H t b r is legal named fetched =
    let (c, at, of) = find-command S r (is_at is_fetch b) (done_commands H t) (done-tasks S H t r is legal named) fetched in
    fetch-part S r b c at of

-- a held group begins at its own first block
pub holds-start : (S : Setup) (H : List Entry) (t b : ℕ) → IsSetup S → IsLegal S H → Holds S H t b → group_start S.geometry b ≡ b
holds-start S H t b is legal holds =
    let (r, named) = open-request S H t holds.outstanding in
    let (part, changes) = fetched-part S H t b r is legal named holds.fetched in
    group-start-part S.geometry (from_of S r) (until_of S r) b is.geometry part

-- a fetch of this group
pub fetch-is : (b : ℕ) (c : Command) → is_at is_fetch b c ≡ true → c ≡ Fetch b
fetch-is b (Fetch d) at = ap Fetch (eqb-true d b at)
fetch-is b c at = cc

-- a holder held before, or has just fetched the group
pub holds-before : (S : Setup) (H : List Entry) (e : Entry) (t b : ℕ) → IsLegal S H → Holds S (e ∷ H) t b → Holds S H t b ⊎ (e ≡ Done t (Fetch b))
holds-before S H (Done u c) t b legal holds =
    let token : t < token_count H = omega (arith, holds.outstanding.token, accepted-same H (Done u c) refl) in
    let open_ : IsOutstanding S H t = record { token = token; unmarked = mark-before S H (Done u c) t holds.outstanding.unmarked } in
    elim (cases_eq u t) [
      | inr other ↦
          let quiet : concerns H (Done u c) t ≡ false = done-concerns H u t c other in
          inl (record {
            outstanding = open_;
            fetched = sym (has_done-other S (is_at is_fetch b) H (Done u c) t quiet) ∙ holds.fetched;
            unstored = sym (has_done-other S (is_at is_store b) H (Done u c) t quiet) ∙ holds.unstored;
          })
      | inl same ↦
          let own : Holds S (Done t c ∷ H) t b = rw same at holds in
          let stored : (is_at is_store b c ≡ false) × (was_stored H t b ≡ false) = or_parts (is_at is_store b c) (was_stored H t b) (sym (has_done-done (is_at is_store b) H t c) ∙ own.unstored) in
          elim (or_cases (is_at is_fetch b c) (was_fetched H t b) (sym (has_done-done (is_at is_fetch b) H t c) ∙ own.fetched)) [
            | inl here ↦ let fetch : c ≡ Fetch b = fetch-is b c here in inr (ap (λ v. Done v c) same ∙ ap (λ d. Done t d) fetch)
            | inr was ↦ inl (record { outstanding = open_; fetched = was; unstored = stored.1 })
          ]
    ]
holds-before S H (Accept tag view asked bytes) t b legal holds =
    elim (cases_eq t (token_count H)) [
      | inr old ↦
          inl (record {
            outstanding = record { token = omega (arith, old, holds.outstanding.token, accepted-more H (Accept tag view asked bytes) refl); unmarked = mark-before S H (Accept tag view asked bytes) t holds.outstanding.unmarked };
            fetched = sym (has_done-same (is_at is_fetch b) H (Accept tag view asked bytes) t refl) ∙ holds.fetched;
            unstored = sym (has_done-same (is_at is_store b) H (Accept tag view asked bytes) t refl) ∙ holds.unstored;
          })
      | inl new ↦
          let unfetched : was_fetched H t b ≡ false = untold-has_done S (is_at is_fetch b) H t (unaccepted S H t legal (omega (arith, new))) in
          absurd (both_ways (was_fetched H t b) unfetched (sym (has_done-same (is_at is_fetch b) H (Accept tag view asked bytes) t refl) ∙ holds.fetched))
    ]
holds-before S H e t b legal holds =
    inl (record {
      outstanding = record { token = omega (arith, holds.outstanding.token, accepted-same H e refl); unmarked = mark-before S H e t holds.outstanding.unmarked };
      fetched = sym (has_done-same (is_at is_fetch b) H e t refl) ∙ holds.fetched;
      unstored = sym (has_done-same (is_at is_store b) H e t refl) ∙ holds.unstored;
    })

-- a group that is fetched was held by no token
pub fetch-unheld : (S : Setup) (H : List Entry) (t u b : ℕ) → IsSetup S → MayCommand S H t (Fetch b) → Holds S H u b → ⊥
unfolding MayCommand
fetch-unheld S H t u b is (r, may) holds = may.free u (rw (group-start-part S.geometry (from_of S r) (until_of S r) b is.geometry may.part) holds)

fetched-unheld : (S : Setup) (H : List Entry) (e : Entry) (t u b : ℕ) → IsSetup S → e ≡ Done t (Fetch b) → MayFollow S H e → Holds S H u b → ⊥
unfolding MayFollow
fetched-unheld S H e t u b is now may holds = fetch-unheld S H t u b is (rw now at may) holds

-- at most one token holds a group
pub one-holder : (S : Setup) (H : List Entry) (t u b : ℕ) → IsSetup S → IsLegal S H → Holds S H t b → Holds S H u b → t ≡ u
unfolding IsLegal
one-holder S [] t u b is legal first second = let no_token : t < token_count [] = first.outstanding.token in absurd (omega (arith, no_token, accepted-none))
one-holder S (e ∷ H) t u b is (legal, may) first second =
    by (holds-before S H e t b legal first) (holds-before S H e u b legal second) (one-holder S H t u b is legal)
  where
    by : Holds S H t b ⊎ (e ≡ Done t (Fetch b)) → Holds S H u b ⊎ (e ≡ Done u (Fetch b)) → (Holds S H t b → Holds S H u b → t ≡ u) → t ≡ u
    by (inl held) (inl held') before = before held held'
    by (inl held) (inr now) before = absurd (fetched-unheld S H e u t b is now may held)
    by (inr now) (inl held) before = absurd (fetched-unheld S H e t u b is now may held)
    by (inr now) (inr now') before = let same : Done t (Fetch b) ≡ Done u (Fetch b) = sym now ∙ now' in cc

-- the test for a holder
pub holder-test : (S : Setup) (H : List Entry) (t b : ℕ) → Holds S H t b → is_holder S H b t ≡ true
holder-test S H t b holds =
    and_from (is_outstanding S H t) (was_fetched H t b && not (was_stored H t b)) (outstanding-test S H t holds.outstanding)
    (and_from (was_fetched H t b) (not (was_stored H t b)) holds.fetched (not_from_false (was_stored H t b) holds.unstored))

pub holder-from : (S : Setup) (H : List Entry) (t b : ℕ) → is_holder S H b t ≡ true → Holds S H t b
holder-from S H t b is =
    let parts : (is_outstanding S H t ≡ true) × ((was_fetched H t b && not (was_stored H t b)) ≡ true) = and_parts (is_outstanding S H t) (was_fetched H t b && not (was_stored H t b)) is in
    let gate : (was_fetched H t b ≡ true) × (not (was_stored H t b) ≡ true) = and_parts (was_fetched H t b) (not (was_stored H t b)) parts.1 in
    record { outstanding = outstanding-from S H t parts.0; fetched = gate.0; unstored = not-true (was_stored H t b) gate.1 }

-- a block is held where a token holds its group
pub held-holder : (S : Setup) (H : List Entry) (b : ℕ) → is_held S H b ≡ true → (t : ℕ) × Holds S H t (group_start S.geometry b)
unfolding is_held
held-holder S H b held = by (first_from (is_holder S H (group_start S.geometry b)) 0 (token_count H)) refl held
  where
    by : (o : Option ℕ) → first_from (is_holder S H (group_start S.geometry b)) 0 (token_count H) ≡ o → is_some o ≡ true → (t : ℕ) × Holds S H t (group_start S.geometry b)
    by None is some = cc
    by (Some t) is some =
        let (lo, hi, here, before) = first_from-some (is_holder S H (group_start S.geometry b)) 0 (token_count H) t is in
        (t, holder-from S H t (group_start S.geometry b) here)

-- and only there
pub holder-held : (S : Setup) (H : List Entry) (t b : ℕ) → Holds S H t (group_start S.geometry b) → is_held S H b ≡ true
unfolding is_held
holder-held S H t b holds = by (first_from (is_holder S H (group_start S.geometry b)) 0 (token_count H)) refl
  where
    by : (o : Option ℕ) → first_from (is_holder S H (group_start S.geometry b)) 0 (token_count H) ≡ o → is_some o ≡ true
    by (Some u) is = refl
    by None is =
        absurd (both_ways (is_holder S H (group_start S.geometry b) t)
        (first_from-fails (is_holder S H (group_start S.geometry b)) 0 (token_count H) t is (omega arith) (omega (arith, holds.outstanding.token))) (holder-test S H t (group_start S.geometry b) holds))

-- a block that is not held is free for every command
pub unheld-from : (S : Setup) (H : List Entry) (b : ℕ) → is_held S H b ≡ false → IsUnheld S H b
unheld-from S H b free t holds = both_ways (is_held S H b) free (holder-held S H t b holds)

-- a done command that moves nothing and is no flush leaves its token open
pub still-open : (S : Setup) (H : List Entry) (t : ℕ) (c : Command) (r : Request) → IsLegal S H → request H t ≡ Some r → is_flush r.asked.kind ≡ false → is_transfer c ≡ false → IsOutstanding S H t → mark_of S (Done t c ∷ H) t ≡ None
still-open S H t c r legal named moving none open_ =
    let after : is_complete S (Done t c ∷ H) t ≡ all_from (is_moved S (Done t c ∷ H) t) (from_of S r) r.asked.length = complete-moved S (Done t c ∷ H) t r (request-same H (Done t c) t refl ∙ named) moving in
    let same : all_from (is_moved S (Done t c ∷ H) t) (from_of S r) r.asked.length ≡ all_from (is_moved S H t) (from_of S r) r.asked.length =
    all_from-same (is_moved S (Done t c ∷ H) t) (is_moved S H t) (from_of S r) r.asked.length (λ x from until. moved-same S H t c x none) in
    let before : all_from (is_moved S H t) (from_of S r) r.asked.length ≡ false = sym (complete-moved S H t r named moving) ∙ open-incomplete S H t legal open_.token open_.unmarked in
    mark-done S H t c open_.unmarked ∙ ap (λ whole. status_if whole Success) (after ∙ (same ∙ before))

-- a request that changes bytes is no flush
pub changes-moving : (kind : Kind) → changes_bytes kind ≡ true → is_flush kind ≡ false
changes-moving Read changes = cc
changes-moving Write changes = refl
changes-moving Flush changes = cc
changes-moving Erase changes = refl

-- a fetch makes its token the holder
pub fetch-holds : (S : Setup) (H : List Entry) (t b : ℕ) → IsSetup S → IsLegal S H → MayCommand S H t (Fetch b) → Holds S (Done t (Fetch b) ∷ H) t b
unfolding MayCommand
fetch-holds S H t b is legal (r, may) = record {
  outstanding = record {
    token = omega (arith, may.at.outstanding.token, accepted-same H (Done t (Fetch b)) refl);
    unmarked = still-open S H t (Fetch b) r legal may.at.named (changes-moving r.asked.kind may.at.kind) refl may.at.outstanding;
  };
  fetched = has_done-done (is_at is_fetch b) H t (Fetch b) ∙ or_left (nat_eq b b) (was_fetched H t b) (eq-eqb b b refl);
  unstored = has_done-done (is_at is_store b) H t (Fetch b) ∙ may.unstored;
}

-- a store frees its group
pub store-frees : (S : Setup) (H : List Entry) (t u b : ℕ) → IsSetup S → IsLegal S H → MayCommand S H t (Store b) → Holds S (Done t (Store b) ∷ H) u b → ⊥
unfolding MayCommand
store-frees S H t u b is legal held holds = by (holds-before S H (Done t (Store b)) u b legal holds)
  where
    by : Holds S H u b ⊎ (Done t (Store b) ≡ Done u (Fetch b)) → ⊥
    by (inr now) = cc
    by (inl before) =
        let same : u ≡ t = one-holder S H u t b is legal before held in
        let own : Holds S (Done t (Store b) ∷ H) t b = rw same at holds in
        both_ways (was_stored (Done t (Store b) ∷ H) t b) own.unstored (has_done-done (is_at is_store b) H t (Store b) ∙ or_left (nat_eq b b) (was_stored H t b) (eq-eqb b b refl))
