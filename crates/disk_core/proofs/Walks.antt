-- The meant tokens are ended one after the other.
use Rattle.std.proofs.Common.{◌≡◌, ◌≢◌, ◌⊎◌, ℕ, suc, ◌+◌, ◌-◌, ◌<◌, ◌≤◌, inl, inr, Bool, true, false, ◌&&◌, List, ◌∷◌, Option, None, Some, is_some, refl, sym, ◌∙◌, ap, subst, arith}
use Rattle.std.specs.Prelude.{count_by}
use Rattle.std.proofs.lemmas.Bool.{cases_lt, lt-ltb, le-ltb, and_left, and_right, and_parts, and_from, false_from_ne_true, true≢false}
use Rattle.efi_status.specs.declared.Status.{Status}
use Rattle.history.specs.declared.entry.Entry.{Entry}
use Rattle.history.specs.Setup.{Setup}
use Rattle.history.specs.Tokens.{token_count}
use Rattle.history.specs.Marks.{mark_of, ending, status_if, is_outstanding, IsOutstanding}
use Rattle.history.specs.Tasks.{units_left}
use Rattle.history_laws.specs.Left.{end_count_before, end_count}
use Rattle.history_laws.proofs.CountLemmas.{accepted-same}
use Rattle.history_laws.proofs.EndLemmas.{mark-next, mark-stays, unaccepted, untold-mark}
use Rattle.history_laws.proofs.NextLemmas.{outstanding-test, outstanding-from}
use Rattle.token_table.specs.declared.record.Mark.{Mark}
use Rattle.token_table.specs.Records.{request_at, mark_at}
use Rattle.subtask_queue.specs.Subs.{is_of, AreBelow}
use Rattle.block_gate.specs.Gates.{Gates}
use Rattle.disk_core.specs.declared.parts.Core.{Core}
use Rattle.disk_core.specs.declared.ending.Meant.{Meant}
use Rattle.disk_core.specs.Parts.{kept_of}
use Rattle.disk_core.specs.Calls.{Revokes}
use Rattle.disk_core.specs.Moves.{Ends, StaysBeside}
use Rattle.disk_core.specs.Closing.{IsClosing, is_some_meant, is_queued, is_queued_meant, IsNextMeant, AreSorted, IsToEnd, HaveEnded, NoneMeantBefore, marks_below}
use Rattle.disk_core.proofs.Closed.{kept-ended, closing-step, open-outstanding, open-owed}
use Rattle.disk_core.proofs.Staying.{revokes, holders-lent}
use Rattle.disk_core.proofs.Walked.{TellsParts, closing-tells, queue-sorted, queue-below, queued-open, open-queued, open-answers}
use Rattle.history_laws.proofs.EndedLemmas.{ended-none}

below-then : (S : Setup) (H : List Entry) (e : Entry) (n u : ℕ) → u < n → marks_below S H e n u ≡ mark_of S (e ∷ H) u
below-then S H e n u below = rw (lt-ltb u n below) refl

below-else : (S : Setup) (H : List Entry) (e : Entry) (n u : ℕ) → n ≤ u → marks_below S H e n u ≡ mark_of S H u
below-else S H e n u past = rw (le-ltb u n past) refl

-- ---- frames

pub beside-still : (c : Core) → StaysBeside c c
beside-still c = record { protected_at_first = refl; blocks = refl; history = refl; accepted = refl; fetched = refl; group = refl; zeros = refl; places = refl }

beside-both : (c d e : Core) → StaysBeside c d → StaysBeside d e → StaysBeside c e
beside-both c d e one two = record {
  protected_at_first = two.protected_at_first ∙ one.protected_at_first;
  blocks = two.blocks ∙ one.blocks;
  history = two.history ∙ one.history;
  accepted = two.accepted ∙ one.accepted;
  fetched = two.fetched ∙ one.fetched;
  group = two.group ∙ one.group;
  zeros = two.zeros ∙ one.zeros;
  places = two.places ∙ one.places;
}

pub revokes-none : (s : Gates) → Revokes s s
revokes-none s = record { size = refl; kept = λ k g there. there; works = λ k. refl; count = refl; free = refl }

pub revokes-both : (r s t : Gates) → Revokes r s → Revokes s t → Revokes r t
revokes-both r s t one two = record {
  size = two.size ∙ one.size;
  kept = λ k g there. one.kept k g (two.kept k g there);
  works = λ k. two.works k ∙ one.works k;
  count = two.count ∙ one.count;
  free = two.free ∙ one.free;
}

-- ---- the walk

-- the meant tokens before `from` have ended, so many
pub record SoFar (S : Setup) (H : List Entry) (e : Entry) (late : ℕ) (initial c : Core) (from count : ℕ) : Type 0 where
  pub closing : IsClosing S (e ∷ H) (marks_below S H e from) (units_left S H) (late - count) c
  pub counted : count ≡ end_count_before S H e from
  pub within : from ≤ token_count H
  pub rest : StaysBeside initial c
  pub kept : kept_of c.tokens ≡ kept_of initial.tokens
  pub revokes : Revokes initial.gates c.gates

-- whatever the history
abbrev pub WalkedTo : Meant → Status → Core → Core → ℕ → ℕ → Type 0
WalkedTo meant status initial c from count = (S : Setup) (H : List Entry) (e : Entry) (late : ℕ) → IsToEnd meant status S H e late initial → SoFar S H e late initial c from count

begins-at-none : (meant : Meant) (status : Status) (c : Core) → WalkedTo meant status c c 0 0
unfolding end_count_before
begins-at-none meant status c S H e late to_end = record {
  closing = subst (λ n. IsClosing S (e ∷ H) (marks_below S H e 0) (units_left S H) n c) (let same : late ≡ late - 0 = omega arith in same) (subst (λ m. IsClosing S (e ∷ H) m (units_left S H) late c) (λ i u. (sym (below-else S H e 0 u (omega arith))) i) to_end.closing);
  counted = refl;
  within = omega arith;
  rest = beside-still c;
  kept = refl;
  revokes = revokes-none c.gates;
}

module _ (meant : Meant) (status : Status) (S : Setup) (H : List Entry) (e : Entry) (late : ℕ) (initial c : Core) (from count : ℕ) (to_end : IsToEnd meant status S H e late initial) (so_far : SoFar S H e late initial c from count) where
  tokens-same : token_count (e ∷ H) ≡ token_count H
  tokens-same = accepted-same H e to_end.adds_none

  tells : TellsParts S H (e ∷ H) (marks_below S H e from) c
  tells = closing-tells S H e (marks_below S H e from) (late - count) c to_end.adds_none so_far.closing

  -- what an open token from here on answers is whether the entry ends it
  answers : (u : ℕ) → from ≤ u → IsOutstanding S H u → ending S H e u ≡ status_if (is_some_meant meant (request_at c.tokens u)) status
  answers u above open_now = open-answers S H (e ∷ H) (marks_below S H e from) c tells meant status e to_end.means u open_now (below-else S H e from u above ∙ open_now.unmarked)

  queued : (u : ℕ) → from ≤ u → IsOutstanding S H u → is_queued c u ≡ true
  queued u above open_now = open-queued S H (e ∷ H) (marks_below S H e from) c tells u open_now (below-else S H e from u above ∙ open_now.unmarked)

  unmeant-ending : (u : ℕ) → from ≤ u → is_queued_meant c meant u ≡ false → IsOutstanding S H u → ending S H e u ≡ None
  unmeant-ending u above none open_now = answers u above open_now ∙ ap (λ b. status_if b status) (isnt (is_some_meant meant (request_at c.tokens u)) refl)
    where
      isnt : (b : Bool) → is_some_meant meant (request_at c.tokens u) ≡ b → is_some_meant meant (request_at c.tokens u) ≡ false
      isnt true is = absurd (true≢false (sym (and_from (is_queued c u) (is_some_meant meant (request_at c.tokens u)) (queued u above open_now) is) ∙ none))
      isnt false is = is

  -- a token that is not meant stays as it is
  unmeant-mark : (u : ℕ) → from ≤ u → is_queued_meant c meant u ≡ false → mark_of S (e ∷ H) u ≡ mark_of S H u
  unmeant-mark u above none = by (mark_of S H u) refl (cases_lt u (token_count H))
    where
      by : (m : Option Status) → mark_of S H u ≡ m → (u < token_count H) ⊎ (token_count H ≤ u) → mark_of S (e ∷ H) u ≡ mark_of S H u
      by (Some s) is place = mark-stays S H e u s is ∙ sym is
      by None is (inl token) = mark-next S H e u is ∙ (unmeant-ending u above none (record { token = token; unmarked = is }) ∙ sym is)
      by None is (inr past) = untold-mark S (e ∷ H) u (unaccepted S (e ∷ H) u so_far.closing.legal (subst (λ n. n ≤ u) (sym tokens-same) past)) ∙ sym is

  unmeant-uncounted : (u : ℕ) → from ≤ u → is_queued_meant c meant u ≡ false → (is_outstanding S H u && is_some (ending S H e u)) ≡ false
  unmeant-uncounted u above none = by (is_outstanding S H u) refl
    where
      by : (b : Bool) → is_outstanding S H u ≡ b → (is_outstanding S H u && is_some (ending S H e u)) ≡ false
      by false is = and_left (is_outstanding S H u) (is_some (ending S H e u)) is
      by true is = and_right (is_outstanding S H u) (is_some (ending S H e u)) (ap is_some (unmeant-ending u above none (outstanding-from S H u is)))

  pub walk-sorted : AreSorted c.queue
  walk-sorted = queue-sorted S H (e ∷ H) (marks_below S H e from) c tells

  pub walk-below : AreBelow c.accepted c.queue
  walk-below = subst (λ n. AreBelow n c.queue) (sym (so_far.rest.accepted ∙ to_end.accepts)) (queue-below S H (e ∷ H) (marks_below S H e from) c tells)

  -- ---- a meant token is next
  module _ (t : ℕ) (next : IsNextMeant c meant from (Some t)) where
    both : (is_queued c t ≡ true) × (is_some_meant meant (request_at c.tokens t) ≡ true)
    both = and_parts (is_queued c t) (is_some_meant meant (request_at c.tokens t)) next.1

    next-open : IsOutstanding S H t
    next-open = (queued-open S H (e ∷ H) (marks_below S H e from) c tells t both.0).0

    next-ending : ending S H e t ≡ Some status
    next-ending = answers t next.0 next-open ∙ ap (λ b. status_if b status) both.1

    next-ended : mark_of S (e ∷ H) t ≡ Some status
    next-ended = mark-next S H e t next-open.unmarked ∙ next-ending

    next-unmarked : marks_below S H e from t ≡ None
    next-unmarked = below-else S H e from t next.0 ∙ next-open.unmarked

    pub next-outstanding : mark_at c.tokens t ≡ Mark.Outstanding
    next-outstanding = open-outstanding S (e ∷ H) (marks_below S H e from) (units_left S H) (late - count) c t status so_far.closing next-unmarked next-ended

    pub next-owed : count_by (is_of t) c.queue + 1 ≤ c.owed
    next-owed = open-owed S (e ∷ H) (marks_below S H e from) (units_left S H) (late - count) c t status so_far.closing next-unmarked next-ended

    pub next-token : t < token_count H
    next-token = next-open.token

    away : (u : ℕ) → u ≢ t → marks_below S H e (t + 1) u ≡ marks_below S H e from u
    away u other = elim (cases_lt u from) [
      | inl before ↦ (let order = next.0 in below-then S H e (t + 1) u (omega arith)) ∙ sym (below-then S H e from u before)
      | inr above ↦ elim (cases_lt u t) [
        | inl passed ↦ below-then S H e (t + 1) u (omega arith) ∙ (unmeant-mark u above (next.2 u above passed) ∙ sym (below-else S H e from u above))
        | inr past ↦ below-else S H e (t + 1) u (omega (arith, other)) ∙ sym (below-else S H e from u above)
      ]
    ]

    next-counted : count + 1 ≡ end_count_before S H e (t + 1)
    unfolding end_count_before
    next-counted =
        let one : t + 1 ≡ suc t = omega arith in
        let passed = ended-none S H e from t next.0 (λ u above below. unmeant-uncounted u above (next.2 u above below)) in
        let counts : (is_outstanding S H t && is_some (ending S H e t)) ≡ true = and_from (is_outstanding S H t) (is_some (ending S H e t)) (outstanding-test S H t next-open) (ap is_some next-ending) in
        rw (one, counts) (ap (λ n. n + 1) (so_far.counted ∙ sym passed))

    pub walk-step : (c' : Core) → Ends c c' t status → SoFar S H e late initial c' (t + 1) (count + 1)
    walk-step c' ends = record {
      closing = subst (λ n. IsClosing S (e ∷ H) (marks_below S H e (t + 1)) (units_left S H) n c') (let same : late - count - 1 ≡ late - (count + 1) = omega arith in same)
          (closing-step S (e ∷ H) (marks_below S H e from) (units_left S H) (late - count) c t status so_far.closing next-unmarked next-ended c' (marks_below S H e (t + 1)) ends
          (below-then S H e (t + 1) t (omega arith) ∙ next-ended) away);
      counted = next-counted;
      within = (let token = next-open.token in omega arith);
      rest = beside-both initial c c' so_far.rest ends.rest;
      kept = ap kept_of ends.tokens ∙ (kept-ended status c.tokens t ∙ so_far.kept);
      revokes = revokes-both initial.gates c.gates c'.gates so_far.revokes (subst (Revokes c.gates) (sym ends.gates) (revokes t c.holders.items c.gates
          (holders-lent c.holders.items c.gates.held so_far.closing.gates.paired so_far.closing.gates.rising (λ k g there. to_end.lent k g (so_far.revokes.kept k g there)))));
    }

  -- ---- or none is
  pub walk-over : IsNextMeant c meant from None → HaveEnded S H e late initial c count
  unfolding end_count
  walk-over none = record {
    closing = subst (λ m. IsClosing S (e ∷ H) m (units_left S H) (late - count) c) (λ i u. all u i) so_far.closing;
    counted = so_far.counted ∙ sym (ended-none S H e from (token_count H) so_far.within (λ u above below. unmeant-uncounted u above (none u above)));
    rest = so_far.rest;
    kept = so_far.kept;
    revokes = so_far.revokes;
  }
    where
      all : (u : ℕ) → marks_below S H e from u ≡ mark_of S (e ∷ H) u
      all u = elim (cases_lt u from) [
        | inl before ↦ below-then S H e from u before
        | inr above ↦ below-else S H e from u above ∙ sym (unmeant-mark u above (none u above))
      ]

  pub walk-past : token_count H ≤ from → HaveEnded S H e late initial c count
  walk-past past = walk-over (λ u above. and_left (is_queued c u) (is_some_meant meant (request_at c.tokens u)) (false_from_ne_true (is_queued c u) (λ here.
      let token = (queued-open S H (e ∷ H) (marks_below S H e from) c tells u here).0.token in absurd (omega arith))))

-- the walk begins at a token before which none is meant
pub walk-begins : (meant : Meant) (status : Status) (c : Core) (first : ℕ) → NoneMeantBefore c meant first → first ≤ c.accepted → WalkedTo meant status c c first 0
walk-begins meant status c first none within S H e late to_end =
    let begun = begins-at-none meant status c S H e late to_end in
    record {
      closing = subst (λ m. IsClosing S (e ∷ H) m (units_left S H) (late - 0) c) (λ i u. same u (cases_lt u first) i) begun.closing;
      counted = begun.counted ∙ sym (ended-none S H e 0 first (omega arith) (λ u above below. unmeant-uncounted meant status S H e late c c 0 0 to_end begun u above (none u below)));
      within = subst (λ n. first ≤ n) to_end.accepts within;
      rest = begun.rest;
      kept = begun.kept;
      revokes = begun.revokes;
    }
  where
    same : (u : ℕ) → (u < first) ⊎ (first ≤ u) → marks_below S H e 0 u ≡ marks_below S H e first u
    same u (inl before) =
        below-else S H e 0 u (omega arith)
        ∙ (sym (unmeant-mark meant status S H e late c c 0 0 to_end (begins-at-none meant status c S H e late to_end) u (omega arith) (none u before)) ∙ sym (below-then S H e first u before))
    same u (inr past) = below-else S H e 0 u (omega arith) ∙ sym (below-else S H e first u past)
