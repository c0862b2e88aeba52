-- The walk that ends the meant tokens: what it has done before it comes to a token.
use Rattle.std.proofs.Common.{◌≡◌, ℕ, zero, suc, ◌<◌, ◌≤◌, inl, inr, Bool, true, false, nat_eq, List, [], ◌∷◌, map, slice_get, Option, None, Some, refl, sym, ◌∙◌, ap, subst, arith}
use Rattle.std.specs.Prelude.{filter, is_none}
use Rattle.std.specs.List.{list_any}
use Rattle.std.specs.Option.{option_map}
use Rattle.std.proofs.lemmas.Bool.{cases_Bool, eqb-true, or_left, or_right, or_cases, true≢false}
use Rattle.efi_status.specs.declared.Status.{Status}
use Rattle.history.specs.declared.entry.Entry.{Entry}
use Rattle.history.specs.Setup.{Setup, IsSetup, size_of}
use Rattle.history.specs.Tokens.{Request, is_accept, token_count, request, was_collected}
use Rattle.history.specs.Marks.{mark_of, ending, status_if, IsOutstanding}
use Rattle.history.specs.Rules.{IsLegal}
use Rattle.history.specs.Tasks.{Todo, units_left}
use Rattle.history_laws.specs.Pending.{IsBefore}
use Rattle.history_laws.proofs.CountLemmas.{accepted-same}
use Rattle.history_laws.proofs.TokenLemmas.{request-same}
use Rattle.history_laws.proofs.PendingLemmas.{filter-everything, pending-is, get-filtered}
use Rattle.history_laws.proofs.OrderLemmas.{pending-ordered, ordered-filter, ordered-map}
use Rattle.token_table.specs.declared.record.Record.{Record}
use Rattle.token_table.specs.Records.{record_at, request_at}
use Rattle.subtask_queue.specs.Subs.{token_of, is_of, sub_of, AreBelow}
use Rattle.disk_core.specs.declared.parts.Core.{Core}
use Rattle.disk_core.specs.declared.ending.Meant.{Meant}
use Rattle.disk_core.specs.Facts.{KeptFollow}
use Rattle.disk_core.specs.Parts.{kept_from, kept_of}
use Rattle.disk_core.specs.Closing.{IsClosing, is_meant_in, is_some_meant, is_queued, AreSorted}
use Rattle.disk_core.proofs.Kept.{kept-record}
use Rattle.history_laws.proofs.OwingLemmas.{open-kept}
use Rattle.disk_core.proofs.Links.{AreClosed}
use Rattle.disk_core.proofs.Queued.{sub-token}
use Rattle.history_laws.proofs.OpenLemmas.{open-pending}

-- and stands in the queue where it is open so far
pub queue-has : (size t : ℕ) (keep : Todo → Bool) (units : List Todo) → ((todo : Todo) → todo.token ≡ t → keep todo ≡ true) → list_any (λ todo. nat_eq t todo.token) units ≡ true
    → list_any (is_of t) (map (sub_of size) (filter keep units)) ≡ true
unfolding is_of
queue-has size t keep [] keeps any = cc
queue-has size t keep (todo ∷ units) keeps any = elim (cases_Bool (nat_eq t todo.token)) [
  | inl here ↦
      rw (keeps todo (sym (eqb-true t todo.token here)))
      (or_left (nat_eq t (token_of (sub_of size todo))) (list_any (is_of t) (map (sub_of size) (filter keep units))) (ap (nat_eq t) (sub-token size todo) ∙ here))
  | inr other ↦
      let rest = queue-has size t keep units keeps (rw other at any) in
      elim (cases_Bool (keep todo)) [
        | inl kept ↦ rw kept (or_right (nat_eq t (token_of (sub_of size todo))) (list_any (is_of t) (map (sub_of size) (filter keep units))) rest)
        | inr dropped ↦ rw dropped rest
      ]
]

-- a token that stands in the queue has a unit that was kept
pub queue-from : (size t : ℕ) (keep : Todo → Bool) (units : List Todo) → list_any (is_of t) (map (sub_of size) (filter keep units)) ≡ true → (k : ℕ) × (todo : Todo) × (slice_get units k ≡ Some todo) × (todo.token ≡ t) × (keep todo ≡ true)
unfolding is_of
queue-from size t keep [] any = cc
queue-from size t keep (todo ∷ units) any = elim (cases_Bool (keep todo)) [
  | inl kept ↦ elim (or_cases (nat_eq t (token_of (sub_of size todo))) (list_any (is_of t) (map (sub_of size) (filter keep units))) (rw kept at any)) [
    | inl here ↦ (zero, todo, refl, sym (eqb-true t (token_of (sub_of size todo)) here ∙ sub-token size todo), kept)
    | inr later ↦ (let rest = queue-from size t keep units later in (suc rest.0, rest.1, rest.2, rest.3, rest.4))
  ]
  | inr dropped ↦ (let rest = queue-from size t keep units (rw dropped at any) in (suc rest.0, rest.1, rest.2, rest.3, rest.4))
]

-- ---- what a walk needs of the queue

all-below : (size n : ℕ) (todos : List Todo) → ((k : ℕ) (todo : Todo) → slice_get todos k ≡ Some todo → todo.token < n) → AreBelow n (map (sub_of size) todos)
unfolding AreBelow
all-below size n [] each = tt
all-below size n (todo ∷ todos) each = (subst (λ m. m < n) (sym (sub-token size todo)) (each zero todo refl), all-below size n todos (λ k x there. each (suc k) x there))

-- what a walk reads of the parts: the units of the tokens that are open so far, and their records
pub record TellsParts (S : Setup) (H G : List Entry) (marks : ℕ → Option Status) (c : Core) : Type 0 where
  pub setup : IsSetup S
  pub legal : IsLegal S H
  pub queue : c.queue ≡ map (sub_of (size_of S)) (filter (λ todo. is_none (marks todo.token)) (units_left S H))
  pub tokens : KeptFollow S G (kept_of c.tokens)
  pub uncollected : (t : ℕ) → marks t ≡ None → was_collected G t ≡ false
  pub records : (t : ℕ) (r : Record) → record_at c.tokens t ≡ Some r → (q : Request) × (request G t ≡ Some q) × (r.request.view ≡ q.view) × (r.request.asked ≡ q.asked)
  pub same : (t : ℕ) → request G t ≡ request H t
  pub count : token_count G ≡ token_count H

pub closing-tells : (S : Setup) (H : List Entry) (e : Entry) (marks : ℕ → Option Status) (late : ℕ) (c : Core) → is_accept e ≡ false → IsClosing S (e ∷ H) marks (units_left S H) late c → TellsParts S H (e ∷ H) marks c
unfolding IsLegal
closing-tells S H e marks late c adds_none closing = record {
  setup = closing.setup;
  legal = closing.legal.0;
  queue = closing.queue;
  tokens = closing.tokens;
  uncollected = closing.uncollected;
  records = λ t r is. (let of = closing.records.each t r is in (of.0, of.1.named, of.1.viewed, of.1.asked));
  same = λ t. request-same H e t adds_none;
  count = accepted-same H e adds_none;
}

pub closed-tells : (S : Setup) (H : List Entry) (c : Core) → AreClosed S H c → TellsParts S H H (mark_of S H) c
closed-tells S H c closed = record {
  setup = closed.geometry;
  legal = closed.legal;
  queue = closed.queue ∙ ap (map (sub_of (size_of S))) (sym (filter-everything (λ todo. is_none (mark_of S H todo.token)) (units_left S H) (λ k todo there. (let of = pending-is S H k todo there in ap is_none of.1.outstanding.unmarked))));
  tokens = closed.tokens;
  uncollected = λ t unmarked. open-kept S H t closed.legal unmarked;
  records = λ t r is. (let of = closed.records.each t r is in (of.0, of.1.named, of.1.viewed, of.1.asked));
  same = λ t. refl;
  count = refl;
}

module _ (S : Setup) (H G : List Entry) (marks : ℕ → Option Status) (c : Core) (tells : TellsParts S H G marks c) where
  pub queue-sorted : AreSorted c.queue
  queue-sorted =
      subst AreSorted (sym tells.queue) (ordered-map IsBefore (λ one other. token_of one ≤ token_of other) (sub_of (size_of S)) (filter (λ todo. is_none (marks todo.token)) (units_left S H)) in-order
      (ordered-filter IsBefore (λ todo. is_none (marks todo.token)) (units_left S H) (pending-ordered S H tells.setup)))
    where
      in-order : (x y : Todo) → IsBefore x y → token_of (sub_of (size_of S) x) ≤ token_of (sub_of (size_of S) y)
      in-order x y (inl less) = (let one = sub-token (size_of S) x in let two = sub-token (size_of S) y in omega arith)
      in-order x y (inr (same, low)) = (let one = sub-token (size_of S) x in let two = sub-token (size_of S) y in omega arith)

  pub queue-below : AreBelow (token_count H) c.queue
  queue-below =
      subst (AreBelow (token_count H)) (sym tells.queue) (all-below (size_of S) (token_count H) (filter (λ todo. is_none (marks todo.token)) (units_left S H)) (λ k todo there.
      let at = get-filtered (λ (d : Todo). is_none (marks d.token)) (units_left S H) k todo there in
      (pending-is S H at.0 todo at.1).1.outstanding.token))

  pub queued-open : (t : ℕ) → is_queued c t ≡ true → IsOutstanding S H t × (marks t ≡ None)
  queued-open t queued =
      let from = queue-from (size_of S) t (λ todo. is_none (marks todo.token)) (units_left S H) (ap (list_any (is_of t)) (sym tells.queue) ∙ queued) in
      let of = pending-is S H from.0 from.1 from.2 in
      (subst (IsOutstanding S H) from.3 of.1.outstanding, is-none (marks t) (ap (λ u. is_none (marks u)) (sym from.3) ∙ from.4))
    where
      is-none : (m : Option Status) → is_none m ≡ true → m ≡ None
      is-none None e = refl
      is-none (Some status) e = cc

  pub open-queued : (t : ℕ) → IsOutstanding S H t → marks t ≡ None → is_queued c t ≡ true
  open-queued t open_now unmarked =
      ap (list_any (is_of t)) tells.queue ∙ queue-has (size_of S) t (λ todo. is_none (marks todo.token)) (units_left S H) (λ todo same. ap (λ u. is_none (marks u)) same ∙ ap is_none unmarked)
      (open-pending S H t tells.setup tells.legal open_now)

  -- the record of an open token tells its request
  pub record RecordOf (t : ℕ) (r : Record) (q : Request) : Type 0 where
    pub there : record_at c.tokens t ≡ Some r
    pub named : request H t ≡ Some q
    pub viewed : r.request.view ≡ q.view
    pub asked : r.request.asked ≡ q.asked

  pub open-record : (t : ℕ) → t < token_count H → marks t ≡ None → (r : Record) × (q : Request) × RecordOf t r q
  open-record t token unmarked = by (record_at c.tokens t) refl
    where
      by : (m : Option Record) → record_at c.tokens t ≡ m → (r : Record) × (q : Request) × RecordOf t r q
      by None is = absurd (true≢false (sym (tells.tokens.gone t (subst (λ n. t < n) (sym tells.count) token) (kept-record c.tokens t ∙ ap (option_map kept_from) is)) ∙ tells.uncollected t unmarked))
      by (Some r) is = (let of = tells.records t r is in (r, of.0, record { there = is; named = sym (tells.same t) ∙ of.1; viewed = of.2; asked = of.3 }))

  -- whether an open token is meant says whether the entry ends it
  pub open-answers : (meant : Meant) (status : Status) (e : Entry) → ((t : ℕ) (q : Request) → IsOutstanding S H t → request H t ≡ Some q → ending S H e t ≡ status_if (is_meant_in meant q.view q.asked.kind) status)
      → (t : ℕ) → IsOutstanding S H t → marks t ≡ None → ending S H e t ≡ status_if (is_some_meant meant (request_at c.tokens t)) status
  unfolding request_at
  open-answers meant status e means t open_now unmarked =
      let of = open-record t open_now.token unmarked in
      let r = of.0 in let q = of.1 in let is = of.2 in
      means t q open_now is.named
      ∙ ap (λ b. status_if b status) (ap (λ v. is_meant_in meant v q.asked.kind) (sym is.viewed) ∙ (ap (λ a. is_meant_in meant r.request.view a.kind) (sym is.asked) ∙ sym (ap (λ m. is_some_meant meant (option_map (λ x. x.request) m)) is.there)))
