-- The parts carry one end after the other, and follow the history again after the last.
use Rattle.std.proofs.Common.{◌≡◌, ◌≢◌, ℕ, zero, suc, ◌+◌, ◌-◌, ◌≤◌, inl, inr, true, false, not, nat_eq, List, [], ◌∷◌, map, slice_get, Option, None, Some, refl, sym, ◌∙◌, ap, subst, arith}
use Rattle.std.specs.Prelude.{filter, count_by, is_none, vec_capacity}
use Rattle.std.specs.Option.{option_map}
use Rattle.std.proofs.lemmas.Bool.{cases_Bool, cases_eq, eq-eqb}
use Rattle.std.proofs.lemmas.Option.{slice_get-map}
use Rattle.efi_status.specs.declared.Status.{Status}
use Rattle.history.specs.declared.entry.Entry.{Entry}
use Rattle.history.specs.Setup.{Setup, size_of}
use Rattle.history.specs.Tokens.{Request, token_count, request}
use Rattle.history.specs.Marks.{mark_of, HoldsBy}
use Rattle.history.specs.Tasks.{Todo, units_left}
use Rattle.history.specs.Room.{commands_owed, owed_entries}
use Rattle.history_laws.specs.OwedSoFar.{token_owed_so_far}
use Rattle.history_laws.specs.Pending.{Ordered}
use Rattle.history_laws.proofs.TokenLemmas.{request-some}
use Rattle.history_laws.proofs.OrderLemmas.{ordered-filter}
use Rattle.history_laws.proofs.SpareLemmas.{marked-accepted}
use Rattle.history_laws.proofs.TicketLemmas.{ticket-one}
use Rattle.history_laws.proofs.OwedSoFarLemmas.{owed-some, owed-falls, owed-within, owed-all}
use Rattle.token_table.specs.declared.record.Record.{Record}
use Rattle.token_table.specs.declared.record.Mark.{Mark}
use Rattle.token_table.specs.Records.{Records, record_at, with_change, ended_record, mark_at, mark_of_record, mark_of_end}
use Rattle.subtask_queue.specs.Subs.{is_of, sub_of, without_token}
use Rattle.block_gate.specs.Gates.{Gate, gate_of}
use Rattle.disk_core.specs.declared.parts.Core.{Core}
use Rattle.disk_core.specs.declared.parts.Holder.{Holder}
use Rattle.disk_core.specs.Facts.{KeptFollow, GatesFollow}
use Rattle.disk_core.specs.Parts.{kept_from, kept_of, holder_of}
use Rattle.disk_core.specs.Inside.{IsEarlier, HoldersFollow, HasRoom, RecordsBy}
use Rattle.disk_core.specs.Moves.{Ends}
use Rattle.disk_core.specs.Closing.{HoldsSoFar, GatesSoFar, RoomSoFar, IsClosing}
use Rattle.disk_core.proofs.Kept.{kept-record, kept-changed}
use Rattle.disk_core.proofs.Queued.{queue-without, queue-count}
use Rattle.disk_core.proofs.Revoked.{HaveLost, is_ticket_of, revoked-lost, left-gate, gate-left, holder-first, other-ticket, ticket-other, holder-others, others-tickets}
use Rattle.history_laws.proofs.FilterLemmas.{filter-mapped}
use Rattle.disk_core.proofs.Links.{AreClosed}
use Rattle.disk_core.proofs.Over.{records-step}

-- ---- records

-- an end keeps the buffer and the event word
pub kept-ended : (status : Status) (records : Records) (t : ℕ) → kept_of (with_change (ended_record status) records t) ≡ kept_of records
unfolding ended_record
kept-ended status records t = kept-changed (ended_record status) (λ r. refl) records t

-- ---- one end

module _ (S : Setup) (H : List Entry) (marks : ℕ → Option Status) (units : List Todo) (late : ℕ) (c : Core) (t : ℕ) (status : Status) (closing : IsClosing S H marks units late c) (unmarked : marks t ≡ None) (ended : mark_of S H t ≡ Some status) where
  named : (q : Request) × (request H t ≡ Some q)
  named = request-some H t (marked-accepted S H t status closing.legal ended)

  owes-open : token_owed_so_far S H marks t ≡ commands_owed S H t named.0 + 2
  owes-open = rw (named.1, unmarked) refl

  -- the parts have the token open
  pub open-outstanding : mark_at c.tokens t ≡ Mark.Outstanding
  unfolding mark_at
  open-outstanding = by (record_at c.tokens t) refl
    where
      gone : record_at c.tokens t ≡ None → ⊥
      gone none = clash (sym (closing.tokens.gone t (marked-accepted S H t status closing.legal ended) (kept-record c.tokens t ∙ ap (option_map kept_from) none)) ∙ closing.uncollected t unmarked)
        where
          clash : true ≡ false → ⊥
          clash e = cc

      by : (m : Option Record) → record_at c.tokens t ≡ m → mark_of_record (record_at c.tokens t) ≡ Mark.Outstanding
      by None is = absurd (gone is)
      by (Some r) is = rw is (ap mark_of_end (sym (closing.records.each t r is).1.mark ∙ unmarked))

  -- and owe its units and the entry that ends it
  pub open-owed : count_by (is_of t) c.queue + 1 ≤ c.owed
  open-owed =
      let few = queue-count (size_of S) t (λ todo. is_none (marks todo.token)) units in
      let same : count_by (is_of t) c.queue ≡ count_by (is_of t) (map (sub_of (size_of S)) (filter (λ todo. is_none (marks todo.token)) units)) = ap (count_by (is_of t)) closing.queue in
      let cost = closing.costs t named.0 named.1 in
      let one = owed-within S H marks t (token_count H) (marked-accepted S H t status closing.legal ended) in
      let open_ = owes-open in
      let owes = closing.room.owes in
      omega arith

  module _ (c' : Core) (marks' : ℕ → Option Status) (ends : Ends c c' t status) (here : marks' t ≡ Some status) (away : (u : ℕ) → u ≢ t → marks' u ≡ marks u) where
    lost : HaveLost (is_ticket_of t c.holders.items) c.gates c'.gates
    lost = subst (λ g. HaveLost (is_ticket_of t c.holders.items) c.gates g) (sym ends.gates) (revoked-lost t c.holders.items c.gates)

    was-there : (k : ℕ) (g : Gate) → gate_of c'.gates.held k ≡ Some g → (gate_of c.gates.held k ≡ Some g) × (is_ticket_of t c.holders.items k ≡ false)
    was-there k g there = left-gate (is_ticket_of t c.holders.items) c.gates.held k g (ap (λ h. gate_of h k) (sym lost.held) ∙ there)

    gates-step : GatesSoFar S H marks' c'.gates c'.holders.items (vec_capacity c'.holders)
    gates-step = record {
      sized = lost.size ∙ closing.gates.sized;
      each = λ k g there. (
          let old = was-there k g there in
          let of = closing.gates.each k g old.0 in
          let other = ticket-other t of.0 c.holders.items k of.1.holder old.1 in (
            of.0,
            record {
              holder = ap (λ l. holder_of l k) ends.holders ∙ holder-others t of.0 c.holders.items k of.1.holder other;
              holds = record {
                token = of.1.holds.token;
                unmarked = away of.0 other ∙ of.1.holds.unmarked;
                fetched = of.1.holds.fetched;
                unstored = of.1.holds.unstored;
                ticket_is = of.1.holds.ticket_is;
              };
              lent = of.1.lent;
              copied = of.1.copied;
            },
          )
          );
      all = λ u b k holds. (
          let old = closing.gates.all u b k holds in
          let of = closing.gates.each k old.0 old.1 in
          let other : of.0 ≢ t = (λ same. marked-open u b k holds (sym (ticket-one H of.0 u old.0.block b k of.1.holds.ticket_is holds.ticket_is).0 ∙ same)) in
          (old.0, ap (λ h. gate_of h k) lost.held ∙ gate-left (is_ticket_of t c.holders.items) c.gates.held k old.0 old.1 (other-ticket t of.0 c.holders.items k closing.gates.rising of.1.holder other), old.2)
          );
      below = λ k out. closing.gates.below k (lost.within k out);
      apart = lost.sound closing.gates.apart;
      paired =
          ap (map (λ h. h.ticket)) ends.holders ∙ (others-tickets t c.holders.items closing.gates.rising
          ∙ (ap (filter (λ k. not (is_ticket_of t c.holders.items k))) closing.gates.paired
          ∙ (filter-mapped (λ k. not (is_ticket_of t c.holders.items k)) (λ (g : Gate). g.ticket) c.gates.held ∙ ap (map (λ g. g.ticket)) (sym lost.held))));
      rising = subst (λ l. Ordered IsEarlier l) (sym ends.holders) (ordered-filter IsEarlier (λ h. not (nat_eq t h.token)) c.holders.items closing.gates.rising);
      fits = (let fits = closing.gates.fits in let less = lost.fits in let same = ends.rest.places in omega arith);
    }
      where
        marked-open : (u b k : ℕ) → HoldsBy S H u b k → u ≢ t
        marked-open u b k holds same = clash (sym (ap (mark_of S H) same ∙ ended) ∙ holds.holds.outstanding.unmarked)
          where
            clash : Some status ≡ None → ⊥
            clash e = cc

    room-step : RoomSoFar S H marks' (late - 1) c'
    room-step =
        let few = queue-count (size_of S) t (λ todo. is_none (marks todo.token)) units in
        let same : count_by (is_of t) c.queue ≡ count_by (is_of t) (map (sub_of (size_of S)) (filter (λ todo. is_none (marks todo.token)) units)) = ap (count_by (is_of t)) closing.queue in
        let cost = closing.costs t named.0 named.1 in
        let falls = owed-falls S H marks marks' t (token_count H) (commands_owed S H t named.0 + 1) (marked-accepted S H t status closing.legal ended) (owed-some S H t named.0 marks marks' status named.1 unmarked here) away in
        let owes = closing.room.owes in
        let places = closing.room.places in
        let length_few = closing.room.few in
        let paid = ends.owed in
        let spare : c'.history.spare ≡ c.history.spare = ap (λ h. h.spare) ends.rest.history in
        record { owes = omega arith; places = omega arith; few = omega arith }

    -- one end more has come to the parts
    pub closing-step : IsClosing S H marks' units (late - 1) c'
    closing-step = record {
      entries = ap (λ h. h.entries) ends.rest.history ∙ closing.entries;
      setup = closing.setup;
      legal = closing.legal;
      tokens = subst (KeptFollow S H) (sym (ap kept_of ends.tokens ∙ kept-ended status c.tokens t)) closing.tokens;
      uncollected = λ u open_now. elim (cases_eq u t) [
        | inl same ↦ absurd (clash (sym here ∙ (ap marks' (sym same) ∙ open_now)))
        | inr other ↦ closing.uncollected u (sym (away u other) ∙ open_now)
      ];
      records = subst (RecordsBy S H marks') (sym ends.tokens) (records-step S H marks marks' c.tokens t status here away closing.records);
      queue = ends.queue ∙ (ap (without_token t) closing.queue ∙ queue-without (size_of S) t (λ todo. is_none (marks todo.token)) (λ todo. is_none (marks' todo.token)) units
          (λ todo is. ap (λ u. is_none (marks' u)) is ∙ ap is_none here) (λ todo isnt. ap is_none (away todo.token isnt)));
      costs = closing.costs;
      gates = gates-step;
      room = room-step;
    }
      where
        clash : Some status ≡ None → ⊥
        clash e = cc

-- ---- after the last end

gate-listed : (held : List Gate) (i k : ℕ) → slice_get (map (λ g. g.ticket) held) i ≡ Some k → (g : Gate) × (gate_of held k ≡ Some g)
unfolding gate_of
gate-listed [] i k there = cc
gate-listed (h ∷ held) zero k there = (h, rw (eq-eqb k h.ticket (let e : Some h.ticket ≡ Some k = there in cc)) refl)
gate-listed (h ∷ held) (suc i) k there = elim (cases_Bool (nat_eq k h.ticket)) [
  | inl here ↦ (h, rw here refl)
  | inr other ↦ (let rest = gate-listed held i k there in (rest.0, rw other rest.1))
]

-- each holder has its gate
pub holder-gate : (holders : List Holder) (held : List Gate) (k t : ℕ) → map (λ h. h.ticket) holders ≡ map (λ g. g.ticket) held → holder_of holders k ≡ Some t → (g : Gate) × (gate_of held k ≡ Some g)
holder-gate holders held k t paired is =
    let first = holder-first holders k t is in
    gate-listed held first.0 k (ap (λ l. slice_get l first.0) (sym paired) ∙ (slice_get-map (λ (h : Holder). h.ticket) holders first.0 ∙ (ap (option_map (λ (h : Holder). h.ticket)) first.2 ∙ ap Some first.3)))

module _ (S : Setup) (H : List Entry) (units : List Todo) (late : ℕ) (c : Core) (closing : IsClosing S H (mark_of S H) units late c) where
  held-by : (k t b : ℕ) → HoldsSoFar H (mark_of S H) t b k → HoldsBy S H t b k
  held-by k t b so_far = record {
    holds = record {
      outstanding = record { token = so_far.token; unmarked = so_far.unmarked };
      fetched = so_far.fetched;
      unstored = so_far.unstored;
    };
    ticket_is = so_far.ticket_is;
  }

  closed-gates : GatesFollow S H c.gates
  closed-gates = record {
    sized = closing.gates.sized;
    each = λ k g there. (
        let of = closing.gates.each k g there in
        (of.0, record { holds = held-by k of.0 g.block of.1.holds; lent = of.1.lent of.1.holds.unmarked; copied = of.1.copied of.1.holds.unmarked })
        );
    all = closing.gates.all;
    below = closing.gates.below;
  }

  closed-holders : HoldersFollow S H c.gates c.holders.items (vec_capacity c.holders)
  closed-holders = record {
    each = λ k t b holds. (
        let there = closing.gates.all t b k holds in
        let of = closing.gates.each k there.0 there.1 in
        of.1.holder ∙ ap Some (ticket-one H of.0 t there.0.block b k of.1.holds.ticket_is holds.ticket_is).0
        );
    only = λ k t is. (
        let there = holder-gate c.holders.items c.gates.held k t closing.gates.paired is in
        let of = closing.gates.each k there.0 there.1 in
        let same : of.0 ≡ t = (let e : Some of.0 ≡ Some t = sym of.1.holder ∙ is in cc) in
        (there.0.block, subst (λ u. HoldsBy S H u there.0.block k) same (held-by k of.0 there.0.block of.1.holds))
        );
    apart = closing.gates.apart;
    paired = closing.gates.paired;
    rising = closing.gates.rising;
    fits = closing.gates.fits;
  }

  closed-room : c.owed ≤ c.history.spare → HasRoom S c
  unfolding owed_entries
  closed-room places =
      let owes = closing.room.owes in
      let all = owed-all S H (token_count H) in
      let few = closing.room.few in
      subst (λ h. HasRoom S (record c { history = record { entries = h; spare = c.history.spare } })) (sym closing.entries)
      (record { owed = omega arith; places = places; few = omega arith })

  -- the parts follow the history again
  pub closed-all : filter (λ todo. is_none (mark_of S H todo.token)) units ≡ units_left S H → c.owed ≤ c.history.spare → AreClosed S H c
  closed-all units_are places = record {
    entries = closing.entries;
    geometry = closing.setup;
    legal = closing.legal;
    tokens = closing.tokens;
    gates = closed-gates;
    records = closing.records;
    queue = closing.queue ∙ ap (map (sub_of (size_of S))) units_are;
    holders = closed-holders;
    room = closed-room places;
  }
