-- The parts after a done command that finished a unit, and after the end of its token where it was the last one.
use Rattle.std.proofs.Common.{◌≡◌, ◌≢◌, ℕ, suc, ◌+◌, ◌^◌, ◌<◌, ◌≤◌, inl, inr, Bool, true, false, not, List, [], ◌∷◌, length, map, slice_get, Option, None, Some, refl, sym, ◌∙◌, ap, subst, arith}
use Rattle.std.specs.Prelude.{nat_eq, vec_capacity}
use Rattle.std.specs.Option.{option_map}
use Rattle.std.proofs.lemmas.Bool.{cases_eq, ne_eqb}
use Rattle.efi_status.specs.declared.Status.{Status}
use Rattle.efi_status.specs.declared.Status.TheVariants.{Success}
use Rattle.block_gate.specs.Gates.{Gates}
use Rattle.history.specs.declared.entry.Command.{Command}
use Rattle.history.specs.declared.entry.Entry.{Entry}
use Rattle.history.specs.declared.entry.Entry.TheVariants.{Done}
use Rattle.history.specs.Setup.{Setup, IsSetup, size_of}
use Rattle.history.specs.Tokens.{Request}
use Rattle.history.specs.Marks.{mark_of, status_if, IsOutstanding}
use Rattle.history.specs.Rules.{MayCommand, MayFollow, IsLegal}
use Rattle.history.specs.Tasks.{Task, units_left}
use Rattle.history.specs.Room.{owed_entries}
use Rattle.history_laws.specs.Left.{task_bytes, left_of}
use Rattle.history_laws.proofs.EndLemmas.{command-open}
use Rattle.history_laws.proofs.PendingLemmas.{filter-everything, pending-is, get-mapped}
use Rattle.history_laws.proofs.SpareLemmas.{entries-done, entries-done-end}
use Rattle.history_laws.proofs.TokenLemmas.{mark-other, done-concerns}
use Rattle.token_table.specs.declared.record.Record.{Record}
use Rattle.token_table.specs.Records.{record_at, request_at, with_change, lower_record, ended_record}
use Rattle.subtask_queue.specs.declared.sub.Sub.{Sub}
use Rattle.subtask_queue.specs.Subs.{token_of, block_of, is_of, is_unit, sub_of, without_first, without_token}
use Rattle.disk_core.specs.declared.parts.Core.{Core}
use Rattle.disk_core.specs.declared.parts.Holder.{Holder}
use Rattle.disk_core.specs.Facts.{KeptFollow, GatesFollow}
use Rattle.disk_core.specs.Parts.{kept_of}
use Rattle.disk_core.specs.Inside.{RecordsFollow, HoldersFollow, HasRoom, RecordsBy}
use Rattle.disk_core.specs.Moves.{with_entry, after_finish, left_in, without_gates_of, without_gate_of, Ends, EndsIf, EntersDone}
use Rattle.disk_core.proofs.Kept.{kept-changed}
use Rattle.disk_core.proofs.Finished.{kept-lowered, kept-ended, records-lowered}
use Rattle.disk_core.proofs.Over.{records-follow, records-step}
use Rattle.history_laws.proofs.LeftLemmas.{FinishesTask, mark-finished}
use Rattle.disk_core.proofs.Links.{AreClosed}
use Rattle.disk_core.proofs.Revoked.{holder-at}
use Rattle.disk_core.proofs.Unqueued.{queue-finished}
use Rattle.history_laws.proofs.LeftLemmas.{task_block}
use Rattle.history_laws.proofs.OwingLemmas.{count-none}
use Rattle.disk_core.proofs.Queued.{sub-token}

-- the last unit of a token was finished, and its end is still to come
pub record IsLastUnit (S : Setup) (marks : ℕ → Option Status) (t : ℕ) (c : Core) : Type 0 where
  pub geometry : IsSetup S
  pub legal : IsLegal S c.history.entries
  pub ended : mark_of S c.history.entries t ≡ Some Success
  pub alike : (u : ℕ) → t ≢ u → marks u ≡ mark_of S c.history.entries u
  pub tokens : KeptFollow S c.history.entries (kept_of c.tokens)
  pub gates : GatesFollow S c.history.entries c.gates
  pub records : RecordsBy S c.history.entries marks c.tokens
  pub queue : c.queue ≡ map (sub_of (size_of S)) (units_left S c.history.entries)
  pub holders : HoldersFollow S c.history.entries c.gates c.holders.items (vec_capacity c.holders)
  pub owed : owed_entries S c.history.entries + 1 ≤ c.owed
  pub places : c.owed ≤ c.history.spare
  pub few : length c.history.entries + c.history.spare < 2 ^ 63

no-end : (status : Status) (m : Option Status) → m ≡ Some status → m ≡ None → ⊥
no-end status m some none = clash (sym some ∙ none)
  where
    clash : Some status ≡ None → ⊥
    clash e = cc

revoked-none : (token : ℕ) (holders : List Holder) (s : Gates) → ((i : ℕ) (h : Holder) → slice_get holders i ≡ Some h → nat_eq token h.token ≡ false) → without_gates_of token holders s ≡ s
unfolding without_gates_of without_gate_of
revoked-none token [] s none = refl
revoked-none token (h ∷ holders) s none = rw (none 0 h refl) (revoked-none token holders s (λ i y at. none (suc i) y at))

module _ (S : Setup) (marks : ℕ → Option Status) (t : ℕ) (c c' : Core) (last : IsLastUnit S marks t c) (ends : Ends c c' t Success) where
  closed-token : (u : ℕ) → IsOutstanding S c.history.entries u → nat_eq t u ≡ false
  closed-token u open_ = ne_eqb t u (λ same. no-end Success (mark_of S c.history.entries t) last.ended (ap (mark_of S c.history.entries) same ∙ open_.unmarked))

  unit-free : (i : ℕ) (s : Sub) → slice_get c.queue i ≡ Some s → is_of t s ≡ false
  unfolding is_of
  unit-free i s at =
      let mapped = get-mapped (sub_of (size_of S)) (units_left S c.history.entries) i s (subst (λ q. slice_get q i ≡ Some s) last.queue at) in
      let left = pending-is S c.history.entries i mapped.0 mapped.1 in
      ap (nat_eq t) (ap token_of (sym mapped.2) ∙ sub-token (size_of S) mapped.0) ∙ closed-token mapped.0.token left.1.outstanding

  holder-free : (i : ℕ) (h : Holder) → slice_get c.holders.items i ≡ Some h → nat_eq t h.token ≡ false
  holder-free i h at =
      let holds = last.holders.only h.ticket h.token (holder-at c.holders.items i h last.holders.rising at) in
      closed-token h.token holds.1.holds.outstanding

  pub last-gates : c'.gates ≡ c.gates
  last-gates = ends.gates ∙ revoked-none t c.holders.items c.gates holder-free

  last-holders : c'.holders.items ≡ c.holders.items
  last-holders = ends.holders ∙ filter-everything (λ h. not (nat_eq t h.token)) c.holders.items (λ i h at. ap not (holder-free i h at))

  last-queue : c'.queue ≡ c.queue
  unfolding without_token
  last-queue = ends.queue ∙ filter-everything (λ s. not (is_of t s)) c.queue (λ i s at. ap not (unit-free i s at))

  entries-same : c'.history.entries ≡ c.history.entries
  entries-same = ap (λ h. h.entries) ends.rest.history

  -- the end closes the parts, and changes no gate
  pub last-unit-ends : AreClosed S c.history.entries c'
  last-unit-ends =
      let H = c.history.entries in
      let none = count-none (is_of t) c.queue unit-free in
      let paid = ends.owed in let owed = last.owed in let places = last.places in let few = last.few in
      let spare : c'.history.spare ≡ c.history.spare = ap (λ h. h.spare) ends.rest.history in
      let long : length c'.history.entries ≡ length H = ap length entries-same in
      let debt : owed_entries S c'.history.entries ≡ owed_entries S H = ap (owed_entries S) entries-same in
      record {
        entries = entries-same;
        geometry = last.geometry;
        legal = last.legal;
        tokens = subst (KeptFollow S H) (sym (ap kept_of ends.tokens ∙ kept-changed (ended_record Success) (kept-ended Success) c.tokens t)) last.tokens;
        gates = subst (GatesFollow S H) (sym last-gates) last.gates;
        records = subst (RecordsFollow S H) (sym ends.tokens) (records-step S H marks (mark_of S H) c.tokens t Success last.ended (λ u other. sym (last.alike u (λ same. other (sym same)))) last.records);
        queue = last-queue ∙ last.queue;
        holders = subst (λ g. HoldersFollow S H g c'.holders.items (vec_capacity c'.holders)) (sym last-gates)
            (subst (λ hs. HoldersFollow S H c.gates hs (vec_capacity c'.holders)) (sym last-holders)
            (subst (λ n. HoldersFollow S H c.gates c.holders.items n) (sym ends.rest.places) last.holders));
        room = record { owed = omega arith; places = omega arith; few = omega arith };
      }

-- what no command but a fetch changes of the parts
pub record StaysFitted (c c' : Core) : Type 0 where
  pub protected_at_first : c'.protected_at_first ≡ c.protected_at_first
  pub blocks : c'.blocks ≡ c.blocks
  pub accepted : c'.accepted ≡ c.accepted
  pub fetched : c'.fetched ≡ c.fetched
  pub group : c'.group ≡ c.group
  pub zeros : c'.zeros ≡ c.zeros

-- the parts with the entry on top and without the unit
abbrev done_core : Core → ℕ → ℕ → Command → ℕ → Core
done_core c t block command bytes = record (with_entry c (Done t command) 1) {
  queue = without_first (is_unit t block) c.queue;
  tokens = with_change (lower_record bytes) c.tokens t;
}

finished-is : (c : Core) (unit : Sub) (command : Command) (bytes : ℕ) → after_finish c unit command bytes ≡ done_core c (token_of unit) (block_of unit) command bytes
unfolding after_finish
finished-is c unit command bytes = refl

-- a done command may finish its unit: gates, holders and buffers follow with it, and the rest does before it
pub record MayFinish (S : Setup) (t : ℕ) (command : Command) (r : Request) (task : Task) (c : Core) : Type 0 where
  pub geometry : IsSetup S
  pub before : IsLegal S c.history.entries
  pub may : MayCommand S c.history.entries t command
  pub finishes : FinishesTask S c.history.entries t command r task
  pub recorded : (own : Record) × (record_at c.tokens t ≡ Some own)
  pub records : RecordsFollow S c.history.entries c.tokens
  pub queue : c.queue ≡ map (sub_of (size_of S)) (units_left S c.history.entries)
  pub room : HasRoom S c
  pub tokens : KeptFollow S (Done t command ∷ c.history.entries) (kept_of c.tokens)
  pub gates : GatesFollow S (Done t command ∷ c.history.entries) c.gates
  pub holders : HoldersFollow S (Done t command ∷ c.history.entries) c.gates c.holders.items (vec_capacity c.holders)

module _ (S : Setup) (t : ℕ) (command : Command) (r : Request) (task : Task) (c : Core) (is : MayFinish S t command r task c) where
  abbrev pub H' : List Entry
  H' = Done t command ∷ c.history.entries

  legal-now : IsLegal S H'
  unfolding IsLegal MayFollow
  legal-now = (is.before, is.may)

  open-now : IsOutstanding S c.history.entries t
  open-now = command-open S c.history.entries t command is.may

  left-now : left_in (request_at c.tokens t) ≡ left_of S c.history.entries t r
  unfolding request_at
  left-now =
      let own = is.recorded.0 in
      let there = is.recorded.1 in
      let tracks = (is.records.each t own there).1 in
      let q = (is.records.each t own there).0 in
      let same : q ≡ r = one q (sym tracks.named ∙ is.finishes.named) in
      ap (λ o. left_in (option_map (λ x. x.request) o)) there ∙ (tracks.left (sym tracks.mark ∙ open-now.unmarked) ∙ ap (left_of S c.history.entries t) same)
    where
      one : (q : Request) → Some q ≡ Some r → q ≡ r
      one q e = cc

  pub mark-now : mark_of S H' t ≡ status_if (nat_eq (left_in (request_at c.tokens t)) (task_bytes task)) Success
  mark-now = mark-finished S c.history.entries t command r task is.geometry legal-now open-now.unmarked is.finishes ∙ ap (λ n. status_if (nat_eq n (task_bytes task)) Success) (sym left-now)

  -- what the last step leaves
  pub record HasClosed (c' : Core) : Type 0 where
    pub closed : AreClosed S H' c'
    pub gates : c'.gates ≡ c.gates
    pub tokens : kept_of c'.tokens ≡ kept_of c.tokens
    pub rest : StaysFitted c c'

  now : Core
  now = done_core c t (task_block task) command (task_bytes task)

  queue-now : now.queue ≡ map (sub_of (size_of S)) (units_left S H')
  unfolding now with_entry
  queue-now = ap (without_first (is_unit t (task_block task))) is.queue ∙ sym (queue-finished S c.history.entries t command r task is.geometry legal-now open-now is.finishes)

  kept-now : kept_of now.tokens ≡ kept_of c.tokens
  unfolding now with_entry
  kept-now = kept-changed (lower_record (task_bytes task)) (kept-lowered (task_bytes task)) c.tokens t

  records-now : RecordsBy S H' (mark_of S c.history.entries) now.tokens
  unfolding now with_entry
  records-now = records-lowered S c.history.entries t command r task c.tokens is.geometry is.finishes open-now.unmarked is.records

  alike-now : (u : ℕ) → t ≢ u → mark_of S c.history.entries u ≡ mark_of S H' u
  alike-now u other = sym (mark-other S c.history.entries (Done t command) u (done-concerns c.history.entries t u command other))

  last-now : mark_of S H' t ≡ Some Success → IsLastUnit S (mark_of S c.history.entries) t now
  unfolding now with_entry
  last-now ended =
      let less = entries-done-end S c.history.entries t command Success is.geometry is.before is.may ended in
      let one = entries-done S c.history.entries t command is.geometry is.before is.may in
      let owed = is.room.owed in let places = is.room.places in let few = is.room.few in
      record {
        geometry = is.geometry;
        legal = legal-now;
        ended = ended;
        alike = alike-now;
        tokens = subst (KeptFollow S H') (sym kept-now) is.tokens;
        gates = is.gates;
        records = records-now;
        queue = queue-now;
        holders = is.holders;
        owed = omega arith;
        places = omega arith;
        few = omega arith;
      }

  open-closed : mark_of S H' t ≡ None → AreClosed S H' now
  unfolding now with_entry
  open-closed goes =
      let one = entries-done S c.history.entries t command is.geometry is.before is.may in
      let owed = is.room.owed in let places = is.room.places in let few = is.room.few in
      record {
        entries = refl;
        geometry = is.geometry;
        legal = legal-now;
        tokens = subst (KeptFollow S H') (sym kept-now) is.tokens;
        gates = is.gates;
        records = records-follow S H' (mark_of S c.history.entries) (mark_of S H') now.tokens (λ u. elim (cases_eq t u) [
          | inl same ↦ subst (λ v. mark_of S c.history.entries v ≡ mark_of S H' v) same (open-now.unmarked ∙ sym goes)
          | inr other ↦ alike-now u other
        ]) records-now;
        queue = queue-now;
        holders = is.holders;
        room = record { owed = omega arith; places = omega arith; few = omega arith };
      }

  stays-now : StaysFitted c now
  unfolding now with_entry
  stays-now = record { protected_at_first = refl; blocks = refl; accepted = refl; fetched = refl; group = refl; zeros = refl }

  closes : (c' : Core) (b : Bool) → nat_eq (left_in (request_at c.tokens t)) (task_bytes task) ≡ b → EndsIf b now c' t → HasClosed c'
  unfolding now with_entry
  closes c' true all ends =
      let ended : mark_of S H' t ≡ Some Success = mark-now ∙ ap (λ v. status_if v Success) all in
      let last = last-now ended in
      record {
        closed = last-unit-ends S (mark_of S c.history.entries) t now c' last ends;
        gates = last-gates S (mark_of S c.history.entries) t now c' last ends;
        tokens = ap kept_of ends.tokens ∙ kept-changed (ended_record Success) (kept-ended Success) now.tokens t ∙ kept-now;
        rest = record {
          protected_at_first = ends.rest.protected_at_first;
          blocks = ends.rest.blocks;
          accepted = ends.rest.accepted;
          fetched = ends.rest.fetched;
          group = ends.rest.group;
          zeros = ends.rest.zeros;
        };
      }
  closes c' false some same =
      let goes : mark_of S H' t ≡ None = mark-now ∙ ap (λ v. status_if v Success) some in
      subst HasClosed (sym same) (record { closed = open-closed goes; gates = refl; tokens = kept-now; rest = stays-now })

  -- a done command that finished its unit, and ended its token where that was the last one
  pub finishes-closed : (unit : Sub) (c' : Core) → token_of unit ≡ t → block_of unit ≡ task_block task → EntersDone c c' unit command (task_bytes task) → HasClosed c'
  unfolding now
  finishes-closed unit c' token block done =
      let bytes = task_bytes task in
      let at : EndsIf (nat_eq (left_in (request_at c.tokens (token_of unit))) bytes) (done_core c (token_of unit) (block_of unit) command bytes) c' (token_of unit) =
      subst (λ core. EndsIf (nat_eq (left_in (request_at c.tokens (token_of unit))) bytes) core c' (token_of unit)) (finished-is c unit command bytes) done in
      let here : EndsIf (nat_eq (left_in (request_at c.tokens t)) bytes) (done_core c t (block_of unit) command bytes) c' t =
      subst (λ u. EndsIf (nat_eq (left_in (request_at c.tokens u)) bytes) (done_core c u (block_of unit) command bytes) c' u) token at in
      closes c' (nat_eq (left_in (request_at c.tokens t)) bytes) refl
      (subst (λ b. EndsIf (nat_eq (left_in (request_at c.tokens t)) bytes) (done_core c t b command bytes) c' t) block here)
