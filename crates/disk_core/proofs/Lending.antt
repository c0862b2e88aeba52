-- The links of the parts after a done fetch, whose group is held and lent.
use Rattle.std.proofs.Common.{◌≡◌, ℕ, ◌-◌, ◌*◌, ◌<◌, ◌≤◌, inl, inr, true, false, not, List, [], ◌∷◌, ◌++◌, length, map, None, Some, refl, sym, ◌∙◌, ap, subst, arith}
use Rattle.std.specs.Prelude.{filter, sum_by, vec_capacity, nat_eq}
use Rattle.history_laws.specs.Gates.{is_store_of}
use Rattle.std.proofs.lemmas.Bool.{cases_eq, and_right}
use Rattle.medium.specs.Device.{AreToldAt}
use Rattle.block_gate.specs.Gates.{Gate, Gates, gate_of, is_out, with_gate, with_work_out, AreSound}
use Rattle.history.specs.declared.entry.Command.TheVariants.{Fetch}
use Rattle.history.specs.declared.entry.Entry.{Entry}
use Rattle.history.specs.declared.entry.Entry.TheVariants.{Done}
use Rattle.history.specs.Setup.{Setup, size_of}
use Rattle.history.specs.Eras.{media_id_of}
use Rattle.history.specs.Tokens.{Request, request, is_flush}
use Rattle.history.specs.Commands.{is_sync}
use Rattle.history.specs.Contents.{contents}
use Rattle.history.specs.Marks.{mark_of, fetches, IsOutstanding, HoldsBy}
use Rattle.history.specs.Rules.{MayCommand, MayFollow, IsLegal}
use Rattle.history.specs.Tasks.{Task, Moves, Syncs, tasks_of, is_finished}
use Rattle.history.specs.Room.{owed_entries}
use Rattle.history_laws.specs.Left.{task_bytes, left_of}
use Rattle.history_laws.specs.Ranges.{AreToldWhole}
use Rattle.history_laws.proofs.ContentLemmas.{contents-same, piece-unchanged}
use Rattle.history_laws.proofs.CountLemmas.{fetches-more}
use Rattle.history_laws.proofs.HolderLemmas.{still-open}
use Rattle.history_laws.proofs.MediaLemmas.{media-id-same}
use Rattle.history_laws.proofs.PendingLemmas.{pending-fetch}
use Rattle.history_laws.proofs.SpareLemmas.{entries-done}
use Rattle.history_laws.proofs.TicketLemmas.{holds-by-before, holds-by-stays, holds-by-below, fetch-holds-by}
use Rattle.history_laws.proofs.TokenLemmas.{request-stays, mark-other, done-concerns, has_done-done}
use Rattle.history_laws.proofs.UnitLemmas.{moved-same}
use Rattle.token_table.specs.declared.record.Record.{Record}
use Rattle.subtask_queue.specs.Subs.{sub_of}
use Rattle.disk_core.specs.declared.parts.Core.{Core}
use Rattle.disk_core.specs.declared.parts.Holder.{Holder}
use Rattle.disk_core.specs.Facts.{IsGate, KeptFollow, GatesFollow}
use Rattle.disk_core.specs.Parts.{kept_of, holder_of}
use Rattle.disk_core.specs.Inside.{Tracks, RecordsFollow, HoldersFollow}
use Rattle.disk_core.proofs.Finished.{kept-done}
use Rattle.history_laws.proofs.LeftLemmas.{left-other}
use Rattle.disk_core.proofs.Gated.{ticket-new, holder-new, holders-below, new-gate, other-gate, new-tickets, new-count, new-gone, new-free, new-out, new-holder, other-holder, new-rising}
use Rattle.disk_core.proofs.Links.{AreClosed}
use Rattle.disk_core.proofs.Untouched.{gate-stays}

-- the parts before a fetch, and those after it
pub record HasLent (H : List Entry) (t b k : ℕ) (group : List ℕ) (c c' : Core) : Type 0 where
  pub entries : c'.history.entries ≡ Done t (Fetch b) ∷ H
  pub spare : c'.history.spare ≡ c.history.spare - 1
  pub owed : c'.owed ≡ c.owed - 1
  pub tokens : c'.tokens ≡ c.tokens
  pub queue : c'.queue ≡ c.queue
  pub gates : c'.gates ≡ with_work_out (with_gate c.gates b k group) k
  pub apart : AreSound c'.gates
  pub holders : c'.holders.items ≡ c.holders.items ++ record { ticket = k; token = t } ∷ []
  pub places : vec_capacity c'.holders ≡ vec_capacity c.holders

module _ (S : Setup) (H : List Entry) (t b : ℕ) (r : Request) (c : Core) (closed : AreClosed S H c) (told : AreToldWhole S) (may : MayCommand S H t (Fetch b)) (open_ : IsOutstanding S H t) (named : request H t ≡ Some r) (moves : is_flush r.asked.kind ≡ false)
    (free : 0 < c.gates.free) (group : List ℕ) (are : AreToldAt (contents S (media_id_of H) H) (b * size_of S) group) (long : length group ≡ c.gates.size) where
  abbrev e : Entry
  e = Done t (Fetch b)

  abbrev k : ℕ
  k = fetches H

  follow : MayFollow S H e
  unfolding MayFollow
  follow = may

  legal-now : IsLegal S (e ∷ H)
  unfolding IsLegal
  legal-now = (closed.legal, follow)

  still : mark_of S (e ∷ H) t ≡ None
  still = still-open S H t (Fetch b) r closed.legal named moves refl open_

  finished-still : (task : Task) → is_finished S (e ∷ H) t task ≡ is_finished S H t task
  finished-still (Moves u) = moved-same S H t (Fetch b) u.low refl
  finished-still Syncs = has_done-done is_sync H t (Fetch b)

  left-still : (q : Request) → left_of S (e ∷ H) t q ≡ left_of S H t q
  unfolding left_of
  left-still q = λ i. sum_by task_bytes (filter (λ task. not (finished-still task i)) (tasks_of S q))

  records-lent : RecordsFollow S (e ∷ H) c.tokens
  records-lent = record { each = λ u x there. (let old = closed.records.each u x there in (old.0, each u x old.0 old.1)); shown = closed.records.shown }
    where
      each : (u : ℕ) (x : Record) (q : Request) → Tracks S H u x q → Tracks S (e ∷ H) u x q
      each u x q is = elim (cases_eq t u) [
        | inr other ↦ record {
          named = request-stays H e u q is.named;
          viewed = is.viewed;
          asked = is.asked;
          begins = is.begins;
          mark = mark-other S H e u (done-concerns H t u (Fetch b) other) ∙ is.mark;
          left = λ unended. is.left unended ∙ sym (left-other S H e u q (done-concerns H t u (Fetch b) other));
        }
        | inl same ↦ record {
          named = request-stays H e u q is.named;
          viewed = is.viewed;
          asked = is.asked;
          begins = is.begins;
          mark = subst (λ v. mark_of S (e ∷ H) v ≡ mark_of S H v) same (still ∙ sym open_.unmarked) ∙ is.mark;
          left = λ unended. is.left unended ∙ sym (subst (λ v. left_of S (e ∷ H) v q ≡ left_of S H v q) same (left-still q));
        }
      ]

  abbrev lent : Gates
  lent = with_work_out (with_gate c.gates b k group) k

  goes-on : (u : ℕ) → mark_of S H u ≡ None → mark_of S (e ∷ H) u ≡ None
  goes-on u unmarked = elim (cases_eq t u) [
    | inr other ↦ mark-other S H e u (done-concerns H t u (Fetch b) other) ∙ unmarked
    | inl same ↦ subst (λ v. mark_of S (e ∷ H) v ≡ None) same still
  ]

  holds-on : (u d j : ℕ) → HoldsBy S H u d j → HoldsBy S (e ∷ H) u d j
  holds-on u d j holds = holds-by-stays S H e u d j closed.geometry follow (unstored u d) (goes-on u holds.holds.outstanding.unmarked) holds
    where
      unstored : (u d : ℕ) → is_store_of u d e ≡ false
      unstored u d = and_right (nat_eq t u) false refl

  gate-lent : (j : ℕ) (g : Gate) → gate_of lent.held j ≡ Some g → (u : ℕ) × IsGate S (e ∷ H) j g u
  gate-lent j g there = elim (cases_eq k j) [
    | inr other ↦
        (let old = closed.gates.each j g (sym (other-gate c.gates b k j group other) ∙ there) in (
          old.0,
          gate-stays S H e closed.geometry told closed.legal follow refl j g old.0 (closed.holders.apart.long j g (sym (other-gate c.gates b k j group other) ∙ there) ∙ closed.gates.sized) (and_right (nat_eq t old.0) false refl)
              (goes-on old.0 old.1.holds.holds.outstanding.unmarked) old.1,
        ))
    | inl same ↦
        (let new : Gate = record { ticket = k; block = b; out = true; copy = group } in
        let is : new ≡ g = one new g (sym (new-gate c.gates b k group (ticket-new S H c.gates c.holders.items (vec_capacity c.holders) closed.geometry closed.legal closed.gates closed.holders)) ∙ (ap (gate_of lent.held) same ∙ there)) in (
          t,
          subst (λ (h : Gate). IsGate S (e ∷ H) j h t) is (subst (λ v. IsGate S (e ∷ H) v new t) same (record {
            holds = fetch-holds-by S H t b closed.geometry closed.legal may;
            lent = refl;
            copied = subst (λ n. AreToldAt (contents S n (e ∷ H)) (b * size_of S) group) (sym (media-id-same H e refl))
                (subst (λ v. AreToldAt v (b * size_of S) group) (sym (contents-same S (media_id_of H) H e (piece-unchanged S H t (Fetch b) refl))) are);
          })),
        ))
  ]
    where
      one : (x y : Gate) → Some x ≡ Some y → x ≡ y
      one x y is = cc

  all-lent : (u d j : ℕ) → HoldsBy S (e ∷ H) u d j → (g : Gate) × (gate_of lent.held j ≡ Some g) × (g.block ≡ d)
  all-lent u d j holds = elim (holds-by-before S H e u d j closed.geometry legal-now holds) [
    | inl before ↦
        (let old = closed.gates.all u d j before in
        let below = holds-by-below S H u d j before in
        (old.0, other-gate c.gates b k j group (λ same. absurd (omega arith)) ∙ old.1, old.2))
    | inr now ↦
        (let new : Gate = record { ticket = k; block = b; out = true; copy = group } in
        let block : b ≡ d = ap block_in now.0 in
        (new, ap (gate_of lent.held) now.1 ∙ new-gate c.gates b k group (ticket-new S H c.gates c.holders.items (vec_capacity c.holders) closed.geometry closed.legal closed.gates closed.holders), block))
  ]
    where
      block_in : Entry → ℕ
      block_in (Done u (Fetch x)) = x
      block_in x = 0

  below-lent : (j : ℕ) → is_out lent j ≡ true → j < fetches (e ∷ H)
  below-lent j out =
      let more = fetches-more H e refl in
      elim (cases_eq k j) [
        | inl same ↦ omega arith
        | inr other ↦ (let below = closed.gates.below j (sym (new-out c.gates b k j group other) ∙ out) in omega arith)
      ]

  gates-lent : GatesFollow S (e ∷ H) lent
  gates-lent = record { sized = (new-free c.gates b k group).1 ∙ closed.gates.sized; each = gate-lent; all = all-lent; below = below-lent }

  abbrev held : List Holder
  held = c.holders.items ++ record { ticket = k; token = t } ∷ []

  none-holds : holder_of c.holders.items k ≡ None
  none-holds = holder-new S H c.gates c.holders.items (vec_capacity c.holders) closed.geometry closed.legal closed.gates closed.holders

  each-lent : (j u d : ℕ) → HoldsBy S (e ∷ H) u d j → holder_of held j ≡ Some u
  each-lent j u d holds = elim (holds-by-before S H e u d j closed.geometry legal-now holds) [
    | inl before ↦ (let below = holds-by-below S H u d j before in other-holder c.holders.items k j t (λ same. absurd (omega arith)) ∙ closed.holders.each j u d before)
    | inr now ↦ ap (holder_of held) now.1 ∙ new-holder c.holders.items k t none-holds ∙ ap Some (ap token_in now.0)
  ]
    where
      token_in : Entry → ℕ
      token_in (Done x command) = x
      token_in x = 0

  only-lent : (j u : ℕ) → holder_of held j ≡ Some u → (d : ℕ) × HoldsBy S (e ∷ H) u d j
  only-lent j u there = elim (cases_eq k j) [
    | inr other ↦ (let old = closed.holders.only j u (sym (other-holder c.holders.items k j t other) ∙ there) in (old.0, holds-on u old.0 j old.1))
    | inl same ↦
        (let is : t ≡ u = one t u (sym (new-holder c.holders.items k t none-holds) ∙ (ap (holder_of held) same ∙ there)) in
        (b, subst (λ v. HoldsBy S (e ∷ H) v b j) is (subst (HoldsBy S (e ∷ H) t b) same (fetch-holds-by S H t b closed.geometry closed.legal may))))
  ]
    where
      one : (x y : ℕ) → Some x ≡ Some y → x ≡ y
      one x y is = cc

  holders-lent : AreSound lent → HoldersFollow S (e ∷ H) lent held (vec_capacity c.holders)
  holders-lent apart =
      let fits = closed.holders.fits in
      let count = new-count c.gates b k group in
      let gone : length lent.gone ≡ length c.gates.gone = ap length (new-gone c.gates b k group) in
      let left = (new-free c.gates b k group).0 in
      record {
        each = each-lent;
        only = only-lent;
        apart = apart;
        paired = new-tickets c.gates b k t group c.holders.items closed.holders.paired;
        rising = new-rising c.holders.items k t closed.holders.rising (holders-below S H c.gates c.holders.items (vec_capacity c.holders) closed.geometry closed.legal closed.gates closed.holders);
        fits = omega arith;
      }

  -- all links
  pub lent-closed : (c' : Core) → HasLent H t b k group c c' → AreClosed S (e ∷ H) c'
  lent-closed c' is =
      let one = entries-done S H t (Fetch b) closed.geometry closed.legal may in
      let owed : owed_entries S H ≤ c.owed = subst (λ h. owed_entries S h ≤ c.owed) closed.entries closed.room.owed in
      let places = closed.room.places in let few = closed.room.few in
      let spare = is.spare in let debt = is.owed in
      let now : owed_entries S c'.history.entries ≡ owed_entries S (e ∷ H) = ap (owed_entries S) is.entries in
      let count : length c'.history.entries ≡ length (e ∷ H) = ap length is.entries in
      let before : length c.history.entries ≡ length H = ap length closed.entries in
      record {
        entries = is.entries;
        geometry = closed.geometry;
        legal = legal-now;
        tokens = subst (λ ts. KeptFollow S (e ∷ H) (kept_of ts)) (sym is.tokens) (kept-done S H t (Fetch b) (kept_of c.tokens) refl closed.tokens);
        gates = subst (GatesFollow S (e ∷ H)) (sym is.gates) gates-lent;
        records = subst (RecordsFollow S (e ∷ H)) (sym is.tokens) records-lent;
        queue = is.queue ∙ closed.queue ∙ ap (map (sub_of (size_of S))) (sym (pending-fetch S H t b closed.geometry closed.legal may));
        holders = subst (λ v. HoldersFollow S (e ∷ H) v c'.holders.items (vec_capacity c'.holders)) (sym is.gates)
            (subst (λ hs. HoldersFollow S (e ∷ H) lent hs (vec_capacity c'.holders)) (sym is.holders)
            (subst (λ n. HoldersFollow S (e ∷ H) lent held n) (sym is.places) (holders-lent (subst AreSound is.gates is.apart))));
        room = record { owed = omega arith; places = omega arith; few = omega arith };
      }
