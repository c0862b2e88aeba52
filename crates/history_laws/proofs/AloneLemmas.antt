-- A token that is served while no other is outstanding.
use Rattle.std.proofs.Common.{◌≡◌, ◌⊎◌, inl, inr, ℕ, ◌+◌, ◌<◌, ◌≤◌, Bool, true, false, not, List, [], ◌∷◌, ◌++◌, slice_get, None, Some, refl, sym, ◌∙◌, ap, arith}
use Rattle.std.proofs.lemmas.Bool.{cases_order, eq-eqb, not_from_true, both_ways}
use Rattle.disk_split.specs.Units.{IsUnit}
use Rattle.efi_status.specs.declared.Status.{Status}
use Rattle.history.specs.declared.entry.Entry.{Entry}
use Rattle.history.specs.Setup.{Setup, IsSetup}
use Rattle.history.specs.Tokens.{Request, token_count, request, from_of, until_of}
use Rattle.history.specs.Commands.{first_block}
use Rattle.history.specs.Marks.{mark_of}
use Rattle.history.specs.Tasks.{Task, Moves, Syncs, tasks_of, is_finished, task_command}
use Rattle.history.specs.Next.{first_open, next_task, Turn, next_turn, Outcome, Made, Failed, entry_of}
use Rattle.history.specs.Room.{is_command_of}
use Rattle.history_laws.specs.Pending.{task_low}
use Rattle.history_laws.proofs.EndLemmas.{mark-before}
use Rattle.history_laws.proofs.NextLemmas.{find-some, first-open-none}
use Rattle.history_laws.proofs.OrderLemmas.{tasks-ordered}
use Rattle.history_laws.proofs.PlainLemmas.{IsTurnOf, turn-of}
use Rattle.history_laws.proofs.TaskLemmas.{task-unit, task-moving}
use Rattle.history_laws.specs.Ranges.{low_in}
use Rattle.history_laws.specs.Serving.{Continues, AreWhileOpen, first_byte, IsBehind, AreOwnInOrder}
use Rattle.history_laws.proofs.ServingLemmas.{while-accepted, while-request}
use Rattle.history_laws.proofs.TaskOrderLemmas.{command-block, finished-stays, ordered-get, same-task}

module _ (S : Setup) (H : List Entry) (t : ℕ) (q : Request) (is : IsSetup S) (named : request H t ≡ Some q) (last : token_count H ≡ t + 1) (ended : (u : ℕ) → u < t → mark_of S H u ≡ None → ⊥) where
  while-ended : (cs : List Entry) (u : ℕ) → u < t → mark_of S (cs ++ H) u ≡ None → ⊥
  while-ended [] u below none = ended u below none
  while-ended (e ∷ cs) u below none = while-ended cs u below (mark-before S (cs ++ H) e u none)

  -- the turn of the token itself, with its unit
  record IsOwnTurn (G : List Entry) (turn : Turn) (task : Task) : Type 0 where
    next : next_task S G t q ≡ Some task
    turn_is : record { token = t; command = task_command G t q.asked.kind task } ≡ turn

  own-turn : (cs : List Entry) (turn : Turn) → AreWhileOpen S H t cs → next_turn S (cs ++ H) ≡ Some turn → (task : Task) × IsOwnTurn (cs ++ H) turn task
  own-turn cs turn all next = by (turn-of S (cs ++ H) turn next)
    where
      by : (u : ℕ) × (r : Request) × (task : Task) × IsTurnOf S (cs ++ H) turn u r task → (task : Task) × IsOwnTurn (cs ++ H) turn task
      by (u, r, task, of) = (task, record { next = rw (own, asked) at of.next; turn_is = rw (own, asked) at of.is })
        where
          own : u ≡ t
          own = elim (cases_order u t) [
            | inl same ↦ same
            | inr (inl below) ↦ absurd (while-ended cs u below of.open_.unmarked)
            | inr (inr above) ↦ absurd (omega (arith, above, of.open_.token, last, while-accepted S t H cs all))
          ]

          some-request : (a b : Request) → Some a ≡ Some b → a ≡ b
          some-request a b e = cc

          asked : r ≡ q
          asked = some-request r q (sym of.named ∙ (while-request S t H cs u all ∙ (ap (request H) own ∙ named)))

  -- where a unit begins
  abbrev task_byte : Task → ℕ
  task_byte (Moves u) = low_in S q u.block
  task_byte Syncs = low_in S q 0

  turn-byte : (G : List Entry) (turn : Turn) (outcome : Outcome) (task : Task) (k : ℕ) → slice_get (tasks_of S q) k ≡ Some task → record { token = t; command = task_command G t q.asked.kind task } ≡ turn
      → first_byte S q (entry_of turn outcome) ≡ task_byte task
  turn-byte G turn outcome task k there turn_is = entry outcome ∙ (ap (λ (v : Turn). low_in S q (first_block v.command)) (sym turn_is) ∙ by task there)
    where
      entry : (outcome : Outcome) → first_byte S q (entry_of turn outcome) ≡ low_in S q (first_block turn.command)
      entry Made = refl
      entry (Failed done) = refl

      by : (task : Task) → slice_get (tasks_of S q) k ≡ Some task → low_in S q (first_block (task_command G t q.asked.kind task)) ≡ task_byte task
      by (Moves u) there = ap (low_in S q) (command-block G t q.asked.kind u.whole u.block u.count (task-moving S q k u there))
      by Syncs there = refl

  lower-bytes : (i j : ℕ) (a b : Task) → slice_get (tasks_of S q) i ≡ Some a → slice_get (tasks_of S q) j ≡ Some b → task_low a < task_low b → task_byte a ≤ task_byte b
  lower-bytes i j (Moves u) (Moves v) there there' less =
      let one : IsUnit S.geometry (from_of S q) (until_of S q) u = task-unit S q i u is there in
      let other : IsUnit S.geometry (from_of S q) (until_of S q) v = task-unit S q j v is there' in
      omega (arith, one.low, other.low, less)
  lower-bytes i j (Moves u) Syncs there there' less = absurd (omega (arith, less))
  lower-bytes i j Syncs (Moves v) there there' less = omega arith
  lower-bytes i j Syncs Syncs there there' less = omega arith

  -- the unit that comes next after a command does not stand before that command's
  in-order : (G : List Entry) (e : Entry) (a b : Task) → next_task S G t q ≡ Some a → next_task S (e ∷ G) t q ≡ Some b → task_byte a ≤ task_byte b
  unfolding next_task
  in-order G e a b first second =
      let (i, there, here, before) = find-some (λ task. not (is_finished S G t task)) (tasks_of S q) a first in
      let (j, there', here', before') = find-some (λ task. not (is_finished S (e ∷ G) t task)) (tasks_of S q) b second in
      elim (cases_order i j) [
        | inl same ↦ let one : a ≡ b = same-task (tasks_of S q) i j a b same there there' in rw one (omega arith)
        | inr (inl below) ↦ lower-bytes i j a b there there' (ordered-get (λ (x y : Task). task_low x < task_low y) (tasks_of S q) i j a b (tasks-ordered S q is) below there there')
        | inr (inr above) ↦
            let was : is_finished S G t b ≡ true = was-finished (is_finished S G t b) (before j b above there') in
            absurd (both_ways (not (is_finished S (e ∷ G) t b)) (not_from_true (is_finished S (e ∷ G) t b) (finished-stays S G e t b was)) here')
      ]
    where
      was-finished : (f : Bool) → not f ≡ false → f ≡ true
      was-finished true e = refl
      was-finished false e = cc

  -- the place of a unit that comes next
  next-place : (G : List Entry) (a : Task) → next_task S G t q ≡ Some a → (k : ℕ) × (slice_get (tasks_of S q) k ≡ Some a)
  unfolding next_task
  next-place G a next = let (k, there, here, before) = find-some (λ task. not (is_finished S G t task)) (tasks_of S q) a next in (k, there)

  behind : (cs : List Entry) (e : Entry) → AreWhileOpen S H t cs → Continues S (cs ++ H) t e → IsBehind S q e cs
  unfolding AreWhileOpen
  behind [] e all next = tt
  behind (d ∷ cs) e (before, all) next =
      let (a, own) = own-turn cs before.turn all before.next in
      let (b, own') = own-turn (d ∷ cs) next.turn (before, all) next.next in
      let (i, there) = next-place (cs ++ H) a own.next in
      let (j, there') = next-place (d ∷ (cs ++ H)) b own'.next in
      let one : first_byte S q d ≡ task_byte a = ap (first_byte S q) before.entry ∙ turn-byte (cs ++ H) before.turn before.outcome a i there own.turn_is in
      let other : first_byte S q e ≡ task_byte b = ap (first_byte S q) next.entry ∙ turn-byte (d ∷ (cs ++ H)) next.turn next.outcome b j there' own'.turn_is in
      omega (arith, one, other, in-order (cs ++ H) d a b own.next own'.next)

  own-token : (cs : List Entry) (e : Entry) → AreWhileOpen S H t cs → Continues S (cs ++ H) t e → is_command_of t e ≡ true
  own-token cs e all next =
      let (a, own) = own-turn cs next.turn all next.next in
      let token : next.turn.token ≡ t = sym (ap (λ (v : Turn). v.token) own.turn_is) in
      rw next.entry (by next.turn next.outcome token)
    where
      by : (turn : Turn) (outcome : Outcome) → turn.token ≡ t → is_command_of t (entry_of turn outcome) ≡ true
      by turn Made token = eq-eqb turn.token t token
      by turn (Failed done) token = eq-eqb turn.token t token

  -- its commands are its own, in order of byte
  pub own-in-order : (cs : List Entry) → AreWhileOpen S H t cs → AreOwnInOrder S t q cs
  unfolding AreWhileOpen AreOwnInOrder
  own-in-order [] all = tt
  own-in-order (e ∷ cs) (next, all) = (own-token cs e all next, behind cs e all next, own-in-order cs all)

  -- no token is outstanding where it has ended
  pub none-open : (cs : List Entry) (status : Status) → AreWhileOpen S H t cs → mark_of S (cs ++ H) t ≡ Some status → first_open S (cs ++ H) ≡ None
  none-open cs status all marked = first-open-none S (cs ++ H) (λ u there none. by u there none (cases_order u t))
    where
      by : (u : ℕ) → u < token_count (cs ++ H) → mark_of S (cs ++ H) u ≡ None → (u ≡ t) ⊎ ((u < t) ⊎ (t < u)) → ⊥
      by u there none (inl same) = clash (sym marked ∙ (ap (mark_of S (cs ++ H)) (sym same) ∙ none))
        where
          clash : Some status ≡ None → ⊥
          clash e = cc
      by u there none (inr (inl below)) = while-ended cs u below none
      by u there none (inr (inr above)) = absurd (omega (arith, there, above, last, while-accepted S t H cs all))
