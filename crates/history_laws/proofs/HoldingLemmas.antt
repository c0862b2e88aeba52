-- A token that holds a group is not complete.
use Rattle.std.proofs.Common.{List, None, Some, [], ap, arith, false, inl, inr, option_map, refl, slice_get, sym, true, ℕ, ◌||◌, ◌∙◌, ◌∷◌, ◌≡◌, ◌⊎◌}
use Rattle.std.proofs.lemmas.Bool.{and_left, and_right, both_ways, cases_eq, eq-eqb, ne_eqb, or_parts}
use Rattle.std.proofs.lemmas.Option.{slice_get-map}
use Rattle.std.specs.List.{list_any}
use Rattle.std.specs.Prelude.{nat_eq}
use Rattle.disk_split.proofs.Shared.{unit-listed, units-same}
use Rattle.disk_split.specs.Units.{IsUnit, units_of}
use Rattle.disk_split.specs.declared.span.Span.{Span}
use Rattle.efi_status.specs.declared.Status.TheVariants.{Success}
use Rattle.history.specs.Commands.{done_commands, first_block, has_done, is_at, is_moved, is_store, is_transfer, moves}
use Rattle.history.specs.Marks.{Holds, HoldsBy, fetches, mark_of, status_if, was_stored}
use Rattle.history.specs.Rules.{HasPart, IsLegal}
use Rattle.history.specs.Setup.{IsSetup, Setup}
use Rattle.history.specs.Tasks.{Moves, is_finished, tasks_of}
use Rattle.history.specs.Tokens.{Request, changes_bytes, from_of, request, until_of}
use Rattle.history.specs.declared.entry.Command.{Command}
use Rattle.history.specs.declared.entry.Command.TheVariants.{Fetch, Get, Put, Store, Sync, Wipe}
use Rattle.history.specs.declared.entry.Entry.{Entry}
use Rattle.history.specs.declared.entry.Entry.TheVariants.{Done}
use Rattle.history.specs.declared.entry.Kind.{Kind}
use Rattle.history.specs.declared.entry.Kind.TheVariants.{Erase, Flush, Read, Write}
use Rattle.history_laws.proofs.EndLemmas.{mark-done, open-request}
use Rattle.history_laws.proofs.FinishLemmas.{same-low}
use Rattle.history_laws.proofs.HolderLemmas.{changes-moving, fetched-part}
use Rattle.history_laws.proofs.LeftLemmas.{not-all}
use Rattle.history_laws.proofs.TaskLemmas.{complete-tasks}
use Rattle.history_laws.proofs.TicketLemmas.{holds-by-before}
use Rattle.history_laws.proofs.TokenLemmas.{has_done-done, request-same}
use Rattle.history_laws.proofs.UnitLemmas.{done-tasks, is_within, moves-unit, part-unit-at, part_span, unit-inside}
use Rattle.history_laws.specs.Units.{AreTaskCommands, IsTaskCommand, is_span_command}

-- the unit of a part
abbrev pub part_of_range : Setup → Request → ℕ → Span
part_of_range S r b = part_span S.geometry (from_of S r) (until_of S r) b

-- the unit of a part stands among the token's units
pub part-listed : (S : Setup) (r : Request) (b : ℕ) → IsSetup S → HasPart S r b → changes_bytes r.asked.kind ≡ true → (k : ℕ) × (slice_get (tasks_of S r) k ≡ Some (Moves (part_of_range S r b)))
part-listed S r b is part changes =
    let unit = part-unit-at S.geometry (from_of S r) (until_of S r) b part in
    let listed = unit-listed S.geometry (from_of S r) (until_of S r) (part_of_range S r b) is.geometry unit in
    (listed.0, rw (changes-moving r.asked.kind changes) (slice_get-map Moves (units_of S.geometry (from_of S r) (until_of S r)) listed.0 ∙ ap (option_map Moves) listed.1))

-- of the commands of a part only its store moves bytes
part-stores : (kind : Kind) (b : ℕ) (c : Command) → changes_bytes kind ≡ true → is_span_command kind false c ≡ true → first_block c ≡ b → is_at is_store b c ≡ false → is_transfer c ≡ false
part-stores kind b (Fetch d) changes of at unstored = refl
part-stores kind b (Store d) changes of at unstored = absurd (both_ways (nat_eq d b) unstored (eq-eqb d b at))
part-stores Write b (Put d n) changes of at unstored = cc
part-stores Erase b (Put d n) changes of at unstored = cc
part-stores Read b (Put d n) changes of at unstored = cc
part-stores Flush b (Put d n) changes of at unstored = cc
part-stores Write b (Get d n) changes of at unstored = cc
part-stores Erase b (Get d n) changes of at unstored = cc
part-stores Read b (Get d n) changes of at unstored = cc
part-stores Flush b (Get d n) changes of at unstored = cc
part-stores Write b (Wipe d n) changes of at unstored = cc
part-stores Erase b (Wipe d n) changes of at unstored = cc
part-stores Read b (Wipe d n) changes of at unstored = cc
part-stores Flush b (Wipe d n) changes of at unstored = cc
part-stores kind b Sync changes of at unstored = refl

module _ (S : Setup) (r : Request) (b : ℕ) (is : IsSetup S) (part : HasPart S r b) (changes : changes_bytes r.asked.kind ≡ true) where
  u : Span
  u = part_of_range S r b

  unit : IsUnit S.geometry (from_of S r) (until_of S r) u
  unfolding u
  unit = part-unit-at S.geometry (from_of S r) (until_of S r) b part

  command-unmoving : (c : Command) → IsTaskCommand S r c → is_at is_store b c ≡ false → moves S u.low c ≡ false
  unfolding u
  command-unmoving c (inr sync) unstored = ap (moves S (part_of_range S r b).low) sync.0
  command-unmoving c (inl (v, of)) unstored =
      let inside = unit-inside S.geometry (from_of S r) (until_of S r) u.low u unit (omega arith) (let some = unit.some in omega arith) in
      moves-unit S r c v u.low of inside.0 inside.1
      ∙ elim (cases_eq u.low v.low) [
        | inr other ↦ and_right (is_transfer c) (is_within v u.low) (same-low S r v u is of.unit unit ∙ ne_eqb u.low v.low other)
        | inl same ↦
            let some = unit.some in let more = of.unit.some in
            let one : v ≡ u = units-same S.geometry (from_of S r) (until_of S r) u.low v u is.geometry of.unit unit (omega arith) (omega arith) (omega arith) (omega arith) in
            and_left (is_transfer c) (is_within v u.low)
            (part-stores r.asked.kind b c changes (ap (λ (w : Span). is_span_command r.asked.kind w.whole c) (sym one) ∙ of.kind) (of.block ∙ ap (λ (w : Span). w.block) one) unstored)
      ]

  none-moves : (cs : List Command) → AreTaskCommands S r cs → list_any (is_at is_store b) cs ≡ false → list_any (moves S u.low) cs ≡ false
  unfolding AreTaskCommands
  none-moves [] are unstored = refl
  none-moves (c ∷ cs) are unstored =
      let parts = or_parts (is_at is_store b c) (list_any (is_at is_store b) cs) unstored in
      rw (command-unmoving c are.0 parts.0) (none-moves cs are.1 parts.1)

  -- a part that is not stored is not moved
  pub part-unmoved : (G : List Entry) (t : ℕ) → IsLegal S G → request G t ≡ Some r → was_stored G t b ≡ false → is_moved S G t (part_of_range S r b).low ≡ false
  unfolding has_done u
  part-unmoved G t legal named unstored = none-moves (done_commands G t) (done-tasks S G t r is legal named) unstored

-- so its token goes on, unless it is this part that is stored
pub held-open : (S : Setup) (H : List Entry) (t : ℕ) (c : Command) (b : ℕ) → IsSetup S → IsLegal S H → IsLegal S (Done t c ∷ H) → is_at is_store b c ≡ false → Holds S H t b → mark_of S (Done t c ∷ H) t ≡ None
held-open S H t c b is before legal unstored holds =
    let opened = open-request S H t holds.outstanding in
    let r = opened.0 in
    let part = fetched-part S H t b r is before opened.1 holds.fetched in
    let listed = part-listed S r b is part.0 part.1 in
    let named : request (Done t c ∷ H) t ≡ Some r = request-same H (Done t c) t refl ∙ opened.1 in
    let still : was_stored (Done t c ∷ H) t b ≡ false = has_done-done (is_at is_store b) H t c ∙ ap (λ v. v || was_stored H t b) unstored ∙ holds.unstored in
    let unmoved = part-unmoved S r b is part.0 part.1 (Done t c ∷ H) t legal named still in
    mark-done S H t c holds.outstanding.unmarked
    ∙ ap (λ v. status_if v Success) (complete-tasks S (Done t c ∷ H) t r is legal named ∙ not-all (is_finished S (Done t c ∷ H) t) (tasks_of S r) listed.0 (Moves (part_of_range S r b)) listed.1 unmoved)

-- the holder of a ticket after a fetch is the token that fetched, where none held before
pub new-holder : (S : Setup) (H : List Entry) (t b u c k : ℕ) → IsSetup S → IsLegal S (Done t (Fetch b) ∷ H) → (HoldsBy S H u c k → ⊥) → HoldsBy S (Done t (Fetch b) ∷ H) u c k → (t ≡ u) × (b ≡ c)
new-holder S H t b u c k is legal none holds = by (holds-by-before S H (Done t (Fetch b)) u c k is legal holds)
  where
    by : HoldsBy S H u c k ⊎ ((Done t (Fetch b) ≡ Done u (Fetch c)) × (k ≡ fetches H)) → (t ≡ u) × (b ≡ c)
    by (inl before) = absurd (none before)
    by (inr (now, next)) =
        let fetch : Fetch b ≡ Fetch c = cc in
        (cc, cc)
