-- A token that was just accepted has done nothing: what it costs, what is left of it, and whether it ended at once.
use Rattle.std.proofs.Common.{inl, inr, Bool, List, [], ap, arith, false, nat_eq, not, refl, subst, suc, sym, true, zero, ℕ, ◌+◌, ◌∙◌, ◌∷◌, ◌≡◌, ◌≤◌}
use Rattle.std.specs.Prelude.{sum_by, if◌then◌else◌}
use Rattle.std.proofs.lemmas.Bool.{cases_Bool, not_from_false, ne_eqb}
use Rattle.efi_status.specs.declared.Status.TheVariants.{Success}
use Rattle.history.specs.Commands.{done_commands, has_done, is_moved}
use Rattle.history.specs.Marks.{mark_of, status_if, is_complete, all_from}
use Rattle.history.specs.Room.{owed_entries}
use Rattle.history.specs.Rules.{IsLegal}
use Rattle.history.specs.Setup.{IsSetup, Setup}
use Rattle.history.specs.Tasks.{Moves, Syncs, Task, tasks_of, is_finished}
use Rattle.history.specs.Tokens.{Request, token_count, was_collected, is_flush, from_of}
use Rattle.history.specs.declared.entry.Asked.{Asked}
use Rattle.history.specs.declared.entry.Entry.{Entry}
use Rattle.history.specs.declared.entry.Entry.TheVariants.{Accept}
use Rattle.history.specs.declared.entry.Kind.{Kind}
use Rattle.history.specs.declared.entry.Kind.TheVariants.{Read, Write, Flush, Erase}
use Rattle.history.specs.declared.entry.View.{View}
use Rattle.history_laws.specs.Left.{task_bytes, left_of}
use Rattle.history_laws.specs.Costs.{left_at_first, cost_of}
use Rattle.history_laws.proofs.TokenLemmas.{request-accept, collected-same, done_commands-same}
use Rattle.history_laws.proofs.EndLemmas.{mark-accept, unaccepted, untold-collected, untold-done}
use Rattle.history_laws.proofs.ScanLemmas.{all_from-false}
use Rattle.history_laws.proofs.TaskLemmas.{complete-moved, complete-flush}
use Rattle.history_laws.proofs.PendingLemmas.{filter-everything}
use Rattle.history_laws.proofs.RoomLemmas.{open-owed, ended-owed}
use Rattle.history_laws.proofs.SpareLemmas.{entries-accept}
use Rattle.history_laws.proofs.CostLemmas.{flush-one, cost-most, tasks-bytes}

module _ (S : Setup) (H : List Entry) (tag : ℕ) (view : View) (asked : Asked) (bytes : List ℕ) (setup : IsSetup S) (legal : IsLegal S H) where
  abbrev new : Entry
  new = Accept tag view asked bytes

  pub none-done : done_commands (new ∷ H) (token_count H) ≡ []
  none-done = done_commands-same H new (token_count H) refl ∙ untold-done S H (token_count H) (unaccepted S H (token_count H) legal (omega arith))

  pub unfinished : (task : Task) → is_finished S (new ∷ H) (token_count H) task ≡ false
  unfolding has_done
  unfinished (Moves u) = rw none-done refl
  unfinished Syncs = rw none-done refl

  pub uncollected-new : was_collected (new ∷ H) (token_count H) ≡ false
  uncollected-new = collected-same H new (token_count H) refl ∙ untold-collected S H (token_count H) (unaccepted S H (token_count H) legal (omega arith))

  abbrev q : Request
  q = record { tag = tag; view = view; asked = asked; bytes = bytes }

  -- all of a new request is left
  pub left-new : left_of S (new ∷ H) (token_count H) q ≡ left_at_first asked.kind asked.length
  unfolding left_of
  left-new =
      ap (sum_by task_bytes) (filter-everything (λ task. not (is_finished S (new ∷ H) (token_count H) task)) (tasks_of S q) (λ k task there. not_from_false (is_finished S (new ∷ H) (token_count H) task) (unfinished task)))
      ∙ tasks-bytes S q setup

  complete-new : is_complete S (new ∷ H) (token_count H) ≡ nat_eq (left_at_first asked.kind asked.length) 0
  unfolding has_done all_from
  complete-new = elim (cases_Bool (is_flush asked.kind)) [
    | inl flush ↦ complete-flush S (new ∷ H) (token_count H) q (request-accept H tag view asked bytes) flush ∙ rw none-done (subst (λ k. false ≡ nat_eq (left_at_first k asked.length) 0) (sym (flush-one asked.kind flush)) refl)
    | inr moving ↦ complete-moved S (new ∷ H) (token_count H) q (request-accept H tag view asked bytes) moving ∙ unmoved asked.length ∙ moving-empty asked.kind asked.length moving
  ]
    where
      unmoved : (n : ℕ) → all_from (is_moved S (new ∷ H) (token_count H)) (from_of S q) n ≡ nat_eq n 0
      unmoved zero = refl
      unmoved (suc n) = all_from-false (is_moved S (new ∷ H) (token_count H)) (from_of S q) (suc n) (from_of S q) (omega arith) (omega arith) (rw none-done refl) ∙ sym (ne_eqb (suc n) 0 (λ same. absurd (omega arith)))

      moving-empty : (kind : Kind) (n : ℕ) → is_flush kind ≡ false → nat_eq n 0 ≡ nat_eq (left_at_first kind n) 0
      moving-empty Read n is = refl
      moving-empty Write n is = refl
      moving-empty Flush n is = cc
      moving-empty Erase n is = refl

  -- it ends at once where nothing is left of it
  pub mark-new : mark_of S (new ∷ H) (token_count H) ≡ status_if (nat_eq (left_at_first asked.kind asked.length) 0) Success
  mark-new = mark-accept S H tag view asked bytes legal ∙ ap (λ b. status_if b Success) complete-new

  -- what a new request owes
  pub owed-new : owed_entries S (new ∷ H) ≤ owed_entries S H + (if nat_eq (left_at_first asked.kind asked.length) 0 then 1 else cost_of S q + 2)
  owed-new = by (nat_eq (left_at_first asked.kind asked.length) 0) mark-new
    where
      by : (b : Bool) → mark_of S (new ∷ H) (token_count H) ≡ status_if b Success → owed_entries S (new ∷ H) ≤ owed_entries S H + (if b then 1 else cost_of S q + 2)
      by true ended =
          let all = entries-accept S H tag view asked bytes in
          let one = ended-owed S (new ∷ H) (token_count H) q Success (request-accept H tag view asked bytes) ended uncollected-new in
          omega arith
      by false open_ =
          let all = entries-accept S H tag view asked bytes in
          let one = open-owed S (new ∷ H) (token_count H) q (request-accept H tag view asked bytes) open_ in
          let most = cost-most S (new ∷ H) (token_count H) q in
          omega arith
