-- What a line adds to the log of a shared disk.
use Rattle.std.proofs.Common.{◌≡◌, ℕ, ◌+◌, ◌-◌, ◌≤◌, ◌<◌, ◌⊎◌, ◌≢◌, inl, inr, List, [], ◌∷◌, ◌++◌, length, Option, None, Some, refl, sym, ap, subst, ◌∙◌, arith}
use Rattle.std.specs.Prelude.{slice_set, nat_eq}
use Rattle.std.proofs.lemmas.Bool.{eq-eqb, ne_eqb, cases_eq}
use Rattle.std.proofs.lemmas.List.{length-append}
use Rattle.std.proofs.lemmas.List.Sums.{sum_by-set}
use Rattle.std.proofs.lemmas.Option.{slice_get_within}
use Rattle.history.specs.declared.entry.Entry.{Entry}
use Rattle.history.specs.declared.entry.Entry.TheVariants.{Collect}
use Rattle.disk_core.specs.State.{State}
use Rattle.disk_core.specs.Facts.{AreFacts}
use Rattle.shared_disk.specs.declared.log_rule.Item.{Item}
use Rattle.shared_disk.specs.declared.log_rule.Item.TheVariants.{LineOf}
use Rattle.shared_disk.specs.declared.answers.Line.{Line}
use Rattle.shared_disk.specs.declared.answers.Line.TheVariants as line
use Rattle.shared_disk.specs.Lines.{with_line_entry}
use Rattle.shared_disk.specs.Script.{places_at, with_place}
use Rattle.shared_disk.specs.Desk.{DeskState, LineSays}
use Rattle.shared_disk.specs.Log.{logged_entries, line_count_of}
use Rattle.shared_disk.specs.Plate.{IsLogOf}
use Rattle.shared_disk.specs.Seats.{entry_items, with_line_done, line_done}
use Rattle.shared_disk.specs.Holding.{Grows, HasLogged, Logs}
use Rattle.shared_disk.proofs.KeptLemmas.{place-more}
use Rattle.shared_disk.proofs.HoldLemmas.{log-of-entry}

pub line-grows : (old new : DeskState) (i : ℕ) (result : Line) → LineSays old i result new → Grows old.disk.entries new.disk.entries
unfolding LineSays
line-grows old new i (line.Did token) says = (says.0, says.1.entries)
line-grows old new i (line.Collected t) says = (Some (Collect (i + 1) t), ap (λ (s : State). s.entries) says.1.collects.new_is)
line-grows old new i line.NotYet says = (None, ap (λ (s : DeskState). s.disk.entries) says.2)
line-grows old new i line.Ended says = (None, ap (λ (s : DeskState). s.disk.entries) says.1)
line-grows old new i line.Memory says = (None, ap (λ (s : DeskState). s.disk.entries) says.3)

pub line-setup : (old new : DeskState) (i : ℕ) (result : Line) → LineSays old i result new → (new.disk.setup ≡ old.disk.setup) × (new.script ≡ old.script)
unfolding LineSays
line-setup old new i (line.Did token) says = (says.1.goes_on.setup, says.1.script)
line-setup old new i (line.Collected t) says = (ap (λ (s : State). s.setup) says.1.collects.new_is, says.1.script)
line-setup old new i line.NotYet says = (ap (λ (s : DeskState). s.disk.setup) says.2, ap (λ (s : DeskState). s.script) says.2)
line-setup old new i line.Ended says = (ap (λ (s : DeskState). s.disk.setup) says.1, ap (λ (s : DeskState). s.script) says.1)
line-setup old new i line.Memory says = (ap (λ (s : DeskState). s.disk.setup) says.3, ap (λ (s : DeskState). s.script) says.3)

-- one line more of client i, whose tag is k
did-log : (s new : DeskState) (log : List Item) (i k place : ℕ) → k ≡ i + 1 → i < length s.places → IsLogOf s log → new.disk.entries ≡ s.disk.entries → new.places ≡ slice_set s.places i (places_at s.places i ++ place ∷ []) → IsLogOf new (LineOf k ∷ log)
unfolding logged_entries line_count_of
did-log s new log i k place tag lt is entries places = record {
  entries = is.entries ∙ sym entries;
  lines = λ j. rw (places, place-more s.places i j place lt) (by j (cases_eq i j));
  long =
      let set = sum_by-set length s.places i (places_at s.places i ++ place ∷ []) [] lt in
      let push = length-append (places_at s.places i) (place ∷ []) in
      let long = is.long in
      rw (places, entries) (omega (arith, set, push, long));
}
  where
    by : (j : ℕ) → (i ≡ j) ⊎ (i ≢ j) → line_count_of (j + 1) (LineOf k ∷ log) ≡ length (with_place (nat_eq i j) place (places_at s.places j))
    by j (inl same) =
        let push = length-append (places_at s.places j) (place ∷ []) in
        let old = is.lines j in
        rw (eq-eqb k (j + 1) (omega (arith, tag, same)), eq-eqb i j same) (omega (arith, push, old))
    by j (inr other) = rw (ne_eqb k (j + 1) (λ e. other (omega (arith, tag, e))), ne_eqb i j other) (is.lines j)

line-log : (old new : DeskState) (k : ℕ) (result : Line) (log : List Item) (e : Option Entry) → 1 ≤ k → LineSays old (k - 1) result new → length old.places ≡ length old.script.roles → IsLogOf old log → new.disk.entries ≡ with_line_entry e (logged_entries log)
    → IsLogOf new (with_line_done (line_done k result) (entry_items e ++ log))
unfolding LineSays
line-log old new k (line.Did token) log e some says paired is entries =
    let mid : DeskState = record new { places = old.places } in
    did-log mid new (entry_items e ++ log) (k - 1) k (length old.disk.entries) (omega (arith, some)) (omega (arith, paired, slice_get_within old.script.roles (k - 1) says.1.does.role says.1.does.client)) (log-of-entry old mid log e is entries refl) refl says.1.places
line-log old new k (line.Collected t) log e some says paired is entries = log-of-entry old new log e is entries says.1.places
line-log old new k line.NotYet log e some says paired is entries = log-of-entry old new log e is entries (ap (λ (s : DeskState). s.places) says.2)
line-log old new k line.Ended log e some says paired is entries = log-of-entry old new log e is entries (ap (λ (s : DeskState). s.places) says.1)
line-log old new k line.Memory log e some says paired is entries = log-of-entry old new log e is entries (ap (λ (s : DeskState). s.places) says.3)

with-append : (line : Option ℕ) (xs ys : List Item) → with_line_done line (xs ++ ys) ≡ with_line_done line xs ++ ys
with-append None xs ys = refl
with-append (Some k) xs ys = refl

pub logs-line : (old new : DeskState) (k : ℕ) (result : Line) (log mid log' : List Item) (H : List Entry) → 1 ≤ k → LineSays old (k - 1) result new → length old.places ≡ length old.script.roles → IsLogOf old log → HasLogged (logged_entries log) log H mid → H ≡ new.disk.entries
    → log' ≡ with_line_done (line_done k result) mid → AreFacts old.disk → AreFacts new.disk → Logs old log (line_done k result) new log'
logs-line old new k result log mid log' H some says paired is logged same done before after =
    let now : log' ≡ with_line_done (line_done k result) (entry_items logged.entry ++ log) = done ∙ ap (λ l. with_line_done (line_done k result) l) logged.items in
    record {
      entry = logged.entry;
      own = now ∙ with-append (line_done k result) (entry_items logged.entry) log;
      is_log = subst (λ l. IsLogOf new l) (sym now) (line-log old new k result log logged.entry some says paired is (sym same ∙ logged.history));
      setup = (line-setup old new (k - 1) result says).0;
      script = (line-setup old new (k - 1) result says).1;
      facts_before = before;
      facts = after;
    }
