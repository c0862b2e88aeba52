-- What keeps a script: each entry and each line that may come next.
use Rattle.std.proofs.Common.{◌≡◌, ℕ, ◌<◌, inl, inr, nat_eq, List, [], ◌∷◌, ◌++◌, length, slice_set, Option, refl, sym, ◌∙◌, ap, arith, get_or-set_same, get_or-set_other}
use Rattle.std.proofs.lemmas.Bool.{eq-eqb, ne_eqb, cases_eq}
use Rattle.std.proofs.lemmas.List.{length-set}
use Rattle.std.proofs.lemmas.Option.{slice_get_within}
use Rattle.history.specs.declared.entry.Entry.{Entry}
use Rattle.history.specs.Setup.{Setup}
use Rattle.shared_disk.specs.Lines.{with_line_entry}
use Rattle.shared_disk.specs.Script.{Script, Enters, Does, IsOpening, entries_by, places_by, line_count_by, with_place, DoesNext, MayComeNext, Follows, places_at, KeepsScript}

-- an entry that is no line's
pub keeps-enters : (S : Setup) (d : Script) (places : List (List ℕ)) (H : List Entry) (e : Entry) → KeepsScript S d places H
    → ((done : ℕ → ℕ) → ((i : ℕ) → done i ≡ length (places_at places i)) → MayComeNext S d H done e) → KeepsScript S d places (e ∷ H)
unfolding Follows entries_by places_by
keeps-enters S d places H e keeps may = record {
  log = Enters e ∷ keeps.log;
  follows = (keeps.follows, rw keeps.history (may (line_count_by d.opening keeps.log) (λ i. ap length (sym (keeps.at i)))));
  history = ap (λ h. e ∷ h) keeps.history;
  count = keeps.count;
  at = λ i. keeps.at i;
}

pub place-more : (places : List (List ℕ)) (i k n : ℕ) → i < length places → places_at (slice_set places i (places_at places i ++ n ∷ [])) k ≡ with_place (nat_eq i k) n (places_at places k)
place-more places i k n lt = elim (cases_eq i k) [
  | inl same ↦ rw (eq-eqb i k same, ← same) (get_or-set_same places i (places_at places i ++ n ∷ []) [] lt)
  | inr other ↦ rw (ne_eqb i k other) (get_or-set_other places i k (places_at places i ++ n ∷ []) [] (λ e. other (sym e)))
]

-- a line
pub keeps-does : (S : Setup) (d : Script) (places : List (List ℕ)) (H : List Entry) (i : ℕ) (e : Option Entry) → KeepsScript S d places H → DoesNext S d.roles H i (length (places_at places i)) e
    → KeepsScript S d (slice_set places i (places_at places i ++ length H ∷ [])) (with_line_entry e H)
unfolding Follows entries_by places_by
keeps-does S d places H i e keeps does = record {
  log = Does i e ∷ keeps.log;
  follows = (keeps.follows, rw (keeps.history, ← keeps.at i) does);
  history = ap (with_line_entry e) keeps.history;
  count = length-set places i (places_at places i ++ length H ∷ []) ∙ keeps.count;
  at = λ k. rw (keeps.history, ← keeps.at k) (place-more places i k (length H) (omega (arith, slice_get_within d.roles i does.role does.client, keeps.count)));
}

-- nothing was done yet
pub keeps-nothing : (S : Setup) (d : Script) (places : List (List ℕ)) → IsOpening d.opening → length places ≡ length d.roles → ((i : ℕ) → places_at places i ≡ []) → KeepsScript S d places d.opening
unfolding Follows entries_by places_by
keeps-nothing S d places opening count none = record { log = []; follows = opening; history = refl; count = count; at = none }
