-- What a read that was served gives: the bytes of the medium, or a failure of the device.
use Rattle.std.proofs.Common.{◌≡◌, ◌⊎◌, inl, inr, ℕ, zero, suc, ◌+◌, ◌-◌, ◌*◌, ◌<◌, ◌≤◌, Bool, true, false, not, nat_eq, nat_lt, ◌&&◌, ◌||◌, if◌then◌else◌, List, [], ◌∷◌, ◌++◌, slice_get, length, map, take, drop, Option, None, Some, refl, sym, ◌∙◌, ap, subst, arith}
use Rattle.std.specs.Prelude.{reverse}
use Rattle.std.proofs.lemmas.Bool.{cases_Bool, eq-eqb, both_ways}
use Rattle.std.proofs.lemmas.List.{append-nil, length-take, length-drop}
use Rattle.efi_status.specs.declared.Status.{Status}
use Rattle.efi_status.specs.declared.Status.TheVariants.{Success, DeviceError}
use Rattle.medium.specs.Device.{AreToldAt}
use Rattle.byte_lists.proofs.Patches.{same-bytes, get-take, get-drop}
use Rattle.disk_split.specs.declared.span.Span.{Span}
use Rattle.disk_split.specs.Units.{units_of}
use Rattle.history.specs.declared.entry.View.{View}
use Rattle.history.specs.declared.entry.Kind.TheVariants.{Read}
use Rattle.history.specs.declared.entry.Command.TheVariants.{Get}
use Rattle.history.specs.declared.entry.Entry.{Entry}
use Rattle.history.specs.declared.entry.Entry.TheVariants.{Accept, Collect, Done, Fault}
use Rattle.history.specs.Setup.{Setup, IsSetup, blocks_of, size_of}
use Rattle.history.specs.Eras.{media_id_of}
use Rattle.history.specs.Tokens.{Request, token_count, request, from_of, until_of}
use Rattle.history.specs.Contents.{byte_at, bytes_read, contents}
use Rattle.history.specs.Commands.{done_commands, has_done, is_moved, lies_in, moves}
use Rattle.history.specs.Marks.{all_from, is_complete, mark_of, status_if}
use Rattle.history.specs.Tasks.{Moves, Task, units_left, tasks_of}
use Rattle.history.specs.Next.{first_open, Turn, Outcome, Made, Failed, entry_of}
use Rattle.history.specs.Rules.{IsLegal, MayFollow}
use Rattle.history_laws.specs.Pending.{todo_at}
use Rattle.history_laws.proofs.EndLemmas.{mark-accept, mark-done, unaccepted, untold-has_done}
use Rattle.history_laws.proofs.FinishLemmas.{pending-accept}
use Rattle.history_laws.proofs.ScanLemmas.{all_from-each}
use Rattle.history_laws.proofs.TaskLemmas.{complete-moved}
use Rattle.history_laws.proofs.TokenLemmas.{request-accept}
use Rattle.std.proofs.Common.{get_or}
use Rattle.std.proofs.lemmas.Option.{slice_get-get_or}
use Rattle.disk_core.specs.Facts.{HasBytesRead}
use Rattle.disk_core.specs.State.{State}
use Rattle.history_laws.specs.Serving.{AreWhileOpen, AreOwnInOrder, Continues, ends_in_fault}
use Rattle.disk_io2.specs.Views.{whole_view}
use Rattle.history_laws.proofs.ClosedLemmas.{legal-tail, drained-pending, while-request}
use Rattle.history_laws.proofs.SameMediaLemmas.{SameMedia, same-on}
use Rattle.partition_children.specs.Entries.{after_read, get_of, gets_of, read_asked}
use Rattle.partition_children.specs.Probing.{FailsToRead, Reads}
use Rattle.partition_children.proofs.Gets.{AreGets, Got, got-all, got-whole, next-unit, open-sound}
use Rattle.partition_children.proofs.Served.{ServedRead}
use Rattle.partition_children.proofs.Staying.{Commands, LastFails, same-accept, same-gets}

module _ (S : Setup) (E : List Entry) (k : ℕ) (read : ℕ × ℕ) (is : IsSetup S) (drained : first_open S E ≡ None) where
  abbrev accept : Entry
  accept = Accept 0 (whole_view S k) (read_asked read) []

  abbrev H : List Entry
  H = accept ∷ E

  abbrev t : ℕ
  t = token_count E

  abbrev r : Request
  r = record { tag = 0; view = whole_view S k; asked = read_asked read; bytes = [] }

  abbrev all_units : List Span
  all_units = units_of S.geometry (from_of S r) (until_of S r)

  pub named : request H t ≡ Some r
  named = request-accept E 0 (whole_view S k) (read_asked read) []

  -- the range is that of the read
  from-is : from_of S r ≡ read.0
  from-is = omega arith

  pub units-are : all_units ≡ units_of S.geometry read.0 (read.0 + read.1)
  units-are = ap (λ (a : ℕ). units_of S.geometry a (a + read.1)) from-is

  map-moves : (us : List Span) → map (todo_at t r) (map Moves us) ≡ map (λ u. record { token = t; kind = Read; task = Moves u }) us
  map-moves [] = refl
  map-moves (u ∷ us) = ap (λ ds. todo_at t r (Moves u) ∷ ds) (map-moves us)

  pub first-left : IsLegal S H → units_left S H ≡ map (λ u. record { token = t; kind = Read; task = Moves u }) all_units
  first-left legal =
      pending-accept S E 0 (whole_view S k) (read_asked read) [] is legal
      ∙ (ap (λ ds. ds ++ map (todo_at t r) (tasks_of S r)) (drained-pending S E drained) ∙ map-moves all_units)

  -- the commands of a read that succeeded are its gets
  module _ (cs : List Entry) (legal : IsLegal S (cs ++ H)) (open_ : AreWhileOpen S H t cs) (own : AreOwnInOrder S t r cs) where
    pub whole : ends_in_fault cs ≡ false → (status : Status) → mark_of S (cs ++ H) t ≡ Some status → Got S H t (whole_view S k) read is cs []
    whole sound status marked =
        let (rest, got) = got-all S H t (whole_view S k) read is named cs (first-left (legal-tail S cs H legal)) open_ own legal sound in
        subst (λ (us : List Span). Got S H t (whole_view S k) read is cs us) (got-whole S H t (whole_view S k) read is named cs rest status got marked) got

    -- it is complete
    completed : AreGets t cs → mark_of S (cs ++ H) t ≡ Some Success → is_complete S (cs ++ H) t ≡ true
    unfolding AreWhileOpen IsLegal
    completed = by cs legal open_
      where
        success : (b : Bool) → status_if b Success ≡ Some Success → b ≡ true
        success true e = refl
        success false e = cc

        by : (cs : List Entry) → IsLegal S (cs ++ H) → AreWhileOpen S H t cs → AreGets t cs → mark_of S (cs ++ H) t ≡ Some Success → is_complete S (cs ++ H) t ≡ true
        by [] legal all gets marked = success (is_complete S H t) (sym (mark-accept S E 0 (whole_view S k) (read_asked read) [] legal.0) ∙ marked)
        by (e ∷ cs) legal (next, all) ((u, same), gets) marked =
            let done : mark_of S (get_of t u ∷ (cs ++ H)) t ≡ status_if (is_complete S (get_of t u ∷ (cs ++ H)) t) Success = mark-done S (cs ++ H) t (Get u.block u.count) next.outstanding.unmarked in
            subst (λ (x : Entry). is_complete S (x ∷ (cs ++ H)) t ≡ true) (sym same)
            (success (is_complete S (get_of t u ∷ (cs ++ H)) t) (sym done ∙ subst (λ (x : Entry). mark_of S (x ∷ (cs ++ H)) t ≡ Some Success) same marked))

    -- a byte that was moved was read as the medium has it
    got-byte : (fed : List Entry) → AreGets t fed → k ≡ media_id_of E → IsLegal S E → (x : ℕ) → is_moved S (fed ++ H) t x ≡ true → bytes_read S (fed ++ H) t x ≡ byte_at (contents S k E) x
    unfolding bytes_read has_done done_commands
    got-byte [] gets in_ legal_e x moved =
        let none : has_done (moves S x) E t ≡ false = untold-has_done S (moves S x) E t (unaccepted S E t legal_e (omega arith)) in
        absurd (both_ways (has_done (moves S x) E t) none moved)
    got-byte (e ∷ fed) ((u, same), gets) in_ legal_e x moved =
        subst (λ (y : Entry). bytes_read S (y ∷ (fed ++ H)) t x ≡ byte_at (contents S k E) x) (sym same)
        (by (got-byte fed gets in_ legal_e x) (lies_in S u.block u.count x) refl (subst (λ (y : Entry). is_moved S (y ∷ (fed ++ H)) t x ≡ true) same moved))
      where
        media : SameMedia S E (fed ++ H)
        media = same-on S E H (fed ++ H) (same-accept S E (whole_view S k) read) (same-gets S H t fed gets)

        by : (is_moved S (fed ++ H) t x ≡ true → bytes_read S (fed ++ H) t x ≡ byte_at (contents S k E) x) → (b : Bool) → lies_in S u.block u.count x ≡ b → is_moved S (get_of t u ∷ (fed ++ H)) t x ≡ true → bytes_read S (get_of t u ∷ (fed ++ H)) t x ≡ byte_at (contents S k E) x
        by again true lies moved =
            rw (eq-eqb t t refl, lies)
            (ap (λ (j : ℕ). byte_at (contents S j (fed ++ H)) x) (media.media_id ∙ sym in_) ∙ ap (λ (o : Option (List ℕ)). byte_at o x) (media.bytes k))
        by again false lies moved =
            let more : is_moved S (fed ++ H) t x ≡ true = rw (eq-eqb t t refl, lies) at moved in
            rw (eq-eqb t t refl, lies) (again more)

    -- the bytes that come back are those of the medium
    pub told-back : (bytes : List ℕ) → k ≡ media_id_of E → AreGets t cs → mark_of S (cs ++ H) t ≡ Some Success → HasBytesRead S (cs ++ H) t r bytes → length bytes ≡ read.1
        → (told : List ℕ) → contents S k E ≡ Some told → read.0 + read.1 ≤ length told → bytes ≡ take (length bytes) (drop read.0 told)
    told-back bytes in_ gets marked got long told holds fits =
        same-bytes bytes (take (length bytes) (drop read.0 told)) (omega (arith, length-take (length bytes) (drop read.0 told), length-drop read.0 told))
        (λ i below. each i below)
      where
        legal_e : IsLegal S E
        legal_e = legal-tail S (accept ∷ []) E (legal-tail S cs H legal)

        moved : (i : ℕ) → i < length bytes → is_moved S (cs ++ H) t (read.0 + i) ≡ true
        moved i below =
            all_from-each (is_moved S (cs ++ H) t) (from_of S r) read.1 (read.0 + i)
            (sym (complete-moved S (cs ++ H) t r (while-request S t H cs t open_ ∙ named) refl) ∙ completed gets marked) (omega arith) (omega arith)

        each : (i : ℕ) → i < length bytes → slice_get bytes i ≡ slice_get (take (length bytes) (drop read.0 told)) i
        each i below =
            let x = read.0 + i in
            let there : slice_get told x ≡ Some (get_or told x 0) = slice_get-get_or told x 0 (omega arith) in
            let was : bytes_read S (cs ++ H) t x ≡ Some (get_or told x 0) = got-byte cs gets in_ legal_e x (moved i below) ∙ (ap (λ (o : Option (List ℕ)). byte_at o x) holds ∙ there) in
            let back : slice_get bytes (x - from_of S r) ≡ Some (get_or told x 0) = got x (get_or told x 0) (omega arith) (omega arith) was in
            let place : x - from_of S r ≡ i = omega arith in
            ap (slice_get bytes) (sym place) ∙ (back ∙ (sym there ∙ sym (get-take (length bytes) (drop read.0 told) i below ∙ get-drop read.0 told i)))
