-- What a read answers.
use Rattle.std.proofs.Common.{◌≡◌, inl, inr, ℕ, ◌+◌, ◌≤◌, true, false, List, [], ◌∷◌, ◌++◌, length, map, Option, None, Some, refl, sym, ◌∙◌, ap, subst, arith}
use Rattle.std.specs.Prelude.{reverse}
use Rattle.std.proofs.lemmas.Bool.{both_ways}
use Rattle.std.proofs.lemmas.List.{append-nil}
use Rattle.efi_status.specs.declared.Status.TheVariants.{Success, DeviceError}
use Rattle.medium.specs.Device.{AreToldAt}
use Rattle.disk_split.specs.declared.span.Span.{Span}
use Rattle.disk_split.specs.Units.{units_of}
use Rattle.history.specs.declared.entry.View.{View}
use Rattle.history.specs.declared.entry.Command.TheVariants.{Get}
use Rattle.history.specs.declared.entry.Entry.{Entry}
use Rattle.history.specs.declared.entry.Entry.TheVariants.{Accept, Collect, Fault}
use Rattle.history.specs.Setup.{IsSetup}
use Rattle.history.specs.Eras.{is_fault, media_id_of}
use Rattle.history.specs.Tokens.{token_count}
use Rattle.history.specs.Contents.{contents}
use Rattle.history.specs.Next.{first_open, Turn, Outcome, Made, Failed, entry_of}
use Rattle.history.specs.Rules.{IsLegal, MayFollow}
use Rattle.disk_core.specs.State.{State}
use Rattle.disk_core.specs.Turns.{IsIdle}
use Rattle.history_laws.specs.Serving.{AreWhileOpen, AreOwnInOrder, ends_in_fault}
use Rattle.disk_io2.specs.Views.{whole_view}
use Rattle.history_laws.proofs.ClosedLemmas.{legal-tail}
use Rattle.partition_children.specs.Entries.{get_of, read_asked}
use Rattle.partition_children.specs.Probing.{FailsToRead, Reads, AddsEntriesAlone}
use Rattle.partition_children.proofs.Gets.{Got, got-all, next-unit, open-sound}
use Rattle.partition_children.proofs.Served.{ServedRead}
use Rattle.partition_children.proofs.Staying.{read-stays}
use Rattle.partition_children.proofs.ReadBack.{first-left, named, told-back, units-are, whole}

module _ (old new : State) (k : ℕ) (read : ℕ × ℕ) (is : IsSetup old.setup) (drained : first_open old.setup old.entries ≡ None) where
  abbrev H : List Entry
  H = Accept 0 (whole_view old.setup k) (read_asked read) [] ∷ old.entries

  abbrev t : ℕ
  t = token_count old.entries

  abbrev view : View
  view = whole_view old.setup k

  -- a read that succeeded
  module _ (bytes : List ℕ) (s : ServedRead old.setup old.entries view read Success false bytes new) where
    all-got : Got old.setup H t view read is s.cs []
    all-got = whole old.setup old.entries k read is drained s.cs s.legal s.open_ s.own s.last Success s.marked

    front-is : all-got.front ≡ units_of old.setup.geometry read.0 (read.0 + read.1)
    front-is = sym (append-nil all-got.front) ∙ (sym all-got.units_are ∙ units-are old.setup old.entries k read is drained)

    pub reads-so : k ≡ media_id_of old.entries → ((told : List ℕ) → contents old.setup k old.entries ≡ Some told → read.0 + read.1 ≤ length told) → Reads old k read bytes new
    reads-so in_ fits = record {
      entries = s.entries ∙ ap (λ (cs : List Entry). Collect 0 t ∷ (cs ++ H)) (all-got.commands ∙ ap (λ (us : List Span). reverse (map (get_of t) us)) front-is);
      long = s.long;
      told = by (contents old.setup k old.entries) refl;
    }
      where
        by : (o : Option (List ℕ)) → contents old.setup k old.entries ≡ o → AreToldAt o read.0 bytes
        by None holds = tt
        by (Some told) holds = told-back old.setup old.entries k read is drained s.cs s.legal s.open_ s.own bytes in_ all-got.gets s.marked s.got s.long told holds (fits told holds)

    pub stays-so : IsIdle new.gates → AddsEntriesAlone old 0 new
    stays-so idle = read-stays old new view read Success false bytes 0 s (inl (refl, all-got.gets)) (λ none. refl) idle

  -- a read of which a command failed
  module _ (bytes : List ℕ) (s : ServedRead old.setup old.entries view read DeviceError true bytes new) where
    record Broken (cs : List Entry) : Type 0 where
      failed : Span
      rest : List Span
      earlier : List Entry
      got : Got old.setup H t view read is earlier (failed ∷ rest)
      is_last : cs ≡ Fault t (Get failed.block failed.count) 0 ∷ earlier

    broken : (cs : List Entry) → IsLegal old.setup (cs ++ H) → AreWhileOpen old.setup H t cs → AreOwnInOrder old.setup t (record { tag = 0; view = view; asked = read_asked read; bytes = [] }) cs → ends_in_fault cs ≡ true → Broken cs
    unfolding AreWhileOpen AreOwnInOrder IsLegal MayFollow
    broken [] legal open_ own failed = cc
    broken (e ∷ cs) (legal, may) (next, all) (own, behind, owns) failed =
        let is_named = named old.setup old.entries k read is drained in
        let sound = open-sound old.setup H t view read is is_named cs all owns next.outstanding in
        let (rest, got) = got-all old.setup H t view read is is_named cs (first-left old.setup old.entries k read is drained (legal-tail old.setup cs H legal)) all owns legal sound in
        let (u, more, same, turn_is) = next-unit old.setup H t view read is is_named (cs ++ H) rest next.turn legal got.left next.next in
        by u more next.outcome (subst (λ (xs : List Span). Got old.setup H t view read is cs xs) same got) (next.entry ∙ ap (λ (v : Turn). entry_of v next.outcome) turn_is)
      where
        by : (u : Span) (more : List Span) (outcome : Outcome) → Got old.setup H t view read is cs (u ∷ more) → e ≡ entry_of (record { token = t; command = Get u.block u.count }) outcome → Broken (e ∷ cs)
        by u more Made got same = let done : is_fault e ≡ false = rw same refl in absurd (both_ways (is_fault e) done failed)
        by u more (Failed done) got same =
            let stops : MayFollow old.setup (cs ++ H) (Fault t (Get u.block u.count) done) = subst (λ (x : Entry). MayFollow old.setup (cs ++ H) x) same may in
            record {
              failed = u;
              rest = more;
              earlier = cs;
              got = got;
              is_last = ap (λ (x : Entry). x ∷ cs) (same ∙ ap (λ (n : ℕ). Fault t (Get u.block u.count) n) stops.1);
            }

    breaks : Broken s.cs
    breaks = broken s.cs s.legal s.open_ s.own s.last

    pub fails-so : FailsToRead old.setup k old.entries read new.entries
    fails-so = record {
      got = breaks.got.front;
      failed = breaks.failed;
      rest = breaks.rest;
      units = sym (units-are old.setup old.entries k read is drained) ∙ breaks.got.units_are;
      entries = s.entries
          ∙ ap (λ (cs : List Entry). Collect 0 t ∷ (cs ++ H)) (breaks.is_last ∙ ap (λ (cs : List Entry). Fault t (Get breaks.failed.block breaks.failed.count) 0 ∷ cs) breaks.got.commands);
    }

    pub failed-stays : IsIdle new.gates → AddsEntriesAlone old 1 new
    failed-stays idle =
        read-stays old new view read DeviceError true bytes 1 s (inr (refl, record { earlier = breaks.earlier; unit = breaks.failed; is = breaks.is_last; gets = breaks.got.gets })) (λ none. absurd (omega (arith, none))) idle
