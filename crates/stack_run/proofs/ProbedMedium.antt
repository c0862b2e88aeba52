-- A fresh medium that was probed.
use Rattle.std.proofs.Common.{◌≡◌, ℕ, ◌+◌, ◌<◌, false, List, [], ◌∷◌, map, length, slice_get, All, option_map, Option, None, Some, Result, Ok, Err, refl, sym, ◌∙◌, ap, subst, arith}
use Rattle.std.proofs.lemmas.List.{length-map}
use Rattle.std.proofs.lemmas.Option.{slice_get-map}
use Rattle.medium.specs.Device.{Device, IsFresh}
use Rattle.drive.specs.Drives.{DriveState, FitTheDrive, IsFreshDrive}
use Rattle.history.specs.declared.entry.Entry.{Entry}
use Rattle.history.specs.Setup.{Setup, size_of}
use Rattle.history.specs.Contents.{contents, kept_contents}
use Rattle.history.specs.Eras.{ejects, inserts, media_id_of, is_present}
use Rattle.history.specs.Marks.{first_from}
use Rattle.history.specs.Next.{first_open}
use Rattle.history.specs.Room.{faults}
use Rattle.history.specs.Tokens.{token_count}
use Rattle.block_gate.specs.Gates.{idle_gates}
use Rattle.history_laws.proofs.OneMediumLemmas.{faults-alone}
use Rattle.disk_core.specs.State.{State, setup_of, opening_from}
use Rattle.disk_core.specs.Facts.{AreFacts, MeetsEra}
use Rattle.disk_core.specs.Turns.{IsIdle}
use Rattle.disk_core.proofs.Fresh.{fresh-era}
use Rattle.partition_tables.specs.declared.table.Table.{Table}
use Rattle.partition_tables.specs.Table.{table_of}
use Rattle.partition_children.specs.declared.probing.ProbeFault.{ProbeFault}
use Rattle.partition_children.specs.Probing.{IsProbeOf, IsQuiet, AddsEntriesAlone}
use Rattle.stack_run.specs.Probing.{IsTableOf, KeepsBytes}
use Rattle.stack_run.proofs.RanLemmas.{all-at}

-- the opening bytes are the contents before anything has happened
first-contents : (S T : Setup) (H : List Entry) (bytes : List ℕ) → T ≡ S → H ≡ [] → contents S 1 [] ≡ Some bytes → contents T (media_id_of H) H ≡ Some bytes
unfolding inserts
first-contents S T H bytes same none told = rw (same, none) told

no-faults : (H : List Entry) → H ≡ [] → faults H ≡ 0
unfolding faults
no-faults H none = rw none refl

-- a disk to which nothing has happened
pub fresh-quiet : (s : State) (size : ℕ) → s.entries ≡ [] → s.gates ≡ idle_gates 1 size → IsQuiet s
unfolding idle_gates first_open first_from token_count
fresh-quiet s size none gates = record {
  idle = subst IsIdle (sym gates) (record { held = refl; gone = refl; free = omega arith });
  drained = ap (λ H. first_open s.setup H) none;
}

pub fresh-present : (H : List Entry) → H ≡ [] → is_present H ≡ false → ⊥
unfolding ejects inserts
fresh-present H none out = let gone : is_present [] ≡ false = ap is_present (sym none) ∙ out in cc

-- what holds of one holds of all where there is no other
pub all-of-one : {M : Type 0} (P : M → Type 0) (xs : List M) (m : M) → xs ≡ m ∷ [] → P m → All P xs
all-of-one P xs m is holds = subst (All P) (sym is) (λ k d inside. let first : k ≡ 0 = omega (arith, inside) in rw first holds)

-- nothing is told where no table could be read
pub no-table : (told : Option (List ℕ)) (size : ℕ) → IsTableOf told size None
no-table None size = tt
no-table (Some bytes) size = tt

module _ {M : Type 0} (device : M → Device) (drive : DriveState M) (fit : FitTheDrive device drive) (fresh : IsFreshDrive device drive) (one : length drive.media ≡ 1) (medium : M) (there : slice_get drive.media 0 ≡ Some medium) where
  abbrev S : Setup
  S = setup_of device drive drive.protected

  is-fresh : IsFresh (device medium)
  is-fresh = all-at (λ n. IsFresh (device n)) drive.media 0 medium fresh.media there

  begins : MeetsEra S [] 1 (device medium)
  unfolding setup_of
  begins =
      fresh-era S 1 (device medium) is-fresh (slice_get-map (λ n. opening_from (device n)) drive.media 0 ∙ ap (option_map (λ n. opening_from (device n))) there)
      (all-at (λ n. (device n).size ≡ drive.size) drive.media 0 medium fit.size there) (all-at (λ n. (device n).cached ≡ drive.cached) drive.media 0 medium fit.cached there)

  alone : length S.media ≡ 1
  unfolding setup_of
  alone = length-map drive.media (λ m. opening_from (device m)) ∙ one

  module _ (old new : State) (setup : old.setup ≡ S) (none : old.entries ≡ []) where
    -- it has the bytes that it had
    pub keeps : (n : ℕ) → AddsEntriesAlone old n new → AreFacts new → (media : List M) → map device media ≡ new.devices → (back : M) → slice_get media 0 ≡ Some back → KeepsBytes n (device medium) (device back)
    keeps n stays facts media are back is =
        let d = device back in
        let at : slice_get new.devices 0 ≡ Some d = ap (λ l. slice_get l 0) (sym are) ∙ (slice_get-map device media 0 ∙ ap (option_map device) is) in
        let meets : MeetsEra new.setup new.entries 1 d = facts.media 0 d at in
        let kept_old : kept_contents old.setup 1 old.entries ≡ kept_contents S 1 [] = ap (λ T. kept_contents T 1 old.entries) setup ∙ ap (λ H. kept_contents S 1 H) none in
        let count : length new.setup.media ≡ 1 = ap (λ (T : Setup). length T.media) (stays.setup ∙ setup) ∙ alone in
        record {
          kept = meets.kept ∙ (ap (λ T. kept_contents T 1 new.entries) stays.setup ∙ (stays.kept 1 ∙ (kept_old ∙ (sym begins.kept ∙ is-fresh.kept))));
          failed = meets.failed ∙ (faults-alone new.setup new.entries facts.legal count ∙ (stays.failures ∙ (ap (λ m. m + n) (no-faults old.entries none) ∙ omega arith)));
        }

    -- and the table is theirs
    pub tells : (t : Table) → IsProbeOf old (Ok t) new → IsTableOf (device medium).first (device medium).size (Some t)
    tells t probe = by (device medium).first refl
      where
        by : (o : Option (List ℕ)) → (device medium).first ≡ o → IsTableOf o (device medium).size (Some t)
        by None told = tt
        by (Some bytes) told =
            let first : contents S 1 [] ≡ Some bytes = sym begins.now ∙ (is-fresh.now ∙ told) in
            let size : size_of old.setup ≡ (device medium).size = ap size_of setup ∙ sym begins.size in
            (probe bytes (first-contents S old.setup old.entries bytes setup none first)).1 ∙ ap (table_of bytes) size
