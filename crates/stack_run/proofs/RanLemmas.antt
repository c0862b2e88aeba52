-- What ran over a disk, read off its facts.
use Rattle.std.proofs.Common.{◌≡◌, ℕ, zero, suc, ◌*◌, ◌^◌, ◌<◌, inl, inr, List, [], ◌∷◌, map, length, slice_get, Option, Some, None, All, option_map, refl, sym, ◌∙◌, ap, subst}
use Rattle.std.specs.List.{AllByRecursion}
use Rattle.std.proofs.lemmas.List.{length-map}
use Rattle.std.proofs.lemmas.Option.{slice_get_within, get_or_from_slice_get}
use Rattle.std.proofs.lemmas.Simd.{map-map}
use Rattle.medium.specs.Device.{Device}
use Rattle.history.specs.Setup.{Setup, IsSetup}
use Rattle.history.specs.Next.{first_open}
use Rattle.history.specs.Rules.{IsLegal}
use Rattle.partition_tables.specs.declared.table.Table.{Table}
use Rattle.disk_core.specs.State.{State}
use Rattle.disk_core.specs.Facts.{AreFacts, MeetsEra}
use Rattle.script_text.specs.declared.language.plans.DiskPlan.{DiskPlan}
use Rattle.script_text.specs.Report.{givens_of, AreEnds}
use Rattle.shared_disk.specs.Lines.{Role}
use Rattle.shared_disk.specs.Script.{Script, IsOpening, next_order, places_at, KeepsScript}
use Rattle.shared_disk.specs.Desk.{DeskState, Keeps}
use Rattle.shared_disk.proofs.KeptLemmas.{keeps-nothing}
use Rattle.device_workers.specs.Serving.{WantsMemory, IsPlainFront}
use Rattle.device_workers.proofs.FreshLemmas.{opening-front}
use Rattle.stack_run.specs.Clients.{Start, script_in}
use Rattle.stack_run.specs.Starting.{IsReady, IsStart, start_of}
use Rattle.stack_run.specs.declared.desk_run.Run.{Run}
use Rattle.stack_run.specs.Runs.{RanPlain, RanInPart, Follow, RanOver, RanSomeOver}

-- what holds of each holds at a place
pub all-at : {M : Type 0} (P : M → Type 0) (xs : List M) (i : ℕ) (x : M) → All P xs → slice_get xs i ≡ Some x → P x
all-at P xs i x all is = subst P (get_or_from_slice_get xs i x x is) (all i x (slice_get_within xs i x is))

-- a mapped item comes from one
pub from-mapped : {M N : Type 0} (f : M → N) (xs : List M) (i : ℕ) (y : N) (o : Option M) → slice_get xs i ≡ o → option_map f o ≡ Some y → (x : M) × (slice_get xs i ≡ Some x) × (f x ≡ y)
from-mapped f xs i y None there is = absurd (cc)
from-mapped f xs i y (Some x) there is = (x, there, cc)

pub no-places : (roles : List Role) (i : ℕ) → places_at (map (λ role. []) roles) i ≡ []
no-places [] i = refl
no-places (role ∷ more) zero = refl
no-places (role ∷ more) (suc i) = no-places more i

-- where nothing was done
pub nothing-done : (plan : DiskPlan) (S : Setup) (start : Start) → IsStart plan S start → IsSetup S → IsLegal S start.entries → IsOpening start.entries → first_open S start.entries ≡ None → RanInPart plan S start start.entries
nothing-done plan S start begins is legal opens drained =
    let roles : List Role = (script_in plan start).roles in
    record {
      begins = begins;
      legal = legal;
      places = map (λ role. []) roles;
      keeps = keeps-nothing S (script_in plan start) (map (λ role. []) roles) opens (length-map roles (λ role. [])) (no-places roles);
      front = opening-front S (script_in plan start) is drained;
      short = inl refl;
    }

-- where a client's next line wants memory
pub part-here : (plan : DiskPlan) (S : Setup) (start : Start) (s : DeskState) → IsStart plan S start → s.disk.setup ≡ S → s.script ≡ script_in plan start → IsLegal S s.disk.entries → Keeps s → WantsMemory s → IsPlainFront S (script_in plan start) s.disk.entries → RanInPart plan S start s.disk.entries
part-here plan S start s begins setup script legal keeps (i, order, next, wants) front = record {
  begins = begins;
  legal = legal;
  places = s.places;
  keeps = subst (λ (T : Setup). KeepsScript T (script_in plan start) s.places s.disk.entries) setup (subst (λ (d : Script). KeepsScript s.disk.setup d s.places s.disk.entries) script keeps.script);
  front = front;
  short = inr (i, order, subst (λ (d : Script). next_order d.roles i (length (places_at s.places i)) ≡ Some order) script next, wants);
}

module _ {M : Type 0} (device : M → Device) (s : State) (S : Setup) (media : List M) (setup : s.setup ≡ S) (facts : AreFacts s) (are : map device media ≡ s.devices) (count : length media ≡ length s.setup.media) where
  legal-here : IsLegal S s.entries
  legal-here = subst (λ T. IsLegal T s.entries) setup facts.legal

  follow-here : Follow S s.entries (map device media)
  follow-here = record {
    count = length-map media device ∙ (count ∙ ap (λ (T : Setup). length T.media) setup);
    each = λ i d is. subst (λ T. MeetsEra T s.entries (suc i) d) setup (facts.media i d (ap (λ l. slice_get l i) (sym are) ∙ is));
  }

  -- some lines ran
  pub some-ran : (plan : DiskPlan) (start : Start) → RanInPart plan S start s.entries → RanSomeOver plan S start (map device media)
  some-ran plan start part = record { history = s.entries; part = part; follow = follow-here }

  -- or all of them
  pub all-ran : (plan : DiskPlan) (start : Start) (run : Run) → run.history.entries ≡ s.entries → RanPlain plan S start s.entries (givens_of run.ends.items) → AreEnds S s.entries run.ends.items
      → run.blocks.items ≡ map (λ m. (device m).blocks) media → AllByRecursion (λ d. d.blocks * d.size < 2 ^ 64) (map device media) → RanOver plan S start (map device media) run
  all-ran plan start run is ran ends blocks fits = record {
    ran = subst (λ h. RanPlain plan S start h (givens_of run.ends.items)) (sym is) ran;
    ends = subst (λ h. AreEnds S h run.ends.items) (sym is) ends;
    follow = subst (λ h. Follow S h (map device media)) (sym is) follow-here;
    blocks = blocks ∙ sym (map-map (λ d. d.blocks) device media);
    fits = fits;
  }

  pub plain-ran : IsLegal S s.entries
  plain-ran = legal-here

-- a disk that is ready, and did nothing
pub ready-ran : {M : Type 0} (device : M → Device) (plan : DiskPlan) (s : State) (table : Option Table) (media : List M) → IsReady plan s table → IsSetup s.setup → AreFacts s → map device media ≡ s.devices → length media ≡ length s.setup.media → RanSomeOver plan s.setup (start_of s table) (map device media)
ready-ran device plan s table media ready is facts are count =
    some-ran device s s.setup media refl facts are count plan (start_of s table) (nothing-done plan s.setup (start_of s table) ready.start is facts.legal ready.opens ready.quiet.drained)

-- the bytes of each medium can be counted
pub all-fit : {M : Type 0} (device : M → Device) → ((m : M) → (device m).blocks * (device m).size < 2 ^ 64) → (media : List M) → AllByRecursion (λ d. d.blocks * d.size < 2 ^ 64) (map device media)
all-fit device each [] = tt
all-fit device each (m ∷ media) = (each m, all-fit device each media)
