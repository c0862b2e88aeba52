-- The medium that is probed, as the drive has it.
use Rattle.std.proofs.Common.{◌≡◌, ℕ, ◌*◌, ◌^◌, ◌<◌, Bool, true, false, List, length, Option, None, Some, option_map, refl, sym, ◌∙◌, ap, subst, arith}
use Rattle.medium.specs.Device.{Device, IsBlockSize, IsShaped}
use Rattle.drive.specs.Drives.{DriveState, medium_with, FitTheDrive}
use Rattle.history.specs.declared.entry.View.{View}
use Rattle.history.specs.declared.entry.Entry.{Entry}
use Rattle.history.specs.Setup.{Setup, IsSetup, size_of, blocks_of}
use Rattle.history.specs.Eras.{media_id_of, is_present}
use Rattle.history.specs.Rules.{IsLegal}
use Rattle.history_laws.proofs.RangeLemmas.{contents-long}
use Rattle.disk_core.specs.State.{State, setup_of}
use Rattle.disk_io2.specs.Views.{whole_view, whole_view_in}
use Rattle.disk_io2.proofs.ReadOff.{blocks-are, size-is, told-whole}
use Rattle.partition_children.specs.Probing.{IsTargetOf}

-- a medium is in where its whole is a view
pub whole-in : (S : Setup) (H : List Entry) (view : View) → Some view ≡ whole_view_in S H → (is_present H ≡ true) × (view ≡ whole_view S (media_id_of H))
unfolding whole_view_in
whole-in S H view is = by (is_present H) refl is
  where
    by : (b : Bool) → is_present H ≡ b → Some view ≡ whole_view_in S H → (is_present H ≡ true) × (view ≡ whole_view S (media_id_of H))
    by true there is = (there, (let some : Some view ≡ Some (whole_view S (media_id_of H)) = rw there at is in cc))
    by false none is = (let clash : Some view ≡ None = rw none at is in absurd cc)

pub none-in : (S : Setup) (H : List Entry) → None ≡ whole_view_in S H → is_present H ≡ false
unfolding whole_view_in
none-in S H is = by (is_present H) refl is
  where
    by : (b : Bool) → is_present H ≡ b → None ≡ whole_view_in S H → is_present H ≡ false
    by false none is = none
    by true there is = (let clash : None ≡ Some (whole_view S (media_id_of H)) = rw there at is in absurd cc)

module _ {M : Type 0} (device : M → Device) (shaped : (m : M) → IsShaped (device m)) (drive : DriveState M) (fit : FitTheDrive device drive) (s : State) (read_off : s.setup ≡ setup_of device drive s.setup.protected) where
  blocks-some : (n : ℕ) (o : Option M) → Some n ≡ option_map (λ m. (device m).blocks) o → 0 < n
  blocks-some n None is = cc
  blocks-some n (Some m) is = let same : n ≡ (device m).blocks = cc in rw same ((shaped m).some)

  pub target-is : (view : View) (id size n : ℕ) → Some view ≡ whole_view_in s.setup s.entries → id ≡ media_id_of s.entries → size ≡ drive.size → IsBlockSize size
      → Some n ≡ option_map (λ m. (device m).blocks) (medium_with drive id) → IsSetup s.setup → IsLegal s.setup s.entries → IsTargetOf s (record { view = view; size = size; blocks = n })
  target-is view id size n is_view named is_size sized there is legal =
      let (present, whole) = whole-in s.setup s.entries view is_view in
      let (blocks, fits) = blocks-are device shaped drive fit s.setup read_off id n there in
      let size_is : size ≡ size_of s.setup = is_size ∙ size-is device shaped drive fit s.setup read_off in
      let in_ : view.media_id ≡ media_id_of s.entries = ap (λ (v : View). v.media_id) whole in
      let blocks_is : n ≡ blocks_of s.setup view.media_id = blocks ∙ ap (blocks_of s.setup) (named ∙ sym in_) in
      record {
        is_in = record { present = present; named = sym in_ };
        whole = whole ∙ ap (whole_view s.setup) (sym in_);
        size = size_is;
        blocks = blocks_is;
        sized = sized;
        some = blocks-some n (medium_with drive id) there;
        fits = subst (λ (z : ℕ). n * z < 2 ^ 64) (sym size_is) fits;
        long = λ bytes holds. (
            contents-long s.setup view.media_id s.entries bytes is (told-whole device shaped drive fit s.setup read_off) legal holds
            ∙ (ap (λ (b : ℕ). b * size_of s.setup) (sym blocks_is) ∙ ap (λ (z : ℕ). n * z) (sym size_is)));
      }
