-- What is told of a view's medium, part by part.
use Rattle.std.proofs.Common.{if◌then◌else◌, ◌≡◌, ◌≢◌, ℕ, ◌-◌, ◌/◌, Bool, true, false, not, nat_eq, List, refl, sym, ap}
use Rattle.std.proofs.lemmas.Bool.{eq-eqb, ne_eqb}
use Rattle.medium.specs.Device.{Device}
use Rattle.drive.specs.Drives.{DriveState}
use Rattle.history.specs.declared.entry.Entry.{Entry}
use Rattle.history.specs.declared.entry.View.{View}
use Rattle.history.specs.Setup.{Setup, size_of, per_of}
use Rattle.history.specs.Eras.{media_id_of, is_present, is_protected}
use Rattle.disk_core.specs.State.{setup_of}
use Rattle.block_io2.specs.MediaOf.{is_in, media_for}

-- the setup was read off the drive
module _ {M : Type 0} (device : M → Device) (drive : DriveState M) (S : Setup) (read_off : S ≡ setup_of device drive S.protected) where
  pub size-is : drive.size ≡ size_of S
  unfolding setup_of
  size-is = sym (ap (λ (s : Setup). s.geometry.size) read_off)

  pub per-is : drive.per ≡ per_of S
  unfolding setup_of
  per-is = sym (ap (λ (s : Setup). s.geometry.per) read_off)

  pub cached-is : drive.cached ≡ S.cached
  unfolding setup_of
  cached-is = sym (ap (λ (s : Setup). s.cached) read_off)

pub in-so : (H : List Entry) (view : View) (result : Bool) (id : ℕ) → true ≡ is_present H → id ≡ media_id_of H → result ≡ nat_eq view.media_id id → result ≡ is_in H view
in-so H view result id present named is = rw (sym present, is, named) refl

pub in-not : (H : List Entry) (view : View) (result : Bool) → false ≡ is_present H → result ≡ false → result ≡ is_in H view
in-not H view result absent is = rw (sym absent, is) refl

pub media-is : (S : Setup) (H : List Entry) (view : View) (present read_only caching : Bool) (size last per : ℕ) → present ≡ is_in H view → read_only ≡ is_protected S H → caching ≡ S.cached
    → size ≡ size_of S → last ≡ view.length / size - 1 → per ≡ (if nat_eq view.index 0 then per_of S else 0)
    → record {
      media_id = view.media_id;
      removable = true;
      present = present;
      logical = not (nat_eq view.index 0);
      read_only = read_only;
      write_caching = caching;
      block_size = size;
      io_align = 0;
      last_block = last;
      lowest_aligned_lba = 0;
      blocks_per_physical = per;
    } ≡ media_for S H view
unfolding media_for
media-is S H view present read_only caching size last per in_ protected cached size_is last_is per_is = rw (in_, protected, cached, last_is, size_is, per_is) refl

pub per-logical : (S : Setup) (view : View) → view.index ≢ 0 → 0 ≡ (if nat_eq view.index 0 then per_of S else 0)
per-logical S view logical = rw (ne_eqb view.index 0 logical)

pub per-physical : (S : Setup) (view : View) (per : ℕ) → per ≡ per_of S → view.index ≡ 0 → per ≡ (if nat_eq view.index 0 then per_of S else 0)
per-physical S view per is physical = rw (eq-eqb view.index 0 physical) is
