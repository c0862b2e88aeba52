-- What is told of a view's medium (UEFI 2.10, 13.9.1: EFI_BLOCK_IO_MEDIA; which values: own profile).
use Rattle.std.specs.Prelude.{ℕ, ◌-◌, ◌/◌, Bool, true, not, nat_eq, ◌&&◌, if◌then◌else◌, List}
use Rattle.history.specs.declared.entry.View.{View}
use Rattle.history.specs.declared.entry.Entry.{Entry}
use Rattle.history.specs.Setup.{Setup, size_of, per_of}
use Rattle.history.specs.Eras.{media_id_of, is_present, is_protected}
use Rattle.block_io2.specs.declared.media.Media.{Media}

-- whether the medium of a view is in
abbrev pub is_in : List Entry → View → Bool
is_in H view = is_present H && nat_eq view.media_id (media_id_of H)

-- the last block of a view, and 0 for one that is shorter than a block
abbrev pub last_block_of : Setup → View → ℕ
last_block_of S view = view.length / size_of S - 1

-- a partition is logical, and its physical blocks are not told
unfoldable pub media_for : Setup → List Entry → View → Media
media_for S H view = record {
  media_id = view.media_id;
  removable = true;
  present = is_in H view;
  logical = not (nat_eq view.index 0);
  read_only = is_protected S H;
  write_caching = S.cached;
  block_size = size_of S;
  io_align = 0;
  last_block = last_block_of S view;
  lowest_aligned_lba = 0;
  blocks_per_physical = if nat_eq view.index 0 then per_of S else 0;
}
