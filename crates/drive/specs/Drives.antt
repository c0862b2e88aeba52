-- A drive: the media of one disk by id, which of them is in, and its protection (own profile).
use Rattle.std.specs.Prelude.{◌≡◌, ℕ, ◌+◌, ◌-◌, ◌%◌, ◌<◌, ◌≤◌, ◌==◌, ◌||◌, nat_lt, Bool, true, List, length, map, slice_get, slice_set, All, Option, None, Result, Ok, Err, if◌then◌else◌}
use Rattle.medium.specs.Device.{Device, IsFresh, IsBlockSize}
use Rattle.drive.specs.declared.answers.InsertFault.{InsertFault}
use Rattle.drive.specs.declared.answers.InsertFault.TheVariants.{Occupied, NoSpare}

-- the media of a drive, of which the k-th from 1 has the id k; the id of the one that is in, or was in last, and whether
-- one is in; whether it is protected, and cached; the block size in bytes; how many blocks a physical block has
pub record DriveState (M : Type 0) : Type 0 where
  pub media : List M
  pub media_id : ℕ
  pub present : Bool
  pub protected : Bool
  pub cached : Bool
  pub size : ℕ
  pub per : ℕ

-- a physical block has so many blocks
abbrev pub is_per : ℕ → Bool
is_per per = per == 1 || (per == 2 || (per == 4 || per == 8))

abbrev pub IsPer : ℕ → Type 0
IsPer per = is_per per ≡ true

-- the most media of a drive
abbrev pub most_media : ℕ
most_media = 16

module _ {M : Type 0} where
  -- the medium with an id
  abbrev pub medium_with : DriveState M → ℕ → Option M
  medium_with s id = if id == 0 then None else slice_get s.media (id - 1)

  -- the medium that is in
  abbrev pub medium_in : DriveState M → Option M
  medium_in s = if s.present then slice_get s.media (s.media_id - 1) else None

  -- the drive with another value in place of the medium that is in, or was in last
  abbrev pub with_medium : DriveState M → M → DriveState M
  with_medium s medium = record s { media = slice_set s.media (s.media_id - 1) medium }

  -- what an insertion answers: the id of the next medium
  abbrev pub insertion : DriveState M → Result ℕ InsertFault
  insertion s = if s.present then Err Occupied else if nat_lt s.media_id (length s.media) then Ok (s.media_id + 1) else Err NoSpare

  -- a drive as it can be: one medium is in or was in last
  pub record IsDrive (s : DriveState M) : Type 0 where
    pub first : 0 < s.media_id
    pub there : s.media_id ≤ length s.media
    pub few : length s.media ≤ most_media
    pub size : IsBlockSize s.size
    pub per : IsPer s.per

  -- the media as devices, by id from 1
  abbrev pub devices_of : (M → Device) → DriveState M → List Device
  devices_of device s = map device s.media

  -- each medium has the drive's block size, is cached as it is, and has whole physical blocks alone
  pub record FitTheDrive (device : M → Device) (s : DriveState M) : Type 0 where
    pub size : All (λ m. (device m).size ≡ s.size) s.media
    pub cached : All (λ m. (device m).cached ≡ s.cached) s.media
    pub whole : All (λ m. (device m).blocks % s.per ≡ 0) s.media

  -- nothing has happened on any of its media, and the first of them is in as it was at the beginning
  pub record IsFreshDrive (device : M → Device) (s : DriveState M) : Type 0 where
    pub media : All (λ m. IsFresh (device m)) s.media
    pub media_id : s.media_id ≡ 1
    pub present : s.present ≡ true
