-- A medium that is not in the drive (own profile).
use Rattle.std.specs.Prelude.{◌≡◌, ◌≢◌, ℕ, ◌⊎◌, false, List}
use Rattle.history.specs.declared.entry.Entry.{Entry}
use Rattle.history.specs.Eras.{media_id_of, is_present}

-- medium k is out: the drive is in another era, or has no medium
abbrev pub IsOut : List Entry → ℕ → Type 0
IsOut H k = (media_id_of H ≢ k) ⊎ (is_present H ≡ false)
