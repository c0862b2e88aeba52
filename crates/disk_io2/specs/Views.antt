-- The whole of a medium as a view, and what the requests of views change (UEFI 2.10, 13.7 and 13.9; own profile).
use Rattle.std.specs.Prelude.{ℕ, ◌*◌, if◌then◌else◌, List, Option, None, Some}
use Rattle.history.specs.declared.entry.View.{View}
use Rattle.history.specs.declared.entry.Entry.{Entry}
use Rattle.history.specs.Setup.{Setup, size_of, blocks_of}
use Rattle.history.specs.Eras.{media_id_of, is_present}

-- the whole of medium k
abbrev pub whole_view : Setup → ℕ → View
whole_view S k = record { start = 0; length = blocks_of S k * size_of S; media_id = k; index = 0 }

-- the whole of the medium that is in
unfoldable pub whole_view_in : Setup → List Entry → Option View
whole_view_in S H = if is_present H then Some (whole_view S (media_id_of H)) else None
