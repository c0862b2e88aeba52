-- Which medium is in, whether it may be written, and what an era has (own profile). A history stands newest entry first.
use Rattle.std.specs.Prelude.{ℕ, ◌+◌, Bool, true, false, nat_eq, ◌&&◌, if◌then◌else◌, List, [], ◌∷◌, count_by}
use Rattle.history.specs.declared.entry.Entry.{Entry}
use Rattle.history.specs.declared.entry.Entry.TheVariants.{Done, Fault, Eject, Insert, Protect}
use Rattle.history.specs.Setup.{Setup}

abbrev pub is_eject : Entry → Bool
is_eject (Eject tag) = true
is_eject e = false

abbrev pub is_insert : Entry → Bool
is_insert (Insert tag media_id) = true
is_insert e = false

unfoldable pub ejects : List Entry → ℕ
ejects H = count_by is_eject H

unfoldable pub inserts : List Entry → ℕ
inserts H = count_by is_insert H

-- the id of the medium that is in, or was in last; an entry belongs to the era of the id before it
abbrev pub media_id_of : List Entry → ℕ
media_id_of H = inserts H + 1

abbrev pub is_present : List Entry → Bool
is_present H = nat_eq (ejects H) (inserts H)

-- what the last change of protection said
unfoldable pub is_protected : Setup → List Entry → Bool
is_protected S [] = S.protected
is_protected S (Protect tag on ∷ before) = on
is_protected S (e ∷ before) = is_protected S before

abbrev pub is_command : Entry → Bool
is_command (Done t c) = true
is_command (Fault t c done) = true
is_command e = false

abbrev pub is_fault : Entry → Bool
is_fault (Fault t c done) = true
is_fault e = false

-- how many entries of era k pass this test
unfoldable pub era_count : (Entry → Bool) → ℕ → List Entry → ℕ
era_count test k [] = 0
era_count test k (e ∷ before) = if nat_eq (media_id_of before) k && test e then era_count test k before + 1 else era_count test k before

-- how many commands were made in era k
abbrev pub era_commands : ℕ → List Entry → ℕ
era_commands k H = era_count is_command k H

-- how many of them failed
abbrev pub era_faults : ℕ → List Entry → ℕ
era_faults k H = era_count is_fault k H
