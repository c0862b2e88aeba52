-- The parts of a range at its two ends (UEFI 2.10, 13.7).
use Rattle.std.specs.Prelude.{ℕ, ◌+◌, ◌-◌, ◌*◌, ◌/◌, nat_lt, if◌then◌else◌, Option, Some, None, false, List, [], ◌∷◌}
use Rattle.disk_split.specs.declared.geometry.Geometry.{Geometry}
use Rattle.disk_split.specs.declared.parts.Part.{Part}
use Rattle.disk_split.specs.declared.span.Span.{Span}
use Rattle.disk_split.specs.Units.{group_size}

-- the part with the bytes from a on and before m, where there are any
abbrev pub part_of : ℕ → ℕ → Option Part
part_of a m = if nat_lt a m then Some (record { at = a; len = m - a }) else None

-- a part as a unit of its range, where it stands
abbrev pub spans_of : Geometry → Option Part → List Span
spans_of G None = []
spans_of G (Some part) = record { whole = false; block = part.at / group_size G * G.per; count = G.per; low = part.at; high = part.at + part.len } ∷ []
