-- The entries of a probe: each read is accepted, got unit by unit, and collected before the next (own profile). Histories stand newest
-- entry first.
use Rattle.std.specs.Prelude.{ℕ, ◌+◌, List, [], ◌∷◌, ◌++◌, map, reverse}
use Rattle.disk_split.specs.declared.span.Span.{Span}
use Rattle.disk_split.specs.Units.{units_of}
use Rattle.history.specs.declared.entry.View.{View}
use Rattle.history.specs.declared.entry.Kind.TheVariants.{Read}
use Rattle.history.specs.declared.entry.UnitKind.TheVariants.{Bytes}
use Rattle.history.specs.declared.entry.Asked.{Asked}
use Rattle.history.specs.declared.entry.Command.TheVariants.{Get}
use Rattle.history.specs.declared.entry.Entry.{Entry}
use Rattle.history.specs.declared.entry.Entry.TheVariants.{Accept, Done, Collect}
use Rattle.history.specs.Setup.{Setup}
use Rattle.history.specs.Tokens.{token_count}
use Rattle.disk_io2.specs.Views.{whole_view}

-- a read of so many bytes from this one on
abbrev pub read_asked : ℕ × ℕ → Asked
read_asked (at, count) = record { kind = Read; unit = Bytes; at = at; length = count }

-- each unit of the read is got
abbrev pub get_of : ℕ → Span → Entry
get_of t u = Done t (Get u.block u.count)

abbrev pub gets_of : Setup → ℕ → ℕ × ℕ → List Entry
gets_of S t (at, count) = reverse (map (get_of t) (units_of S.geometry at (at + count)))

-- the entries after a read of medium k: it is accepted with tag 0, got, and collected
abbrev pub after_read : Setup → ℕ → List Entry → ℕ × ℕ → List Entry
after_read S k H read =
    Collect 0 (token_count H) ∷ (gets_of S (token_count H) read ++ Accept 0 (whole_view S k) (read_asked read) [] ∷ H)

-- those after all of these reads
unfoldable pub after_reads : Setup → ℕ → List Entry → List (ℕ × ℕ) → List Entry
after_reads S k H [] = H
after_reads S k H (read ∷ more) = after_reads S k (after_read S k H read) more
