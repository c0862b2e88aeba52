-- What a new request has left, and how many commands it may need (own profile).
use Rattle.std.specs.Prelude.{ℕ, ◌+◌, ◌*◌, Option, None, Some}
use Rattle.disk_split.specs.Parts.{part_of}
use Rattle.disk_split.specs.Units.{group_size, middle, whole_end}
use Rattle.history.specs.declared.entry.Kind.{Kind}
use Rattle.history.specs.declared.entry.Kind.TheVariants.{Read, Write, Flush, Erase}
use Rattle.history.specs.Setup.{Setup}
use Rattle.history.specs.Tokens.{Request, from_of, until_of}
use Rattle.history.specs.Room.{runs_of}

-- what is left of a new request: its bytes, and 1 for a flush
abbrev pub left_at_first : Kind → ℕ → ℕ
left_at_first Read n = n
left_at_first Write n = n
left_at_first Flush n = 1
left_at_first Erase n = n

abbrev pub one_if : {X : Type 0} → Option X → ℕ
one_if None = 0
one_if (Some x) = 1

-- how many parts a request has
abbrev pub part_count : Setup → Request → ℕ
part_count S r = one_if (part_of (from_of S r) (middle (group_size S.geometry) (from_of S r) (until_of S r))) + one_if (part_of (whole_end (group_size S.geometry) (from_of S r) (until_of S r)) (until_of S r))

-- the most commands of a request with so many parts and runs: a part of a write or an erase is fetched and stored
abbrev pub cost_by : Kind → ℕ → ℕ → ℕ
cost_by Read parts runs = parts + runs
cost_by Write parts runs = 2 * parts + runs
cost_by Flush parts runs = 1
cost_by Erase parts runs = 2 * parts + runs

-- the most commands of a request
abbrev pub cost_of : Setup → Request → ℕ
cost_of S r = cost_by r.asked.kind (part_count S r) (runs_of S r)
