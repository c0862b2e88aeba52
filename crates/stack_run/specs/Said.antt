-- What of the script language this version runs: clients on the whole of their disk (own profile).
use Rattle.std.specs.Prelude.{ℕ, List, [], ◌∷◌, Option, None, Some, Result, Ok, Err}
use Rattle.script_text.specs.declared.language.refusal.Reason.{Reason}
use Rattle.script_text.specs.declared.language.refusal.Reason.TheVariants as why
use Rattle.script_text.specs.declared.language.plans.DiskPlan.{DiskPlan}
use Rattle.script_text.specs.Replies.{◌>>=◌}
use Rattle.script_text.specs.Whole.{script_of}
use Rattle.stack_run.specs.Starting.{part_line}

-- the first of two lines, or else the other
abbrev pub some_or : Option ℕ → Option ℕ → Option ℕ
some_or None later = later
some_or (Some line) later = Some line

-- the line of the first client on a partition
unfoldable pub first_part : List DiskPlan → Option ℕ
first_part [] = None
first_part (disk ∷ more) = some_or (part_line disk) (first_part more)

abbrev pub refusal_at : Option ℕ → List DiskPlan → Result (List DiskPlan) (ℕ × Reason)
refusal_at None plans = Ok plans
refusal_at (Some line) plans = Err (line, why.Part)

abbrev pub whole_alone : List DiskPlan → Result (List DiskPlan) (ℕ × Reason)
whole_alone plans = refusal_at (first_part plans) plans

-- the plans that the bytes say; a client on a partition is refused at its line
unfoldable pub said_of : List ℕ → Result (List DiskPlan) (ℕ × Reason)
said_of bytes = script_of bytes >>= whole_alone
