-- What a script says: the plans of its disks, or its first faulty line with the first reason that holds (own profile).
use Rattle.std.specs.Prelude.{ℕ, ◌+◌, nat_lt, if◌then◌else◌, List, [], ◌∷◌, length, Option, Some, None, Result, Ok, Err}
use Rattle.script_text.specs.declared.language.refusal.Reason.{Reason}
use Rattle.script_text.specs.declared.language.refusal.Reason.TheVariants.{Size}
use Rattle.script_text.specs.declared.language.line.Line.{Line}
use Rattle.script_text.specs.declared.language.plans.DiskPlan.{DiskPlan}
use Rattle.script_text.specs.Words.{lines_of}
use Rattle.script_text.specs.Limits.{most_script_bytes}
use Rattle.script_text.specs.Wording.{line_of_bytes}
use Rattle.script_text.specs.Planned.{plans_behind}
use Rattle.script_text.specs.Replies.{◌>>=◌}

abbrev pub planned_if : ℕ → List DiskPlan → Option Line → Result (List DiskPlan) Reason
planned_if number plans None = Ok plans
planned_if number plans (Some one) = plans_behind number plans one

-- the plans behind the line of this number
unfoldable pub line_says : ℕ → List DiskPlan → List ℕ → Result (List DiskPlan) Reason
line_says number plans line = do
  said ← line_of_bytes line
  planned_if number plans said

abbrev pub at_line : {A : Type 0} → ℕ → Result A Reason → Result A (ℕ × Reason)
at_line number (Ok x) = Ok x
at_line number (Err reason) = Err (number, reason)

-- the plans behind these lines, of which the first has this number
unfoldable pub lines_say : ℕ → List DiskPlan → List (List ℕ) → Result (List DiskPlan) (ℕ × Reason)
lines_say number plans [] = Ok plans
lines_say number plans (line ∷ rest) = do
  more ← at_line number (line_says number plans line)
  lines_say (number + 1) more rest

-- the plans that the bytes say, or the first faulty line with the first reason that holds; a script that is too long is
-- refused at line 0
unfoldable pub script_of : List ℕ → Result (List DiskPlan) (ℕ × Reason)
script_of bytes = if nat_lt most_script_bytes (length bytes) then Err (0, Size) else lines_say 1 [] (lines_of bytes)
