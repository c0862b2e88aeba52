-- What the functions of the reader answer: what a definition says, or want of memory.
use Rattle.std.specs.Prelude.{◌≡◌, ℕ, List, Result, Ok, Err}
use Rattle.script_text.specs.declared.language.refusal.Reason.{Reason}
use Rattle.script_text.specs.declared.language.refusal.LineRefused.{LineRefused}
use Rattle.script_text.specs.declared.language.refusal.LineRefused.TheVariants as line
use Rattle.script_text.specs.declared.language.refusal.ScriptRefused.{ScriptRefused}
use Rattle.script_text.specs.declared.language.refusal.ScriptRefused.TheVariants.{Fault, Memory}
use Rattle.script_text.specs.declared.language.plans.DiskPlan.{DiskPlan}
use Rattle.script_text.specs.declared.language.plans.Script.{Script}

-- the next step, where the one before has an answer
infixl 10 ◌>>=◌
abbrev pub ◌>>=◌ : {A B E : Type 0} → Result A E → (A → Result B E) → Result B E
Ok x >>= f = f x
Err reason >>= f = Err reason

-- an answer on one line is what was said of it
abbrev pub Says : {A : Type 0} → Result A Reason → Result A LineRefused → Type 0
Says said (Ok x) = said ≡ Ok x
Says said (Err (line.Faulty reason)) = said ≡ Err reason
Says said (Err line.Memory) = Unit {0}

-- a script is what was said of its bytes
abbrev pub Tells : Result Script ScriptRefused → Result (List DiskPlan) (ℕ × Reason) → Type 0
Tells (Ok script) said = said ≡ Ok script.disks
Tells (Err (Fault number reason)) said = said ≡ Err (number, reason)
Tells (Err Memory) said = Unit {0}
