-- What the lines that end in a piece leave (own profile).
use Rattle.std.specs.Prelude.{◌≡◌, ℕ, ◌+◌, ◌≤◌, true, List, ◌++◌, length, Err}
use Rattle.script_text.specs.declared.language.refusal.Reason.{Reason}
use Rattle.script_text.specs.declared.language.plans.DiskPlan.{DiskPlan}
use Rattle.script_text.specs.declared.language.ended.Ended.{Ended}
use Rattle.script_text.specs.declared.language.ended.Ended.TheVariants.{Open, Faulty}
use Rattle.script_text.specs.Words.{lines_of}
use Rattle.script_text.specs.OneLine.{is_one_line, EndsIn}
use Rattle.script_text.specs.Whole.{lines_say}

-- the lines from a begun one on say, whatever follows the piece, what these plans and the newly begun line say
pub record IsReadSoFar (plans : List DiskPlan) (n : ℕ) (begun piece : List ℕ) (plans' : List DiskPlan) (n' : ℕ) (begun' : List ℕ) : Type 0 where
  pub unended : is_one_line begun' ≡ true
  pub few : n' ≤ n + length piece
  pub kept : EndsIn (begun ++ piece) begun'
  pub said : (more : List ℕ) → lines_say n plans (lines_of (begun ++ (piece ++ more))) ≡ lines_say n' plans' (lines_of (begun' ++ more))

-- they have this first faulty line, whatever follows the piece
pub record IsStopped (plans : List DiskPlan) (n : ℕ) (begun piece : List ℕ) (line : ℕ) (reason : Reason) : Type 0 where
  pub said : (more : List ℕ) → lines_say n plans (lines_of (begun ++ (piece ++ more))) ≡ Err (line, reason)

abbrev pub ReadsOn : List DiskPlan → ℕ → List ℕ → List ℕ → Ended → Type 0
ReadsOn plans n begun piece (Open plans' n' begun') = IsReadSoFar plans n begun piece plans' n' begun'.items
ReadsOn plans n begun piece (Faulty line reason) = IsStopped plans n begun piece line reason
