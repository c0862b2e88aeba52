-- What a reader keeps of the pieces that it was fed (own profile).
use Rattle.std.specs.Prelude.{◌≡◌, ℕ, ◌<◌, List, [], ◌++◌, length, Err}
use Rattle.script_text.specs.declared.language.reader.Reading.{Reading}
use Rattle.script_text.specs.declared.language.reader.Found.{Found}
use Rattle.script_text.specs.declared.language.reader.State.{State}
use Rattle.script_text.specs.declared.language.reader.State.TheVariants as state
use Rattle.script_text.specs.declared.language.reader.ScriptReader.{ScriptReader}
use Rattle.script_text.specs.Limits.{most_script_bytes}
use Rattle.script_text.specs.Words.{lines_of}
use Rattle.script_text.specs.OneLine.{EndsIn}
use Rattle.script_text.specs.Whole.{lines_say}

-- the plans so far, with the line that is not ended yet, say whatever follows what all bytes so far say with it
pub record IsReading (r : Reading) (bytes : List ℕ) : Type 0 where
  pub count : r.length ≡ length bytes
  pub kept : EndsIn bytes r.line.items
  pub said : (more : List ℕ) → lines_say 1 [] (lines_of (bytes ++ more)) ≡ lines_say r.number r.draft (lines_of (r.line.items ++ more))

-- all bytes so far have this first faulty line, whatever follows
pub record IsFaulty (f : Found) (bytes : List ℕ) : Type 0 where
  pub count : f.length ≡ length bytes
  pub said : (more : List ℕ) → lines_say 1 [] (lines_of (bytes ++ more)) ≡ Err (f.line, f.reason)

-- the state stands for all bytes so far; after want of memory it stands for none
abbrev pub StandsFor : State → List ℕ → Type 0
StandsFor (state.Reads r) bytes = IsReading r bytes
StandsFor (state.Faulty f) bytes = IsFaulty f bytes
StandsFor state.Long bytes = most_script_bytes < length bytes
StandsFor state.Spent bytes = Unit {0}

-- the reader was fed these bytes, in whatever pieces
unfoldable pub WasFed : ScriptReader → List ℕ → Type 0
WasFed reader bytes = StandsFor reader.state bytes

-- memory ran out in an earlier call
unfoldable pub IsSpent : ScriptReader → Type 0
IsSpent reader = reader.state ≡ state.Spent
