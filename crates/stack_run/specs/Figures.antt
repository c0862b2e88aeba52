-- The numbers of entries as they are counted, one entry after the other (own profile).
use Rattle.std.specs.Prelude.{ℕ, ◌+◌, ◌*◌, ◌^◌, ◌≤◌, Bool, true, false, List, [], ◌∷◌, slice_get, Option, None, Some}
use Rattle.history.specs.declared.entry.Asked.{Asked}
use Rattle.history.specs.declared.entry.Kind.{Kind}
use Rattle.history.specs.declared.entry.Kind.TheVariants.{Read, Write, Flush, Erase}
use Rattle.history.specs.declared.entry.Entry.{Entry}
use Rattle.history.specs.declared.entry.Entry.TheVariants.{Accept, Refuse, Done, Fault}
use Rattle.script_text.specs.declared.report.parts.TokenLine.{TokenLine}
use Rattle.script_text.specs.Report.{is_success}
use Rattle.stack_run.specs.declared.summary.Figures.{Figures}

abbrev pub is_end_success : Option TokenLine → Bool
is_end_success None = false
is_end_success (Some line) = is_success (Some line.status)

-- by these lines the token succeeded
abbrev pub is_success_by : List TokenLine → ℕ → Bool
is_success_by ends t = is_end_success (slice_get ends t)

-- one more request of this length and kind succeeded
abbrev pub with_moved : Kind → ℕ → Figures → Figures
with_moved Read n f = record f { read = f.read + n }
with_moved Write n f = record f { written = f.written + n }
with_moved Flush n f = f
with_moved Erase n f = f

abbrev pub with_accepted : Bool → Asked → Figures → Figures
with_accepted true asked f = record (with_moved asked.kind asked.length f) { accepted = f.accepted + 1 }
with_accepted false asked f = record f { accepted = f.accepted + 1 }

-- one more entry
abbrev pub figures_with : List TokenLine → Entry → Figures → Figures
figures_with ends (Accept tag view asked bytes) f = with_accepted (is_success_by ends f.accepted) asked f
figures_with ends (Refuse tag view asked media_id status) f = record f { refused = f.refused + 1 }
figures_with ends (Done t c) f = record f { commands = f.commands + 1 }
figures_with ends (Fault t c done) f = record f { commands = f.commands + 1 }
figures_with ends e f = f

abbrev pub no_figures : Figures
no_figures = record { accepted = 0; refused = 0; commands = 0; written = 0; read = 0 }

-- those of a history, which stands newest entry first
unfoldable pub figures_of : List TokenLine → List Entry → Figures
figures_of ends [] = no_figures
figures_of ends (e ∷ before) = figures_with ends e (figures_of ends before)

-- n entries make no more, with less than 2^64 bytes each
pub record AreWithin (n : ℕ) (f : Figures) : Type 0 where
  pub accepted : f.accepted ≤ n
  pub refused : f.refused ≤ n
  pub commands : f.commands ≤ n
  pub written : f.written ≤ n * 2 ^ 64
  pub read : f.read ≤ n * 2 ^ 64
