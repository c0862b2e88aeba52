-- Lines that say how tokens ended, one after the other.
use Rattle.std.proofs.Common.{◌≡◌, ℕ, zero, suc, List, [], ◌∷◌, length, slice_get, Option, Some, IfSome}
use Rattle.efi_status.specs.declared.Status.{Status}
use Rattle.history.specs.declared.entry.Entry.{Entry}
use Rattle.history.specs.Setup.{Setup}
use Rattle.history.specs.Tokens.{token_count}
use Rattle.history.specs.Marks.{mark_of}
use Rattle.script_text.specs.declared.report.parts.TokenLine.{TokenLine}
use Rattle.script_text.specs.Report.{AreEnds}

-- each line has the status of its token
abbrev pub HaveMarks : (ℕ → Option Status) → List TokenLine → Type 0
HaveMarks mark [] = Unit {0}
HaveMarks mark (line ∷ more) = (mark 0 ≡ Some line.status) × HaveMarks (λ t. mark (suc t)) more

mark_at : (mark : ℕ → Option Status) (ends : List TokenLine) → HaveMarks mark ends → (t : ℕ) → IfSome (slice_get ends t) (λ line. mark t ≡ Some line.status)
mark_at mark [] all t = tt
mark_at mark (line ∷ more) (first, later) zero = first
mark_at mark (line ∷ more) (first, later) (suc t) = mark_at (λ u. mark (suc u)) more later t

pub ends_one_by_one : (S : Setup) (H : List Entry) (ends : List TokenLine) → length ends ≡ token_count H → HaveMarks (mark_of S H) ends → AreEnds S H ends
ends_one_by_one S H ends count all = record { count = count; each = mark_at (mark_of S H) ends all }
