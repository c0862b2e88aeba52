use Rattle.std.proofs.Common.{length}
use Rattle.script_text.proofs.Telling.{HasEnded}
use Rattle.script_text.proofs.language.feeding.end_lines.Given as goal

abbrev pub invariant-lines : goal.invariant-lines
invariant-lines l = HasEnded l.fn.draft l.fn.number l.fn.line.items l.fn.piece l.plans l.next l.begun.items l.left

abbrev pub decreases-lines : goal.decreases-lines
decreases-lines l = length l.left
