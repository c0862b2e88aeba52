use Rattle.std.proofs.Common.{map, take}
use Rattle.std.specs.List.{concat}
use Rattle.script_text.specs.Fed.{WasFed}
use Rattle.script_text.proofs.language.whole.read_pieces.Given as goal

abbrev pub invariant-loop-piece : goal.invariant-loop-piece
invariant-loop-piece l = WasFed l.reader (concat (map (λ piece. piece.now) (take l.piece-index l.pieces)))
