use Rattle.std.proofs.Common.{subst}
use Rattle.script_text.specs.Fed.{WasFed}
use Rattle.script_text.proofs.Telling.{one_piece}
use Rattle.script_text.proofs.language.whole.read_pieces.Goals as goal

pub loop-piece-preserved : goal.loop-piece-preserved
loop-piece-preserved c =
    subst (λ bytes. WasFed c.feed.new.self bytes) (one_piece (λ piece. piece.now) c.args.pieces.now c.loop-piece.piece-index _ c.loop-piece-test.true)
    (c.in-Ok.ensures.fed _ c.loop-piece.invariant)
