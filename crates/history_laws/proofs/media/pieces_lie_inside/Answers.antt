use Rattle.history_laws.proofs.RangeLemmas.{pieces-in-views}
use Rattle.history_laws.proofs.media.pieces_lie_inside.Goals as goal

pub returns : goal.returns
returns c = pieces-in-views
