use Rattle.history_laws.proofs.GateLemmas.{held-byte}
use Rattle.history_laws.proofs.media.held_groups_stay.Goals as goal

pub returns : goal.returns
returns c = held-byte
