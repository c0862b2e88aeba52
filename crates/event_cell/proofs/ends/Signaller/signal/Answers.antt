use Rattle.std.proofs.Common.{rules}
use Rattle.event_cell.proofs.Keeps.{tells}
use Rattle.event_cell.proofs.ends.Signaller.signal.Goals as goal

pub store-requires : goal.store-requires
store-requires c = (
  search rules,
  search rules,
  tells _ _ _ _ (record { status = _; is = c.word_of.ensures }) c.self.invariant.2 (rw (← c.self.view_is) at c.requires),
)
