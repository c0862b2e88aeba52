-- An end of an event's word, as contracts see it.
use Rattle.std.specs.Prelude.{ℕ}
use Rattle.atomic_table.specs.Seated.{TableId}

-- the end that signals: which word it is, and what was told of it, 0 for nothing yet
pub record SignallerEnd : Type 0 where
  pub word : TableId
  pub told : ℕ

-- an end that checks: which word it is, and what was seen of it, 0 for nothing yet
pub record EventEnd : Type 0 where
  pub word : TableId
  pub seen : ℕ
