-- Where no token is outstanding no command comes next.
use Rattle.std.proofs.Common.{List, None, ℕ, ◌<◌, ◌≡◌}
use Rattle.history.specs.Marks.{mark_of}
use Rattle.history.specs.Next.{first_open, next_turn}
use Rattle.history.specs.Setup.{Setup}
use Rattle.history.specs.Tokens.{token_count}
use Rattle.history.specs.declared.entry.Entry.{Entry}
use Rattle.history_laws.proofs.NextLemmas.{first-open-fails}

-- where no token is outstanding, no token is
pub none-outstanding : (S : Setup) (H : List Entry) (t : ℕ) → first_open S H ≡ None → t < token_count H → mark_of S H t ≡ None → ⊥
none-outstanding S H t none there unmarked = first-open-fails S H t none (record { token = there; unmarked = unmarked })

pub drained-turn : (S : Setup) (H : List Entry) → first_open S H ≡ None → next_turn S H ≡ None
unfolding next_turn
drained-turn S H none = rw none
