-- A command that comes next lowers the entries owed.
use Rattle.std.proofs.Common.{List, arith, ◌+◌, ◌∷◌, ◌≤◌}
use Rattle.history.specs.Next.{Failed, Made, Outcome, Turn, entry_of}
use Rattle.history.specs.Room.{owed_entries}
use Rattle.history.specs.Rules.{IsLegal, MayFollow}
use Rattle.history.specs.Setup.{IsSetup, Setup}
use Rattle.history.specs.declared.entry.Entry.{Entry}
use Rattle.history_laws.proofs.SpareLemmas.{entries-done, entries-fault}

-- a command that was made lowers what is owed
pub turn-lowers : (S : Setup) (H : List Entry) (turn : Turn) (outcome : Outcome) → IsSetup S → IsLegal S (entry_of turn outcome ∷ H) → owed_entries S (entry_of turn outcome ∷ H) + 1 ≤ owed_entries S H
unfolding IsLegal MayFollow
turn-lowers S H turn Made is (legal, may) = entries-done S H turn.token turn.command is legal may
turn-lowers S H turn (Failed done) is (legal, may) = omega (arith, entries-fault S H turn.token turn.command done is legal may.0)
