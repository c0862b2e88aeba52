use Rattle.std.proofs.Common.{◌≡◌, ◌≤◌, take, count_by}
use Rattle.history.specs.Tokens.{is_accept}
use Rattle.shared_disk.proofs.making.count_tokens.Given as goal

abbrev pub invariant-loop-entry : goal.invariant-loop-entry
invariant-loop-entry l = (l.count ≡ count_by is_accept (take l.entry-index l.entries)) × (l.count ≤ l.entry-index)
