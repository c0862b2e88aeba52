-- The bytes that a request of the table puts on its medium (UEFI 2.10, 13.7; erase: own profile).
use Rattle.std.specs.Prelude.{ℕ, ◌-◌, List, take, drop}
use Rattle.history.specs.Tokens.{bytes_to_put}
use Rattle.token_table.specs.declared.record.Request.{Request}

-- from low on and before high: those that came with a write, and zeros for an erase
abbrev pub bytes_in : Request → ℕ → ℕ → List ℕ
bytes_in r low high = take (high - low) (drop (low - r.at) (bytes_to_put r.asked.kind r.asked.length r.buffer))
