-- Works: what a worker is lent (own profile).
use Rattle.std.specs.Prelude.{ℕ, List, length}
use Rattle.std.specs.List.{refill}

-- a work: its ticket, the block, the place in the block from which its patch goes, the bytes and the patch
pub record Lent : Type 0 where
  pub ticket : ℕ
  pub block : ℕ
  pub from : ℕ
  pub bytes : List ℕ
  pub patch : List ℕ

-- the work, with its bytes written anew
unfoldable pub with_new_bytes : Lent → List ℕ → Lent
with_new_bytes w bytes = record { ticket = w.ticket; block = w.block; from = w.from; bytes = refill (length w.bytes) w.bytes bytes; patch = w.patch }
