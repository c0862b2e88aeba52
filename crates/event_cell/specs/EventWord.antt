-- What the word of an event holds (own profile): 0 until it was signalled, and then 1 plus the number of its status.
use Rattle.std.specs.Prelude.{◌≡◌, ℕ, ◌+◌}
use Rattle.efi_status.specs.declared.Status.{Status}
use Rattle.efi_status.specs.StatusTable.{table_number}

-- what it holds after this status was signalled
unfoldable pub word_of : Status → ℕ
word_of status = 1 + table_number status

-- some status was signalled
pub record IsSignalled (word : ℕ) : Type 0 where
  pub status : Status
  pub is : word ≡ word_of status
