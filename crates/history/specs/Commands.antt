-- What each command does, and which commands of a token were done (UEFI 2.10, 13.7 to 13.10; groups and erase: own profile).
use Rattle.std.specs.Prelude.{ℕ, ◌+◌, ◌*◌, Bool, true, false, nat_eq, nat_lt, nat_le, ◌&&◌, ◌||◌, if◌then◌else◌, List, [], ◌∷◌}
use Rattle.std.specs.List.{list_any}
use Rattle.history.specs.declared.entry.Command.{Command}
use Rattle.history.specs.declared.entry.Command.TheVariants.{Fetch, Store, Put, Get, Wipe, Sync}
use Rattle.history.specs.declared.entry.Entry.{Entry}
use Rattle.history.specs.declared.entry.Entry.TheVariants.{Done}
use Rattle.history.specs.Setup.{Setup, size_of, per_of}

-- the first block of a command
abbrev pub first_block : Command → ℕ
first_block (Fetch b) = b
first_block (Store b) = b
first_block (Put b n) = b
first_block (Get b n) = b
first_block (Wipe b n) = b
first_block Sync = 0

-- how many blocks it has from there on: a fetch and a store have those of a group
abbrev pub block_count : Setup → Command → ℕ
block_count S (Fetch b) = per_of S
block_count S (Store b) = per_of S
block_count S (Put b n) = n
block_count S (Get b n) = n
block_count S (Wipe b n) = n
block_count S Sync = 0

abbrev pub is_fetch : Command → Bool
is_fetch (Fetch b) = true
is_fetch (Store b) = false
is_fetch (Put b n) = false
is_fetch (Get b n) = false
is_fetch (Wipe b n) = false
is_fetch Sync = false

abbrev pub is_store : Command → Bool
is_store (Fetch b) = false
is_store (Store b) = true
is_store (Put b n) = false
is_store (Get b n) = false
is_store (Wipe b n) = false
is_store Sync = false

abbrev pub is_put : Command → Bool
is_put (Fetch b) = false
is_put (Store b) = false
is_put (Put b n) = true
is_put (Get b n) = false
is_put (Wipe b n) = false
is_put Sync = false

abbrev pub is_get : Command → Bool
is_get (Fetch b) = false
is_get (Store b) = false
is_get (Put b n) = false
is_get (Get b n) = true
is_get (Wipe b n) = false
is_get Sync = false

abbrev pub is_wipe : Command → Bool
is_wipe (Fetch b) = false
is_wipe (Store b) = false
is_wipe (Put b n) = false
is_wipe (Get b n) = false
is_wipe (Wipe b n) = true
is_wipe Sync = false

abbrev pub is_sync : Command → Bool
is_sync (Fetch b) = false
is_sync (Store b) = false
is_sync (Put b n) = false
is_sync (Get b n) = false
is_sync (Wipe b n) = false
is_sync Sync = true

-- it puts bytes of its token on the medium
abbrev pub is_change : Command → Bool
is_change c = is_store c || is_put c || is_wipe c

-- it moves bytes between its token and the medium
abbrev pub is_transfer : Command → Bool
is_transfer c = is_get c || is_change c

-- a byte of a medium lies in n blocks from b on
abbrev pub lies_in : Setup → ℕ → ℕ → ℕ → Bool
lies_in S b n x = nat_le (b * size_of S) x && nat_lt x ((b + n) * size_of S)

-- it moves this byte of the medium
abbrev pub moves : Setup → ℕ → Command → Bool
moves S x c = is_transfer c && lies_in S (first_block c) (block_count S c) x

-- it passes this test, and its first block is this one
abbrev pub is_at : (Command → Bool) → ℕ → Command → Bool
is_at test b c = test c && nat_eq (first_block c) b

-- the done commands of a token, the newest first
unfoldable pub done_commands : List Entry → ℕ → List Command
done_commands [] t = []
done_commands (Done u c ∷ before) t = if nat_eq u t then c ∷ done_commands before t else done_commands before t
done_commands (e ∷ before) t = done_commands before t

-- a done command of the token passes this test
unfoldable pub has_done : (Command → Bool) → List Entry → ℕ → Bool
has_done test H t = list_any test (done_commands H t)

-- a done command of the token has moved this byte
abbrev pub is_moved : Setup → List Entry → ℕ → ℕ → Bool
is_moved S H t x = has_done (moves S x) H t
