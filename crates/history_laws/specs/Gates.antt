-- What changes a held group (own profile).
use Rattle.std.specs.Prelude.{ℕ, Bool, false, nat_eq, ◌&&◌}
use Rattle.history.specs.declared.entry.Command.{Command}
use Rattle.history.specs.declared.entry.Command.TheVariants.{Fetch, Store, Put, Get, Wipe, Sync}
use Rattle.history.specs.declared.entry.Entry.{Entry}
use Rattle.history.specs.declared.entry.Entry.TheVariants.{Done, Fault}

abbrev pub is_store_at : ℕ → Command → Bool
is_store_at b (Store d) = nat_eq d b
is_store_at b (Fetch d) = false
is_store_at b (Put d n) = false
is_store_at b (Get d n) = false
is_store_at b (Wipe d n) = false
is_store_at b Sync = false

-- the token's store of the group that begins at this block, done or failed
abbrev pub is_store_of : ℕ → ℕ → Entry → Bool
is_store_of t b (Done u c) = nat_eq u t && is_store_at b c
is_store_of t b (Fault u c done) = nat_eq u t && is_store_at b c
is_store_of t b e = false
