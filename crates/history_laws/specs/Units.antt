-- Which commands a unit of a request has (own profile).
use Rattle.std.specs.Prelude.{◌≡◌, ◌⊎◌, Bool, true, false, not, ◌&&◌, List, [], ◌∷◌}
use Rattle.disk_split.specs.declared.span.Span.{Span}
use Rattle.disk_split.specs.Units.{IsUnit}
use Rattle.history.specs.declared.entry.Kind.{Kind}
use Rattle.history.specs.declared.entry.Command.{Command}
use Rattle.history.specs.declared.entry.Command.TheVariants.{Fetch, Store, Put, Get, Wipe, Sync}
use Rattle.history.specs.Setup.{Setup}
use Rattle.history.specs.Tokens.{Request, is_read, is_write, is_flush, is_erase, changes_bytes, from_of, until_of}
use Rattle.history.specs.Commands.{first_block, block_count}

-- a part of a write or an erase is fetched and stored, a run of a write put and of an erase wiped; a read gets both
abbrev pub is_span_command : Kind → Bool → Command → Bool
is_span_command kind whole (Fetch b) = changes_bytes kind && not whole
is_span_command kind whole (Store b) = changes_bytes kind && not whole
is_span_command kind whole (Put b n) = is_write kind && whole
is_span_command kind whole (Get b n) = is_read kind
is_span_command kind whole (Wipe b n) = is_erase kind && whole
is_span_command kind whole Sync = false

-- the command is of this part or run of the request
pub record IsUnitCommand (S : Setup) (r : Request) (c : Command) (u : Span) : Type 0 where
  pub unit : IsUnit S.geometry (from_of S r) (until_of S r) u
  pub block : first_block c ≡ u.block
  pub count : block_count S c ≡ u.count
  pub kind : is_span_command r.asked.kind u.whole c ≡ true

-- it is of a unit of the request, or the sync of a flush
abbrev pub IsTaskCommand : Setup → Request → Command → Type 0
IsTaskCommand S r c = ((u : Span) × IsUnitCommand S r c u) ⊎ ((c ≡ Sync) × (is_flush r.asked.kind ≡ true))

unfoldable pub AreTaskCommands : Setup → Request → List Command → Type 0
AreTaskCommands S r [] = Unit {0}
AreTaskCommands S r (c ∷ older) = IsTaskCommand S r c × AreTaskCommands S r older
