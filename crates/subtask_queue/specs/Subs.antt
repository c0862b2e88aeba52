-- Unfinished units as a queue keeps them, and what each call makes of them (units: UEFI 2.10, 13.7; the queue: own profile).
use Rattle.std.specs.Prelude.{◌≡◌, ℕ, ◌+◌, ◌-◌, ◌*◌, ◌/◌, ◌<◌, ◌≤◌, Bool, true, not, ◌&&◌, ◌||◌, nat_eq, nat_le, if◌then◌else◌, List, [], ◌∷◌, ◌++◌, map, filter}
use Rattle.disk_split.specs.declared.geometry.Geometry.{Geometry}
use Rattle.disk_split.specs.declared.parts.Parts.{Parts}
use Rattle.disk_split.specs.declared.span.Span.{Span}
use Rattle.disk_split.specs.Parts.{part_of, spans_of}
use Rattle.disk_split.specs.Units.{group_size, up, whole_of, whole_end, middle, runs_from}
use Rattle.history.specs.declared.entry.Kind.{Kind}
use Rattle.history.specs.Tokens.{is_flush, changes_bytes}
use Rattle.history.specs.Marks.{all_from}
use Rattle.history.specs.Tasks.{Task, Moves, Syncs, Todo}
use Rattle.subtask_queue.specs.declared.sub.Sub.{Sub}
use Rattle.subtask_queue.specs.declared.sub.Sub.TheVariants.{Part, Run, Sync}

-- the token of its request
abbrev pub token_of : Sub → ℕ
token_of (Part token block from count write) = token
token_of (Run token block count write) = token
token_of (Sync token) = token

-- its first block, and 0 for a sync
abbrev pub block_of : Sub → ℕ
block_of (Part token block from count write) = block
block_of (Run token block count write) = block
block_of (Sync token) = 0

-- the unit may run now, where these blocks are held and a buffer set is free or not
unfoldable pub may_run : (ℕ → Bool) → Bool → Sub → Bool
may_run held free (Part token block from count write) = not write || (not (held block) && free)
may_run held free (Run token block count write) = not write || all_from (λ b. not (held b)) block count
may_run held free (Sync token) = true

-- a unit of this token
unfoldable pub is_of : ℕ → Sub → Bool
is_of token s = nat_eq token (token_of s)

-- a unit of this token or a later one
unfoldable pub is_from : ℕ → Sub → Bool
is_from token s = nat_le token (token_of s)

-- a unit with this first block
unfoldable pub has_block : ℕ → Sub → Bool
has_block block s = nat_eq block (block_of s)

-- the unit of this token with this first block
unfoldable pub is_unit : ℕ → ℕ → Sub → Bool
is_unit token block s = is_of token s && has_block block s

-- the first one of which the test holds is taken out
unfoldable pub without_first : (Sub → Bool) → List Sub → List Sub
without_first test [] = []
without_first test (s ∷ subs) = if test s then subs else s ∷ without_first test subs

-- all units of a token are taken out
unfoldable pub without_token : ℕ → List Sub → List Sub
without_token token subs = filter (λ s. not (is_of token s)) subs

-- each is a unit of a lower token
unfoldable pub AreBelow : ℕ → List Sub → Type 0
AreBelow token [] = Unit {0}
AreBelow token (s ∷ subs) = (token_of s < token) × AreBelow token subs

-- a part or a run of a request: which bytes of a group, or which blocks
abbrev pub sub_of_span : ℕ → ℕ → Bool → Span → Sub
sub_of_span size token write u =
    if u.whole
    then Run token u.block u.count write
    else Part token u.block (u.low - u.block * size) (u.high - u.low) write

abbrev pub sub_of_task : ℕ → ℕ → Bool → Task → Sub
sub_of_task size token write (Moves u) = sub_of_span size token write u
sub_of_task size token write Syncs = Sync token

-- how the queue keeps a unit of a history: an erase counts as a write
abbrev pub sub_of : ℕ → Todo → Sub
sub_of size todo = sub_of_task size todo.token (changes_bytes todo.kind) todo.task

-- the parts that are made of the range [a, z) with a whole group as the block
pub record AreParts (G : Geometry) (a z : ℕ) (parts : Parts) : Type 0 where
  pub ordered : a ≤ z
  pub under : parts.under ≡ part_of a (middle (group_size G) a z)
  pub first : parts.first_whole ≡ up (group_size G) a
  pub count : parts.whole ≡ whole_of (group_size G) a z
  pub over : parts.over ≡ part_of (whole_end (group_size G) a z) z

-- the parts, and between them the runs of the blocks of the whole groups
unfoldable pub spans_in : Geometry → Parts → List Span
spans_in G parts =
    spans_of G parts.under
    ++ (runs_from G.size (parts.first_whole * G.per) (parts.whole * G.per) ((parts.whole * G.per + 63) / 64) 0
    ++ spans_of G parts.over)

-- the units of a request in order: a flush has one sync, and the others their parts and runs
unfoldable pub subs_of_request : Geometry → ℕ → Kind → Parts → List Sub
subs_of_request G token kind parts =
    if is_flush kind
    then Sync token ∷ []
    else map (sub_of_span G.size token (changes_bytes kind)) (spans_in G parts)
