-- How the units of all tokens stand in nodes: those that wait, by token and byte.
use Rattle.std.specs.Prelude.{◌≡◌, ℕ, ◌≤◌, Bool, false, if◌then◌else◌, List, [], ◌∷◌, ◌++◌, length, map, slice_get, Option, None, Some, option_map}
use Rattle.std.specs.List.{find, slice_index_or}
use Rattle.index_links.specs.Lists.{LinkedLists, list_at, AreApart}
use Rattle.subtask_queue.specs.declared.sub.Sub.{Sub}
use Rattle.subtask_queue.specs.declared.sub.Sub.TheVariants.{Part}
use Rattle.subtask_queue.specs.Subs.{token_of, is_of, is_unit}

-- each is a unit of this token
unfoldable pub AreOf : ℕ → List Sub → Type 0
AreOf token [] = Unit {0}
AreOf token (s ∷ subs) = (token_of s ≡ token) × AreOf token subs

-- the unit in a node
unfoldable pub sub_at : List Sub → ℕ → Sub
sub_at subs n = slice_index_or subs n (Part 0 0 0 0 false)

-- some nodes, each with its unit
unfoldable pub units_at : List Sub → List ℕ → List (ℕ × Sub)
units_at subs nodes = map (λ n. (n, sub_at subs n)) nodes

-- the units of some nodes
unfoldable pub subs_in : List (ℕ × Sub) → List Sub
subs_in units = map (λ e. e.1) units

-- the node has a unit of this token
unfoldable pub is_own : ℕ → ℕ × Sub → Bool
is_own token e = is_of token e.1

-- the node has the unit of this token with this first block
unfoldable pub is_node : ℕ → ℕ → ℕ × Sub → Bool
is_node token block e = is_unit token block e.1

-- the first node of which the test holds
unfoldable pub first_node : (ℕ × Sub → Bool) → List (ℕ × Sub) → Option ℕ
first_node test units = option_map (λ e. e.0) (find test units)

-- the first node of which the test holds is taken out
unfoldable pub without_one : (ℕ × Sub → Bool) → List (ℕ × Sub) → List (ℕ × Sub)
without_one test [] = []
without_one test (e ∷ units) = if test e then units else e ∷ without_one test units

-- the tokens of the units rise, from this one on
unfoldable pub AreRising : ℕ → List (ℕ × Sub) → Type 0
AreRising least [] = Unit {0}
AreRising least (e ∷ units) = (least ≤ token_of e.1) × AreRising (token_of e.1) units

-- each node has a place for a unit, and stands in one of two lists at most: 0 waits, and 1, of at least so many, is free
pub record AreNodes (subs : List Sub) (links : LinkedLists) (spare : ℕ) : Type 0 where
  pub nodes : links.nodes ≡ length subs
  pub lists : length links.lists ≡ 2
  pub apart : AreApart links
  pub enough : spare ≤ length (list_at links 1)

-- these units stand behind the others, the first one in this node
pub record AreAppended (subs : List Sub) (first : Option ℕ) (old new : List (ℕ × Sub)) : Type 0 where
  pub units : List (ℕ × Sub)
  pub value : new ≡ old ++ units
  pub subs_is : subs_in units ≡ subs
  pub first_is : first ≡ option_map (λ e. e.0) (slice_get units 0)

-- the units that wait, and none before there are links
unfoldable pub waiting_in : Option (List Sub) → List Sub
waiting_in None = []
waiting_in (Some subs) = subs
