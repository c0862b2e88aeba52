-- The first unit of each outstanding token.
use Rattle.std.specs.Prelude.{◌≡◌, ℕ, ◌+◌, ◌-◌, ◌<◌, ◌≤◌, ◌^◌, cond, nat_lt, is_some, true, List, [], ◌∷◌, length, Option, None}
use Rattle.std.specs.List.{slice_index_or}
use Rattle.index_links.specs.Lists.{LinkedLists, list_at, is_among, AreApart}
use Rattle.subtask_queue.specs.declared.sub.Sub.{Sub}
use Rattle.subtask_queue.specs.Owned.{first_node, is_own, AreRising}

-- the nodes of the first units of the tokens from `base` on, and none for a token without units
pub record FirstNodes : Type 0 where
  pub base : ℕ
  pub nodes : List (Option ℕ)

-- the node of the first unit of this token
unfoldable pub first_at : FirstNodes → ℕ → Option ℕ
first_at firsts token = cond (nat_lt token firsts.base) None (slice_index_or firsts.nodes (token - firsts.base) None)

-- a token has a place
pub record HasSlot (firsts : FirstNodes) (token : ℕ) : Type 0 where
  pub after : firsts.base ≤ token
  pub inside : token - firsts.base < length firsts.nodes

-- of the tokens from `token` on, k is the least one that has a unit
pub record IsLeast (first : ℕ → Option ℕ) (token k : ℕ) : Type 0 where
  pub from : token ≤ k
  pub some : is_some (first k) ≡ true
  pub least : (t : ℕ) → token ≤ t → t < k → first t ≡ None

-- the tokens rise, and each one's first unit is known
pub record AreLed (units : List (ℕ × Sub)) (firsts : FirstNodes) : Type 0 where
  pub rising : AreRising 0 units
  pub first : (token : ℕ) → first_at firsts token ≡ first_node (is_own token) units

-- the numbers rise, from this one on
unfoldable pub IsRising : ℕ → List ℕ → Type 0
IsRising least [] = Unit {0}
IsRising least (x ∷ xs) = (least ≤ x) × IsRising (x + 1) xs

-- each token from `base` on has a node, which stands in list 0 exactly where the token has a unit, by token
pub record AreLive (base : ℕ) (nodes : List (Option ℕ)) (links : LinkedLists) : Type 0 where
  pub nodes_is : links.nodes ≡ length nodes
  pub few : length nodes < 2 ^ 32
  pub lists : length links.lists ≡ 2
  pub apart : AreApart links
  pub live : (p : ℕ) → is_among (list_at links 0) p ≡ is_some (slice_index_or nodes p None)
  pub rising : IsRising 0 (list_at links 0)
  pub below : (p : ℕ) → is_some (slice_index_or nodes p None) ≡ true → base + p < 2 ^ 64
