-- Lists of nodes, and what each call makes of them (own profile).
use Rattle.std.specs.Prelude.{◌≡◌, ℕ, ◌+◌, ◌<◌, Bool, true, not, eqb, List, [], ◌∷◌, ◌++◌, map, replicate}
use Rattle.std.specs.List.{list_any, filter, slice_index_or, slice_set, IsDistinct}

-- the number of nodes, and for each list the nodes in it, the first one first
pub record LinkedLists : Type 0 where
  pub nodes : ℕ
  pub lists : List (List ℕ)

-- the nodes of list l
unfoldable pub list_at : LinkedLists → ℕ → List ℕ
list_at s l = slice_index_or s.lists l []

-- whether x is one of xs
unfoldable pub is_among : List ℕ → ℕ → Bool
is_among xs x = list_any (eqb x) xs

-- whether node x is in a list
unfoldable pub is_listed : LinkedLists → ℕ → Bool
is_listed s x = list_any (λ xs. is_among xs x) s.lists

-- xs with x left out
unfoldable pub without : ℕ → List ℕ → List ℕ
without x xs = filter (λ y. not (eqb x y)) xs

-- all lists are empty
unfoldable pub empty_lists : ℕ → ℕ → LinkedLists
empty_lists nodes lists = record { nodes = nodes; lists = replicate lists [] }

-- more nodes, which are in no list
unfoldable pub with_more_nodes : LinkedLists → ℕ → LinkedLists
with_more_nodes s more = record { nodes = s.nodes + more; lists = s.lists }

-- node x at the end of list l
unfoldable pub with_node_at_end : LinkedLists → ℕ → ℕ → LinkedLists
with_node_at_end s l x = record { nodes = s.nodes; lists = slice_set s.lists l (list_at s l ++ x ∷ []) }

-- node x in no list
unfoldable pub without_node : LinkedLists → ℕ → LinkedLists
without_node s x = record { nodes = s.nodes; lists = map (without x) s.lists }

-- the nodes of list start at the end of list end
unfoldable pub with_list_at_end : LinkedLists → ℕ → ℕ → LinkedLists
with_list_at_end s start end = record { nodes = s.nodes; lists = slice_set (slice_set s.lists end (list_at s end ++ list_at s start)) start [] }

-- each node in a list is one of the nodes, and stands there alone
pub record AreApart (s : LinkedLists) : Type 0 where
  pub within : (l x : ℕ) → is_among (list_at s l) x ≡ true → x < s.nodes
  pub alone : (l m x : ℕ) → is_among (list_at s l) x ≡ true → is_among (list_at s m) x ≡ true → l ≡ m
  pub distinct : (l : ℕ) → IsDistinct eqb (list_at s l)
