-- How lists lie in a table of links: as rings, each with the head of its list.
use Rattle.std.specs.Prelude.{◌≡◌, ℕ, ◌+◌, ◌-◌, ◌<◌, ◌≤◌, ◌^◌, suc, zero, false, cond, nat_lt, eqb, List, [], ◌∷◌, length, map, Option, None, Some}
use Rattle.std.specs.List.{slice_index_or, range_with_len}
use Rattle.index_links.specs.declared.rings.Link.{Link}
use Rattle.index_links.specs.Lists.{LinkedLists, is_listed}

-- the place after place p; a place past the table is a ring alone
unfoldable pub after_at : List Link → ℕ → ℕ
after_at links p = (slice_index_or links p (record { before = p; after = p })).after

-- the place before place p
unfoldable pub before_at : List Link → ℕ → ℕ
before_at links p = (slice_index_or links p (record { before = p; after = p })).before

-- p, with left and right exchanged
unfoldable pub exchange : ℕ → ℕ → ℕ → ℕ
exchange left right p = cond (eqb p left) right (cond (eqb p right) left p)

-- the node at place p, and none for a head
unfoldable pub node_of : ℕ → ℕ → Option ℕ
node_of heads p = cond (nat_lt p heads) None (Some (p - heads))

-- the nodes from place p on, to the next head, and at most so many
unfoldable pub walk : (ℕ → ℕ) → ℕ → ℕ → ℕ → List ℕ
walk after heads zero p = []
walk after heads (suc most) p = cond (nat_lt p heads) [] ((p - heads) ∷ walk after heads most (after p))

-- the lists of a table whose first places are the heads, and the others the nodes
unfoldable pub lists_of : List Link → ℕ → LinkedLists
lists_of links heads = record {
  nodes = length links - heads;
  lists = map (λ l. walk (after_at links) heads (length links - heads) (after_at links l)) (range_with_len 0 heads);
}

-- the nodes xs lie between place p and place q
unfoldable pub Path : (ℕ → ℕ) → ℕ → ℕ → List ℕ → ℕ → Type 0
Path after heads p [] q = after p ≡ q
Path after heads p (x ∷ xs) q = (after p ≡ heads + x) × Path after heads (heads + x) xs q

-- the links are rings: what is after and what is before undo each other
pub record AreRings (links : List Link) : Type 0 where
  pub ahead : (p : ℕ) → p < length links → after_at links p < length links
  pub behind : (p : ℕ) → p < length links → before_at links p < length links
  pub back : (p : ℕ) → before_at links (after_at links p) ≡ p
  pub forth : (p : ℕ) → after_at links (before_at links p) ≡ p

-- from each head its ring comes back to it, and a node in no list is a ring alone
pub record AreLinked (links : List Link) (heads : ℕ) : Type 0 where
  pub rings : AreRings links
  pub room : heads ≤ length links
  pub heads_few : heads < 2 ^ 32
  pub few : length links - heads < 2 ^ 32
  pub paths : (l : ℕ) → l < heads → (xs : List ℕ) × Path (after_at links) heads l xs l
  pub idle : (x : ℕ) → is_listed (lists_of links heads) x ≡ false → after_at links (heads + x) ≡ heads + x
