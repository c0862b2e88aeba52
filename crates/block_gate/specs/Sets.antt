-- How gates lie in buffer sets, which are the nodes of three lists: free, held, and out under a revoked ticket.
use Rattle.std.specs.Prelude.{◌≡◌, ℕ, ◌+◌, ◌<◌, ◌≤◌, Bool, true, false, not, ◌&&◌, eqb, nat_le, nat_lt, List, [], length, map}
use Rattle.std.specs.List.{slice_index_or}
use Rattle.index_links.specs.Lists.{LinkedLists, list_at, is_among, AreApart}
use Rattle.block_gate.specs.Gates.{Gate, Gates}
use Rattle.block_gate.specs.declared.finding.Sought.{Sought}
use Rattle.block_gate.specs.declared.finding.Sought.TheVariants.{Ticket, Blocks}

-- what set n holds
unfoldable pub gate_at : List Gate → ℕ → Gate
gate_at sets n = slice_index_or sets n (record { ticket = 0; block = 0; out = false; copy = [] })

-- what the sets of a list hold
unfoldable pub gates_in : List Gate → List ℕ → List Gate
gates_in sets nodes = map (gate_at sets) nodes

-- the tickets of the sets of a list
unfoldable pub tickets_in : List Gate → List ℕ → List ℕ
tickets_in sets nodes = map (λ n. (gate_at sets n).ticket) nodes

-- the gates of sets whose free nodes are in list 0, held ones in list 1, and those of revoked tickets in list 2
unfoldable pub gates_of : List Gate → LinkedLists → ℕ → Gates
gates_of sets links size = record {
  size = size;
  held = gates_in sets (list_at links 1);
  gone = tickets_in sets (list_at links 2);
  free = length (list_at links 0);
}

-- whether a gate is the one that is sought
unfoldable pub is_sought : Sought → Gate → Bool
is_sought (Ticket t) g = eqb t g.ticket
is_sought (Blocks b count) g = nat_le b g.block && nat_lt g.block (b + count)

-- whether the work of a gate is out, or in
unfoldable pub is_so : Bool → Gate → Bool
is_so true g = g.out
is_so false g = not g.out

-- there is a set; each is a node, has a copy of a whole block, and its work is in while it is free and out while its ticket is revoked;
-- no two sets that are held or out have one ticket, and no two that are held one block
pub record AreSets (sets : List Gate) (links : LinkedLists) (size : ℕ) : Type 0 where
  pub nodes : links.nodes ≡ length sets
  pub lists : length links.lists ≡ 3
  pub few : length sets ≤ 64
  pub some : (l : ℕ) × (0 < length (list_at links l))
  pub apart : AreApart links
  pub long : (n : ℕ) → n < length sets → length (gate_at sets n).copy ≡ size
  pub free_in : (n : ℕ) → is_among (list_at links 0) n ≡ true → (gate_at sets n).out ≡ false
  pub gone_out : (n : ℕ) → is_among (list_at links 2) n ≡ true → (gate_at sets n).out ≡ true
  pub tickets : (l m a b : ℕ) → 0 < l → 0 < m → is_among (list_at links l) a ≡ true → is_among (list_at links m) b ≡ true →
      (gate_at sets a).ticket ≡ (gate_at sets b).ticket → a ≡ b
  pub blocks : (a b : ℕ) → is_among (list_at links 1) a ≡ true → is_among (list_at links 1) b ≡ true → (gate_at sets a).block ≡ (gate_at sets b).block → a ≡ b
