-- Gates: which tickets hold which blocks, and what each call makes of them (own profile).
use Rattle.std.specs.Prelude.{◌≡◌, ℕ, ◌+◌, ◌-◌, Bool, true, false, cond, not, ◌&&◌, ◌||◌, eqb, nat_le, nat_lt, List, [], ◌∷◌, ◌++◌, length, map, drop, min, Option, None, Some}
use Rattle.std.specs.List.{find, filter, list_any, refill}
use Rattle.index_links.specs.Lists.{is_among, without}
use Rattle.block_gate.specs.Works.{Lent}

-- a gate: its ticket, the block that it holds, whether its work is out, and the kept copy of the block
pub record Gate : Type 0 where
  pub ticket : ℕ
  pub block : ℕ
  pub out : Bool
  pub copy : List ℕ

-- the gates: the bytes of a block, the gates that are held, the revoked tickets whose work is out, and how many sets are free
pub record Gates : Type 0 where
  pub size : ℕ
  pub held : List Gate
  pub gone : List ℕ
  pub free : ℕ

-- the gate of a ticket
unfoldable pub gate_of : List Gate → ℕ → Option Gate
gate_of held t = find (λ g. eqb t g.ticket) held

-- whether block b is held
unfoldable pub is_block_held : List Gate → ℕ → Bool
is_block_held held b = list_any (λ g. eqb g.block b) held

-- whether one of the blocks from b on, so many of them, is held
unfoldable pub is_range_held : List Gate → ℕ → ℕ → Bool
is_range_held held b count = list_any (λ g. nat_le b g.block && nat_lt g.block (b + count)) held

-- the lesser of a ticket and what else there is
unfoldable pub lesser : ℕ → Option ℕ → Option ℕ
lesser t None = Some t
lesser t (Some u) = Some (min t u)

-- the least ticket that holds a gate
unfoldable pub least_ticket : List Gate → Option ℕ
least_ticket [] = None
least_ticket (g ∷ held) = lesser g.ticket (least_ticket held)

-- the gates without those of ticket t
unfoldable pub without_ticket : ℕ → List Gate → List Gate
without_ticket t held = filter (λ g. not (eqb t g.ticket)) held

-- the gates, with the work of ticket t out or in
unfoldable pub with_out : ℕ → Bool → List Gate → List Gate
with_out t out held = map (λ g. cond (eqb t g.ticket) (record g { out = out }) g) held

-- whether the work of a gate is out
unfoldable pub is_lent : Option Gate → Bool
is_lent None = false
is_lent (Some g) = g.out

-- whether a work of ticket t is out
unfoldable pub is_out : Gates → ℕ → Bool
is_out s t = is_among s.gone t || is_lent (gate_of s.held t)

-- how many works are out
unfoldable pub outs : Gates → ℕ
outs s = length (filter (λ g. g.out) s.held) + length s.gone

-- whether a work is one of these gates
unfoldable pub is_ours : Gates → Lent → Bool
is_ours s w = is_out s w.ticket && eqb (length w.bytes) s.size

-- no gate is held, and all sets are free
unfoldable pub idle_gates : ℕ → ℕ → Gates
idle_gates sets size = record { size = size; held = []; gone = []; free = sets }

-- a block is held by a ticket, with this copy
unfoldable pub with_gate : Gates → ℕ → ℕ → List ℕ → Gates
with_gate s block ticket copy = record {
  size = s.size;
  held = s.held ++ record { ticket = ticket; block = block; out = false; copy = copy } ∷ [];
  gone = s.gone;
  free = s.free - 1;
}

-- the work of a ticket goes out
unfoldable pub with_work_out : Gates → ℕ → Gates
with_work_out s t = record { size = s.size; held = with_out t true s.held; gone = s.gone; free = s.free }

-- a ticket holds no gate any more: its set is free, or the ticket is revoked while its work is out
unfoldable pub without_hold : Gates → ℕ → Gates
without_hold s t = record {
  size = s.size;
  held = without_ticket t s.held;
  gone = cond (is_lent (gate_of s.held t)) (s.gone ++ t ∷ []) s.gone;
  free = cond (is_lent (gate_of s.held t)) s.free (s.free + 1);
}

-- a work comes back: the set of a revoked ticket is free, and a gate's work is in
unfoldable pub with_work_back : Gates → ℕ → Gates
with_work_back s t = record {
  size = s.size;
  held = cond (is_among s.gone t) s.held (with_out t false s.held);
  gone = without t s.gone;
  free = cond (is_among s.gone t) (s.free + 1) s.free;
}

-- the first so many revoked tickets are forgotten, and their sets free
unfoldable pub with_new_sets : Gates → ℕ → Gates
with_new_sets s count = record { size = s.size; held = s.held; gone = drop count s.gone; free = s.free + count }

-- a gate with its copy filled
unfoldable pub with_copy : Gate → List ℕ → Gate
with_copy g bytes = record { ticket = g.ticket; block = g.block; out = g.out; copy = refill (length g.copy) g.copy bytes }

-- no two gates hold one block, each ticket is out or holds once, and each copy is a whole block
pub record AreSound (s : Gates) : Type 0 where
  pub one_block : (t u : ℕ) (g h : Gate) → gate_of s.held t ≡ Some g → gate_of s.held u ≡ Some h → g.block ≡ h.block → t ≡ u
  pub one_ticket : (t : ℕ) → is_among s.gone t ≡ true → gate_of s.held t ≡ None
  pub long : (t : ℕ) (g : Gate) → gate_of s.held t ≡ Some g → length g.copy ≡ s.size
