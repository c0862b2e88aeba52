-- A work that comes back late: its ticket holds no gate any more.
use Rattle.std.proofs.Common.{◌≡◌, ℕ, ◌+◌, ◌≤◌, ◌⊎◌, inl, inr, Bool, true, false, not, ◌||◌, List, [], ◌∷◌, length, None, eqb, refl, sym, ◌∙◌, ap, subst, arith}
use Rattle.std.specs.Prelude.{filter, cond}
use Rattle.std.specs.List.{list_any}
use Rattle.std.proofs.lemmas.Bool.{or_cases, or_left, or_right, and_parts}
use Rattle.medium.specs.Device.{Device}
use Rattle.drive.specs.Drives.{DriveState}
use Rattle.index_links.specs.Lists.{is_among, without}
use Rattle.block_gate.specs.Works.{Lent}
use Rattle.block_gate.specs.Gates.{Gates, gate_of, is_lent, is_out, is_ours, with_work_back, with_out, AreSound}
use Rattle.disk_core.specs.declared.parts.Core.{Core}
use Rattle.disk_core.specs.declared.answers.Stored.TheVariants.{Stale, Foreign}
use Rattle.disk_core.specs.Parts.{state_of}
use Rattle.disk_core.specs.Calls.{StoreSays}
use Rattle.disk_core.specs.Moves.{IsDisk, Reaches}

-- a work that is out under no gate is that of a revoked ticket
pub late-gone : (s : Gates) (w : Lent) → is_ours s w ≡ true → gate_of s.held w.ticket ≡ None → is_among s.gone w.ticket ≡ true
unfolding is_ours is_out is_lent
late-gone s w ours none = by (or_cases (is_among s.gone w.ticket) (is_lent (gate_of s.held w.ticket)) (and_parts (is_out s w.ticket) (eqb (length w.bytes) s.size) ours).0)
  where
    clash : false ≡ true → ⊥
    clash e = cc

    by : (is_among s.gone w.ticket ≡ true) ⊎ (is_lent (gate_of s.held w.ticket) ≡ true) → is_among s.gone w.ticket ≡ true
    by (inl gone) = gone
    by (inr lent) = absurd (clash (sym (ap is_lent none) ∙ lent))

-- the gates with these revoked tickets and so many free sets
unfoldable pub with_gone : Gates → List ℕ → ℕ → Gates
with_gone s gone free = record { size = s.size; held = s.held; gone = gone; free = free }

taking-gone : (s : Gates) (k : ℕ) → is_among s.gone k ≡ true → with_work_back s k ≡ with_gone s (without k s.gone) (s.free + 1)
unfolding with_work_back with_gone
taking-gone s k gone = λ i. record {
  size = s.size;
  held = cond (gone i) s.held (with_out k false s.held);
  gone = without k s.gone;
  free = cond (gone i) (s.free + 1) s.free;
}

pub without-among : (k x : ℕ) (xs : List ℕ) → is_among (without k xs) x ≡ true → is_among xs x ≡ true
unfolding is_among without
without-among k x [] is = is
without-among k x (y ∷ xs) is = by (eqb k y) (without-among k x xs) is
  where
    first : (list_any (eqb x) (filter (λ z. not (eqb k z)) xs) ≡ true → list_any (eqb x) xs ≡ true) → (eqb x y ≡ true) ⊎ (list_any (eqb x) (filter (λ z. not (eqb k z)) xs) ≡ true)
        → (eqb x y || list_any (eqb x) xs) ≡ true
    first more (inl is) = or_left (eqb x y) (list_any (eqb x) xs) is
    first more (inr is) = or_right (eqb x y) (list_any (eqb x) xs) (more is)

    by : (b : Bool) → (list_any (eqb x) (filter (λ z. not (eqb k z)) xs) ≡ true → list_any (eqb x) xs ≡ true) → list_any (eqb x) (cond (not b) (y ∷ filter (λ z. not (eqb k z)) xs) (filter (λ z. not (eqb k z)) xs)) ≡ true → (eqb x y || list_any (eqb x) xs) ≡ true
    by true more is = or_right (eqb x y) (list_any (eqb x) xs) (more is)
    by false more is = first more (or_cases (eqb x y) (list_any (eqb x) (filter (λ z. not (eqb k z)) xs)) is)

pub without-less : (k : ℕ) (xs : List ℕ) → length (without k xs) ≤ length xs
unfolding without
without-less k [] = omega arith
without-less k (y ∷ xs) = by (eqb k y) (without-less k xs)
  where
    by : (b : Bool) → length (filter (λ z. not (eqb k z)) xs) ≤ length xs → length (cond (not b) (y ∷ filter (λ z. not (eqb k z)) xs) (filter (λ z. not (eqb k z)) xs)) ≤ length (y ∷ xs)
    by true less = omega arith
    by false less = omega arith

without-one : (k : ℕ) (xs : List ℕ) → is_among xs k ≡ true → length (without k xs) + 1 ≤ length xs
unfolding without is_among
without-one k [] is = cc
without-one k (y ∷ xs) is = by (eqb k y) is (without-less k xs) (without-one k xs)
  where
    by : (b : Bool) → (b || list_any (eqb k) xs) ≡ true → length (filter (λ z. not (eqb k z)) xs) ≤ length xs → (list_any (eqb k) xs ≡ true → length (filter (λ z. not (eqb k z)) xs) + 1 ≤ length xs)
        → length (cond (not b) (y ∷ filter (λ z. not (eqb k z)) xs) (filter (λ z. not (eqb k z)) xs)) + 1 ≤ length (y ∷ xs)
    by true is less more = omega arith
    by false is less more = (let one = more is in omega arith)

out-fewer : (s : Gates) (gone : List ℕ) (free k : ℕ) → (is_among gone k ≡ true → is_among s.gone k ≡ true) → is_out (with_gone s gone free) k ≡ true → is_out s k ≡ true
unfolding is_out with_gone
out-fewer s gone free k fewer out = elim (or_cases (is_among gone k) (is_lent (gate_of s.held k)) out) [
  | inl is ↦ or_left (is_among s.gone k) (is_lent (gate_of s.held k)) (fewer is)
  | inr lent ↦ or_right (is_among s.gone k) (is_lent (gate_of s.held k)) lent
]

-- the disk stays one where no revoked ticket is new, and no more sets are kept than before
pub gone-sound : {M : Type 0} (device : M → Device) (prepared : M → ℕ → Type 0) (drive : DriveState M) (c : Core) (gone : List ℕ) (free : ℕ) → IsDisk device prepared drive c
    → ((k : ℕ) → is_among gone k ≡ true → is_among c.gates.gone k ≡ true) → length gone + free ≤ length c.gates.gone + c.gates.free → AreSound (with_gone c.gates gone free)
    → IsDisk device prepared drive (record c { gates = with_gone c.gates gone free })
unfolding state_of with_gone
gone-sound device prepared drive c gone free sound fewer few apart = record {
  setup = refl;
  geometry = sound.geometry;
  facts = record {
    legal = sound.facts.legal;
    media = sound.facts.media;
    tokens = sound.facts.tokens;
    gates = (let follow = sound.facts.gates in record {
      sized = follow.sized;
      each = follow.each;
      all = follow.all;
      below = λ k out. follow.below k (out-fewer c.gates gone free k (fewer k) out);
    });
  };
  drive_follows = sound.drive_follows;
  records = sound.records;
  queue = sound.queue;
  holders = (let follow = sound.holders in record {
    each = follow.each;
    only = follow.only;
    apart = apart;
    paired = follow.paired;
    rising = follow.rising;
    fits = (let fits = follow.fits in omega arith);
  });
  room = record { owed = sound.room.owed; places = sound.room.places; few = sound.room.few };
  ready = sound.ready;
  fitted = record { blocks = sound.fitted.blocks; accepts = sound.fitted.accepts; fetches_are = sound.fitted.fetches_are; group = sound.fitted.group; zeros = sound.fitted.zeros };
}

module _ {M : Type 0} (device : M → Device) (prepared : M → ℕ → Type 0) (drive : DriveState M) (c : Core) (sound : IsDisk device prepared drive c) where
  -- the buffers of a late work are taken back
  pub late-reaches : (w : Lent) (s : Gates) → gate_of c.gates.held w.ticket ≡ None → is_ours c.gates w ≡ true → s ≡ with_work_back c.gates w.ticket → AreSound s
      → Reaches device prepared drive c drive (record c { gates = s }) (λ old new. StoreSays old w Stale new)
  unfolding StoreSays state_of
  late-reaches w s none ours is apart =
      let gone = late-gone c.gates w ours none in
      let same = is ∙ taking-gone c.gates w.ticket gone in
      record {
        sound = subst (λ g. IsDisk device prepared drive (record c { gates = g })) (sym same)
            (gone-sound device prepared drive c (without w.ticket c.gates.gone) (c.gates.free + 1) sound (λ k. without-among w.ticket k c.gates.gone) (let one = without-one w.ticket c.gates.gone gone in omega arith) (subst AreSound same apart));
        says = (ours, none, ap (λ g. record (state_of device drive c) { gates = g }) is);
      }

  -- a work of another disk comes back as it is
  pub foreign-reaches : (w back : Lent) (s : Gates) → (is_ours c.gates w ≡ false) × (back ≡ w) × (s ≡ c.gates) → Reaches device prepared drive c drive (record c { gates = s }) (λ old new. StoreSays old w (Foreign back) new)
  unfolding StoreSays state_of
  foreign-reaches w back s (other, same, is) = record {
    sound = subst (λ g. IsDisk device prepared drive (record c { gates = g })) (sym is) sound;
    says = (other, same, ap (λ g. record (state_of device drive c) { gates = g }) is);
  }
