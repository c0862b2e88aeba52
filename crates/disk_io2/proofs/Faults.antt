-- What became of the faults of the medium that is in, over commands one after the other.
use Rattle.std.proofs.Common.{◌≡◌, ℕ, zero, suc, ◌≤◌, true, List, [], ◌∷◌, slice_get, Some, refl, sym, ◌∙◌, ap, subst, arith}
use Rattle.std.specs.Prelude.{slice_set}
use Rattle.medium.specs.Device.{Device}
use Rattle.medium.specs.Counts.{Rose}
use Rattle.history.specs.Eras.{inserts, is_fault}
use Rattle.history.specs.Next.{Turn, Outcome, Made, Failed, entry_of}
use Rattle.disk_core.specs.State.{State}
use Rattle.disk_core.specs.Calls.{IsCommanded}
use Rattle.disk_io2.specs.Blocking.{OnFaults, FaultsRose}

set-there : (xs : List Device) (i : ℕ) (x y : Device) → slice_get xs i ≡ Some x → slice_get (slice_set xs i y) i ≡ Some y
set-there [] i x y there = cc
set-there (z ∷ xs) zero x y there = refl
set-there (z ∷ xs) (suc i) x y there = set-there xs i x y there

device-same : (x y : Device) → Some x ≡ Some y → x ≡ y
device-same x y e = cc

-- one command
pub faults-command : (old new : State) (outcome : Outcome) (become : ℕ → ℕ → Type 0) → (c : IsCommanded old outcome new) → become c.before.faults c.after.faults → OnFaults old new become
faults-command old new outcome become c so = record {
  before = c.before;
  after = c.after;
  was = c.was_in;
  is = rw (c.devices) (set-there old.devices (inserts old.entries) c.before c.after c.was_in);
  faults = so;
}

pub faults-failed : (old new : State) (turn : Turn) (outcome : Outcome) → IsCommanded old outcome new → is_fault (entry_of turn outcome) ≡ true → FaultsRose old new
faults-failed old new turn Made c failed = cc
faults-failed old new turn (Failed done) c failed = faults-command old new (Failed done) Rose c (c.cause done refl)

-- where no medium changed before, or after
pub faults-from : (a b c : State) (become : ℕ → ℕ → Type 0) → inserts b.entries ≡ inserts a.entries → b.devices ≡ a.devices → OnFaults b c become → OnFaults a c become
faults-from a b c become same devices on = record {
  before = on.before;
  after = on.after;
  was = ap (λ i. slice_get a.devices i) (sym same) ∙ (ap (λ l. slice_get l (inserts b.entries)) (sym devices) ∙ on.was);
  is = ap (λ i. slice_get c.devices i) (sym same) ∙ on.is;
  faults = on.faults;
}

pub faults-to : (a b c : State) (become : ℕ → ℕ → Type 0) → c.devices ≡ b.devices → OnFaults a b become → OnFaults a c become
faults-to a b c become devices on = record {
  before = on.before;
  after = on.after;
  was = on.was;
  is = ap (λ l. slice_get l (inserts a.entries)) devices ∙ on.is;
  faults = on.faults;
}

-- one after the other
pub faults-on : (a b c : State) (first then both : ℕ → ℕ → Type 0) → ((x y z : ℕ) → first x y → then y z → both x z) → inserts b.entries ≡ inserts a.entries → OnFaults a b first → OnFaults b c then → OnFaults a c both
faults-on a b c first then both compose same one two =
    let there : slice_get b.devices (inserts a.entries) ≡ Some two.before = ap (λ i. slice_get b.devices i) (sym same) ∙ two.was in
    let mid : two.before ≡ one.after = device-same two.before one.after (sym there ∙ one.is) in
    record {
      before = one.before;
      after = two.after;
      was = one.was;
      is = ap (λ i. slice_get c.devices i) (sym same) ∙ two.is;
      faults = compose one.before.faults one.after.faults two.after.faults one.faults (subst (λ d. then d.faults two.after.faults) mid two.faults);
    }

pub later-later : (x y z : ℕ) → x ≤ y → y ≤ z → x ≤ z
later-later x y z one two = omega arith

pub rose-later : (x y z : ℕ) → Rose x y → y ≤ z → Rose x z
rose-later x y z one two = omega (arith, one, two)

pub later-rose : (x y z : ℕ) → x ≤ y → Rose y z → Rose x z
later-rose x y z one two = omega (arith, one, two)
