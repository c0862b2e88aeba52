-- New buffers for sets whose works are out under a revoked ticket.
use Rattle.std.proofs.Common.{◌≡◌, ℕ, zero, suc, ◌+◌, ◌-◌, ◌<◌, ◌≤◌, true, List, [], ◌∷◌, length, drop, eqb, sym, ap, subst, arith, Result, Ok, Err, IfOk, OnErr}
use Rattle.std.proofs.lemmas.Bool.{or_right}
use Rattle.std.proofs.lemmas.List.{length-drop}
use Rattle.medium.specs.Device.{Device}
use Rattle.drive.specs.Drives.{DriveState}
use Rattle.index_links.specs.Lists.{is_among}
use Rattle.block_gate.specs.Gates.{Gates, with_new_sets, AreSound}
use Rattle.disk_core.specs.declared.parts.Core.{Core}
use Rattle.disk_core.specs.Parts.{state_of}
use Rattle.disk_core.specs.Moves.{IsDisk, Reaches}
use Rattle.disk_core.specs.Calls.{RefitSays}
use Rattle.disk_core.proofs.Late.{with_gone, gone-sound}

among-drop : (n : ℕ) (xs : List ℕ) (x : ℕ) → is_among (drop n xs) x ≡ true → is_among xs x ≡ true
unfolding is_among
among-drop zero xs x is = is
among-drop (suc n) [] x is = is
among-drop (suc n) (y ∷ xs) x is = or_right (eqb x y) (is_among xs x) (among-drop n xs x is)

refit-sound : {M : Type 0} (device : M → Device) (prepared : M → ℕ → Type 0) (drive : DriveState M) (c : Core) (n : ℕ) → IsDisk device prepared drive c → n ≤ length c.gates.gone → AreSound (with_new_sets c.gates n)
    → IsDisk device prepared drive (record c { gates = with_new_sets c.gates n })
unfolding with_new_sets with_gone
refit-sound device prepared drive c n sound within apart =
    gone-sound device prepared drive c (drop n c.gates.gone) (c.gates.free + n) sound (λ k. among-drop n c.gates.gone k) (let less = length-drop n c.gates.gone in omega arith) apart

pub refit-reaches : {M E : Type 0} (device : M → Device) (prepared : M → ℕ → Type 0) (drive : DriveState M) (c : Core) (result : Result ℕ E) (s : Gates) → IsDisk device prepared drive c
    → IfOk result (λ n. n ≡ length c.gates.gone) → IfOk result (λ n. s ≡ with_new_sets c.gates n) → OnErr result (s ≡ with_new_sets c.gates (length c.gates.gone - length s.gone))
    → IfOk result (λ n. s.held ≡ [] → 0 < s.free) → OnErr result (0 < length s.gone) → AreSound s
    → Reaches device prepared drive c drive (record c { gates = s }) (λ old new. RefitSays old result new)
unfolding RefitSays state_of
refit-reaches device prepared drive c (Ok n) s sound all ok err some left apart = record {
  sound = subst (λ g. IsDisk device prepared drive (record c { gates = g })) (sym ok) (refit-sound device prepared drive c n sound (subst (λ m. m ≤ length c.gates.gone) (sym all) (omega arith)) (subst AreSound ok apart));
  says = (all, ap (λ g. record (state_of device drive c) { gates = g }) ok, some);
}
refit-reaches device prepared drive c (Err e) s sound all ok err some left apart = record {
  sound = subst (λ g. IsDisk device prepared drive (record c { gates = g })) (sym err) (refit-sound device prepared drive c (length c.gates.gone - length s.gone) sound (omega arith) (subst AreSound err apart));
  says = (ap (λ g. record (state_of device drive c) { gates = g }) err, left);
}
