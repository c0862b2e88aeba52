use Rattle.std.proofs.Common.{◌≡◌, length, arith, ap, refl, ◌∙◌}
use Rattle.std.specs.List.{refill}
use Rattle.std.specs.Option.{is_none}
use Rattle.std.specs.Vec.{vec_len}
use Rattle.block_gate.specs.Gates.{Gate, with_copy}
use Rattle.block_gate.proofs.set.Set.copy_mut.Goals as goal

pub returns : goal.returns
unfolding with_copy
returns c =
    let s = c.self.inside in
    let long : vec_len s.copy ≡ length s.copy.items = omega (arith, s.copy.ok) in (
      (refl, λ w. ap (λ n. record { ticket = s.ticket; block = s.block; out = is_none s.spare; copy = refill n s.copy.items w }) long ∙ ap (λ g. with_copy g w) c.self.view_is),
      record { writes_back = tt; value = c.deref_mut.ensures.value ∙ ap (λ (g : Gate). g.copy) c.self.view_is },
    )
