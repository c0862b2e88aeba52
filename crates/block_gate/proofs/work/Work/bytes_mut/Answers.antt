use Rattle.std.proofs.Common.{◌≡◌, length, take, arith, ap, refl, ◌∙◌}
use Rattle.std.specs.List.{refill}
use Rattle.std.specs.Vec.{vec_len}
use Rattle.block_gate.specs.Works.{Lent, with_new_bytes}
use Rattle.block_gate.proofs.work.Work.bytes_mut.Goals as goal

pub returns : goal.returns
unfolding with_new_bytes
returns c =
    let s = c.self.inside in
    let long : vec_len s.bytes ≡ length s.bytes.items = omega (arith, s.bytes.ok) in (
      (
        refl,
        λ w. ap (λ n. record { ticket = s.ticket; block = s.block; from = s.from; bytes = refill n s.bytes.items w; patch = take s.count s.patch.items }) long
            ∙ ap (λ v. with_new_bytes v w) c.self.view_is,
      ),
      record { writes_back = tt; value = c.deref_mut.ensures.value ∙ ap (λ (v : Lent). v.bytes) c.self.view_is },
    )
