use Rattle.std.proofs.Common.{◌≡◌, ℕ, ◌*◌, ◌≤◌, length, sym, ap, subst, arith, ◌∙◌}
use Rattle.std.proofs.lemmas.List.{length-take-le}
use Rattle.std.proofs.Math.Nat.{mul-le-mul_left}
use Rattle.medium.proofs.Restored.{restored-saved}
use Rattle.medium.specs.BlockMap.{held_block}
use Rattle.medium.specs.Cached.{most_blocks}
use Rattle.medium.specs.Device.{AreToldAt}
use Rattle.medium.proofs.saving.save_run.Goals as goal

pub returns-clause-restored : goal.returns-clause-restored
returns-clause-restored g c =
    let d = g.M.Medium.device c.args.inner.now in
    let size : d.size ≡ c.args.saved.now.size = sym c.requires.size in
    let told : AreToldAt d.now (c.args.first * c.args.saved.now.size) c.read_blocks.new.out = subst (λ (s : ℕ). AreToldAt d.now (c.args.first * s) c.read_blocks.new.out) size c.in_ok-read_blocks.ensures.read.given in
    let room : c.args.count * c.args.saved.now.size ≤ most_blocks * c.args.saved.now.size = omega (arith, mul-le-mul_left c.args.saved.now.size c.requires.most) in
    let fits : c.args.count * c.size.result ≤ length c.args.scratch.now = subst (λ (s : ℕ). c.args.count * s ≤ length c.args.scratch.now) (sym (c.size.ensures ∙ size)) (omega (arith, room, c.requires.room)) in
    let long : length c.read_blocks.new.out ≡ c.args.count * c.args.saved.now.size = c.read_blocks.auto.out ∙ length-take-le (c.args.count * c.size.result) c.args.scratch.now fits ∙ ap (λ (s : ℕ). c.args.count * s) (c.size.ensures ∙ size) in
    restored-saved (held_block c.args.saved.now) (held_block c.hold_all.new.self) c.args.saved.now.size d.blocks d.now c.args.first c.args.count c.read_blocks.new.out c.hold_all.ensures.held c.requires.unsaved long told
