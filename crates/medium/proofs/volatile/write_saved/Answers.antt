use Rattle.std.proofs.Common.{◌≡◌, ℕ, ◌+◌, ◌<◌, ◌≤◌, ◌/◌, IsSome, length, subst, ap, ◌∙◌}
use Rattle.medium.proofs.Sizes.{count-is}
use Rattle.medium.proofs.Written.{written-after}
use Rattle.medium.specs.BlockMap.{held_block}
use Rattle.medium.specs.Cached.{HoldsOthers, restoration}
use Rattle.medium.proofs.volatile.write_saved.Goals as goal

pub returns-then-cached-clause-written : goal.returns-then-cached-clause-written
returns-then-cached-clause-written g c =
    let d = g.M.Medium.device c.args.inner.now in
    let t = c.requires.transfer in
    let shaped = g.met.M.Medium.shaped c.args.inner.now in
    let count : length c.args.bytes.now / c.from.result ≡ t.count = ap (λ (s : ℕ). length c.args.bytes.now / s) (c.from.ensures ∙ c.size.ensures) ∙ count-is (length c.args.bytes.now) t.count d.size shaped.size t.whole in
    let saves = c.in_ok-save.ensures in
    written-after d (g.M.Medium.device c.save.new.inner) (g.M.Medium.device c.write_blocks.new.self) c.args.cached (held_block c.args.saved.now) (held_block c.save.new.saved) c.args.lba c.args.bytes.now c.write_blocks.result c.if-cached.true shaped t saves.tried
    (subst (λ (n : ℕ). (b : ℕ) → c.args.lba ≤ b → b < c.args.lba + n → IsSome (held_block c.save.new.saved b)) count saves.held)
    (subst (λ (n : ℕ). HoldsOthers c.args.lba (c.args.lba + n) (held_block c.args.saved.now) (held_block c.save.new.saved)) count saves.others)
    (subst (λ (s : ℕ). restoration (held_block c.save.new.saved) s d.blocks d.now ≡ restoration (held_block c.args.saved.now) s d.blocks d.now) c.requires.size saves.restored)
    c.write_blocks.ensures.written
