use Rattle.std.proofs.Common.{rules, ◌≡◌, ◌+◌, ap, length, ◌∙◌, arith}
use Rattle.shared_disk.specs.Pens.{PenEnd}
use Rattle.shared_disk.proofs.LogKeeps.{adds}
use Rattle.shared_disk.proofs.pens.Pen.add.Goals as goal

pub store-requires : goal.store-requires
store-requires g c =
    let log = ap (λ (pen : PenEnd). length pen.log) (c.self.view_is ∙ c.items-before.ensures.same) in
    let counted : c.items-before.result + c.args.count ≡ length g.N.ItemsName.items + length c.self.inside.seat.me.0.log =
    (let count = c.requires.counted in let before = c.items-before.ensures.items in omega arith) in
    (search rules, search rules, adds _ _ _ _ _ c.self.invariant.2 counted)
