use Rattle.std.proofs.Common.{◌≡◌, ◌∙◌, length, arith, ap, sym, subst, refl, set}
use Rattle.std.specs.List.{refill}
use Rattle.block_gate.specs.Gates.{Gate, with_gate, with_copy}
use Rattle.block_gate.specs.Sets.{gates_of, AreSets}
use Rattle.block_gate.proofs.Views.{inside-of}
use Rattle.block_gate.proofs.Found.{free-is, size-is}
use Rattle.block_gate.proofs.Calls.{holds-so, mid-read, first-free, copy-long}
use Rattle.block_gate.proofs.gates.Gates.hold.Goals as goal

pub first_of-node-requires-clause-some : goal.first_of-node-requires-clause-some
first_of-node-requires-clause-some c = omega (arith, free-is c.self.inside.sets.items c.self.inside.links c.self.inside.size c.args.self.now c.self.view_is, c.requires.free)

pub relink-requires-clause-node : goal.relink-requires-clause-node
relink-requires-clause-node c = omega (arith, inside-of c.self.inside.sets.items c.self.inside.links c.self.inside.size 0 c.first_of-node.result c.self.invariant (first-free c.self.inside.links c.first_of-node.result c.first_of-node.ensures), c.self.invariant.nodes)

pub index_mut-requires : goal.index_mut-requires
index_mut-requires c = omega (arith, inside-of c.self.inside.sets.items c.self.inside.links c.self.inside.size 0 c.first_of-node.result c.self.invariant (first-free c.self.inside.links c.first_of-node.result c.first_of-node.ensures), c.self.inside.sets.ok)

pub index_mut-requires-2 : goal.index_mut-requires-2
index_mut-requires-2 c = omega (arith, inside-of c.self.inside.sets.items c.self.inside.links c.self.inside.size 0 c.first_of-node.result c.self.invariant (first-free c.self.inside.links c.first_of-node.result c.first_of-node.ensures), c.self.inside.sets.ok)

pub invariant_of-self-lent : goal.invariant_of-self-lent
invariant_of-self-lent c w =
    let same : c.index_mut-2.result.now ≡ c.hold.new.self = mid-read c.self.inside.sets.items c.first_of-node.result c.hold.new.self c.index_mut-2.result.now (inside-of c.self.inside.sets.items c.self.inside.links c.self.inside.size 0 c.first_of-node.result c.self.invariant (first-free c.self.inside.links c.first_of-node.result c.first_of-node.ensures)) c.index_mut-2.ensures.value in
    subst (λ g. AreSets (set (set c.self.inside.sets.items c.first_of-node.result c.hold.new.self) c.first_of-node.result (with_copy g w)) c.relink.new.links c.self.inside.size) (sym same)
    (holds-so c.self.inside.sets.items c.self.inside.links c.relink.new.links c.self.inside.size c.first_of-node.result c.args.block c.args.ticket c.args.self.now c.index_mut.result.now c.hold.new.self w c.self.invariant c.self.view_is c.first_of-node.ensures c.relink.ensures.value c.relink.ensures.apart c.requires.unheld c.requires.fresh c.requires.unknown c.index_mut.ensures.value c.hold.ensures).ordered

pub returns : goal.returns
returns c =
    let same : c.index_mut-2.result.now ≡ c.hold.new.self = mid-read c.self.inside.sets.items c.first_of-node.result c.hold.new.self c.index_mut-2.result.now (inside-of c.self.inside.sets.items c.self.inside.links c.self.inside.size 0 c.first_of-node.result c.self.invariant (first-free c.self.inside.links c.first_of-node.result c.first_of-node.ensures)) c.index_mut-2.ensures.value in
    let lent : c.copy_mut.result.now ≡ c.hold.new.self.copy = c.copy_mut.ensures.value ∙ ap (λ (g : Gate). g.copy) same in (
      (
        refl,
        λ w. ap (λ g. gates_of (set (set c.self.inside.sets.items c.first_of-node.result c.hold.new.self) c.first_of-node.result (with_copy g w)) c.relink.new.links c.self.inside.size) same
            ∙ (holds-so c.self.inside.sets.items c.self.inside.links c.relink.new.links c.self.inside.size c.first_of-node.result c.args.block c.args.ticket c.args.self.now c.index_mut.result.now c.hold.new.self w c.self.invariant c.self.view_is c.first_of-node.ensures c.relink.ensures.value c.relink.ensures.apart c.requires.unheld c.requires.fresh c.requires.unknown c.index_mut.ensures.value c.hold.ensures).shown
            ∙ ap (λ bytes. with_gate c.args.self.now c.args.block c.args.ticket (refill (length bytes) bytes w)) (sym lent),
      ),
      record {
        writes_back = tt;
        long = ap length lent ∙ copy-long c.self.inside.sets.items c.self.inside.links c.self.inside.size c.first_of-node.result c.args.block c.args.ticket c.index_mut.result.now c.hold.new.self c.self.invariant (first-free c.self.inside.links c.first_of-node.result c.first_of-node.ensures) c.index_mut.ensures.value c.hold.ensures ∙ size-is c.self.inside.sets.items c.self.inside.links c.self.inside.size c.args.self.now c.self.view_is;
      },
    )
