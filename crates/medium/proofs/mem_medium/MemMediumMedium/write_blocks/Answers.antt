use Rattle.std.proofs.Common.{◌*◌, ◌/◌, length, rules, refl, Some, ap, ◌∙◌, arith}
use Rattle.std.proofs.Math.Nat.{mul-le-mul_left}
use Rattle.byte_lists.proofs.Patched.{length-patch}
use Rattle.medium.proofs.Held.{overlay-given, within-given}
use Rattle.medium.proofs.Sizes.{count-is}
use Rattle.medium.specs.BlockMap.{held_block}
use Rattle.medium.specs.Blocks.{overlay}
use Rattle.medium.proofs.mem_medium.MemMediumMedium.write_blocks.Goals as goal

pub returns-clause-written : goal.returns-clause-written
returns-clause-written c =
    let self = c.args.self.now in
    let transfer = c.requires.transfer in
    record {
      command = search rules;
      now = ap Some (overlay-given self.changed c.hold_all.new.self self.size self.blocks self.opening.items c.args.lba transfer.count c.args.bytes.now self.one_of_four c.hold_all.ensures.held self.changed_size self.opening_length transfer.whole transfer.fits);
      kept = refl;
      done = search rules;
    }

pub invariant_of-self : goal.invariant_of-self
invariant_of-self c =
    let self = c.args.self.now in
    let transfer = c.requires.transfer in
    let patched = overlay-given self.changed c.hold_all.new.self self.size self.blocks self.opening.items c.args.lba transfer.count c.args.bytes.now self.one_of_four c.hold_all.ensures.held self.changed_size self.opening_length transfer.whole transfer.fits in
    record {
      one_of_four = self.one_of_four;
      some = self.some;
      fits = self.fits;
      opening_length = self.opening_length;
      changed_size = c.hold_all.ensures.size ∙ self.changed_size;
      inside = within-given (held_block self.changed) (held_block c.hold_all.new.self) c.args.lba (length c.args.bytes.now / self.size) self.changed.size self.blocks c.args.bytes.now c.hold_all.ensures.held (omega (arith, transfer.fits, count-is (length c.args.bytes.now) transfer.count self.size self.one_of_four transfer.whole)) self.inside;
      length = ap length patched ∙ length-patch (overlay (held_block self.changed) self.size self.blocks self.opening.items) (c.args.lba * self.size) c.args.bytes.now (omega (arith, self.length, transfer.whole, mul-le-mul_left self.size transfer.fits)) ∙ self.length;
    }
