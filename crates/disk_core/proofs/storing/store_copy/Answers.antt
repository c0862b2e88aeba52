use Rattle.std.proofs.Common.{subst}
use Rattle.disk_core.specs.Calls.{HeldStoreSays}
use Rattle.disk_core.specs.Moves.{Reaches}
use Rattle.disk_core.specs.declared.answers.HeldStored.TheVariants as held_stored
use Rattle.disk_core.proofs.Filled.{copy-stale, storing-is, copy-stores}
use Rattle.disk_core.proofs.storing.store_copy.Goals as goal

pub returns-in_default : goal.returns-in_default
returns-in_default g c = copy-stale _ _ c.args.drive.now c.args.core.now c.requires g.met.M.Medium.shaped c.args.ticket c.in_default.ensures.none

pub write_part-requires : goal.write_part-requires
write_part-requires g c =
    let found = c.in-Some.ensures.some in
    (c.compose.new.core.gates, found.0, found.1, storing-is _ _ c.args.drive.now c.args.core.now c.requires g.met.M.Medium.shaped c.in-Some.part found.0 found.1 found.2 c.compose.new.core c.compose.ensures.core (c.compose.ensures.group found.0 found.1 found.2))

pub returns : goal.returns
returns g c =
    let found = c.in-Some.ensures.some in
    let storing = storing-is _ _ c.args.drive.now c.args.core.now c.requires g.met.M.Medium.shaped c.in-Some.part found.0 found.1 found.2 c.compose.new.core c.compose.ensures.core (c.compose.ensures.group found.0 found.1 found.2) in
    let wrote = c.write_part.ensures c.compose.new.core.gates found.0 found.1 storing in
    subst (λ k. Reaches g.M.Medium.device g.M.Medium.prepared c.args.drive.now c.args.core.now c.write_part.new.drive c.write_part.new.core (λ s s'. HeldStoreSays s k held_stored.Did s')) c.in-Some.ensures.ticket
    (copy-stores _ _ c.args.drive.now c.args.core.now c.requires g.met.M.Medium.shaped c.in-Some.part found.0 found.1 found.2 c.compose.new.core c.compose.ensures.core (c.compose.ensures.group found.0 found.1 found.2)
    c.write_part.new.drive c.write_part.new.core wrote.0 wrote.1)
