use Rattle.std.proofs.Common.{None}
use Rattle.disk_core.specs.Calls.{HeldStoreSays}
use Rattle.shared_disk.specs.Desk.{OnDisk}
use Rattle.shared_disk.proofs.HoldLemmas.{stays-behind, sees-behind}
use Rattle.shared_disk.proofs.held.Held.store_held.Goals as goal

pub invariant_of-self : goal.invariant_of-self
invariant_of-self g c = stays-behind g.N.DiskName.table g.N.DiskName.setup g.N.DiskName.script _ _ _ _ _ c.self.inside.pen c.renew.new.pen c.store_held_logged-stored.new.pen c.renew-2.new.pen _ None c.self.invariant c.renew.ensures.same c.store_held_logged-stored.ensures.logs c.store_held_logged-stored.ensures.table c.renew-2.ensures.same c.store_held_logged-stored.ensures.keeps

pub returns : goal.returns
returns g c = sees-behind g.N.DiskName.table g.N.DiskName.setup g.N.DiskName.script _ _ _ _ _ c.self.inside.pen c.renew.new.pen c.store_held_logged-stored.new.pen _ None c.args.hand.now c.renew-2.new.self (λ old new. OnDisk old new (λ a b. HeldStoreSays a c.args.ticket c.store_held_logged-stored.result b)) c.self.invariant c.renew.ensures.same c.renew.ensures.older c.store_held_logged-stored.ensures.logs c.renew-2.ensures.seen c.store_held_logged-stored.ensures.says
