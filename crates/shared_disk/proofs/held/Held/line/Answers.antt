use Rattle.std.proofs.Common.{◌≡◌, ◌-◌, ap, subst, ◌∙◌}
use Rattle.shared_disk.specs.Desk.{LineSays}
use Rattle.shared_disk.specs.Seats.{SeatState, Sees, line_done}
use Rattle.shared_disk.proofs.HoldLemmas.{stays-behind, sees-behind}
use Rattle.shared_disk.proofs.held.Held.line.Goals as goal

pub invariant_of-self : goal.invariant_of-self
invariant_of-self g c = stays-behind g.N.DiskName.table g.N.DiskName.setup g.N.DiskName.script _ _ _ _ _ c.self.inside.pen c.renew.new.pen c.line_logged-line.new.pen c.renew-2.new.pen _ (line_done c.client.result c.line_logged-line.result) c.self.invariant c.renew.ensures.same c.line_logged-line.ensures.logs c.line_logged-line.ensures.table c.renew-2.ensures.same c.line_logged-line.ensures.keeps

pub returns-clause-sees : goal.returns-clause-sees
returns-clause-sees g c =
    let own : c.client.result ≡ c.args.seat.now.client = c.client.ensures.tag ∙ ap (λ (s : SeatState). s.client) c.renew.ensures.seen in
    subst (λ k. Sees g.N.DiskName.setup g.N.DiskName.script c.args.seat.now.seen (line_done k c.line_logged-line.result) c.renew-2.new.self.seen (λ old new. LineSays old (k - 1) c.line_logged-line.result new)) own
    (sees-behind g.N.DiskName.table g.N.DiskName.setup g.N.DiskName.script _ _ _ _ _ c.self.inside.pen c.renew.new.pen c.line_logged-line.new.pen _ (line_done c.client.result c.line_logged-line.result) c.args.seat.now.seen c.renew-2.new.self.seen (λ old new. LineSays old (c.client.result - 1) c.line_logged-line.result new) c.self.invariant c.renew.ensures.same c.renew.ensures.older c.line_logged-line.ensures.logs (ap (λ (s : SeatState). s.seen) c.renew-2.ensures.seen) c.line_logged-line.ensures.says)
