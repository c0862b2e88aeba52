use Rattle.std.proofs.Common.{◌≡◌, ◌+◌, ◌-◌, length, None, ap, subst, ◌∙◌, arith}
use Rattle.disk_core.specs.State.{State}
use Rattle.disk_core.specs.Calls.{SubmitSays}
use Rattle.shared_disk.specs.Seats.{SeatState, Sees, BesideLines}
use Rattle.shared_disk.proofs.HoldLemmas.{sees-behind}
use Rattle.shared_disk.proofs.AsideLemmas.{counts-behind}
use Rattle.shared_disk.proofs.held.Held.submit.Goals as goal

pub invariant_of-self : goal.invariant_of-self
invariant_of-self g c =
    let old : c.len-before.result ≡ length c.self.inside.desk.disk.entries = c.len-before.ensures.value ∙ ap length (c.history.ensures.entries ∙ ap (λ (s : State). s.entries) c.disk.ensures) in
    let new : c.len.result ≡ length c.submit_logged-answer.new.desk.disk.entries = c.len.ensures.value ∙ ap length (c.history-2.ensures.entries ∙ ap (λ (s : State). s.entries) c.disk-2.ensures) in
    let grown = c.submit_logged-answer.ensures.grown in
    let long : length c.submit_logged-answer.new.desk.disk.entries ≡ length c.self.inside.desk.disk.entries + (c.len.result - c.len-before.result) = omega (arith, old, new, grown) in
    counts-behind g.N.DiskName.table g.N.DiskName.setup g.N.DiskName.script _ _ _ _ _ _ c.self.inside.pen c.renew.new.pen c.submit_logged-answer.new.pen c.renew-2.new.pen c.self.inside.count (c.len.result - c.len-before.result) (λ a b. SubmitSays a c.client.result c.args.view.now c.args.media_id c.args.ask c.submit_logged-answer.result b) c.self.invariant c.renew.ensures.same c.submit_logged-answer.ensures.logs c.submit_logged-answer.ensures.table c.renew-2.ensures.same c.submit_logged-answer.ensures.says long c.count_more.ensures.total

pub returns-clause-sees : goal.returns-clause-sees
returns-clause-sees g c =
    let own : c.client.result ≡ c.args.seat.now.client = c.client.ensures.tag ∙ ap (λ (s : SeatState). s.client) c.renew.ensures.seen in
    subst (λ k. Sees g.N.DiskName.setup g.N.DiskName.script c.args.seat.now.seen None c.renew-2.new.self.seen (λ old new. BesideLines old new (λ a b. SubmitSays a k c.args.view.now c.args.media_id c.args.ask c.submit_logged-answer.result b))) own
    (sees-behind g.N.DiskName.table g.N.DiskName.setup g.N.DiskName.script _ _ _ _ _ c.self.inside.pen c.renew.new.pen c.submit_logged-answer.new.pen _ None c.args.seat.now.seen c.renew-2.new.self.seen (λ old new. BesideLines old new (λ a b. SubmitSays a c.client.result c.args.view.now c.args.media_id c.args.ask c.submit_logged-answer.result b)) c.self.invariant c.renew.ensures.same c.renew.ensures.older c.submit_logged-answer.ensures.logs (ap (λ (s : SeatState). s.seen) c.renew-2.ensures.seen) c.submit_logged-answer.ensures.says)
