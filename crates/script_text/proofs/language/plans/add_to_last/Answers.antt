use Rattle.std.proofs.Common.{arith}
use Rattle.script_text.specs.Planned.{add_order}
use Rattle.script_text.proofs.LastLemmas.{set_last, some_length}
use Rattle.script_text.proofs.language.plans.add_to_last.Goals as goal

pub returns : goal.returns
returns c =
    let some = some_length _ (rw (← c.clients.view_is) at c.requires) in
    rw (← c.clients.view_is, c.in_ok-push.ensures.ok)
    (set_last (add_order c.args.order) c.clients.inside.kept.items _ c.index_mut-client.result.now some (rw c.len-last.ensures (omega (arith, c.clients.inside.kept.ok))) c.index_mut-client.ensures.value)
