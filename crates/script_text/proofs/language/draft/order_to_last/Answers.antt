use Rattle.std.proofs.Common.{arith}
use Rattle.script_text.specs.Planned.{add_last_order}
use Rattle.script_text.proofs.LastLemmas.{set_last}
use Rattle.script_text.proofs.PlannedSums.{client_disk}
use Rattle.script_text.proofs.language.draft.order_to_last.Goals as goal

pub returns : goal.returns
returns c =
    rw c.in_ok-add_order.ensures
    (set_last (add_last_order c.args.order) c.args.disks.now.items _ c.index_mut-disk.result.now (client_disk _ c.requires) (omega (arith, c.len-last.ensures, c.args.disks.now.ok)) c.index_mut-disk.ensures.value)
