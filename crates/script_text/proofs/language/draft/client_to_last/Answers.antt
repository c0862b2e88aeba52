use Rattle.std.proofs.Common.{arith}
use Rattle.script_text.specs.Planned.{add_client}
use Rattle.script_text.proofs.LastLemmas.{set_last, some_length}
use Rattle.script_text.proofs.language.draft.client_to_last.Goals as goal

pub returns : goal.returns
returns c =
    rw c.in_ok-add_client.ensures
    (set_last (add_client c.args.client) c.args.disks.now.items _ c.index_mut-disk.result.now (some_length _ c.requires) (omega (arith, c.len-last.ensures, c.args.disks.now.ok)) c.index_mut-disk.ensures.value)
