use Rattle.disk_core.proofs.Synced.{sync-present, sync-enter, sync-settled}
use Rattle.disk_core.proofs.stepping.sync.Goals as goal

pub sync_in-answer-requires : goal.sync_in-answer-requires
sync_in-answer-requires g c = record { present = sync-present _ g.M.Medium.prepared _ _ c.requires.sound _ _ c.requires.next.1 _ c.requires.sync.1 }

pub settle-requires : goal.settle-requires
settle-requires g c = sync-enter _ g.M.Medium.prepared _ _ c.requires.sound _ _ c.requires.next.1 _ c.requires.sync.1 c.sync_in-answer.result

pub returns : goal.returns
returns g c =
    sync-settled _ g.M.Medium.prepared _ _ c.requires.sound _ _ c.requires.next.1 _ c.requires.sync.1 g.met.M.Medium.shaped c.sync_in-answer.new.drive c.settle.new.core c.sync_in-answer.result c.sync_in-answer.ensures c.settle.ensures
