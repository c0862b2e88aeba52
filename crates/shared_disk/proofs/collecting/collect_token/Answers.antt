use Rattle.disk_core.specs.Calls.{CollectSays}
use Rattle.shared_disk.proofs.TakingLemmas.{takes-sound, takes-token, is-there}
use Rattle.shared_disk.proofs.collecting.collect_token.Goals as goal

pub unreachable-requires : goal.unreachable-requires
unreachable-requires g c = is-there c.args.disk.now c.collect.new.self c.args.tag c.args.number c.in-Err.field-0 c.requires.there c.requires.uncollected c.requires.ended c.in-Err.ensures

pub returns-clause-takes : goal.returns-clause-takes
unfolding CollectSays
returns-clause-takes g c =
    let says = c.in-Ok.ensures in
    takes-token c.args.disk.now c.collect.new.self c.args.tag c.args.number c.in-Ok.done.status c.in-Ok.done.buffer says.0 says.1 says.2 c.args.books.now c.keep.new.self c.requires.sound c.keep.ensures

pub returns-clause-sound : goal.returns-clause-sound
unfolding CollectSays
returns-clause-sound g c =
    let says = c.in-Ok.ensures in
    takes-sound c.args.disk.now c.collect.new.self c.args.tag c.args.number c.in-Ok.done.status c.in-Ok.done.buffer says.0 says.1 says.2 c.args.books.now c.keep.new.self c.requires.sound c.keep.ensures
