use Rattle.std.proofs.Common.{Ok, arith}
use Rattle.history_laws.proofs.TokenLemmas.{request-accepted}
use Rattle.disk_core.specs.Calls.{CollectSays}
use Rattle.shared_disk.proofs.TakingLemmas.{lets-sound, lets-token}
use Rattle.shared_disk.proofs.AsideLemmas.{uncollected-beside}
use Rattle.shared_disk.proofs.aside.collect_aside.Goals as goal

pub let_go-requires : goal.let_go-requires
unfolding CollectSays
let_go-requires g c =
    let says = c.in-Ok.ensures in
    let there = request-accepted _ _ _ says.2.named in omega (arith, there, c.requires.counted)

pub returns-in-Ok-clause-says : goal.returns-in-Ok-clause-says
unfolding CollectSays
returns-in-Ok-clause-says g c =
    let says = c.in-Ok.ensures in
    lets-token c.args.disk.now c.collect.new.self c.args.tag c.args.number c.in-Ok.done.status c.in-Ok.done.buffer says.0 says.1 says.2 c.args.books.now c.let_go.new.self c.requires c.let_go.ensures (λ old new. CollectSays old c.args.tag c.args.number (Ok c.in-Ok.done) new) says

pub returns-in-Ok-clause-sound : goal.returns-in-Ok-clause-sound
unfolding CollectSays
returns-in-Ok-clause-sound g c =
    let says = c.in-Ok.ensures in
    lets-sound c.args.disk.now c.collect.new.self c.args.tag c.args.number c.in-Ok.done.status c.in-Ok.done.buffer says.0 says.1 says.2 c.args.books.now c.let_go.new.self c.requires c.let_go.ensures

pub returns-in-Err-clause-says : goal.returns-in-Err-clause-says
returns-in-Err-clause-says g c = (uncollected-beside _ _ _ _ _ _ c.requires c.in-Err.ensures).beside

pub returns-in-Err-clause-sound : goal.returns-in-Err-clause-sound
returns-in-Err-clause-sound g c = (uncollected-beside _ _ _ _ _ _ c.requires c.in-Err.ensures).sound
