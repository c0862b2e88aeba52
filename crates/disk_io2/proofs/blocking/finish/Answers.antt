use Rattle.disk_core.proofs.IdleLemmas.{collect-keeps}
use Rattle.disk_io2.proofs.Serving.{still-there, still-uncollected}
use Rattle.disk_core.proofs.IdleLemmas.{keeps-on}
use Rattle.disk_io2.proofs.Ended.{collectable, handed-back, handed-ok, handed-err}
use Rattle.disk_io2.proofs.blocking.finish.Goals as goal

pub unreachable-requires : goal.unreachable-requires
unreachable-requires g c =
    collectable c.serve.new.disk c.collect.new.self c.args.tag c.args.number c.in-Err.field-0 (still-there _ _ _ c.serve.ensures.serves c.requires.there)
    (still-uncollected _ _ _ c.serve.ensures.serves c.requires.uncollected) c.serve.ensures.ended c.in-Err.ensures

pub returns-clause-gates : goal.returns-clause-gates
returns-clause-gates g c = keeps-on _ _ _ c.serve.ensures.gates (collect-keeps _ c.args.tag c.args.number _ _ c.collect.ensures)

pub returns-clause-ok : goal.returns-clause-ok
returns-clause-ok g c =
    let back = handed-back c.args.disk.now c.serve.new.disk c.collect.new.self c.args.tag c.args.number c.serve.ensures.serves c.requires.so_far c.in-Ok.done c.in-Ok.ensures in
    handed-ok c.args.disk.now c.serve.new.disk c.collect.new.self c.args.tag c.args.number c.serve.ensures.serves c.requires.so_far c.answer_of.result c.in-Ok.done.status c.in-Ok.done.buffer back c.answer_of.ensures.ok

pub returns-clause-err : goal.returns-clause-err
returns-clause-err g c =
    let back = handed-back c.args.disk.now c.serve.new.disk c.collect.new.self c.args.tag c.args.number c.serve.ensures.serves c.requires.so_far c.in-Ok.done c.in-Ok.ensures in
    handed-err c.args.disk.now c.serve.new.disk c.collect.new.self c.args.tag c.args.number c.serve.ensures.serves c.requires.so_far c.answer_of.result c.in-Ok.done.status c.in-Ok.done.buffer back c.answer_of.ensures.err
