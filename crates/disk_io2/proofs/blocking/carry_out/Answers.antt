use Rattle.disk_core.specs.Calls.{SubmitSays}
use Rattle.disk_core.proofs.IdleLemmas.{submit-keeps}
use Rattle.disk_core.proofs.IdleLemmas.{keeps-on, idle-on}
use Rattle.disk_io2.proofs.Ended.{accepted-there, accepted-uncollected, accepted-well, answers, hands-on}
use Rattle.disk_io2.proofs.blocking.carry_out.Goals as goal

pub returns-in_err-token-clause-idle : goal.returns-in_err-token-clause-idle
returns-in_err-token-clause-idle g c = idle-on _ _ (submit-keeps _ c.args.tag c.args.view.now c.args.media_id _ _ _ c.submit.ensures) c.requires.idle

pub returns-in_err-token-clause-says : goal.returns-in_err-token-clause-says
returns-in_err-token-clause-says g c =
    hands-on c.args.disk.now c.submit.new.self c.args.tag c.args.view.now c.args.media_id c.args.ask c.in_err-token.field-0.0 c.from_residual.result c.from_residual.ensures.1 c.in_err-token.ensures

pub finish-requires-clause-idle : goal.finish-requires-clause-idle
finish-requires-clause-idle g c = idle-on _ _ (submit-keeps _ c.args.tag c.args.view.now c.args.media_id _ _ _ c.submit.ensures) c.requires.idle

pub finish-requires-clause-there : goal.finish-requires-clause-there
unfolding SubmitSays
finish-requires-clause-there g c = accepted-there c.args.disk.now c.submit.new.self c.args.tag c.args.view.now c.args.media_id c.args.ask c.in_ok-token.token c.history.ensures.facts c.in_ok-token.ensures

pub finish-requires-clause-uncollected : goal.finish-requires-clause-uncollected
unfolding SubmitSays
finish-requires-clause-uncollected g c = accepted-uncollected c.args.disk.now c.submit.new.self c.args.tag c.args.view.now c.args.media_id c.args.ask c.in_ok-token.token c.history.ensures.facts c.in_ok-token.ensures

pub finish-requires-clause-so_far : goal.finish-requires-clause-so_far
unfolding SubmitSays
finish-requires-clause-so_far g c = accepted-well c.args.disk.now c.submit.new.self c.args.tag c.args.view.now c.args.media_id c.args.ask c.in_ok-token.token c.history.ensures.facts c.in_ok-token.ensures

pub returns-clause-idle : goal.returns-clause-idle
returns-clause-idle g c =
    idle-on _ _ (keeps-on _ _ _ (submit-keeps _ c.args.tag c.args.view.now c.args.media_id _ _ _ c.submit.ensures) c.finish.ensures.gates) c.requires.idle

pub returns-clause-says : goal.returns-clause-says
returns-clause-says g c =
    answers c.args.disk.now c.submit.new.self c.finish.new.disk c.args.tag c.args.view.now c.args.media_id c.args.ask c.in_ok-token.token c.finish.result
    c.history.ensures.setup c.history.ensures.facts c.in_ok-token.ensures c.finish.ensures.ok c.finish.ensures.err
