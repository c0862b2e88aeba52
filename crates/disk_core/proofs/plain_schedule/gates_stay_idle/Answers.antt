use Rattle.disk_core.proofs.IdleLemmas.{fresh-idle, idle-stays, submit-keeps, collect-keeps}
use Rattle.disk_core.proofs.plain_schedule.gates_stay_idle.Goals as goal

pub returns-clause-fresh : goal.returns-clause-fresh
returns-clause-fresh c = fresh-idle

pub returns-clause-idle : goal.returns-clause-idle
returns-clause-idle c = idle-stays

pub returns-clause-submit : goal.returns-clause-submit
returns-clause-submit c = submit-keeps

pub returns-clause-collect : goal.returns-clause-collect
returns-clause-collect c = collect-keeps
