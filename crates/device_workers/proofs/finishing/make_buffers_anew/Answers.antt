use Rattle.device_workers.proofs.Finished.{refit-stays, refit-idle, refit-late}
use Rattle.device_workers.proofs.finishing.make_buffers_anew.Goals as goal

pub returns-in-Ok-clause-stays : goal.returns-in-Ok-clause-stays
returns-in-Ok-clause-stays g c = refit-stays _ _ _ c.refit.ensures.says

pub returns-in-Err-clause-stays : goal.returns-in-Err-clause-stays
returns-in-Err-clause-stays g c = refit-stays _ _ _ c.refit.ensures.says

pub returns-in-Ok-clause-keeps : goal.returns-in-Ok-clause-keeps
returns-in-Ok-clause-keeps g c = c.refit.ensures.keeps c.requires.keeps

pub returns-in-Err-clause-keeps : goal.returns-in-Err-clause-keeps
returns-in-Err-clause-keeps g c = c.refit.ensures.keeps c.requires.keeps

pub returns-in-Ok-clause-idle : goal.returns-in-Ok-clause-idle
returns-in-Ok-clause-idle g c = refit-idle _ _ _ _ (rw c.in-Ok.is at c.refit.ensures.says.says) c.requires.none

pub returns-in-Err-clause-memory : goal.returns-in-Err-clause-memory
returns-in-Err-clause-memory g c = refit-late _ _ _ (rw c.in-Err.is at c.refit.ensures.says.says)
