use Rattle.std.proofs.Common.{inl, inr}
use Rattle.std.proofs.lemmas.Result.{on_err_weaker}
use Rattle.device_workers.proofs.Rounds.{on-err, on-ok, idle-on}
use Rattle.device_workers.proofs.Finished.{stays-both, stays-longer, whole-of}
use Rattle.device_workers.proofs.finishing.finish.Goals as goal

pub make_buffers_anew-requires-clause-keeps : goal.make_buffers_anew-requires-clause-keeps
make_buffers_anew-requires-clause-keeps g c = c.store_all.ensures.keeps

pub make_buffers_anew-requires-clause-none : goal.make_buffers_anew-requires-clause-none
make_buffers_anew-requires-clause-none g c = c.store_all.ensures.none

pub plain-requires-clause-keeps : goal.plain-requires-clause-keeps
plain-requires-clause-keeps g c = c.make_buffers_anew.ensures.keeps

pub plain-requires-clause-idle : goal.plain-requires-clause-idle
plain-requires-clause-idle g c = c.in_ok-make_buffers_anew.ensures.idle

pub returns-in_err-make_buffers_anew-clause-stays : goal.returns-in_err-make_buffers_anew-clause-stays
returns-in_err-make_buffers_anew-clause-stays g c = stays-both _ _ _ c.store_all.ensures.stays c.make_buffers_anew.ensures.stays

pub returns-in_err-make_buffers_anew-clause-memory : goal.returns-in_err-make_buffers_anew-clause-memory
returns-in_err-make_buffers_anew-clause-memory g c = on-err c.from_residual.result (inr c.in_err-make_buffers_anew.ensures.memory)

pub returns-clause-stays : goal.returns-clause-stays
returns-clause-stays g c = stays-longer _ _ _ _ c.store_all.ensures.stays c.make_buffers_anew.ensures.stays c.plain.ensures.stays

pub returns-clause-whole : goal.returns-clause-whole
returns-clause-whole g c = whole-of _ _ _ c.plain.result _ c.store_all.ensures.stays c.make_buffers_anew.ensures.stays c.plain.ensures.whole

pub returns-clause-idle : goal.returns-clause-idle
returns-clause-idle g c = on-ok c.plain.result (idle-on _ _ c.plain.ensures.stays c.in_ok-make_buffers_anew.ensures.idle)

pub returns-clause-memory : goal.returns-clause-memory
returns-clause-memory g c = on_err_weaker c.plain.result inl c.plain.ensures.memory
