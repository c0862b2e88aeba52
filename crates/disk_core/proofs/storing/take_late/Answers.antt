use Rattle.block_gate.specs.Back.{IsGivenBack}
use Rattle.disk_core.proofs.Late.{late-reaches, foreign-reaches}
use Rattle.disk_core.proofs.storing.take_late.Goals as goal

pub returns-in-Home : goal.returns-in-Home
unfolding IsGivenBack
returns-in-Home g c = late-reaches _ _ _ _ c.requires.sound c.args.work c.give_back.new.self c.requires.late c.in-Home.ensures.value.0 c.in-Home.ensures.value.1 c.give_back.ensures.sound

pub returns-in-Foreign : goal.returns-in-Foreign
unfolding IsGivenBack
returns-in-Foreign g c = foreign-reaches _ _ _ _ c.requires.sound c.args.work c.in-Foreign.back c.give_back.new.self c.in-Foreign.ensures.value
