use Rattle.block_gate.specs.Back.{IsGivenBack}
use Rattle.disk_core.proofs.Filled.{storing-taken, work-stores, never-foreign}
use Rattle.disk_core.proofs.storing.commit.Goals as goal

pub write_part-requires : goal.write_part-requires
unfolding IsGivenBack
write_part-requires g c = (
  c.args.core.now.gates,
  c.requires.storing.0,
  c.requires.storing.1,
  storing-taken _ _ c.args.drive.now c.args.core.now c.args.part.now c.requires.storing.0 c.requires.storing.1 c.requires.storing.2 c.args.work c.requires.ticket c.requires.ours c.requires.same c.give_back.new.self c.in-Home.ensures.value.1 c.give_back.ensures.sound,
)

pub returns-in-Home : goal.returns-in-Home
unfolding IsGivenBack
returns-in-Home g c =
    let storing = storing-taken _ _ c.args.drive.now c.args.core.now c.args.part.now c.requires.storing.0 c.requires.storing.1 c.requires.storing.2 c.args.work c.requires.ticket c.requires.ours c.requires.same c.give_back.new.self c.in-Home.ensures.value.1 c.give_back.ensures.sound in
    let wrote = c.write_part.ensures c.args.core.now.gates c.requires.storing.0 c.requires.storing.1 storing in
    work-stores _ _ c.args.drive.now c.args.core.now c.args.part.now c.requires.storing.0 c.requires.storing.1 c.requires.storing.2 c.args.work c.requires.ticket c.requires.ours c.requires.same c.give_back.new.self c.write_part.new.drive c.write_part.new.core wrote.0
    c.in-Home.ensures.value.1 wrote.1

pub returns-in-Foreign : goal.returns-in-Foreign
returns-in-Foreign g c =
    absurd (never-foreign _ _ c.args.drive.now c.args.core.now c.args.part.now c.requires.storing.0 c.requires.storing.1 c.requires.storing.2 c.args.work c.requires.ticket c.requires.ours c.requires.same c.in-Foreign.back c.give_back.new.self c.in-Foreign.ensures.value)
