use Rattle.disk_core.proofs.Refusals.{refuse-done}
use Rattle.disk_core.proofs.refusing.refuse.Goals as goal

pub returns-in-Ok : goal.returns-in-Ok
returns-in-Ok g c = λ bytes.
    refuse-done _ _ _ c.args.core.now c.requires.sound _ _ _ _ _ c.requires.refused c.requires.well_asked c.make_room.new.core.history.spare c.in-Ok.ensures.ok c.make_room.ensures.few c.args.buffer.items c.make_room.new.core _
    c.make_room.ensures.core c.enter.ensures
