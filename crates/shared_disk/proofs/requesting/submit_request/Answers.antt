use Rattle.std.proofs.Common.{◌-◌, Result, Ok, Err, OnErr, arith}
use Rattle.disk_core.specs.Calls.{asked_of, bytes_of, buffer_of, SubmitSays}
use Rattle.disk_core.proofs.GoingOn.{submit_goes_on}
use Rattle.shared_disk.proofs.DoneLemmas.{roomy-sound, roomy-same, does-accept, does-refuse}
use Rattle.shared_disk.proofs.requesting.submit_request.Goals as goal

on-err : {A B P : Type 0} (r : Result A B) → P → OnErr r P
on-err (Ok x) p = tt
on-err (Err e) p = p

pub returns-in_err-make_room-clause-same : goal.returns-in_err-make_room-clause-same
returns-in_err-make_room-clause-same g c = on-err c.from_residual.result (roomy-same c.args.books.now c.make_room.new.self _ c.make_room.ensures.same)

pub returns-in_err-make_room-clause-sound : goal.returns-in_err-make_room-clause-sound
returns-in_err-make_room-clause-sound g c = on-err c.from_residual.result (roomy-sound c.args.disk.now.setup c.args.disk.now.entries c.args.books.now c.make_room.new.self _ c.requires.sound c.make_room.ensures.same)

pub returns-in-Ok-clause-does : goal.returns-in-Ok-clause-does
unfolding SubmitSays
returns-in-Ok-clause-does g c =
    does-accept c.args.disk.now c.submit.new.self c.args.books.now c.make_room.new.self c.add_token.new.self (c.args.client - 1) c.args.client c.args.view.now c.args.media_id (asked_of c.args.ask) (bytes_of c.args.ask) (buffer_of c.args.ask) c.in-Ok.token
    (omega (arith, c.requires.some)) c.requires.sound c.make_room.ensures.same c.in-Ok.ensures (submit_goes_on c.args.disk.now c.submit.new.self c.args.client c.args.view.now c.args.media_id c.args.ask c.submit.result c.submit.ensures) c.add_token.ensures

pub returns-in-Status-clause-does : goal.returns-in-Status-clause-does
unfolding SubmitSays
returns-in-Status-clause-does g c =
    does-refuse c.args.disk.now c.submit.new.self c.args.books.now c.make_room.new.self (c.args.client - 1) c.args.client c.args.view.now c.args.media_id (asked_of c.args.ask) (bytes_of c.args.ask) (buffer_of c.args.ask) c.in-Err.refused.buffer.items c.in-Status.field-0
    c.requires.sound c.make_room.ensures.same (rw c.in-Status.is at c.in-Err.ensures) (submit_goes_on c.args.disk.now c.submit.new.self c.args.client c.args.view.now c.args.media_id c.args.ask c.submit.result c.submit.ensures)

pub returns-clause-disk : goal.returns-clause-disk
unfolding SubmitSays
returns-clause-disk g c = let forgets = rw c.in-Memory.is at c.in-Err.ensures in forgets.same

pub returns-clause-same : goal.returns-clause-same
returns-clause-same g c = roomy-same c.args.books.now c.make_room.new.self _ c.make_room.ensures.same

pub returns-clause-sound : goal.returns-clause-sound
returns-clause-sound g c = roomy-sound c.args.disk.now.setup c.args.disk.now.entries c.args.books.now c.make_room.new.self _ c.requires.sound c.make_room.ensures.same
