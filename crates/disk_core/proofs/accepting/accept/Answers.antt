use Rattle.std.proofs.Common.{◌≡◌, ◌+◌, ◌<◌, ◌^◌, length, refl, subst, sym, arith}
use Rattle.disk_split.specs.Units.{IsGeometry}
use Rattle.subtask_queue.specs.Subs.{AreBelow}
use Rattle.disk_core.specs.declared.answers.Why.TheVariants as why
use Rattle.disk_core.specs.Admission.{payload_of, IsRoom, start_at}
use Rattle.disk_core.specs.Moves.{with_spare}
use Rattle.disk_core.proofs.Submitted.{geometry-is, queue-is-below, tokens-counted, tokens-few, mid-forgets, mid-accepts}
use Rattle.disk_core.proofs.accepting.accept.Goals as goal

pub keep-requires-clause-sized : goal.keep-requires-clause-sized
unfolding with_spare
keep-requires-clause-sized g c = subst (λ d. IsGeometry d.blocks) (sym c.take_room.ensures.core) (geometry-is _ _ _ _ c.requires.sound)

pub keep-requires-clause-room : goal.keep-requires-clause-room
unfolding with_spare
keep-requires-clause-room g c =
    subst (λ d. IsRoom d.blocks (start_at d.blocks.size c.args.view.now c.args.asked) c.args.asked c.args.buffer.items c.in-Ok.room) (sym c.take_room.ensures.core)
    (subst (λ bytes. IsRoom c.args.core.now.blocks (start_at c.args.core.now.blocks.size c.args.view.now c.args.asked) c.args.asked bytes c.in-Ok.room) c.deref.ensures.value c.in-Ok.ensures.room)

pub keep-requires-clause-above : goal.keep-requires-clause-above
unfolding with_spare
keep-requires-clause-above g c = subst (λ d. AreBelow d.accepted d.queue) (sym c.take_room.ensures.core) (queue-is-below _ _ _ _ c.requires.sound)

pub keep-requires-clause-counted : goal.keep-requires-clause-counted
unfolding with_spare
keep-requires-clause-counted g c = subst (λ d. d.accepted ≡ length d.tokens) (sym c.take_room.ensures.core) (tokens-counted _ _ _ _ c.requires.sound)

pub keep-requires-clause-few : goal.keep-requires-clause-few
unfolding with_spare
keep-requires-clause-few g c = subst (λ d. d.accepted < 2 ^ 63) (sym c.take_room.ensures.core) (tokens-few _ _ _ _ c.requires.sound)

pub keep-requires-clause-owed : goal.keep-requires-clause-owed
unfolding with_spare
keep-requires-clause-owed g c = subst (λ d. d.owed + c.in-Ok.room.owed < 2 ^ 64) (sym c.take_room.ensures.core) (let place = c.in-Ok.ensures.place in let few = c.take_room.ensures.few in omega arith)

pub returns-in-Ok-keep : goal.returns-in-Ok-keep
returns-in-Ok-keep g c = λ media_id unrefused.
    mid-accepts _ _ _ _ c.requires.sound c.take_room.new.drive c.take_room.new.core c.take_room.new.core.history.spare c.take_room.ensures.drive c.take_room.ensures.core c.take_room.ensures.places c.take_room.ensures.few
    c.args.tag c.args.view.now media_id c.args.asked c.args.buffer.items c.in-Ok.room c.in-Ok-keep.token c.keep.new.core unrefused c.requires.well_asked c.requires.long
    (subst (λ bytes. IsRoom c.args.core.now.blocks (start_at c.args.core.now.blocks.size c.args.view.now c.args.asked) c.args.asked bytes c.in-Ok.room) c.deref.ensures.value c.in-Ok.ensures.room)
    c.in-Ok.ensures.place c.in-Ok.ensures.ready c.in-Ok-keep.ensures.number c.in-Ok-keep.ensures.event c.in-Ok-keep.ensures.ok

pub returns-in-Err-keep : goal.returns-in-Err-keep
returns-in-Err-keep g c = λ media_id unrefused.
    mid-forgets _ _ _ _ c.requires.sound c.take_room.new.drive c.take_room.new.core c.take_room.new.core.history.spare c.take_room.ensures.drive c.take_room.ensures.core c.take_room.ensures.places c.take_room.ensures.few
    c.args.tag c.args.view.now media_id c.args.asked (payload_of c.args.asked.kind c.args.buffer.items) c.args.buffer.items (record { why = why.Memory; buffer = c.in-Err-keep.buffer }) c.keep.new.core refl c.in-Err-keep.ensures.back c.in-Err-keep.ensures.err

pub returns-in-Err : goal.returns-in-Err
returns-in-Err g c = λ media_id unrefused.
    mid-forgets _ _ _ _ c.requires.sound c.take_room.new.drive c.take_room.new.core c.take_room.new.core.history.spare c.take_room.ensures.drive c.take_room.ensures.core c.take_room.ensures.places c.take_room.ensures.few
    c.args.tag c.args.view.now media_id c.args.asked (payload_of c.args.asked.kind c.args.buffer.items) c.args.buffer.items (record { why = why.Memory; buffer = c.args.buffer }) c.take_room.new.core refl refl refl
