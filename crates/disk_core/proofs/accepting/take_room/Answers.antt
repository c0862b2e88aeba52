use Rattle.std.proofs.Common.{◌<◌, ◌+◌, ◌^◌, ap, ◌∙◌, subst, sym, arith}
use Rattle.history.specs.Tokens.{in_bytes}
use Rattle.disk_core.specs.Admission.{IsRoom, IsTouched}
use Rattle.disk_core.proofs.Fitting.{medium-some, groups-whole, range-of-change, range-fits}
use Rattle.disk_core.proofs.accepting.take_room.Goals as goal

pub start_of-from-requires : goal.start_of-from-requires
start_of-from-requires g c =
    let start : c.args.view.now.start < 2 ^ 64 = subst (λ n. n < 2 ^ 64) c.start_in.ensures c.start_in.type_inv in
    let fits : c.args.view.now.start + in_bytes c.args.core.now.blocks.size c.args.asked.unit c.args.asked.at + c.args.asked.length < 2 ^ 64 = range-fits _ _ c.args.drive.now c.args.core.now c.requires.sound g.met.M.Medium.shaped c.args.view.now c.args.asked _ c.requires.admitted.1 c.requires.well_asked start in
    rw c.start_in.ensures (omega arith)

pub prepare_for-requires-clause-present : goal.prepare_for-requires-clause-present
prepare_for-requires-clause-present g c = medium-some _ _ c.args.drive.now c.args.core.now c.requires.sound g.met.M.Medium.shaped c.args.view.now c.args.asked _ c.requires.admitted.1 c.requires.well_asked

pub prepare_for-requires-clause-fits : goal.prepare_for-requires-clause-fits
prepare_for-requires-clause-fits g c =
    let start : c.args.view.now.start < 2 ^ 64 = subst (λ n. n < 2 ^ 64) c.start_in.ensures c.start_in.type_inv in
    rw (c.start_of-from.ensures, c.start_in.ensures) (range-fits _ _ c.args.drive.now c.args.core.now c.requires.sound g.met.M.Medium.shaped c.args.view.now c.args.asked _ c.requires.admitted.1 c.requires.well_asked start)

pub prepare_for-requires-clause-inside : goal.prepare_for-requires-clause-inside
prepare_for-requires-clause-inside g c = λ changes m there. rw (c.start_of-from.ensures, c.start_in.ensures) (range-of-change _ _ c.args.drive.now c.args.core.now c.requires.sound g.met.M.Medium.shaped c.args.view.now c.args.asked _ c.requires.admitted.1 c.requires.well_asked changes m there)

pub prepare_for-requires-clause-whole : goal.prepare_for-requires-clause-whole
prepare_for-requires-clause-whole g c = groups-whole _ _ c.args.drive.now c.args.core.now c.requires.sound g.met.M.Medium.shaped c.args.view.now c.args.asked _ c.requires.admitted.1 c.requires.well_asked

pub room_for-requires-clause-fits : goal.room_for-requires-clause-fits
room_for-requires-clause-fits g c =
    let start : c.args.view.now.start < 2 ^ 64 = subst (λ n. n < 2 ^ 64) c.start_in.ensures c.start_in.type_inv in
    rw (c.start_of-from.ensures, c.start_in.ensures) (range-fits _ _ c.args.drive.now c.args.core.now c.requires.sound g.met.M.Medium.shaped c.args.view.now c.args.asked _ c.requires.admitted.1 c.requires.well_asked start)

pub returns-clause-room : goal.returns-clause-room
returns-clause-room g c = subst (λ n. IsRoom c.args.core.now.blocks n c.args.asked c.args.buffer.now c.in_ok-room.room) (c.start_of-from.ensures ∙ ap (λ n. n + in_bytes c.args.core.now.blocks.size c.args.asked.unit c.args.asked.at) c.start_in.ensures) c.in_ok-room.ensures.room

pub returns-clause-ready : goal.returns-clause-ready
returns-clause-ready g c = λ changes some m there b touched. c.in_ok-prepare_for.ensures.ready changes some m there b (subst (λ n. IsTouched c.args.core.now.blocks n (n + c.args.asked.length) b) (sym (c.start_of-from.ensures ∙ ap (λ n. n + in_bytes c.args.core.now.blocks.size c.args.asked.unit c.args.asked.at) c.start_in.ensures)) touched)
