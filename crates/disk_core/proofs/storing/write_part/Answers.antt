use Rattle.std.proofs.Common.{◌≡◌, ◌+◌, ◌-◌, ◌*◌, ◌<◌, ◌≤◌, true, Ok, Err, length, refl, sym, ◌∙◌, ap, subst, arith}
use Rattle.std.specs.Prelude.{IfSome, count_by}
use Rattle.medium.specs.Device.{IsTransfer, IsWrite}
use Rattle.token_table.specs.declared.record.Mark.{Mark}
use Rattle.token_table.specs.Records.{mark_at, request_at}
use Rattle.subtask_queue.specs.declared.sub.Sub.TheVariants.{Part as PartOf}
use Rattle.subtask_queue.specs.Subs.{is_of}
use Rattle.history.specs.Next.{Made, Failed}
use Rattle.disk_core.specs.Commands.{OnMedium}
use Rattle.disk_core.specs.Moves.{HasPlace}
use Rattle.disk_core.proofs.Wrote.{store-present, store-transfer, store-ready, store-held, store-may, store-left, in-group}
use Rattle.disk_core.proofs.Committed.{part-done, part-failed}
use Rattle.disk_core.proofs.storing.write_part.Goals as goal

pub write_to-answer-requires-clause-present : goal.write_to-answer-requires-clause-present
write_to-answer-requires-clause-present g c = store-present _ _ c.args.drive.now g.met.M.Medium.shaped c.args.core.now c.requires.0 c.args.part.now c.requires.1 c.requires.2 c.requires.3

pub write_to-answer-requires-clause-transfer : goal.write_to-answer-requires-clause-transfer
write_to-answer-requires-clause-transfer g c = λ m there. subst (λ bytes. IsTransfer (g.M.Medium.device m) c.args.part.now.block (length bytes)) (sym c.deref.ensures.value) (store-transfer _ _ c.args.drive.now g.met.M.Medium.shaped c.args.core.now c.requires.0 c.args.part.now c.requires.1 c.requires.2 c.requires.3 m there)

pub write_to-answer-requires-clause-ready : goal.write_to-answer-requires-clause-ready
write_to-answer-requires-clause-ready g c = λ m there b low high.
    store-ready _ _ c.args.drive.now g.met.M.Medium.shaped c.args.core.now c.requires.0 c.args.part.now c.requires.1 c.requires.2 c.requires.3 m there b low (subst (λ bytes. b * (g.M.Medium.device m).size < c.args.part.now.block * (g.M.Medium.device m).size + length bytes) c.deref.ensures.value high)

pub release-requires : goal.release-requires
release-requires g c = store-held _ _ c.args.drive.now g.met.M.Medium.shaped c.args.core.now c.requires.0 c.args.part.now c.requires.1 c.requires.2 c.requires.3

pub overflow_sub-bytes : goal.overflow_sub-bytes
overflow_sub-bytes g c = (in-group _ _ c.args.drive.now g.met.M.Medium.shaped c.args.core.now c.requires.0 c.args.part.now c.requires.1 c.requires.2 c.requires.3).1

pub overflow_cast-unit : goal.overflow_cast-unit
overflow_cast-unit g c =
    let place : c.place_in.result ≡ c.args.part.now.range.low - c.args.part.now.block * c.args.core.now.blocks.size = c.place_in.ensures ∙ ap (λ d. c.args.part.now.range.low - c.args.part.now.block * d.blocks.size) c.release.ensures.rest in
    let few = (in-group _ _ c.args.drive.now g.met.M.Medium.shaped c.args.core.now c.requires.0 c.args.part.now c.requires.1 c.requires.2 c.requires.3).2 in
    omega arith

pub finish-requires-clause-outstanding : goal.finish-requires-clause-outstanding
finish-requires-clause-outstanding g c = subst (λ d. mark_at d.tokens c.args.part.now.token ≡ Mark.Outstanding) (sym c.release.ensures.rest) (store-may _ _ c.args.drive.now g.met.M.Medium.shaped c.args.core.now c.requires.0 c.args.part.now c.requires.1 c.requires.2 c.requires.3).0

pub finish-requires-clause-left : goal.finish-requires-clause-left
finish-requires-clause-left g c = subst (λ d. IfSome (request_at d.tokens c.args.part.now.token) (λ q. c.args.part.now.range.high - c.args.part.now.range.low ≤ q.left)) (sym c.release.ensures.rest) (store-left _ _ c.args.drive.now g.met.M.Medium.shaped c.args.core.now c.requires.0 c.args.part.now c.requires.1 c.requires.2 c.requires.3)

pub finish-requires-clause-place : goal.finish-requires-clause-place
finish-requires-clause-place g c = subst HasPlace (sym c.release.ensures.rest) (store-may _ _ c.args.drive.now g.met.M.Medium.shaped c.args.core.now c.requires.0 c.args.part.now c.requires.1 c.requires.2 c.requires.3).1

pub finish-requires-clause-owed : goal.finish-requires-clause-owed
finish-requires-clause-owed g c = subst (λ d. count_by (is_of c.args.part.now.token) d.queue + 2 ≤ d.owed) (sym c.release.ensures.rest) (store-may _ _ c.args.drive.now g.met.M.Medium.shaped c.args.core.now c.requires.0 c.args.part.now c.requires.1 c.requires.2 c.requires.3).2

pub fail-requires-clause-outstanding : goal.fail-requires-clause-outstanding
fail-requires-clause-outstanding g c = subst (λ d. mark_at d.tokens c.args.part.now.token ≡ Mark.Outstanding) (sym c.release.ensures.rest) (store-may _ _ c.args.drive.now g.met.M.Medium.shaped c.args.core.now c.requires.0 c.args.part.now c.requires.1 c.requires.2 c.requires.3).0

pub fail-requires-clause-place : goal.fail-requires-clause-place
fail-requires-clause-place g c = subst HasPlace (sym c.release.ensures.rest) (store-may _ _ c.args.drive.now g.met.M.Medium.shaped c.args.core.now c.requires.0 c.args.part.now c.requires.1 c.requires.2 c.requires.3).1

pub fail-requires-clause-owed : goal.fail-requires-clause-owed
fail-requires-clause-owed g c = subst (λ d. count_by (is_of c.args.part.now.token) d.queue + 1 ≤ d.owed) (sym c.release.ensures.rest) (let may = (store-may _ _ c.args.drive.now g.met.M.Medium.shaped c.args.core.now c.requires.0 c.args.part.now c.requires.1 c.requires.2 c.requires.3).2 in omega arith)

pub returns-in-Ok : goal.returns-in-Ok
returns-in-Ok g c = λ before gate q is. (
  Made,
  part-done _ _ c.args.drive.now g.met.M.Medium.shaped c.args.core.now before c.args.part.now gate q is c.write_to-answer.new.drive c.release.new.core c.release.ensures.gates c.release.ensures.holders c.release.ensures.rest c.release.ensures.places
      (PartOf c.args.part.now.token c.args.part.now.block c.place_in.result (c.args.part.now.range.high - c.args.part.now.range.low) true) c.finish.new.core
      (subst (λ bytes. OnMedium g.M.Medium.device g.M.Medium.prepared c.args.drive.now c.write_to-answer.new.drive (λ d d'. IsWrite d c.args.part.now.block bytes (Ok c.in-Ok.field-0) d')) c.deref.ensures.value c.in-Ok.ensures) refl refl c.finish.ensures,
)

pub returns-in-Err : goal.returns-in-Err
returns-in-Err g c = λ before gate q is. (
  Failed c.in-Err.failed.done,
  part-failed _ _ c.args.drive.now g.met.M.Medium.shaped c.args.core.now before c.args.part.now gate q is c.write_to-answer.new.drive c.release.new.core c.release.ensures.gates c.release.ensures.holders c.release.ensures.rest c.release.ensures.places
      c.in-Err.failed c.fail.new.core
      (subst (λ bytes. OnMedium g.M.Medium.device g.M.Medium.prepared c.args.drive.now c.write_to-answer.new.drive (λ d d'. IsWrite d c.args.part.now.block bytes (Err c.in-Err.failed) d')) c.deref.ensures.value c.in-Err.ensures) c.fail.ensures,
)
