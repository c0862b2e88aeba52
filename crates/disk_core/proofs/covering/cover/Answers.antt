use Rattle.std.proofs.Common.{subst, sym, ap, refl, true, ◌∙◌, ◌≡◌, ◌*◌, IfSome, IsSome}
use Rattle.medium.specs.Device.{IsWrite}
use Rattle.token_table.specs.Records.{request_at}
use Rattle.disk_core.specs.Commands.{OnMedium}
use Rattle.disk_core.specs.Moves.{MayPut, MayEnter, Settles, blocks_bytes, cover_by}
use Rattle.disk_core.proofs.Covers.{own, cover-request, cover-put, cover-enter, cover-command, cover-settled}
use Rattle.disk_core.proofs.Spans.{run-span}
use Rattle.disk_core.proofs.covering.cover.Goals as goal

pub command_for-command-requires : goal.command_for-command-requires
command_for-command-requires g c =
    let s = run-span _ g.M.Medium.prepared _ _ c.requires.sound _ _ c.requires.next.1 _ c.args.block c.args.count true c.requires.run.1 in
    subst IsSome (sym (ap (request_at c.args.core.now.tokens) c.token-token.ensures ∙ cover-request _ g.M.Medium.prepared _ _ c.requires.sound _ _ c.requires.next.1 _ _ _ _ s.2 s.3)) refl

pub write_run-answer-requires : goal.write_run-answer-requires
write_run-answer-requires g c =
    let s = run-span _ g.M.Medium.prepared _ _ c.requires.sound _ _ c.requires.next.1 _ c.args.block c.args.count true c.requires.run.1 in
    let mine = own _ g.M.Medium.prepared _ _ c.requires.sound _ _ c.requires.next.1 _ _ _ _ s.2 s.3 in (
      mine.request,
      subst (λ k. MayPut g.M.Medium.device g.M.Medium.prepared c.args.drive.now c.args.core.now k c.args.block c.args.count mine.request) (sym c.token-token.ensures)
          (cover-put _ g.M.Medium.prepared _ _ c.requires.sound _ _ c.requires.next.1 _ _ _ _ s.2 s.3 g.met.M.Medium.shaped),
    )

pub settle-requires : goal.settle-requires
settle-requires g c =
    let s = run-span _ g.M.Medium.prepared _ _ c.requires.sound _ _ c.requires.next.1 _ c.args.block c.args.count true c.requires.run.1 in
    let bytes = ap (λ k. k * c.from-2.result) c.from.ensures ∙ ap (λ k. c.args.count * k) c.from-2.ensures in
    subst (λ k. MayEnter c.args.core.now c.args.unit.now k c.write_run-answer.result) (sym bytes) (cover-enter _ g.M.Medium.prepared _ _ c.requires.sound _ _ c.requires.next.1 _ _ _ _ s.2 s.3 c.write_run-answer.result)

pub returns : goal.returns
returns g c =
    let s = run-span _ g.M.Medium.prepared _ _ c.requires.sound _ _ c.requires.next.1 _ c.args.block c.args.count true c.requires.run.1 in
    let mine = own _ g.M.Medium.prepared _ _ c.requires.sound _ _ c.requires.next.1 _ _ _ _ s.2 s.3 in
    let core = c.args.core.now in
    let bytes = ap (λ k. k * c.from-2.result) c.from.ensures ∙ ap (λ k. c.args.count * k) c.from-2.ensures in
    let command = cover-command _ g.M.Medium.prepared _ _ c.requires.sound _ _ c.requires.next.1 _ _ _ _ s.2 s.3 c.command_for-command.result
    (subst (λ k. IfSome (request_at core.tokens k) (λ q. c.command_for-command.result ≡ cover_by q.asked.kind c.args.block c.args.count)) c.token-token.ensures c.command_for-command.ensures) in
    let named = ap (request_at core.tokens) c.token-token.ensures ∙ cover-request _ g.M.Medium.prepared _ _ c.requires.sound _ _ c.requires.next.1 _ _ _ _ s.2 s.3 in
    let on = subst (λ o. IfSome o (λ q. OnMedium g.M.Medium.device g.M.Medium.prepared c.args.drive.now c.write_run-answer.new.drive (λ d d'. IsWrite d c.args.block (blocks_bytes q c.args.block c.args.count core.blocks.size) c.write_run-answer.result d'))) named
    c.write_run-answer.ensures in
    let settled = subst (λ v. Settles core c.settle.new.core c.args.unit.now v (c.args.count * core.blocks.size) c.write_run-answer.result) command
    (subst (λ k. Settles core c.settle.new.core c.args.unit.now c.command_for-command.result k c.write_run-answer.result) bytes c.settle.ensures) in
    cover-settled _ g.M.Medium.prepared _ _ c.requires.sound _ _ c.requires.next.1 _ _ _ _ s.2 s.3 g.met.M.Medium.shaped c.write_run-answer.new.drive c.settle.new.core c.write_run-answer.result on settled
