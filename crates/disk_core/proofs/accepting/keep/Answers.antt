use Rattle.std.proofs.Common.{◌≡◌, ◌≤◌, ◌++◌, ap, ◌∙◌, subst, sym, arith}
use Rattle.history.specs.declared.entry.Entry.TheVariants.{Accept}
use Rattle.token_table.specs.Records.{with_record, mark_at}
use Rattle.token_table.specs.declared.record.Mark.{Mark}
use Rattle.subtask_queue.specs.Subs.{subs_of_request, without_token}
use Rattle.history_laws.specs.Costs.{left_at_first}
use Rattle.disk_core.specs.Admission.{after_accept, accepted_request, after_empty_end, after_keep}
use Rattle.disk_core.proofs.Keeping.{dropped-again, new-open}
use Rattle.disk_core.proofs.accepting.keep.Goals as goal

pub end_empty-requires-clause-outstanding : goal.end_empty-requires-clause-outstanding
unfolding after_accept
end_empty-requires-clause-outstanding c = subst (λ d. mark_at d.tokens c.args.core.now.accepted ≡ Mark.Outstanding) (sym c.enter_accept.ensures) (new-open _ _ _ _ _ c.in-Ok-add.ensures.added c.requires.counted)

pub end_empty-requires-clause-owed : goal.end_empty-requires-clause-owed
unfolding after_accept
end_empty-requires-clause-owed c = subst (λ d. 1 ≤ d.owed) (sym c.enter_accept.ensures) (let h = c.requires.room.owed in omega arith)

pub returns-in-Ok-add-clause-ok : goal.returns-in-Ok-add-clause-ok
unfolding after_keep accepted_request after_accept
returns-in-Ok-add-clause-ok c =
    let core = c.args.core.now in
    let room = c.args.room in
    let tokens_is : c.add-2.new.self ≡ with_record core.tokens (accepted_request c.args.tag c.args.view.now c.args.asked room.from c.args.buffer.items) room.signaller =
    c.in-Ok-add.ensures.added ∙ (λ i. with_record core.tokens (record { tag = c.args.tag; view = c.args.view.now; asked = c.args.asked; at = room.from; buffer = c.from_vec.ensures i; left = c.left_of-left.ensures i }) room.signaller) in
    let queue_is : c.add.new.self ≡ core.queue ++ subs_of_request core.blocks core.accepted c.args.asked.kind room.parts = c.in-Ok.ensures.ok in
    c.end_empty.ensures
    ∙ ap (λ n. after_empty_end n core.accepted c.enter_accept.new.core) c.left_of-left.ensures
    ∙ ap (after_empty_end (left_at_first c.args.asked.kind c.args.asked.length) core.accepted) (c.enter_accept.ensures ∙ (λ i. after_accept core (Accept c.args.tag c.args.view.now c.args.asked room.bytes) room.owed (tokens_is i) (queue_is i)))

pub returns-in-Err-clause-err : goal.returns-in-Err-clause-err
returns-in-Err-clause-err c =
    let core = c.args.core.now in
    let queue_is = c.drop_request.ensures.value ∙ ap (without_token core.accepted) c.in-Ok.ensures.ok ∙ dropped-again core.blocks core.accepted c.args.asked.kind c.args.room.parts core.queue c.requires.above in
    λ i. record core { tokens = c.in-Err.ensures.err i; queue = queue_is i }
