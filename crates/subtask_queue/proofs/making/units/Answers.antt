use Rattle.std.proofs.Common.{[], ◌∷◌, ◌++◌, ap, sym, ◌∙◌, map}
use Rattle.subtask_queue.specs.declared.sub.Sub.TheVariants.{Sync}
use Rattle.subtask_queue.specs.Subs.{sub_of_span, spans_in, subs_of_request}
use Rattle.subtask_queue.proofs.making.units.Goals as goal

pub returns-then-is_flush : goal.returns-then-is_flush
unfolding subs_of_request
returns-then-is_flush c = rw (sym c.is_flush.ensures ∙ c.if-is_flush.true) (c.in_ok-push.ensures.items ∙ ap (λ subs. subs ++ Sync c.args.token ∷ []) c.new-subs.ensures.items)

pub returns : goal.returns
unfolding subs_of_request
returns c = rw (sym c.is_flush.ensures ∙ c.if-is_flush.false) (c.in_ok-subs.ensures ∙ ap (λ write. map (sub_of_span c.args.blocks.size c.args.token write) (spans_in c.args.blocks c.args.parts.now)) c.is_write-write.ensures)
