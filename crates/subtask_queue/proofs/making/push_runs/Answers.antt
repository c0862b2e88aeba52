use Rattle.std.proofs.Common.{sym, ap, ◌∙◌, ◌++◌, ◌∷◌, []}
use Rattle.subtask_queue.specs.declared.sub.Sub.TheVariants.{Run}
use Rattle.std.proofs.lemmas.List.{append-nil}
use Rattle.disk_split.specs.Units.{runs_from}
use Rattle.subtask_queue.proofs.Pushing.{runs-pushed}
use Rattle.subtask_queue.proofs.making.push_runs.Goals as goal

pub loop-i-init : goal.loop-i-init
unfolding runs_from
loop-i-init c = sym (append-nil c.args.subs.now.items)

pub loop-i-preserved : goal.loop-i-preserved
loop-i-preserved c =
    runs-pushed c.args.owner.blocks.size c.args.owner.token c.args.first_whole c.args.whole c.loop-i.i c.run-block.result.1 c.args.owner.write c.args.subs.now.items c.loop-i.subs.items c.push.new.self.items c.loop-i.invariant c.run-block.ensures.count
    (c.in_ok-push.ensures.items ∙ ap (λ b. c.loop-i.subs.items ++ Run c.args.owner.token b c.run-block.result.1 c.args.owner.write ∷ []) c.run-block.ensures.block)
