use Rattle.std.proofs.Common.{◌∙◌, ap}
use Rattle.subtask_queue.specs.Firsts.{first_at}
use Rattle.subtask_queue.proofs.Live.{live-restarted, none-restarted}
use Rattle.subtask_queue.proofs.firsts.Firsts.restart.Goals as goal

pub invariant_of-self : goal.invariant_of-self
invariant_of-self c = live-restarted c.self.inside.base c.args.token c.self.inside.nodes.items c.self.inside.links c.self.invariant (λ t. ap (λ f. first_at f t) c.self.view_is ∙ c.requires t)

pub returns-clause-none : goal.returns-clause-none
returns-clause-none c = none-restarted c.self.inside.base c.args.token c.self.inside.nodes.items (λ t. ap (λ f. first_at f t) c.self.view_is ∙ c.requires t)
