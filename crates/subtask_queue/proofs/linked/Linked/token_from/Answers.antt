use Rattle.std.proofs.Common.{ap, ◌∙◌}
use Rattle.std.specs.List.{find}
use Rattle.std.specs.Option.{option_map}
use Rattle.subtask_queue.specs.Subs.{token_of, is_from}
use Rattle.subtask_queue.proofs.Ends.{token-from-is}
use Rattle.subtask_queue.proofs.linked.Linked.token_from.Goals as goal

pub returns : goal.returns
returns c =
    token-from-is c.token_from.result c.self.inside.firsts c.args.token c.self.inside.units c.self.invariant c.token_from.ensures.some c.token_from.ensures.none
    ∙ ap (λ subs. option_map token_of (find (is_from c.args.token) subs)) c.self.view_is
