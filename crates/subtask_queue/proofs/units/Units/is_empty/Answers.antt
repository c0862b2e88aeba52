use Rattle.std.proofs.Common.{◌∙◌, not, ap, sym, subst, ◌<◌, length}
use Rattle.index_links.specs.Lists.{list_at}
use Rattle.subtask_queue.proofs.Moving.{no-units, some-units}
use Rattle.subtask_queue.proofs.units.Units.is_empty.Goals as goal

pub returns-clause-none : goal.returns-clause-none
returns-clause-none c = λ none. sym c.self.view_is ∙ no-units c.self.inside.subs.items (list_at c.self.inside.links 0) c.first.result c.first.ensures.value (c.is_none.ensures ∙ ap not none)

pub returns-clause-some : goal.returns-clause-some
returns-clause-some c = λ some. subst (λ us. 0 < length us) c.self.view_is (some-units c.self.inside.subs.items (list_at c.self.inside.links 0) c.first.result c.first.ensures.value (c.is_none.ensures ∙ ap not some))
