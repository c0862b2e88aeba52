use Rattle.std.proofs.Common.{◌∙◌, length, arith, ap, sym}
use Rattle.index_links.specs.Lists.{list_at, empty_lists}
use Rattle.subtask_queue.specs.Owned.{units_at}
use Rattle.subtask_queue.proofs.units.Units.make.Goals as goal

pub invariant_of-result : goal.invariant_of-result
unfolding empty_lists
invariant_of-result c = record {
  nodes = ap (λ s. s.nodes) c.in_ok-make.ensures.value ∙ ap length (sym c.new.ensures.items);
  lists = ap (λ s. length s.lists) c.in_ok-make.ensures.value;
  apart = c.in_ok-make.ensures.apart;
  enough = omega arith;
}

pub returns : goal.returns
unfolding empty_lists list_at units_at
returns c = ap (λ s. units_at c.new.result.items (list_at s 0)) c.in_ok-make.ensures.value
