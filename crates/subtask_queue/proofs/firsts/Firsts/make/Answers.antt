use Rattle.std.proofs.Common.{◌<◌, ◌^◌, length, ap, sym, ◌∙◌, arith}
use Rattle.subtask_queue.proofs.Places.{at-empty}
use Rattle.subtask_queue.proofs.Live.{live-none}
use Rattle.subtask_queue.proofs.firsts.Firsts.make.Goals as goal

pub invariant_of-result : goal.invariant_of-result
invariant_of-result c = live-none c.new.result.items c.in_ok-make.field-0 c.new.ensures.items c.in_ok-make.ensures.value c.in_ok-make.ensures.apart

pub returns : goal.returns
returns c = λ t. at-empty 0 c.new.result.items t c.new.ensures.items
