use Rattle.std.proofs.Common.{◌<◌, ◌*◌, ◌^◌, arith, rules, ap}
use Rattle.disk_split.proofs.Rounding.{first-whole-fits, whole-blocks-fits}
use Rattle.subtask_queue.specs.Subs.{sub_of_span}
use Rattle.subtask_queue.proofs.Pushing.{runs-fit, spans-pushed}
use Rattle.subtask_queue.proofs.making.moves.Goals as goal

pub overflow_mul-parts : goal.overflow_mul-parts
overflow_mul-parts c =
    let (a, z, fits, parts) = c.requires.parts in
    let ordered = parts.ordered in
    let small : c.args.parts.now.first_whole * c.from-per.result < 2 ^ 64 = rw (parts.first, c.from-per.ensures) (first-whole-fits c.args.owner.blocks a c.requires.sized (omega arith)) in
    search rules

pub overflow_mul-parts-2 : goal.overflow_mul-parts-2
overflow_mul-parts-2 c =
    let (a, z, fits, parts) = c.requires.parts in
    let small : c.args.parts.now.whole * c.from-per.result < 2 ^ 64 = rw (parts.count, c.from-per.ensures) (whole-blocks-fits c.args.owner.blocks a z c.requires.sized fits) in
    search rules

pub push_runs-requires : goal.push_runs-requires
push_runs-requires c =
    let (a, z, fits, parts) = c.requires.parts in
    rw (parts.first, parts.count, c.from-per.ensures) (runs-fit c.args.owner.blocks a z c.requires.sized parts.ordered fits)

pub returns : goal.returns
returns c =
    spans-pushed c.args.owner.blocks (sub_of_span c.args.owner.blocks.size c.args.owner.token c.args.owner.write) c.args.parts.now (c.args.parts.now.first_whole * c.from-per.result) (c.args.parts.now.whole * c.from-per.result)
    _ _ _ _ c.new-subs.ensures.items (ap (λ p. c.args.parts.now.first_whole * p) c.from-per.ensures) (ap (λ p. c.args.parts.now.whole * p) c.from-per.ensures)
    c.in_ok-push_part.ensures c.in_ok-push_runs.ensures c.in_ok-push_part-2.ensures
