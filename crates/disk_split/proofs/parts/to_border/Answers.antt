use Rattle.std.proofs.Common.{◌*◌, arith, ap}
use Rattle.disk_split.proofs.Rounding.{border-here, border-next}
use Rattle.disk_split.proofs.parts.to_border.Goals as goal

pub returns-then-rest-eq0 : goal.returns-then-rest-eq0
returns-then-rest-eq0 c = omega (arith, ap (λ n. n * c.args.size) (border-here c.args.size c.args.at c.requires (omega arith)))

pub returns-else-rest-eq0 : goal.returns-else-rest-eq0
returns-else-rest-eq0 c = omega (arith, ap (λ n. n * c.args.size) (border-next c.args.size c.args.at c.requires (omega arith)))
