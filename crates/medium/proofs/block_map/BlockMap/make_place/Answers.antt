use Rattle.std.proofs.Common.{arith}
use Rattle.medium.proofs.Listed.{length-filled}
use Rattle.medium.proofs.block_map.BlockMap.make_place.Goals as goal

pub overflow_sub-len : goal.overflow_sub-len
overflow_sub-len c = omega (arith, length-filled c.args.self.now.places c.args.self.now.filled.items c.args.self.now.distinct c.args.self.now.listed)
