use Rattle.std.proofs.Common.{refl}
use Rattle.mbr_records.proofs.chain.Chain.feed.Goals as goal

pub push-requires : goal.push-requires
push-requires c = rw c.unwrap-own.ensures at c.next_block.ensures.few

pub logical-logical-requires-clause-start : goal.logical-logical-requires-clause-start
logical-logical-requires-clause-start c = (rw c.unwrap-own.ensures at c.next_block.ensures.inside).0

pub logical-logical-requires-clause-end : goal.logical-logical-requires-clause-end
logical-logical-requires-clause-end c = (rw c.unwrap-own.ensures at c.next_block.ensures.inside).1

pub push-requires-2 : goal.push-requires-2
push-requires-2 c = rw c.unwrap-own.ensures at c.next_block.ensures.few

pub returns-clause-chain : goal.returns-clause-chain
returns-clause-chain c = rw (c.push-2.ensures, c.link.ensures, c.records.ensures, ← c.read.ensures, c.in-Some.is) refl

pub returns-clause-logical : goal.returns-clause-logical
returns-clause-logical c = rw (c.logical-logical.ensures.exact, c.records.ensures, ← c.next_block.ensures.exact, c.unwrap-own.ensures, ← c.read.ensures, c.in-Some.is) refl
