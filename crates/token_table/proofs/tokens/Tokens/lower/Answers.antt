use Rattle.token_table.specs.Records.{lower_record, IsShown}
use Rattle.token_table.proofs.Index.{outstanding-key, record-is, left-of, rewritten-is, are-shown}
use Rattle.token_table.proofs.tokens.Tokens.lower.Goals as goal

pub index-key-requires : goal.index-key-requires
index-key-requires c = outstanding-key c.self.inside.index c.self.inside.records c.self.inside.given c.args.number c.args.self.now c.self.view_is c.self.invariant c.requires.outstanding

pub overflow_sub-index_mut : goal.overflow_sub-index_mut
overflow_sub-index_mut c = left-of c.args.self.now c.args.number c.args.by c.index_mut.result.now (record-is c.self.inside.index c.self.inside.records c.self.inside.given c.args.number c.index-key.result.now c.index_mut.result.now c.args.self.now c.self.view_is c.self.invariant c.index-key.ensures c.index_mut.ensures.value) c.requires.left

pub returns-clause-value : goal.returns-clause-value
unfolding lower_record IsShown
returns-clause-value c = (rewritten-is (lower_record c.args.by) (λ r shown. shown) c.self.inside.index c.self.inside.records c.self.inside.given c.args.number c.index-key.result.now c.index_mut.result.now c.args.self.now c.self.view_is c.self.invariant c.index-key.ensures c.index_mut.ensures.value).0

pub invariant_of-self : goal.invariant_of-self
unfolding lower_record IsShown
invariant_of-self c = (rewritten-is (lower_record c.args.by) (λ r shown. shown) c.self.inside.index c.self.inside.records c.self.inside.given c.args.number c.index-key.result.now c.index_mut.result.now c.args.self.now c.self.view_is c.self.invariant c.index-key.ensures c.index_mut.ensures.value).1

pub returns-clause-shown : goal.returns-clause-shown
unfolding lower_record IsShown
returns-clause-shown c = are-shown _ _ _ (rewritten-is (lower_record c.args.by) (λ r shown. shown) c.self.inside.index c.self.inside.records c.self.inside.given c.args.number c.index-key.result.now c.index_mut.result.now c.args.self.now c.self.view_is c.self.invariant c.index-key.ensures c.index_mut.ensures.value).1
