use Rattle.token_table.proofs.Index.{outstanding-key, silent, ended-is, are-shown}
use Rattle.token_table.proofs.tokens.Tokens.end.Goals as goal

pub index-key-requires : goal.index-key-requires
index-key-requires c = outstanding-key c.self.inside.index c.self.inside.records c.self.inside.given c.args.number c.args.self.now c.self.view_is c.self.invariant c.requires

pub signal-requires : goal.signal-requires
signal-requires c = silent c.self.inside.index c.self.inside.records c.self.inside.given c.args.number c.index-key.result.now c.index_mut-record.result.now c.args.self.now c.self.view_is c.self.invariant c.index-key.ensures c.index_mut-record.ensures.value c.requires

pub returns-clause-value : goal.returns-clause-value
returns-clause-value c = (ended-is c.args.status c.self.inside.index c.self.inside.records c.self.inside.given c.args.number c.index-key.result.now c.index_mut-record.result.now c.signal.new.self c.args.self.now c.signal.ensures c.self.view_is c.self.invariant c.index-key.ensures c.index_mut-record.ensures.value).0

pub invariant_of-self : goal.invariant_of-self
invariant_of-self c = (ended-is c.args.status c.self.inside.index c.self.inside.records c.self.inside.given c.args.number c.index-key.result.now c.index_mut-record.result.now c.signal.new.self c.args.self.now c.signal.ensures c.self.view_is c.self.invariant c.index-key.ensures c.index_mut-record.ensures.value).1

pub returns-clause-shown : goal.returns-clause-shown
returns-clause-shown c = are-shown _ _ _ (ended-is c.args.status c.self.inside.index c.self.inside.records c.self.inside.given c.args.number c.index-key.result.now c.index_mut-record.result.now c.signal.new.self c.args.self.now c.signal.ensures c.self.view_is c.self.invariant c.index-key.ensures c.index_mut-record.ensures.value).1
