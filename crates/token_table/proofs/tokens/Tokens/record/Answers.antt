use Rattle.std.proofs.Common.{ap, ◌∙◌, option_copied}
use Rattle.token_table.proofs.Index.{record-none, record-some, view-shown}
use Rattle.token_table.proofs.tokens.Tokens.record.Goals as goal

pub returns-in_err-key-clause-value : goal.returns-in_err-key-clause-value
returns-in_err-key-clause-value c = ap option_copied c.from_residual.ensures ∙ record-none c.self.inside.index c.self.inside.records c.self.inside.given c.args.number c.args.self.now c.self.view_is c.self.invariant c.in_err-key.ensures.value

pub returns-in_err-key-clause-shown : goal.returns-in_err-key-clause-shown
returns-in_err-key-clause-shown c = view-shown c.self.inside.index c.self.inside.records c.self.inside.given c.args.self.now c.self.view_is c.self.invariant

pub returns-clause-value : goal.returns-clause-value
returns-clause-value c = c.get-2.ensures ∙ record-some c.self.inside.index c.self.inside.records c.self.inside.given c.args.number c.in_ok-key.key.now c.args.self.now c.self.view_is c.self.invariant c.in_ok-key.ensures.value

pub returns-clause-shown : goal.returns-clause-shown
returns-clause-shown c = view-shown c.self.inside.index c.self.inside.records c.self.inside.given c.args.self.now c.self.view_is c.self.invariant
