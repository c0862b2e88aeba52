use Rattle.std.proofs.Common.{sym, ap}
use Rattle.token_table.specs.Records.{done_or_fault, done_at}
use Rattle.token_table.proofs.Index.{record-none, record-is, done-none, done-some, without-is, are-shown, view-shown}
use Rattle.token_table.proofs.tokens.Tokens.take.Goals as goal

pub returns-in_default-clause-answer : goal.returns-in_default-clause-answer
unfolding done_at
returns-in_default-clause-answer c = ap done_or_fault (record-none c.self.inside.index c.self.inside.records c.self.inside.given c.args.number c.args.self.now c.self.view_is c.self.invariant c.in_default.ensures.value)

pub returns-in_default-clause-shown : goal.returns-in_default-clause-shown
returns-in_default-clause-shown c = view-shown c.self.inside.index c.self.inside.records c.self.inside.given c.args.self.now c.self.view_is c.self.invariant

pub returns-in-None-clause-answer : goal.returns-in-None-clause-answer
returns-in-None-clause-answer c = done-none c.args.self.now c.args.number c.index.result.now (record-is c.self.inside.index c.self.inside.records c.self.inside.given c.args.number c.in-Some.key.now c.index.result.now c.args.self.now c.self.view_is c.self.invariant (sym c.in-Some.ensures.value) c.index.ensures) c.in-None.is

pub returns-in-None-clause-shown : goal.returns-in-None-clause-shown
returns-in-None-clause-shown c = view-shown c.self.inside.index c.self.inside.records c.self.inside.given c.args.self.now c.self.view_is c.self.invariant

pub invariant_of-self : goal.invariant_of-self
invariant_of-self c = (without-is c.self.inside.index c.remove.new.self c.self.inside.records c.remove-request.new.self c.self.inside.given c.args.number c.in-Some.key.now c.args.self.now c.self.view_is c.self.invariant (sym c.in-Some.ensures.value) c.remove.ensures.updates c.remove-request.ensures.updates c.remove.ensures.ordered).1

pub returns-clause-answer : goal.returns-clause-answer
returns-clause-answer c =
    done-some c.args.self.now c.self.inside.records c.args.number c.in-Some.key.now c.index.result.now c.remove-request.result c.in-Some-ended.status (record-is c.self.inside.index c.self.inside.records c.self.inside.given c.args.number c.in-Some.key.now c.index.result.now c.args.self.now c.self.view_is c.self.invariant (sym c.in-Some.ensures.value) c.index.ensures) c.index.ensures c.remove-request.ensures.value c.in-Some-ended.is

pub returns-clause-ok : goal.returns-clause-ok
returns-clause-ok c = (without-is c.self.inside.index c.remove.new.self c.self.inside.records c.remove-request.new.self c.self.inside.given c.args.number c.in-Some.key.now c.args.self.now c.self.view_is c.self.invariant (sym c.in-Some.ensures.value) c.remove.ensures.updates c.remove-request.ensures.updates c.remove.ensures.ordered).0

pub returns-clause-shown : goal.returns-clause-shown
returns-clause-shown c = are-shown _ _ _ (without-is c.self.inside.index c.remove.new.self c.self.inside.records c.remove-request.new.self c.self.inside.given c.args.number c.in-Some.key.now c.args.self.now c.self.view_is c.self.invariant (sym c.in-Some.ensures.value) c.remove.ensures.updates c.remove-request.ensures.updates c.remove.ensures.ordered).1
