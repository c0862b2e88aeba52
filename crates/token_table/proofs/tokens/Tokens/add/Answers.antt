use Rattle.std.proofs.Common.{◌≡◌, ◌∙◌, length, refl, ap, sym, arith}
use Rattle.slab.specs.Slab.{get}
use Rattle.token_table.specs.Records.{new_record, with_record, word_for, IsShown}
use Rattle.token_table.proofs.Index.{length-records_of, added-is, same-is, restored, are-shown}
use Rattle.token_table.proofs.tokens.Tokens.add.Goals as goal

pub returns-in-Err-clause-err : goal.returns-in-Err-clause-err
returns-in-Err-clause-err c = (same-is c.self.inside.index c.self.inside.index c.self.inside.records c.insert.new.self c.self.inside.given c.self.invariant refl c.self.invariant.ordered (λ k. ap (λ s. get s k) c.in-Err.ensures.err)).0 ∙ c.self.view_is

pub returns-in-Err-clause-shown : goal.returns-in-Err-clause-shown
returns-in-Err-clause-shown c = are-shown _ _ _ (same-is c.self.inside.index c.self.inside.index c.self.inside.records c.insert.new.self c.self.inside.given c.self.invariant refl c.self.invariant.ordered (λ k. ap (λ s. get s k) c.in-Err.ensures.err)).1

pub returns-in_default-clause-err : goal.returns-in_default-clause-err
returns-in_default-clause-err c = (same-is c.self.inside.index c.insert-2.new.self c.self.inside.records c.remove.new.self c.self.inside.given c.self.invariant c.in_default.ensures.err c.insert-2.ensures.ordered (restored c.self.inside.records c.insert.new.self c.remove.new.self c.in-Ok.key _ c.in-Ok.ensures.was_vacant c.in-Ok.ensures.updates c.remove.ensures.updates)).0 ∙ c.self.view_is

pub returns-in_default-clause-shown : goal.returns-in_default-clause-shown
returns-in_default-clause-shown c = are-shown _ _ _ (same-is c.self.inside.index c.insert-2.new.self c.self.inside.records c.remove.new.self c.self.inside.given c.self.invariant c.in_default.ensures.err c.insert-2.ensures.ordered (restored c.self.inside.records c.insert.new.self c.remove.new.self c.in-Ok.key _ c.in-Ok.ensures.was_vacant c.in-Ok.ensures.updates c.remove.ensures.updates)).1

pub overflow_add-self : goal.overflow_add-self
overflow_add-self c = let few = c.requires.few in let long : c.self.inside.given ≡ length c.args.self.now = sym (length-records_of c.self.inside.index c.self.inside.records c.self.inside.given) ∙ ap length c.self.view_is in omega arith

pub invariant_of-self-2 : goal.invariant_of-self-2
unfolding new_record IsShown word_for
invariant_of-self-2 c = (added-is c.self.inside.index c.insert-2.new.self c.self.inside.records c.insert.new.self c.self.inside.given c.in-Ok.key (new_record c.args.request c.args.signaller) c.args.self.now c.self.view_is c.self.invariant c.in-Ok.ensures.was_vacant c.in-Ok-insert.ensures.updates c.in-Ok.ensures.updates c.requires.silent c.insert-2.ensures.ordered).1

pub returns-clause-number : goal.returns-clause-number
returns-clause-number c = sym (length-records_of c.self.inside.index c.self.inside.records c.self.inside.given) ∙ ap length c.self.view_is

pub returns-clause-added : goal.returns-clause-added
unfolding new_record with_record IsShown word_for
returns-clause-added c = (added-is c.self.inside.index c.insert-2.new.self c.self.inside.records c.insert.new.self c.self.inside.given c.in-Ok.key (new_record c.args.request c.args.signaller) c.args.self.now c.self.view_is c.self.invariant c.in-Ok.ensures.was_vacant c.in-Ok-insert.ensures.updates c.in-Ok.ensures.updates c.requires.silent c.insert-2.ensures.ordered).0

pub returns-clause-shown : goal.returns-clause-shown
unfolding new_record IsShown word_for
returns-clause-shown c = are-shown _ _ _ (added-is c.self.inside.index c.insert-2.new.self c.self.inside.records c.insert.new.self c.self.inside.given c.in-Ok.key (new_record c.args.request c.args.signaller) c.args.self.now c.self.view_is c.self.invariant c.in-Ok.ensures.was_vacant c.in-Ok-insert.ensures.updates c.in-Ok.ensures.updates c.requires.silent c.insert-2.ensures.ordered).1
