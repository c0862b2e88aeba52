use Rattle.std.proofs.Common.{arith, ne_eqb, refl}
use Rattle.event_cell.proofs.Codes.{rem-code_of, code_of-word_of}
use Rattle.event_cell.proofs.numbers.code_in.Goals as goal

pub returns-then-word-eq1 : goal.returns-then-word-eq1
returns-then-word-eq1 c = λ status is. rw (code_of-word_of status, ← is, c.if-word-eq1.true) refl

pub overflow_sub-result : goal.overflow_sub-result
overflow_sub-result c = omega (arith, rem-code_of c.requires.status)

pub overflow_add-result : goal.overflow_add-result
overflow_add-result c = omega (arith, rem-code_of c.requires.status)

pub returns : goal.returns
returns c = λ status is. rw (code_of-word_of status, ← is, ne_eqb c.args.word 1 c.if-word-eq1.false) refl
