use Rattle.std.proofs.Common.{inl, inr, arith}
use Rattle.std.proofs.lemmas.Bool.{cases_eq}
use Rattle.shared_disk.proofs.GivenLemmas.{mark-open, mark-closed}
use Rattle.shared_disk.proofs.collecting.first_open.Goals as goal

pub returns-in-Outstanding-clause-here : goal.returns-in-Outstanding-clause-here
returns-in-Outstanding-clause-here g c lt = mark-open c.args.disk.now c.loop-number.number c.in-Outstanding.ensures

pub loop-number-preserved : goal.loop-number-preserved
loop-number-preserved g c t from lt = elim (cases_eq t c.loop-number.number) [
  | inl same ↦ rw same (mark-closed c.args.disk.now c.loop-number.number c.mark.result c.history.ensures.facts.legal c.in_default.not-Outstanding c.mark.ensures)
  | inr other ↦ c.loop-number.invariant t from (omega (arith, lt, other))
]
