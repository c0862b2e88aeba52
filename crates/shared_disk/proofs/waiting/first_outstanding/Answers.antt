use Rattle.std.proofs.Common.{◌≡◌, inl, inr, get_or, arith}
use Rattle.std.proofs.lemmas.Bool.{cases_eq}
use Rattle.std.proofs.lemmas.Option.{get_or_from_slice_get, slice_get_within}
use Rattle.shared_disk.proofs.GivenLemmas.{mark-open, mark-closed}
use Rattle.shared_disk.proofs.waiting.first_outstanding.Goals as goal

pub returns-in-Outstanding-clause-here : goal.returns-in-Outstanding-clause-here
returns-in-Outstanding-clause-here g c t at =
    let is : get_or c.args.tokens.now c.loop-place.place 0 ≡ t = get_or_from_slice_get c.args.tokens.now c.loop-place.place t 0 at in
    rw (← is) (mark-open c.args.disk.now (get_or c.args.tokens.now c.loop-place.place 0) c.in-Outstanding.ensures)

pub loop-place-preserved : goal.loop-place-preserved
loop-place-preserved g c j t from lt at = elim (cases_eq j c.loop-place.place) [
  | inl same ↦
      (let is : get_or c.args.tokens.now c.loop-place.place 0 ≡ t = get_or_from_slice_get c.args.tokens.now c.loop-place.place t 0 (rw same at at) in
      rw (← is) (mark-closed c.args.disk.now (get_or c.args.tokens.now c.loop-place.place 0) c.mark.result c.history.ensures.facts.legal c.in_default.not-Outstanding c.mark.ensures))
  | inr other ↦ c.loop-place.invariant j t from (omega (arith, lt, other)) at
]

pub returns-clause-here : goal.returns-clause-here
returns-clause-here g c t at = absurd (omega (arith, slice_get_within c.args.tokens.now _ t at))
