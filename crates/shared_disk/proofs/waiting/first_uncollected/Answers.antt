use Rattle.std.proofs.Common.{◌≡◌, ℕ, inl, inr, false, List, Some, get_or, slice_get, arith}
use Rattle.std.proofs.lemmas.Bool.{cases_eq}
use Rattle.std.proofs.lemmas.Option.{get_or_from_slice_get, slice_get_within}
use Rattle.shared_disk.specs.declared.books.Slot.{Slot}
use Rattle.shared_disk.specs.declared.books.Buffer.TheVariants.{Awaited}
use Rattle.shared_disk.specs.Inside.{is_awaited}
use Rattle.shared_disk.proofs.GivenLemmas.{awaited-not}
use Rattle.shared_disk.proofs.waiting.first_uncollected.Goals as goal

here : (slots : List Slot) (tokens : List ℕ) (place t : ℕ) (s d : Slot) → ((get_or slots (get_or tokens place 0) d).buffer ≡ Awaited → ⊥) → slice_get tokens place ≡ Some t → slice_get slots t ≡ Some s → is_awaited s.buffer ≡ false
here slots tokens place t s d not at there =
    awaited-not s.buffer (rw (get_or_from_slice_get tokens place t 0 at, get_or_from_slice_get slots t s d there) at not)

pub loop-place-preserved : goal.loop-place-preserved
loop-place-preserved c j t s from lt at there = elim (cases_eq j c.loop-place.place) [
  | inl same ↦ here c.args.slots.now c.args.tokens.now c.loop-place.place t s _ c.in_default.not-Awaited (rw same at at) there
  | inr other ↦ c.loop-place.invariant j t s from (omega (arith, lt, other)) at there
]

pub returns-clause-before : goal.returns-clause-before
returns-clause-before c j t s from lt at there = c.loop-place.invariant j t s from (omega (arith, lt, c.loop-place-test.false, c.loop-place.auto.place-end)) at there

pub returns-clause-here : goal.returns-clause-here
returns-clause-here c t s at there = absurd (omega (arith, slice_get_within c.args.tokens.now _ t at))
