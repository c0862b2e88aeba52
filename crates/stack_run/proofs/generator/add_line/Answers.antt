use Rattle.std.proofs.Common.{◌≡◌, ◌%◌, ◌∙◌}
use Rattle.std.proofs.lemmas.Bool.{ne_eqb}
use Rattle.stack_run.specs.Generated.{with_line}
use Rattle.stack_run.proofs.Drafts.{draws}
use Rattle.stack_run.proofs.generator.add_line.Goals as goal

pub returns : goal.returns
unfolding with_line
returns c =
    let drawn = draws _ _ _ _ _ _ c.next_word.ensures (c.as_bytes.ensures.value ∙ c.in_ok-line.ensures) c.in_ok-extend_from_slice.ensures.items in
    let request : c.args.place % 16 ≡ 0 → ⊥ = c.if-place-eq0.false in
    rw (ne_eqb _ _ request) drawn
