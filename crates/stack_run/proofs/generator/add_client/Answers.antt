use Rattle.std.proofs.Common.{rules, ◌≡◌, ◌+◌, ◌++◌, [], ◌∷◌, ◌∙◌, sym, ap, arith}
use Rattle.std.specs.Prelude.{codes}
use Rattle.script_text.specs.Text.{line_of}
use Rattle.stack_run.specs.Generated.{with_line, with_lines}
use Rattle.stack_run.proofs.Drafts.{lines-next}
use Rattle.stack_run.proofs.generator.add_client.Goals as goal

pub loop-done-init : goal.loop-done-init
unfolding with_lines
loop-done-init c = search rules

pub loop-done-preserved : goal.loop-done-preserved
loop-done-preserved c =
    c.in_ok-add_line.ensures ∙ (ap (with_line (c.loop-done.done + 1)) c.loop-done.invariant ∙ sym (lines-next c.loop-done.done _))

pub returns : goal.returns
unfolding line_of
returns c =
    let all : c.loop-done.done ≡ c.args.lines = omega arith in
    let opened : c.extend_from_slice.new.self.items ≡ c.args.draft.now.text.items ++ line_of (codes "client" ∷ []) = c.in_ok-extend_from_slice.ensures.items in
    c.loop-done.invariant ∙ λ i. with_lines (all i) (record { text = opened i; state = c.args.draft.now.words })
