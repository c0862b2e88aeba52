use Rattle.std.proofs.Common.{◌≡◌, ap, sym, ◌∙◌, subst, List, ℕ}
use Rattle.crc_table.specs.Crc32.{crc32_of}
use Rattle.script_text.specs.declared.report.parts.TokenLine.{TokenLine}
use Rattle.script_text.specs.Report.{AreEnds}
use Rattle.stack_run.specs.Summary.{summary_text}
use Rattle.stack_run.proofs.generated_run.sum_of.Goals as goal

pub returns : goal.returns
returns c = λ S ends.
    let H = c.args.run.now.history.entries in
    let told = c.in_ok-text.ensures.text S (subst (λ (l : List TokenLine). AreEnds S H l) (sym c.deref.ensures.value) ends) in
    (c.in_ok-image.image.items, sym c.in_ok-image.ensures, told ∙ ap (summary_text S H) (c.crc32.ensures.value ∙ ap crc32_of c.deref-2.ensures.value))
