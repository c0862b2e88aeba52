use Rattle.std.proofs.Common.{◌≡◌, ◌∷◌, [], ◌++◌, length, ap, ◌∙◌, string_bytes}
use Rattle.std.specs.Prelude.{codes}
use Rattle.script_text.specs.Text.{line_of}
use Rattle.script_text.specs.Tables.{digits_of}
use Rattle.stack_run.specs.Figures.{figures_of}
use Rattle.stack_run.proofs.Summing.{figures_text, behind, summary-told}
use Rattle.stack_run.proofs.summary.summary_of.Goals as goal

pub returns : goal.returns
returns c =
    let H = c.args.history.now.entries in
    let all = c.all_figures-figures.ensures in
    let count = c.from.ensures ∙ c.len.ensures.value in
    let accepted = c.from-2.ensures ∙ ap (λ f. f.accepted) all in
    let refused = c.from-3.ensures ∙ ap (λ f. f.refused) all in
    let commands = c.from-4.ensures ∙ ap (λ f. f.commands) all in
    let written = ap (λ f. f.written) all in
    let read = ap (λ f. f.read) all in
    let crc : c.as_str.result.now ≡ line_of (codes "crc" ∷ digits_of 8 c.args.crc ∷ []) = c.as_str.ensures.value ∙ c.in_ok-crc_line.ensures in
    let one = behind (codes "entries") c.in_ok-add_figure.ensures c.new-text.ensures.bytes count in
    let two = behind (codes "accepted") c.in_ok-add_figure-2.ensures one accepted in
    let three = behind (codes "refused") c.in_ok-add_figure-3.ensures two refused in
    let four = behind (codes "commands") c.in_ok-add_figure-4.ensures three commands in
    let five = behind (codes "written") c.in_ok-add_figure-5.ensures four written in
    let six = behind (codes "read") c.in_ok-add_figure-6.ensures five read in
    let last : string_bytes c.add_figure-6.new.text ++ c.as_str.result.now ≡ figures_text (length H) (figures_of c.args.ends.now H) c.args.crc = λ i. six i ++ crc i in
    record { text = λ S ends. c.in_ok-push_str.ensures.bytes ∙ (last ∙ summary-told S H c.args.ends.now c.args.crc ends) }
