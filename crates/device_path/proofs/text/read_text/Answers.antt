use Rattle.std.proofs.Common.{◌≡◌, sym, ap, ◌∙◌}
use Rattle.std.specs.List.{concat}
use Rattle.std.proofs.lemmas.Slice.Eq.{bytes_eq-Decides}
use Rattle.std.proofs.lemmas.Str.{IsUtf8-from_ascii}
use Rattle.device_path.specs.Text.{text_of, IsTextOf, text_pieces}
use Rattle.device_path.proofs.ReadBack.{text-ascii}
use Rattle.device_path.proofs.text.read_text.Goals as goal

pub returns-in_default-clause-each : goal.returns-in_default-clause-each
returns-in_default-clause-each c = λ node can is. absurd (c.in_default.ensures.cases.0 (IsUtf8-from_ascii c.args.b.now (text-ascii node c.args.b.now can is)))

pub returns-clause-each : goal.returns-clause-each
unfolding IsTextOf text_of
returns-clause-each c = λ node can is.
    let same : c.candidate-node.result ≡ node = c.candidate-node.ensures node can (c.in-Ok.ensures.cases.0 ∙ is) in
    let spelled : c.as_slice.result.now ≡ c.args.b.now = c.as_slice.ensures ∙ c.in_ok-spelling.ensures ∙ ap (λ h. concat (text_pieces h)) same ∙ sym is in
    let equal = sym c.if-eq.false ∙ c.eq.ensures ∙ (bytes_eq-Decides c.as_slice.result.now c.args.b.now).1 spelled in absurd (cc)
