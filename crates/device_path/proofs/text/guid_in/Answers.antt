use Rattle.std.proofs.Common.{inl, refl, ap, sym, ◌∙◌}
use Rattle.uuid.specs.Text.{lower, parsed}
use Rattle.uuid.proofs.RoundTrips.{parse_gives, parses_hyphenated}
use Rattle.device_path.proofs.text.guid_in.Goals as goal

pub returns-in-Ok : goal.returns-in-Ok
returns-in-Ok c = λ guid can is.
    let gives = parse_gives c.parse_str.result c.args.text.now guid c.parse_str.ensures.ok c.parse_str.ensures.bytes (parses_hyphenated lower guid (inl refl) can.0 can.1 ∙ ap parsed (sym is)) in
    let same = sym c.in-Ok.is ∙ gives in cc

pub returns-in-Err : goal.returns-in-Err
returns-in-Err c = λ guid can is.
    let gives = parse_gives c.parse_str.result c.args.text.now guid c.parse_str.ensures.ok c.parse_str.ensures.bytes (parses_hyphenated lower guid (inl refl) can.0 can.1 ∙ ap parsed (sym is)) in
    let same = sym c.in-Err.is ∙ gives in absurd (cc)
