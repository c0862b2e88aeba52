use Rattle.std.proofs.Common.{◌≡◌, None, ◌∙◌, ap}
use Rattle.block_gate.specs.Gates.{gate_of}
use Rattle.disk_core.specs.declared.storing.Part.{Part}
use Rattle.disk_core.specs.Parts.{holder_of}
use Rattle.disk_core.proofs.Parted.{any-none, part-is, part-ends, part-fits, holder-found, request-found}
use Rattle.disk_core.proofs.storing.part_of.Goals as goal

pub returns-in_err-token-clause-none : goal.returns-in_err-token-clause-none
returns-in_err-token-clause-none g c =
    any-none {X = Part} {A = gate_of c.args.core.now.gates.held c.args.ticket ≡ None} c.from_residual-in_err-token.result
    (absurd (holder-found _ _ _ c.args.core.now c.requires g.met.M.Medium.shaped c.args.ticket c.in_ok-block.block c.in_ok-block.ensures.value (c.in_err-token.ensures ∙ ap (λ hs. holder_of hs c.args.ticket) c.deref.ensures.value)))

pub returns-in_err-request-clause-none : goal.returns-in_err-request-clause-none
returns-in_err-request-clause-none g c =
    any-none {X = Part} {A = gate_of c.args.core.now.gates.held c.args.ticket ≡ None} c.from_residual-in_err-request.result
    (absurd (request-found _ _ _ c.args.core.now c.requires g.met.M.Medium.shaped c.args.ticket c.in_ok-block.block c.in_ok-token.token c.in_ok-block.ensures.value (c.in_ok-token.ensures ∙ ap (λ hs. holder_of hs c.args.ticket) c.deref.ensures.value)
    c.in_err-request.ensures.value))

pub range_in-requires-clause-ends : goal.range_in-requires-clause-ends
range_in-requires-clause-ends g c =
    part-ends _ _ _ c.args.core.now c.requires g.met.M.Medium.shaped c.args.ticket c.in_ok-block.block c.in_ok-token.token c.in_ok-request.request.now c.in_ok-block.ensures.value (c.in_ok-token.ensures ∙ ap (λ hs. holder_of hs c.args.ticket) c.deref.ensures.value)
    c.in_ok-request.ensures.value

pub range_in-requires-clause-fits : goal.range_in-requires-clause-fits
range_in-requires-clause-fits g c = part-fits _ _ _ c.args.core.now c.requires g.met.M.Medium.shaped c.args.ticket c.in_ok-block.block c.in_ok-block.ensures.value

pub returns-clause-some : goal.returns-clause-some
returns-clause-some g c =
    part-is _ _ _ c.args.core.now c.requires g.met.M.Medium.shaped c.args.ticket c.in_ok-block.block c.in_ok-token.token c.in_ok-request.request.now c.range_in.result c.in_ok-block.ensures.value
    (c.in_ok-token.ensures ∙ ap (λ hs. holder_of hs c.args.ticket) c.deref.ensures.value) c.in_ok-request.ensures.value c.range_in.ensures.low c.range_in.ensures.high
