use Rattle.std.proofs.Common.{refl}
use Rattle.std.proofs.lemmas.Bool.{eq-eqb, ne_eqb}
use Rattle.disk_core.specs.Moves.{without_gate_of}
use Rattle.disk_core.proofs.Holders.{revoke-is}
use Rattle.disk_core.proofs.entering.revoke_one.Goals as goal

pub returns-then-token-holder : goal.returns-then-token-holder
unfolding without_gate_of
returns-then-token-holder c = rw (eq-eqb c.args.token c.args.holder.now.token c.if-token-holder.true)
    (revoke-is c.revoke.result c.args.gates.now c.revoke.new.self c.args.holder.now.ticket c.revoke.ensures.held c.revoke.ensures.released c.revoke.ensures.unchanged)

pub returns-else-token-holder : goal.returns-else-token-holder
unfolding without_gate_of
returns-else-token-holder c = rw (ne_eqb c.args.token c.args.holder.now.token c.if-token-holder.false) refl
