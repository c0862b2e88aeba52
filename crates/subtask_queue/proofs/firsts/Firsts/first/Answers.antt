use Rattle.std.proofs.Common.{◌∙◌, ◌-◌, ap, sym, arith}
use Rattle.subtask_queue.specs.Firsts.{FirstNodes, first_at}
use Rattle.subtask_queue.proofs.Places.{at-before, at-place, at-past, read-place}
use Rattle.subtask_queue.proofs.firsts.Firsts.first.Goals.{then-token-self-via-then-token-self, then-token-self-via-else-token-self+then-token-self-2}
use Rattle.subtask_queue.proofs.firsts.Firsts.first.Goals as goal

pub returns-then-token-self : goal.returns-then-token-self
returns-then-token-self c =
    let f : FirstNodes = record { base = c.self.inside.base; nodes = c.self.inside.nodes.items } in
    sym (ap (λ g. first_at g c.args.token) (sym c.self.view_is) ∙ elim c.then-token-self.branch [
      | then-token-self-via-then-token-self w ↦ at-before f c.args.token w.if-token-self.true
      | then-token-self-via-else-token-self+then-token-self-2 w ↦ at-past f c.args.token (omega (arith, w.if-token-self-2.true, w.len.ensures, c.self.inside.nodes.ok))
    ])

pub returns : goal.returns
returns c =
    let f : FirstNodes = record { base = c.self.inside.base; nodes = c.self.inside.nodes.items } in
    read-place c.self.inside.nodes.items (c.args.token - c.self.inside.base) c.index.result.now (omega (arith, c.if-token-self-2.false, c.len.ensures, c.self.inside.nodes.ok)) c.index.ensures
    ∙ sym (at-place f c.args.token (omega (arith, c.if-token-self.false))) ∙ ap (λ g. first_at g c.args.token) c.self.view_is
