use Rattle.std.proofs.Common.{sym, ◌∙◌, arith}
use Rattle.gpt_headers.specs.declared.spans.Span.{Span}
use Rattle.gpt_headers.proofs.Sweep.{lone_at, marked_to, reach_more}
use Rattle.gpt_headers.proofs.spans.sweep.Goals as goal

pub loop-i-preserved : goal.loop-i-preserved
loop-i-preserved c =
    let spans = c.args.spans.now in
    let i = c.loop-i.i in
    let d : Span = record { first = 0; last = 0; place = 0 } in
    let lone = lone_at spans i c.loop-i.furthest d c.loop-i-test.true c.requires.sorted c.requires.blocks c.loop-i.invariant.furthest in
    record {
      flags = marked_to spans i d _ _ c.args.flags.now c.loop-i-test.true c.loop-i.invariant.flags (c.stands_alone.ensures ∙ sym lone);
      start = λ none. absurd (omega arith);
      furthest = reach_more spans i c.loop-i.furthest c.max-furthest.result d c.loop-i-test.true c.max-furthest.ensures c.loop-i.invariant.start c.loop-i.invariant.furthest;
    }
