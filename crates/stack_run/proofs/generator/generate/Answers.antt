use Rattle.std.proofs.Common.{◌≡◌, ◌∙◌, sym, ap, arith}
use Rattle.std.proofs.lemmas.Nat.{from_le_bytes-to_le_bytes_8}
use Rattle.script_text.specs.Text.{line_of}
use Rattle.stack_run.specs.Generated.{with_client, with_clients, opening}
use Rattle.stack_run.proofs.Drafts.{clients-next}
use Rattle.stack_run.proofs.GeneratedScript.{generated-script}
use Rattle.stack_run.proofs.generator.generate.Goals as goal

pub loop-init : goal.loop-init
unfolding with_clients line_of
loop-init c =
    let seeded : c.from_seed.result ≡ c.args.number =
    c.from_seed.ensures ∙ rw c.to_le_bytes.ensures (from_le_bytes-to_le_bytes_8 c.args.number c.ranges.number.fits) in
    λ i. record { text = c.in_ok-from_slice.ensures.items i; state = seeded i }

pub loop-preserved : goal.loop-preserved
loop-preserved c =
    c.in_ok-add_client.ensures ∙ (ap (with_client c.args.lines) c.loop.invariant ∙ sym (clients-next c.args.lines c.loop.counter _))

whole-text : goal.returns-clause-text
whole-text c =
    let all : c.loop.counter ≡ c.args.clients = omega arith in
    ap (λ m. m.text) (c.loop.invariant ∙ ap (λ n. with_clients c.args.lines n (opening c.args.number)) all)

pub returns-clause-text : goal.returns-clause-text
returns-clause-text c = whole-text c

pub returns-clause-script : goal.returns-clause-script
returns-clause-script c = rw (whole-text c) (generated-script c.args.number c.args.clients c.args.lines c.requires.most c.requires.all)
