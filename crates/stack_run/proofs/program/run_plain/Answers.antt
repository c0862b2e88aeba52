use Rattle.std.proofs.Common.{◌∙◌, ap, sym, Some}
use Rattle.stack_run.proofs.FileRows.{sized-so}
use Rattle.stack_run.proofs.program.run_plain.Goals as goal

pub run_probe-requires-clause-size : goal.run_probe-requires-clause-size
run_probe-requires-clause-size g c κs within =
    sized-so _ c.in-Ok-Some-Probe.field-0 _ c.in-Ok-Some-Probe.ensures.row (c.in-Ok-Some-Probe.field-0-is ∙ ap Some c.in-Ok-Some-Probe.field-0-0-is)

pub run_probe-requires-in-Ok-Some-Paths-clause-size : goal.run_probe-requires-in-Ok-Some-Paths-clause-size
run_probe-requires-in-Ok-Some-Paths-clause-size g c κs within =
    sized-so _ c.in-Ok-Some-Paths.field-0 _ c.in-Ok-Some-Paths.ensures.row (c.in-Ok-Some-Paths.field-0-is ∙ ap Some c.in-Ok-Some-Paths.field-0-0-is)

pub returns-in-Ok-Some-Probe-clause-probes : goal.returns-in-Ok-Some-Probe-clause-probes
returns-in-Ok-Some-Probe-clause-probes g c =
    let row = sym c.in-Ok-Some-Probe.ensures.row ∙ (c.in-Ok-Some-Probe.field-0-is ∙ ap Some c.in-Ok-Some-Probe.field-0-0-is) in
    rw row (record {
      done = c.run_probe.ensures.done;
      image = c.run_probe.ensures.image;
      lacks = c.run_probe.ensures.lacks;
      sink = c.run_probe.ensures.sink;
      memory = c.run_probe.ensures.memory;
      few = c.run_probe.ensures.few;
    })

pub returns-in-Ok-Some-Paths-clause-probes : goal.returns-in-Ok-Some-Paths-clause-probes
returns-in-Ok-Some-Paths-clause-probes g c =
    let row = sym c.in-Ok-Some-Paths.ensures.row ∙ (c.in-Ok-Some-Paths.field-0-is ∙ ap Some c.in-Ok-Some-Paths.field-0-0-is) in
    rw row (record {
      done = c.run_probe-in-Ok-Some-Paths.ensures.done;
      image = c.run_probe-in-Ok-Some-Paths.ensures.image;
      lacks = c.run_probe-in-Ok-Some-Paths.ensures.lacks;
      sink = c.run_probe-in-Ok-Some-Paths.ensures.sink;
      memory = c.run_probe-in-Ok-Some-Paths.ensures.memory;
      few = c.run_probe-in-Ok-Some-Paths.ensures.few;
    })
