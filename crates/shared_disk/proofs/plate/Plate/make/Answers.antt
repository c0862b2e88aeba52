use Rattle.std.proofs.Common.{◌≡◌, ◌+◌, length, sym, subst, ap, ◌∙◌, arith}
use Rattle.disk_core.specs.State.{State}
use Rattle.shared_disk.specs.Plate.{log_of, IsLogOf}
use Rattle.shared_disk.proofs.PlateLemmas.{log-of}
use Rattle.shared_disk.proofs.plate.Plate.make.Goals as goal

pub make_pen-requires : goal.make_pen-requires
make_pen-requires g c =
    let long = (log-of c.args.desk.now).long in
    let entries = ap length (c.history.ensures.entries ∙ ap (λ (s : State). s.entries) c.disk.ensures) in
    let here : c.done_lines.result + c.len.result ≡ length (log_of c.args.desk.now) = omega (arith, long, entries, c.done_lines.ensures.lines, c.len.ensures.value) in here

pub returns-clause-of : goal.returns-clause-of
returns-clause-of g c = subst (IsLogOf c.args.desk.now) (sym c.in_ok-pen.ensures) (log-of c.args.desk.now)
