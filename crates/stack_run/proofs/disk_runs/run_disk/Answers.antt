use Rattle.std.proofs.Common.{None, IfSome, map, length, ◌∙◌, ap, sym, subst, arith}
use Rattle.std.proofs.lemmas.List.{length-map}
use Rattle.history.specs.Setup.{Setup}
use Rattle.disk_core.specs.State.{setup_of, opening_from}
use Rattle.stack_run.specs.Clients.{unprobed}
use Rattle.stack_run.specs.Chains.{IsMediumOf}
use Rattle.stack_run.specs.Runs.{setup_over, RanOver, RanSomeOver, RanSome}
use Rattle.stack_run.specs.Starting.{start_of}
use Rattle.stack_run.proofs.DiskLoops.{fresh-some, rec-from-all}
use Rattle.stack_run.proofs.EraLemmas.{disk-ran-some, setup-same, some-disk-ran}
use Rattle.stack_run.proofs.StartLemmas.{fresh-ready, starts-so}
use Rattle.stack_run.proofs.disk_runs.run_disk.Goals as goal

pub make-drive-requires-clause-size : goal.make-drive-requires-clause-size
make-drive-requires-clause-size g c = (c.args.plan.now.size, λ k d there. (c.requires.made k d there).size)

pub run_desk-requires-clause-ready : goal.run_desk-requires-clause-ready
unfolding setup_of
run_desk-requires-clause-ready g c =
    fresh-ready c.args.plan.now c.in-Ok.disk _ c.in-Ok.ensures.entries c.in-Ok.ensures.gates c.requires.whole
    (ap (λ (S : Setup). length S.media) c.in-Ok.ensures.setup ∙ (length-map c.make-drive.result.media (λ m. opening_from (g.M.Medium.device m)) ∙ (ap length c.make-drive.ensures.media ∙ c.requires.count)))

pub returns-in-Ok-clause-over : goal.returns-in-Ok-clause-over
returns-in-Ok-clause-over g c =
    let same = c.in-Ok.ensures.setup ∙ setup-same g.M.Medium.device c.args.plan.now c.args.media.items c.make-drive.result c.make-drive.ensures.fit c.make-drive.ensures.media c.make-drive.ensures.protected c.make-drive.ensures.cached c.make-drive.ensures.per (omega (arith, c.requires.count)) c.requires.made in
    some-disk-ran c.args.plan.now (map g.M.Medium.device c.args.media.items) (map g.M.Medium.device c.run_desk.result.0.items) unprobed (length-map c.args.media.items (λ m. g.M.Medium.device m) ∙ c.requires.count) c.run_desk.result.1 c.run_desk.ensures.table
    (subst (λ s. IfSome c.run_desk.result.1 (RanOver c.args.plan.now (setup_over c.args.plan.now (map g.M.Medium.device c.args.media.items)) s (map g.M.Medium.device c.run_desk.result.0.items))) (starts-so c.in-Ok.disk c.in-Ok.ensures.entries)
    (subst (λ (S : Setup). IfSome c.run_desk.result.1 (RanOver c.args.plan.now S (start_of c.in-Ok.disk None) (map g.M.Medium.device c.run_desk.result.0.items))) same c.run_desk.ensures.over))

pub returns-in-Ok-clause-some : goal.returns-in-Ok-clause-some
returns-in-Ok-clause-some g c none =
    let same = c.in-Ok.ensures.setup ∙ setup-same g.M.Medium.device c.args.plan.now c.args.media.items c.make-drive.result c.make-drive.ensures.fit c.make-drive.ensures.media c.make-drive.ensures.protected c.make-drive.ensures.cached c.make-drive.ensures.per (omega (arith, c.requires.count)) c.requires.made in
    disk-ran-some c.args.plan.now (map g.M.Medium.device c.args.media.items) (map g.M.Medium.device c.run_desk.result.0.items) (start_of c.in-Ok.disk None) (length-map c.args.media.items (λ m. g.M.Medium.device m) ∙ c.requires.count)
    (subst (λ (S : Setup). RanSomeOver c.args.plan.now S (start_of c.in-Ok.disk None) (map g.M.Medium.device c.run_desk.result.0.items)) same (c.run_desk.ensures.some none))

pub returns-in-Ok-clause-back : goal.returns-in-Ok-clause-back
unfolding setup_of
returns-in-Ok-clause-back g c =
    c.run_desk.ensures.back ∙ (ap (λ (S : Setup). length S.media) c.in-Ok.ensures.setup ∙ (length-map c.make-drive.result.media (λ m. opening_from (g.M.Medium.device m)) ∙ ap length c.make-drive.ensures.media))

pub returns-in-Err-clause-some : goal.returns-in-Err-clause-some
returns-in-Err-clause-some g c none =
    let back = c.into_media.ensures ∙ (ap (λ d. d.media) c.in-Err.ensures.back ∙ c.make-drive.ensures.media) in
    subst (λ l. RanSome c.args.plan.now (map g.M.Medium.device c.args.media.items) (map g.M.Medium.device l)) (sym back)
    (fresh-some c.args.plan.now (map g.M.Medium.device c.args.media.items) c.requires.whole (length-map c.args.media.items (λ m. g.M.Medium.device m) ∙ c.requires.count)
    (rec-from-all (IsMediumOf c.args.plan.now) (λ m. g.M.Medium.device m) c.args.media.items c.requires.made))
