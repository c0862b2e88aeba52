use Rattle.std.proofs.Common.{◌∙◌, ap, sym, subst, length, arith}
use Rattle.std.proofs.lemmas.List.{length-reverse}
use Rattle.std.proofs.lemmas.Option.{slice_get-get_or}
use Rattle.history.specs.Tokens.{token_count}
use Rattle.disk_core.specs.State.{State}
use Rattle.disk_core.specs.Turns.{IsIdle}
use Rattle.shared_disk.specs.Desk.{DeskState}
use Rattle.stack_run.specs.Clients.{script_roles}
use Rattle.stack_run.proofs.ClientLemmas.{clients-fit}
use Rattle.stack_run.proofs.RanLemmas.{ready-ran, all-fit}
use Rattle.stack_run.proofs.DeskRuns.{tokens-fit, slots-collected, media-count, stopped, finished}
use Rattle.stack_run.proofs.desk_run.run_desk.Goals as goal

pub returns-in-Err-clause-some : goal.returns-in-Err-clause-some
returns-in-Err-clause-some g c none =
    ready-ran g.M.Medium.device c.args.plan.now c.args.disk c.args.table c.into_media-media.result.0.items c.requires.ready c.history.ensures.setup c.history.ensures.facts c.into_media-media.ensures.media c.into_media-media.ensures.count

pub make-requires-clause-clients : goal.make-requires-clause-clients
make-requires-clause-clients g c = clients-fit c.args.plan.now c.in-Ok.supplies.clients.items _ (c.in-Ok.ensures.clients) c.requires.disk c.requires.lines

pub returns-in-Err-make-clause-some : goal.returns-in-Err-make-clause-some
returns-in-Err-make-clause-some g c none =
    let same = ap (λ (s : State). s.devices) c.in-Err-make.ensures.disk in
    ready-ran g.M.Medium.device c.args.plan.now c.args.disk c.args.table c.into_media-media-in-Err-make.result.0.items c.requires.ready c.history.ensures.setup c.history.ensures.facts
    (c.into_media-media-in-Err-make.ensures.media ∙ same) (c.into_media-media-in-Err-make.ensures.count ∙ ap (λ (s : State). length s.setup.media) c.in-Err-make.ensures.disk)

pub plain-ran-requires-clause-idle : goal.plain-ran-requires-clause-idle
plain-ran-requires-clause-idle g c =
    subst IsIdle (sym (ap (λ (s : DeskState). s.disk.gates) c.in-Ok-make.ensures.desk)) c.requires.ready.quiet.idle

pub returns-in-Ok-ran-clause-back : goal.returns-in-Ok-ran-clause-back
returns-in-Ok-ran-clause-back g c =
    media-count c.args.plan.now c.args.disk c.args.table c.in-Ok.supplies.clients.items c.in-Ok-make.desk c.in-Ok-make.ensures.desk (c.in-Ok.ensures.clients ∙ ap (λ l. script_roles c.args.plan.now.size l c.args.plan.now.clients) c.children_of.ensures) c.requires.ready c.plain-ran.new.desk c.plain-ran.ensures.stays c.plain-ran.ensures.keeps
    g.M.Medium.device c.into_media-media-2.result.0.items c.into_parts-disk.result.0 c.into_parts-disk.ensures.disk c.into_media-media-2.ensures.facts c.into_media-media-2.ensures.media c.into_media-media-2.ensures.count

pub returns-in-Err-ran-clause-back : goal.returns-in-Err-ran-clause-back
returns-in-Err-ran-clause-back g c =
    media-count c.args.plan.now c.args.disk c.args.table c.in-Ok.supplies.clients.items c.in-Ok-make.desk c.in-Ok-make.ensures.desk (c.in-Ok.ensures.clients ∙ ap (λ l. script_roles c.args.plan.now.size l c.args.plan.now.clients) c.children_of.ensures) c.requires.ready c.plain-ran.new.desk c.plain-ran.ensures.stays c.plain-ran.ensures.keeps
    g.M.Medium.device c.into_media-media-2.result.0.items c.into_parts-disk.result.0 c.into_parts-disk.ensures.disk c.into_media-media-2.ensures.facts c.into_media-media-2.ensures.media c.into_media-media-2.ensures.count

pub fill_blocks-requires-clause-room : goal.fill_blocks-requires-clause-room
fill_blocks-requires-clause-room g c =
    let count = media-count c.args.plan.now c.args.disk c.args.table c.in-Ok.supplies.clients.items c.in-Ok-make.desk c.in-Ok-make.ensures.desk (c.in-Ok.ensures.clients ∙ ap (λ l. script_roles c.args.plan.now.size l c.args.plan.now.clients) c.children_of.ensures) c.requires.ready c.plain-ran.new.desk c.plain-ran.ensures.stays c.plain-ran.ensures.keeps
    g.M.Medium.device c.into_media-media-2.result.0.items c.into_parts-disk.result.0 c.into_parts-disk.ensures.disk c.into_media-media-2.ensures.facts c.into_media-media-2.ensures.media c.into_media-media-2.ensures.count in
    omega (arith, ap length c.as_slice.ensures.value, count, c.requires.ready.count, c.in-Ok.ensures.media)

pub fill_lines-requires-clause-room : goal.fill_lines-requires-clause-room
fill_lines-requires-clause-room g c =
    let few = tokens-fit c.args.plan.now c.args.disk c.args.table c.in-Ok.supplies.clients.items c.in-Ok-make.desk c.in-Ok-make.ensures.desk (c.in-Ok.ensures.clients ∙ ap (λ l. script_roles c.args.plan.now.size l c.args.plan.now.clients) c.children_of.ensures) c.requires.ready c.plain-ran.new.desk c.plain-ran.ensures.stays c.plain-ran.ensures.keeps in
    omega (arith, few, ap token_count (c.into_media-media-2.ensures.entries ∙ ap (λ (s : State). s.entries) c.into_parts-disk.ensures.disk), c.in-Ok.ensures.tokens, ap length c.entries-entries.ensures, length-reverse c.history.result.now.entries, ap length c.history.ensures.entries)

pub fill_lines-requires-clause-collected : goal.fill_lines-requires-clause-collected
fill_lines-requires-clause-collected g c k d inside =
    slots-collected c.args.plan.now c.args.disk c.args.table c.in-Ok.supplies.clients.items c.in-Ok-make.desk c.in-Ok-make.ensures.desk (c.in-Ok.ensures.clients ∙ ap (λ l. script_roles c.args.plan.now.size l c.args.plan.now.clients) c.children_of.ensures) c.requires.ready c.plain-ran.new.desk c.plain-ran.ensures.stays c.plain-ran.ensures.keeps
    c.in-Ok-ran.ensures.whole c.into_parts-disk.result.1.items c.into_parts-disk.ensures.slots c.into_parts-disk.ensures.buffers k _ (slice_get-get_or c.into_parts-disk.result.1.items k d inside)

pub returns-in-Ok-ran-clause-over : goal.returns-in-Ok-ran-clause-over
returns-in-Ok-ran-clause-over g c =
    finished c.args.plan.now c.args.disk c.args.table c.in-Ok.supplies.clients.items c.in-Ok-make.desk c.in-Ok-make.ensures.desk (c.in-Ok.ensures.clients ∙ ap (λ l. script_roles c.args.plan.now.size l c.args.plan.now.clients) c.children_of.ensures) c.requires.ready c.plain-ran.new.desk c.plain-ran.ensures.stays c.plain-ran.ensures.keeps
    g.M.Medium.device c.into_media-media-2.result.0.items c.into_parts-disk.result.0 c.into_parts-disk.ensures.disk c.into_media-media-2.ensures.facts c.into_media-media-2.ensures.media c.into_media-media-2.ensures.count
    (record { table = c.args.table; blocks = c.fill_blocks.new.blocks; history = c.into_media-media-2.result.1; ends = c.fill_lines.new.ends }) c.into_parts-disk.result.1.items c.into_media-media-2.ensures.entries c.into_parts-disk.ensures.slots c.into_parts-disk.ensures.buffers c.fill_lines.ensures
    (rw c.as_slice.ensures.value at c.fill_blocks.ensures) (all-fit g.M.Medium.device (λ m. (g.met.M.Medium.shaped m).fits) c.into_media-media-2.result.0.items)
    c.in-Ok-ran.ensures.whole c.in-Ok-ran.ensures.plain c.in-Ok-ran.ensures.faultless

pub returns-in-Err-ran-clause-some : goal.returns-in-Err-ran-clause-some
returns-in-Err-ran-clause-some g c none =
    stopped c.args.plan.now c.args.disk c.args.table c.in-Ok.supplies.clients.items c.in-Ok-make.desk c.in-Ok-make.ensures.desk (c.in-Ok.ensures.clients ∙ ap (λ l. script_roles c.args.plan.now.size l c.args.plan.now.clients) c.children_of.ensures) c.requires.ready c.plain-ran.new.desk c.plain-ran.ensures.stays c.plain-ran.ensures.keeps
    g.M.Medium.device c.into_media-media-2.result.0.items c.into_parts-disk.result.0 c.into_parts-disk.ensures.disk c.into_media-media-2.ensures.facts c.into_media-media-2.ensures.media c.into_media-media-2.ensures.count
    c.in-Err-ran.ensures.memory c.in-Err-ran.ensures.front
