use Rattle.std.proofs.Common.{sym, ◌∙◌}
use Rattle.partition_children.proofs.Headers.{blocks-told, size-some}
use Rattle.partition_children.proofs.Tables.{by-gpt, by-mbr}
use Rattle.partition_children.proofs.Endings.{gpt-ends, mbr-ends}
use Rattle.partition_children.proofs.probing.table_by.Goals as goal

pub returns-then-is_protective-clause-found : goal.returns-then-is_protective-clause-found
returns-then-is_protective-clause-found g c bytes holds =
    let target = c.args.target.now in
    let same = blocks-told bytes target.blocks target.size (size-some target.size c.requires.target.sized) (c.requires.target.long bytes holds) in
    by-gpt c.args.disk.now target.view.media_id target.size target.blocks bytes c.args.mbr.now same c.gpt_table.new.disk c.gpt_table.result (sym c.is_protective.ensures ∙ c.if-is_protective.true) (c.gpt_table.ensures.found bytes holds)

pub returns-else-is_protective-clause-found : goal.returns-else-is_protective-clause-found
returns-else-is_protective-clause-found g c bytes holds =
    let target = c.args.target.now in
    let same = blocks-told bytes target.blocks target.size (size-some target.size c.requires.target.sized) (c.requires.target.long bytes holds) in
    by-mbr c.args.disk.now target.view.media_id target.size target.blocks bytes c.args.mbr.now same c.mbr_table.new.disk c.mbr_table.result (sym c.is_protective.ensures ∙ c.if-is_protective.false) (c.mbr_table.ensures.found bytes holds)

pub returns-then-is_protective-clause-ends : goal.returns-then-is_protective-clause-ends
returns-then-is_protective-clause-ends g c bytes holds =
    let target = c.args.target.now in
    gpt-ends c.args.disk.now c.gpt_table.new.disk target.view.media_id target.size target.blocks bytes c.args.mbr.now c.gpt_table.result (sym c.is_protective.ensures ∙ c.if-is_protective.true) (c.gpt_table.ensures.ends bytes holds)

pub returns-else-is_protective-clause-ends : goal.returns-else-is_protective-clause-ends
returns-else-is_protective-clause-ends g c bytes holds =
    let target = c.args.target.now in
    let same = blocks-told bytes target.blocks target.size (size-some target.size c.requires.target.sized) (c.requires.target.long bytes holds) in
    mbr-ends c.args.disk.now c.mbr_table.new.disk target.view.media_id target.size target.blocks bytes c.args.mbr.now c.mbr_table.result same (sym c.is_protective.ensures ∙ c.if-is_protective.false) (c.mbr_table.ensures.ends bytes holds)
