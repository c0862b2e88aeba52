use Rattle.std.proofs.Common.{ap, sym, ◌∙◌, subst, List}
use Rattle.partition_tables.specs.declared.table.Child.{Child}
use Rattle.disk_core.specs.State.{State}
use Rattle.partition_children.specs.Probing.{AddsEntriesAlone}
use Rattle.partition_children.proofs.Headers.{blocks-told, size-some, stays-wanting}
use Rattle.partition_children.proofs.ReadAllowed.{stays-same}
use Rattle.partition_children.proofs.Tables.{IsMbrTable, mbr-alone, mbr-chain}
use Rattle.partition_children.proofs.mbr.mbr_table.Goals.{in-Some+in_ok-add_logicals, in_default}
use Rattle.std.proofs.Common.{[]}
use Rattle.partition_children.specs.declared.reading.ReadFault.TheVariants.{Memory}
use Rattle.std.specs.Option.{option_map_or}
use Rattle.mbr_records.specs.Block.{extended_range}
use Rattle.partition_children.specs.Probing.{EndsReads}
use Rattle.partition_children.specs.Reads.{chain_reads}
use Rattle.partition_children.proofs.Endings.{chain-ends, handed-on, wants-before}
use Rattle.partition_children.proofs.mbr.mbr_table.Goals as goal

pub returns-in_err-children-clause-stays : goal.returns-in_err-children-clause-stays
returns-in_err-children-clause-stays g c = stays-wanting c.args.disk.now c.args.disk.now c.from_residual.result (stays-same c.args.disk.now c.requires.quiet) c.from_residual.ensures.1

pub returns-clause-stays : goal.returns-clause-stays
returns-clause-stays g c =
    elim c.match-extended.branch [
      | in-Some+in_ok-add_logicals w ↦ subst (λ (s : State). AddsEntriesAlone c.args.disk.now 0 s) (sym w.disk-is) w.in_ok-add_logicals.ensures.stays
      | in_default w ↦ subst (λ (s : State). AddsEntriesAlone c.args.disk.now 0 s) (sym w.disk-is) (stays-same c.args.disk.now c.requires.quiet)
    ]

pub returns-clause-found : goal.returns-clause-found
returns-clause-found g c bytes holds =
    let target = c.args.target.now in
    let same = blocks-told bytes target.blocks target.size (size-some target.size c.requires.target.sized) (c.requires.target.long bytes holds) in
    let old = c.args.disk.now in
    let k = target.view.media_id in
    let mbr = c.args.mbr.now in
    subst (λ (cs : List Child). IsMbrTable old k target.size target.blocks bytes mbr same cs c.match-extended.disk) (sym c.from_vec.ensures)
    (elim c.match-extended.branch [
      | in-Some+in_ok-add_logicals w ↦
          subst (λ (s : State). IsMbrTable old k target.size target.blocks bytes mbr same c.match-extended.children.items s) (sym w.disk-is)
          (subst (λ (cs : List Child). IsMbrTable old k target.size target.blocks bytes mbr same cs w.add_logicals.new.disk) (sym (ap (λ v. v.items) w.children-is))
          (mbr-chain old k target.size target.blocks bytes mbr same w.add_logicals.new.disk w.begin.result (w.in-Some.start, w.in-Some.size) w.signature.result c.in_ok-children.children.items w.add_logicals.new.children.items
          (sym c.extended.ensures.exact ∙ w.in-Some.is) w.begin.ensures w.signature.ensures c.in_ok-children.ensures (w.in_ok-add_logicals.ensures.found bytes holds)))
      | in_default w ↦
          subst (λ (s : State). IsMbrTable old k target.size target.blocks bytes mbr same c.match-extended.children.items s) (sym w.disk-is)
          (mbr-alone old k target.size target.blocks bytes mbr same c.match-extended.children.items (sym c.extended.ensures.exact ∙ w.in_default.is) (ap (λ v. v.items) w.children-is ∙ c.in_ok-children.ensures))
    ])

pub returns-in_err-children-clause-ends : goal.returns-in_err-children-clause-ends
returns-in_err-children-clause-ends g c bytes holds =
    let target = c.args.target.now in
    let reads = option_map_or (λ extended. chain_reads bytes target.size extended) (extended_range target.blocks c.args.mbr.now.records) [] in
    handed-on (λ f. EndsReads c.args.disk.now target.view.media_id reads f c.args.disk.now) c.from_residual.result Memory (wants-before c.args.disk.now target.view.media_id reads) c.from_residual.ensures.1

pub returns-in_err-add_logicals-clause-ends : goal.returns-in_err-add_logicals-clause-ends
returns-in_err-add_logicals-clause-ends g c bytes holds =
    let target = c.args.target.now in
    let fault = c.in_err-add_logicals.field-0.0 in
    handed-on (λ f. EndsReads c.args.disk.now target.view.media_id (option_map_or (λ extended. chain_reads bytes target.size extended) (extended_range target.blocks c.args.mbr.now.records) []) f c.add_logicals.new.disk) c.from_residual-in_err-add_logicals.result fault
    (chain-ends c.args.disk.now c.add_logicals.new.disk target.view.media_id target.size target.blocks bytes c.args.mbr.now c.begin.result (c.in-Some.start, c.in-Some.size) fault (sym c.extended.ensures.exact ∙ c.in-Some.is) c.begin.ensures (c.in_err-add_logicals.ensures.ends bytes holds)) c.from_residual-in_err-add_logicals.ensures.1
