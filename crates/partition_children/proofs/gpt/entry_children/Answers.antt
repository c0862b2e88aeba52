use Rattle.std.proofs.Common.{ap, sym, ◌∙◌, arith}
use Rattle.partition_children.proofs.Entries.{entry-inside, flag-is, flags-long}
use Rattle.partition_children.proofs.Places.{child-added, none-added}
use Rattle.partition_children.proofs.gpt.entry_children.Goals.{then-index+in_ok-add, else-index}
use Rattle.gpt_headers.specs.declared.entry.GptEntry.{GptEntry}
use Rattle.gpt_headers.specs.Entry.{entry_gives_partition}
use Rattle.partition_tables.specs.GptTable.{child_of_entry}
use Rattle.std.proofs.Common.{ℕ, Bool}
use Rattle.partition_children.proofs.gpt.entry_children.Goals as goal

pub index-requires : goal.index-requires
index-requires c = omega (arith, flags-long c.args.blocks c.args.header.now c.args.entries.now c.in_ok-flags.flags.items c.in_ok-flags.ensures.exact, c.in_ok-flags.flags.ok.0)

pub child_of-child-requires-clause-some : goal.child_of-child-requires-clause-some
child_of-child-requires-clause-some c =
    (entry-inside c.args.blocks c.args.entries.now c.in_ok-flags.flags.items c.loop-place.place c.index.result.now c.index-entries-place.result c.in_ok-flags.ensures.inside
    (flags-long c.args.blocks c.args.header.now c.args.entries.now c.in_ok-flags.flags.items c.in_ok-flags.ensures.exact) (omega arith) c.index-entries-place.is c.index.ensures c.if-index.true).0

pub child_of-child-requires-clause-fits : goal.child_of-child-requires-clause-fits
child_of-child-requires-clause-fits c =
    let inside = entry-inside c.args.blocks c.args.entries.now c.in_ok-flags.flags.items c.loop-place.place c.index.result.now c.index-entries-place.result c.in_ok-flags.ensures.inside
    (flags-long c.args.blocks c.args.header.now c.args.entries.now c.in_ok-flags.flags.items c.in_ok-flags.ensures.exact) (omega arith) c.index-entries-place.is c.index.ensures c.if-index.true in
    omega (arith, inside.1)

pub loop-place-preserved : goal.loop-place-preserved
loop-place-preserved c =
    let entries = c.args.entries.now in
    let place = c.loop-place.place in
    let e = c.index-entries-place.result in
    let gives : ℕ × GptEntry → Bool = λ (i, f). entry_gives_partition c.args.header.now c.args.blocks entries i f in
    let flag = flag-is c.args.blocks c.args.header.now entries c.in_ok-flags.flags.items place c.index.result.now e c.in_ok-flags.ensures.exact (omega arith) c.index-entries-place.is c.index.ensures in
    elim c.if-index.branch [
      | then-index+in_ok-add w ↦
          child-added gives child_of_entry entries place e (omega arith) c.index-entries-place.is c.loop-place.children.items c.if-index.children.items w.child_of-child.result (sym flag ∙ w.if-index.true)
          w.child_of-child.ensures (ap (λ v. v.items) w.children-is ∙ w.in_ok-add.ensures) c.loop-place.invariant
      | else-index w ↦
          (ap (λ v. v.items) w.children-is ∙ none-added gives child_of_entry entries place e (omega arith) c.index-entries-place.is c.loop-place.children.items (sym flag ∙ w.if-index.false) c.loop-place.invariant)
    ]
