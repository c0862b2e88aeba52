use Rattle.std.proofs.Common.{List, ap, length, ◌∙◌, arith}
use Rattle.partition_tables.specs.declared.table.Child.{Child}
use Rattle.partition_tables.specs.declared.table.Table.{Table}
use Rattle.partition_tables.specs.declared.table.TableKind.{TableKind}
use Rattle.partition_tables.specs.GptTable.{entry_children, gpt_children}
use Rattle.partition_children.proofs.gpt.table_by.Goals as goal

abbrev table_record : TableKind → List Child → Table
table_record kind cs = record { kind = kind; children = cs }

pub entry_children-requires : goal.entry_children-requires
entry_children-requires c = omega (arith, ap length c.deref.ensures.value, c.in_ok-entries.ensures.few)

pub returns : goal.returns
unfolding gpt_children
returns c =
    record {
      memory = tt;
      table = ap (table_record c.args.kind) (c.from_vec.ensures ∙ (c.in_ok-children.ensures ∙ ap (entry_children c.args.target.now.blocks c.args.good.now.header) (c.deref.ensures.value ∙ c.in_ok-entries.ensures.entries)));
    }
