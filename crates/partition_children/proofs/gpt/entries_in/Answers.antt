use Rattle.std.proofs.Common.{◌+◌, ◌*◌, ◌∙◌, ap, arith, ℕ, length}
use Rattle.std.proofs.lemmas.List.FromFn.{length-map-range_with_len}
use Rattle.gpt_headers.specs.declared.entry.GptEntry.{GptEntry}
use Rattle.std.specs.Prelude.{slice_range}
use Rattle.gpt_headers.specs.Entry.{entry_in}
use Rattle.partition_children.proofs.Entries.{entries_more, entry-same}
use Rattle.partition_children.proofs.gpt.entries_in.Goals as goal

pub loop-i-preserved : goal.loop-i-preserved
loop-i-preserved c =
    entries_more (λ i. entry_in (slice_range c.args.good.now.array.items (i * c.args.good.now.header.entry_size) (i * c.args.good.now.header.entry_size + 128))) c.loop-i.i c.loop-i.entries.items c.push.new.self.items c.read.result
    c.in_ok-push.ensures.items c.loop-i.invariant (c.read.ensures ∙ entry-same c.loop-i.i c.entry_size-size.result c.args.good.now.header.entry_size c.deref.result.now c.args.good.now.array.items c.entry_size-size.ensures.exact c.deref.ensures.value)

pub returns-clause-few : goal.returns-clause-few
returns-clause-few c =
    let f : ℕ → GptEntry = λ i. entry_in (slice_range c.args.good.now.array.items (i * c.args.good.now.header.entry_size) (i * c.args.good.now.header.entry_size + 128)) in
    let long = ap length c.loop-i.invariant ∙ length-map-range_with_len f 0 c.loop-i.i in
    omega (arith, long)
