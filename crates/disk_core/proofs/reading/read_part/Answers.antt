use Rattle.std.proofs.Common.{◌≡◌, ◌*◌, ◌+◌, ◌-◌, ◌≤◌, length, take, drop, sym, ap, subst, ◌∙◌}
use Rattle.std.specs.Vec.{with_items}
use Rattle.token_table.specs.Records.{with_change}
use Rattle.disk_core.specs.Moves.{with_bytes_in}
use Rattle.disk_core.proofs.Gotten.{group-gets, group-fails, items-with}
use Rattle.disk_core.proofs.reading.read_part.Goals as goal

pub returns-in-Ok : goal.returns-in-Ok
returns-in-Ok g c =
    let core = c.args.core.now in
    let target = c.args.target.now in
    let mid = record core { group = with_items core.group c.read_from.new.out } in
    let long = c.read_from.auto.out ∙ ap length c.deref_mut.ensures.value in
    let items = items-with core.group.len core.group.items c.read_from.new.out (core.group.ok.0 ∙ sym long) in
    let is = subst (λ n. c.copy_out.new.core ≡ record core { tokens = with_change (with_bytes_in target.place (take target.count (drop (target.range.low - c.args.block * n) mid.group.items))) core.tokens c.args.token; group = mid.group }) c.from.ensures c.copy_out.ensures in
    group-gets _ g.M.Medium.prepared _ _ core mid c.copy_out.new.core c.args.token c.args.block core.blocks.size target.range.low target.place target.count _ c.read_from.new.out _ c.in-Ok.ensures c.requires.sized c.requires.begins (subst (λ n. target.range.low + target.count ≤ c.args.block * core.blocks.size + n) (sym long) c.requires.ends) long items is

pub returns-in-Err : goal.returns-in-Err
returns-in-Err g c =
    let core = c.args.core.now in
    let long = c.read_from.auto.out ∙ ap length c.deref_mut.ensures.value in
    let items = items-with core.group.len core.group.items c.read_from.new.out (core.group.ok.0 ∙ sym long) in
    group-fails _ g.M.Medium.prepared _ _ core (record core { group = with_items core.group c.read_from.new.out }) c.args.token c.args.block _ _ _ _ c.read_from.new.out c.in-Err.failed c.in-Err.ensures (ap length items ∙ long)
