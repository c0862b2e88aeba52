use Rattle.std.proofs.Common.{subst, sym, ap, arith, ◌∙◌, length}
use Rattle.std.specs.Vec.{with_items}
use Rattle.medium.specs.Device.{IsTransfer}
use Rattle.disk_core.proofs.Chained.{enter-gates, enter-holders, enter-group, hold-tokens, hold-blocks, hold-zeros, hold-gates, lend-beside, lend-links}
use Rattle.disk_core.proofs.Fetched.{own, fetch-few, fetch-present, fetch-transfer, fetch-may, fetch-hold, fetch-lend, fetch-work, fetch-failed, fetch-lent}
use Rattle.disk_core.proofs.Gotten.{items-with}
use Rattle.disk_core.proofs.fetching.fetch.Goals as goal

pub overflow_add-core : goal.overflow_add-core
overflow_add-core g c = omega (arith, fetch-few _ g.M.Medium.prepared _ _ c.requires.sound c.args.token c.args.block c.requires.next.1 c.requires.next.2 c.requires.next.0 c.requires.next.3)

pub read_from-requires : goal.read_from-requires
read_from-requires g c = record {
  present = fetch-present _ g.M.Medium.prepared _ _ c.requires.sound c.args.token c.args.block c.requires.next.1 c.requires.next.2 c.requires.next.0 c.requires.next.3;
  transfer = λ m in_. subst (λ xs. IsTransfer (g.M.Medium.device m) c.args.block (length xs)) (sym c.deref_mut.ensures.value) (fetch-transfer _ g.M.Medium.prepared _ _ c.requires.sound c.args.token c.args.block c.requires.next.1 c.requires.next.2 c.requires.next.0 c.requires.next.3 m in_);
}

pub enter-requires : goal.enter-requires
enter-requires g c = (let may = fetch-may _ g.M.Medium.prepared _ _ c.requires.sound c.args.token c.args.block c.requires.next.1 c.requires.next.2 c.requires.next.0 c.requires.next.3 in record { place = may.1; owed = (let owed = may.2 in omega arith) })

pub hold-requires : goal.hold-requires
hold-requires g c =
    let core = c.args.core.now in
    let out = c.read_from.new.out in
    let long = c.read_from.auto.out ∙ ap length c.deref_mut.ensures.value in
    let mid = record core { group = with_items core.group out } in
    let items = items-with core.group.len core.group.items out (core.group.ok.0 ∙ sym long) in
    let enter = c.enter.new.core in
    fetch-hold _ g.M.Medium.prepared _ _ c.requires.sound c.args.token c.args.block c.requires.next.1 c.requires.next.2 c.requires.next.0 c.requires.next.3 enter (enter-gates core mid enter enter c.args.token c.args.block core.fetched out items c.enter.ensures)
    (enter-holders core mid enter enter c.args.token c.args.block core.fetched out items c.enter.ensures)
    (ap length (enter-group core mid enter enter c.args.token c.args.block core.fetched out items c.enter.ensures) ∙ long)

pub lend-requires : goal.lend-requires
lend-requires g c =
    let core = c.args.core.now in
    let out = c.read_from.new.out in
    let long = c.read_from.auto.out ∙ ap length c.deref_mut.ensures.value in
    let mid = record core { group = with_items core.group out } in
    let items = items-with core.group.len core.group.items out (core.group.ok.0 ∙ sym long) in
    let enter = c.enter.new.core in
    let hold = c.hold.new.core in (
      (own _ g.M.Medium.prepared _ _ c.requires.sound c.args.token c.args.block c.requires.next.1 c.requires.next.2 c.requires.next.0 c.requires.next.3).request,
      fetch-lend _ g.M.Medium.prepared _ _ c.requires.sound c.args.token c.args.block c.requires.next.1 c.requires.next.2 c.requires.next.0 c.requires.next.3 g.met.M.Medium.shaped hold out
          (hold-tokens core mid enter hold c.args.token c.args.block core.fetched out items c.enter.ensures c.hold.ensures.gates c.hold.ensures.rest)
          (hold-blocks core mid enter hold c.args.token c.args.block core.fetched out items c.enter.ensures c.hold.ensures.gates c.hold.ensures.rest)
          (hold-zeros core mid enter hold c.args.token c.args.block core.fetched out items c.enter.ensures c.hold.ensures.gates c.hold.ensures.rest)
          (hold-gates core mid enter hold c.args.token c.args.block core.fetched out items c.enter.ensures c.hold.ensures.gates c.hold.ensures.rest),
    )

pub fail-requires : goal.fail-requires
fail-requires g c = (let may = fetch-may _ g.M.Medium.prepared _ _ c.requires.sound c.args.token c.args.block c.requires.next.1 c.requires.next.2 c.requires.next.0 c.requires.next.3 in record { outstanding = may.0; place = may.1; owed = (let owed = may.2 in omega arith) })

pub returns-in-Ok : goal.returns-in-Ok
returns-in-Ok g c =
    let core = c.args.core.now in
    let out = c.read_from.new.out in
    let long = c.read_from.auto.out ∙ ap length c.deref_mut.ensures.value in
    let mid = record core { group = with_items core.group out } in
    let items = items-with core.group.len core.group.items out (core.group.ok.0 ∙ sym long) in
    let enter = c.enter.new.core in
    let hold = c.hold.new.core in
    let beside = lend-beside core mid enter hold c.args.token c.args.block core.fetched out items c.enter.ensures c.hold.ensures.gates c.hold.ensures.rest c.lend.new.core c.lend.ensures.core in
    fetch-lent _ g.M.Medium.prepared _ _ c.requires.sound c.args.token c.args.block c.requires.next.1 c.requires.next.2 c.requires.next.0 c.requires.next.3 g.met.M.Medium.shaped c.read_from.new.drive _ out c.lend.new.core c.lend.result _ c.in-Ok.ensures long
    (lend-links core mid enter hold c.args.token c.args.block core.fetched out items c.enter.ensures c.hold.ensures.gates c.hold.ensures.rest c.lend.new.core c.hold.ensures.holders c.hold.ensures.places c.lend.ensures.core c.lend.ensures.sound)
    (record { protected_at_first = beside.protected_at_first; blocks = beside.blocks; accepted = beside.accepted; fetched = beside.fetched; kept_long = ap length beside.kept_items ∙ long; zeros = beside.zeros })
    (fetch-work _ g.M.Medium.prepared _ _ c.requires.sound c.args.token c.args.block c.requires.next.1 c.requires.next.2 c.requires.next.0 c.requires.next.3 hold out c.lend.result
    (hold-tokens core mid enter hold c.args.token c.args.block core.fetched out items c.enter.ensures c.hold.ensures.gates c.hold.ensures.rest)
    (hold-blocks core mid enter hold c.args.token c.args.block core.fetched out items c.enter.ensures c.hold.ensures.gates c.hold.ensures.rest)
    (hold-gates core mid enter hold c.args.token c.args.block core.fetched out items c.enter.ensures c.hold.ensures.gates c.hold.ensures.rest) c.lend.ensures.work)

pub returns-in-Err : goal.returns-in-Err
returns-in-Err g c =
    let core = c.args.core.now in
    let out = c.read_from.new.out in
    let long = c.read_from.auto.out ∙ ap length c.deref_mut.ensures.value in
    let mid = record core { group = with_items core.group out } in
    let items = items-with core.group.len core.group.items out (core.group.ok.0 ∙ sym long) in
    fetch-failed _ g.M.Medium.prepared _ _ c.requires.sound c.args.token c.args.block c.requires.next.1 c.requires.next.2 c.requires.next.0 c.requires.next.3 g.met.M.Medium.shaped c.read_from.new.drive _ out mid c.fail.new.core c.in-Err.failed (ap length items ∙ long) c.in-Err.ensures c.fail.ensures
