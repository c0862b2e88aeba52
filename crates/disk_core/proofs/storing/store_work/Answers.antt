use Rattle.std.proofs.Common.{true, ◌≡◌, ◌<◌, length, get_or, Some, sym, ◌∙◌, ap, subst, arith}
use Rattle.std.specs.Prelude.{take}
use Rattle.std.proofs.lemmas.List.{get_or_read}
use Rattle.std.proofs.lemmas.Option.{slice_get-get_or}
use Rattle.block_gate.specs.Gates.{is_ours}
use Rattle.disk_core.proofs.Filled.{other-length, long, storing-is, ours, gates-same, work-strange, work-from}
use Rattle.disk_core.proofs.storing.store_work.Goals as goal

pub returns-then-bytes-len : goal.returns-then-bytes-len
returns-then-bytes-len g c = other-length _ _ c.args.drive.now c.args.core.now c.requires g.met.M.Medium.shaped c.args.work (λ same. c.if-bytes-len.true (ap length c.bytes.ensures ∙ same ∙ sym c.args.core.now.group.ok.0 ∙ sym c.len.ensures))

pub first_difference-requires : goal.first_difference-requires
first_difference-requires g c = ap length c.bytes-2.ensures ∙ (sym (ap length c.bytes.ensures) ∙ c.if-bytes-len.false ∙ c.len.ensures ∙ c.args.core.now.group.ok.0 ∙ sym (long _ _ c.args.drive.now c.args.core.now c.requires g.met.M.Medium.shaped c.in-Some.part c.in-Some.ensures.some.0 c.in-Some.ensures.some.1 c.in-Some.ensures.some.2 c.compose.new.core c.compose.ensures.core (c.compose.ensures.group c.in-Some.ensures.some.0 c.in-Some.ensures.some.1 c.in-Some.ensures.some.2))) ∙ sym (ap length c.deref.ensures.value)

pub index-expected-requires : goal.index-expected-requires
index-expected-requires g c =
    let within = c.in-Some-first_difference.ensures.within in
    let count : length c.bytes-2.result.now ≡ length c.compose.new.core.group.items = ap length c.bytes-2.ensures ∙ (sym (ap length c.bytes.ensures) ∙ c.if-bytes-len.false ∙ c.len.ensures ∙ c.args.core.now.group.ok.0 ∙ sym (long _ _ c.args.drive.now c.args.core.now c.requires g.met.M.Medium.shaped c.in-Some.part c.in-Some.ensures.some.0 c.in-Some.ensures.some.1 c.in-Some.ensures.some.2 c.compose.new.core c.compose.ensures.core (c.compose.ensures.group c.in-Some.ensures.some.0 c.in-Some.ensures.some.1 c.in-Some.ensures.some.2))) in
    let kept = c.compose.new.core.group.ok.0 in
    omega arith

pub commit-requires-clause-storing : goal.commit-requires-clause-storing
commit-requires-clause-storing g c = (c.in-Some.ensures.some.0, c.in-Some.ensures.some.1, storing-is _ _ c.args.drive.now c.args.core.now c.requires g.met.M.Medium.shaped c.in-Some.part c.in-Some.ensures.some.0 c.in-Some.ensures.some.1 c.in-Some.ensures.some.2 c.compose.new.core c.compose.ensures.core (c.compose.ensures.group c.in-Some.ensures.some.0 c.in-Some.ensures.some.1 c.in-Some.ensures.some.2))

pub commit-requires-clause-ours : goal.commit-requires-clause-ours
commit-requires-clause-ours g c = subst (λ s. is_ours s c.args.work ≡ true) (sym (gates-same _ _ c.args.drive.now c.args.core.now c.requires g.met.M.Medium.shaped c.in-Some.part c.in-Some.ensures.some.0 c.in-Some.ensures.some.1 c.in-Some.ensures.some.2 c.compose.new.core c.compose.ensures.core (c.compose.ensures.group c.in-Some.ensures.some.0 c.in-Some.ensures.some.1 c.in-Some.ensures.some.2))) (ours _ _ c.args.drive.now c.args.core.now c.requires g.met.M.Medium.shaped c.in-Some.part c.in-Some.ensures.some.0 c.in-Some.ensures.some.1 c.in-Some.ensures.some.2 c.compose.new.core c.compose.ensures.core (c.compose.ensures.group c.in-Some.ensures.some.0 c.in-Some.ensures.some.1 c.in-Some.ensures.some.2) c.args.work (c.in-Some.ensures.ticket ∙ c.ticket.ensures) ((sym (ap length c.bytes.ensures) ∙ c.if-bytes-len.false ∙ c.len.ensures ∙ c.args.core.now.group.ok.0 ∙ sym (long _ _ c.args.drive.now c.args.core.now c.requires g.met.M.Medium.shaped c.in-Some.part c.in-Some.ensures.some.0 c.in-Some.ensures.some.1 c.in-Some.ensures.some.2 c.compose.new.core c.compose.ensures.core (c.compose.ensures.group c.in-Some.ensures.some.0 c.in-Some.ensures.some.1 c.in-Some.ensures.some.2)))))

pub returns-in-Some-first_difference : goal.returns-in-Some-first_difference
returns-in-Some-first_difference g c =
    let place = c.in-Some-first_difference.place in
    let inside = c.in-Some-first_difference.ensures.within in
    let many : length c.args.work.bytes ≡ length c.compose.new.core.group.items = (sym (ap length c.bytes.ensures) ∙ c.if-bytes-len.false ∙ c.len.ensures ∙ c.args.core.now.group.ok.0 ∙ sym (long _ _ c.args.drive.now c.args.core.now c.requires g.met.M.Medium.shaped c.in-Some.part c.in-Some.ensures.some.0 c.in-Some.ensures.some.1 c.in-Some.ensures.some.2 c.compose.new.core c.compose.ensures.core (c.compose.ensures.group c.in-Some.ensures.some.0 c.in-Some.ensures.some.1 c.in-Some.ensures.some.2))) in
    let count : length c.bytes-2.result.now ≡ length c.args.work.bytes = ap length c.bytes-2.ensures in
    let there : place < length c.compose.new.core.group.items = omega arith in
    let in_work : place < length c.args.work.bytes = omega arith in
    let front = sym (ap (take place) c.bytes-2.ensures) ∙ c.in-Some-first_difference.ensures.least ∙ ap (take place) c.deref.ensures.value in
    let wanted = slice_get-get_or c.compose.new.core.group.items place c.index-expected.result.now there ∙ ap Some (sym c.index-expected.ensures) in
    let has = slice_get-get_or c.args.work.bytes place 0 in_work ∙ ap (λ bytes. Some (get_or bytes place 0)) (sym c.bytes-in-Some-first_difference.ensures) in
    let differs = λ (same : get_or c.bytes-in-Some-first_difference.result.now place 0 ≡ c.index-expected.result.now). c.in-Some-first_difference.ensures.differs
    (ap (λ bytes. get_or bytes place 0) (c.bytes-2.ensures ∙ sym c.bytes-in-Some-first_difference.ensures) ∙ same ∙ get_or_read c.compose.new.core.group.items _ _ there c.index-expected.ensures 0 ∙ ap (λ bytes. get_or bytes place 0) (sym c.deref.ensures.value)) in
    work-strange _ _ c.args.drive.now c.args.core.now c.requires g.met.M.Medium.shaped c.in-Some.part c.in-Some.ensures.some.0 c.in-Some.ensures.some.1 c.in-Some.ensures.some.2 c.compose.new.core c.compose.ensures.core (c.compose.ensures.group c.in-Some.ensures.some.0 c.in-Some.ensures.some.1 c.in-Some.ensures.some.2) c.args.work place _ _ (c.in-Some.ensures.ticket ∙ c.ticket.ensures) many front wanted has differs

pub returns-in-None : goal.returns-in-None
returns-in-None g c = work-from _ _ c.args.drive.now c.args.core.now c.requires g.met.M.Medium.shaped c.in-Some.part c.in-Some.ensures.some.0 c.in-Some.ensures.some.1 c.in-Some.ensures.some.2 c.compose.new.core c.compose.ensures.core (c.compose.ensures.group c.in-Some.ensures.some.0 c.in-Some.ensures.some.1 c.in-Some.ensures.some.2) c.args.work c.commit.result c.commit.new.drive c.commit.new.core c.commit.ensures
