use Rattle.std.proofs.Common.{◌≡◌, ◌+◌, ◌++◌, [], IfSome, map, take, drop, length, sym, ◌∙◌, ap, subst, arith, length-take, length-append}
use Rattle.std.proofs.lemmas.List.{length-map, map-append}
use Rattle.std.proofs.Math.ListN.{drop_of_length-le}
use Rattle.std.specs.List.{AllByRecursion}
use Rattle.stack_run.specs.Media.{wanted_of}
use Rattle.stack_run.specs.Chains.{IsMediumOf, AreMade}
use Rattle.stack_run.specs.Runs.{RanDisk, RunsStop}
use Rattle.stack_run.proofs.ChainLemmas.{drop-next, take-next}
use Rattle.stack_run.proofs.ClientLemmas.{lines-next}
use Rattle.stack_run.proofs.DiskLoops.{goes-first, goes-next, stops-first, stops-here, stops-next, enough, first-made, rest-made, last-made, goes-last, all-from-rec, disk-next, cut-of, own-of, rest-of, cut-count}
use Rattle.stack_run.proofs.StartLemmas.{whole-at, whole-drop}
use Rattle.stack_run.proofs.disk_runs.run_disks.Goals as goal

pub returns-in-Err-clause-some : goal.returns-in-Err-clause-some
returns-in-Err-clause-some g c none = stops-first c.args.plans.now _ c.requires.whole c.requires.made

pub returns-in-Err-with_capacity-clause-some : goal.returns-in-Err-with_capacity-clause-some
returns-in-Err-with_capacity-clause-some g c none = stops-first c.args.plans.now _ c.requires.whole c.requires.made

pub loop-plan-init : goal.loop-plan-init
loop-plan-init g c = record {
  goes = rw (c.in-Ok.ensures.items, c.in-Ok-with_capacity.ensures.items) (goes-first c.args.plans.now _);
  made = c.requires.made;
  room = omega (arith, c.in-Ok-with_capacity.ensures.len, c.in-Ok-with_capacity.ensures.capacity, c.len.ensures);
  kept = omega (arith, c.in-Ok-with_capacity.ensures.len);
  few = omega (arith, c.in-Ok.ensures.len);
  runs = c.in-Ok.ensures.capacity;
}

pub cut_front-requires : goal.cut_front-requires
cut_front-requires g c =
    let most = enough c.args.plans.now c.loop-plan.plan-index c.plan-item.result (map (λ m. g.M.Medium.device m) c.loop-plan.media.items) c.loop-plan-test.true c.plan-item.is c.loop-plan.invariant.made in
    omega (arith, most, length-map c.loop-plan.media.items (λ m. g.M.Medium.device m), ap length c.as_slice.ensures)

pub returns-in-Err-cut_front-clause-some : goal.returns-in-Err-cut_front-clause-some
returns-in-Err-cut_front-clause-some g c none =
    let same : c.add_back.new.all.items ≡ c.loop-plan.done.items ++ c.loop-plan.media.items = c.add_back.ensures.items ∙ ap (λ l. c.loop-plan.done.items ++ l) c.in-Err-cut_front.ensures.same in
    subst (RunsStop c.args.plans.now (map (λ m. g.M.Medium.device m) c.args.media.items)) (sym (ap (map (λ m. g.M.Medium.device m)) same ∙ map-append (λ m. g.M.Medium.device m) c.loop-plan.done.items c.loop-plan.media.items))
    (stops-here c.args.plans.now (take c.loop-plan.plan-index c.args.plans.now) (drop c.loop-plan.plan-index c.args.plans.now) (drop (c.loop-plan.plan-index + 1) c.args.plans.now) c.plan-item.result _ (map (λ m. g.M.Medium.device m) c.loop-plan.media.items) _ c.loop-plan.runs.items
    c.loop-plan.invariant.goes (drop-next c.args.plans.now c.loop-plan.plan-index c.plan-item.result c.loop-plan-test.true c.plan-item.is) (whole-drop c.args.plans.now c.loop-plan.plan-index c.requires.whole) c.loop-plan.invariant.made)

pub returns-in-Err-cut_front-clause-back : goal.returns-in-Err-cut_front-clause-back
returns-in-Err-cut_front-clause-back g c =
    omega (arith, c.loop-plan.invariant.kept, ap length c.add_back.ensures.items, length-append c.loop-plan.done.items c.cut_front.new.media.items, ap length c.in-Err-cut_front.ensures.same)

pub run_disk-own-requires-clause-disk : goal.run_disk-own-requires-clause-disk
run_disk-own-requires-clause-disk g c = disk-next c.args.plans.now c.loop-plan.plan-index c.plan-item.result c.requires.disks c.loop-plan-test.true c.plan-item.is

pub run_disk-own-requires-clause-lines : goal.run_disk-own-requires-clause-lines
run_disk-own-requires-clause-lines g c = lines-next c.args.plans.now c.loop-plan.plan-index c.plan-item.result _ c.requires.lines c.loop-plan-test.true c.plan-item.is

pub run_disk-own-requires-clause-whole : goal.run_disk-own-requires-clause-whole
run_disk-own-requires-clause-whole g c = whole-at c.args.plans.now c.loop-plan.plan-index c.plan-item.result c.requires.whole c.loop-plan-test.true c.plan-item.is

pub run_disk-own-requires-clause-count : goal.run_disk-own-requires-clause-count
run_disk-own-requires-clause-count g c =
    let most = enough c.args.plans.now c.loop-plan.plan-index c.plan-item.result (map (λ m. g.M.Medium.device m) c.loop-plan.media.items) c.loop-plan-test.true c.plan-item.is c.loop-plan.invariant.made in
    omega (arith, most, length-map c.loop-plan.media.items (λ m. g.M.Medium.device m), ap length c.as_slice.ensures, ap length c.in-Ok-cut_front.ensures.front, length-take (length c.as_slice.result.now + 1) c.loop-plan.media.items)

pub run_disk-own-requires-clause-made : goal.run_disk-own-requires-clause-made
run_disk-own-requires-clause-made g c =
    let n : length c.as_slice.result.now + 1 ≡ length c.plan-item.result.spares + 1 = ap (λ l. length l + 1) c.as_slice.ensures in
    let made = first-made c.args.plans.now c.loop-plan.plan-index c.plan-item.result (map (λ m. g.M.Medium.device m) c.loop-plan.media.items) c.loop-plan-test.true c.plan-item.is c.loop-plan.invariant.made in
    let own = own-of (λ m. g.M.Medium.device m) c.loop-plan.media.items c.in-Ok-cut_front.own.items c.cut_front.new.media.items (length c.as_slice.result.now + 1) c.in-Ok-cut_front.ensures.front c.in-Ok-cut_front.ensures.rest in
    all-from-rec (IsMediumOf c.plan-item.result) (λ m. g.M.Medium.device m) c.in-Ok-cut_front.own.items
    (subst (AllByRecursion (IsMediumOf c.plan-item.result)) (sym own) (subst (λ k. AllByRecursion (IsMediumOf c.plan-item.result) (take k (map (λ m. g.M.Medium.device m) c.loop-plan.media.items))) (sym n) made))

pub add_back-requires-in-loop-plan : goal.add_back-requires-in-loop-plan
add_back-requires-in-loop-plan g c =
    omega (
      arith,
      c.loop-plan.invariant.room,
      c.run_disk-own.ensures.back,
      cut-count (λ m. g.M.Medium.device m) c.loop-plan.media.items c.in-Ok-cut_front.own.items c.cut_front.new.media.items (length c.as_slice.result.now + 1) c.in-Ok-cut_front.ensures.front c.in-Ok-cut_front.ensures.rest,
    )

pub push_reserved-requires : goal.push_reserved-requires
push_reserved-requires g c = omega (arith, c.loop-plan.invariant.few, c.loop-plan.invariant.runs, c.loop-plan-test.true)

pub add_back-requires-in-None : goal.add_back-requires-in-None
add_back-requires-in-None g c =
    omega (
      arith,
      c.loop-plan.invariant.room,
      c.run_disk-own.ensures.back,
      cut-count (λ m. g.M.Medium.device m) c.loop-plan.media.items c.in-Ok-cut_front.own.items c.cut_front.new.media.items (length c.as_slice.result.now + 1) c.in-Ok-cut_front.ensures.front c.in-Ok-cut_front.ensures.rest,
      ap length c.add_back-in-loop-plan.ensures.items,
      length-append c.loop-plan.done.items c.run_disk-own.result.0.items,
      c.add_back-in-loop-plan.ensures.room,
    )

pub returns-in-None-clause-some : goal.returns-in-None-clause-some
returns-in-None-clause-some g c none =
    let n : length c.as_slice.result.now + 1 ≡ length c.plan-item.result.spares + 1 = ap (λ l. length l + 1) c.as_slice.ensures in
    let cut = cut-of (λ m. g.M.Medium.device m) c.loop-plan.media.items c.in-Ok-cut_front.own.items c.cut_front.new.media.items (length c.as_slice.result.now + 1) c.in-Ok-cut_front.ensures.front c.in-Ok-cut_front.ensures.rest in
    let left = rest-of (λ m. g.M.Medium.device m) c.loop-plan.media.items c.in-Ok-cut_front.own.items c.cut_front.new.media.items (length c.as_slice.result.now + 1) c.in-Ok-cut_front.ensures.front c.in-Ok-cut_front.ensures.rest in
    let made = rest-made c.args.plans.now c.loop-plan.plan-index c.plan-item.result (map (λ m. g.M.Medium.device m) c.loop-plan.media.items) c.loop-plan-test.true c.plan-item.is c.loop-plan.invariant.made in
    let all : map (λ m. g.M.Medium.device m) c.add_back-in-None.new.all.items ≡ (map (λ m. g.M.Medium.device m) c.loop-plan.done.items ++ map (λ m. g.M.Medium.device m) c.run_disk-own.result.0.items) ++ map (λ m. g.M.Medium.device m) c.cut_front.new.media.items =
    ap (map (λ m. g.M.Medium.device m)) (c.add_back-in-None.ensures.items ∙ ap (λ l. l ++ c.cut_front.new.media.items) c.add_back-in-loop-plan.ensures.items)
    ∙ (map-append (λ m. g.M.Medium.device m) (c.loop-plan.done.items ++ c.run_disk-own.result.0.items) c.cut_front.new.media.items
    ∙ ap (λ l. l ++ map (λ m. g.M.Medium.device m) c.cut_front.new.media.items) (map-append (λ m. g.M.Medium.device m) c.loop-plan.done.items c.run_disk-own.result.0.items)) in
    subst (RunsStop c.args.plans.now (map (λ m. g.M.Medium.device m) c.args.media.items)) (sym all)
    (stops-next c.args.plans.now (take c.loop-plan.plan-index c.args.plans.now) (drop c.loop-plan.plan-index c.args.plans.now) (drop (c.loop-plan.plan-index + 1) c.args.plans.now) c.plan-item.result _ _ _ _ _ _ c.loop-plan.runs.items
    c.loop-plan.invariant.goes (drop-next c.args.plans.now c.loop-plan.plan-index c.plan-item.result c.loop-plan-test.true c.plan-item.is) cut (c.run_disk-own.ensures.some c.in-None.is)
    (whole-drop c.args.plans.now (c.loop-plan.plan-index + 1) c.requires.whole)
    (subst (AreMade (wanted_of (drop (c.loop-plan.plan-index + 1) c.args.plans.now))) (sym left) (subst (λ k. AreMade (wanted_of (drop (c.loop-plan.plan-index + 1) c.args.plans.now)) (drop k (map (λ m. g.M.Medium.device m) c.loop-plan.media.items))) (sym n) made)))

pub returns-in-None-clause-back : goal.returns-in-None-clause-back
returns-in-None-clause-back g c =
    omega (
      arith,
      c.loop-plan.invariant.kept,
      c.run_disk-own.ensures.back,
      cut-count (λ m. g.M.Medium.device m) c.loop-plan.media.items c.in-Ok-cut_front.own.items c.cut_front.new.media.items (length c.as_slice.result.now + 1) c.in-Ok-cut_front.ensures.front c.in-Ok-cut_front.ensures.rest,
      ap length c.add_back-in-loop-plan.ensures.items,
      length-append c.loop-plan.done.items c.run_disk-own.result.0.items,
      ap length c.add_back-in-None.ensures.items,
      length-append c.add_back-in-loop-plan.new.all.items c.cut_front.new.media.items,
    )

pub loop-plan-preserved : goal.loop-plan-preserved
loop-plan-preserved g c =
    let n : length c.as_slice.result.now + 1 ≡ length c.plan-item.result.spares + 1 = ap (λ l. length l + 1) c.as_slice.ensures in
    let cut = cut-of (λ m. g.M.Medium.device m) c.loop-plan.media.items c.in-Ok-cut_front.own.items c.cut_front.new.media.items (length c.as_slice.result.now + 1) c.in-Ok-cut_front.ensures.front c.in-Ok-cut_front.ensures.rest in
    let left = rest-of (λ m. g.M.Medium.device m) c.loop-plan.media.items c.in-Ok-cut_front.own.items c.cut_front.new.media.items (length c.as_slice.result.now + 1) c.in-Ok-cut_front.ensures.front c.in-Ok-cut_front.ensures.rest in
    let made = rest-made c.args.plans.now c.loop-plan.plan-index c.plan-item.result (map (λ m. g.M.Medium.device m) c.loop-plan.media.items) c.loop-plan-test.true c.plan-item.is c.loop-plan.invariant.made in
    let added : map (λ m. g.M.Medium.device m) c.add_back-in-loop-plan.new.all.items ≡ map (λ m. g.M.Medium.device m) c.loop-plan.done.items ++ map (λ m. g.M.Medium.device m) c.run_disk-own.result.0.items =
    ap (map (λ m. g.M.Medium.device m)) c.add_back-in-loop-plan.ensures.items ∙ map-append (λ m. g.M.Medium.device m) c.loop-plan.done.items c.run_disk-own.result.0.items in
    let ran : RanDisk c.plan-item.result (map (λ m. g.M.Medium.device m) c.in-Ok-cut_front.own.items) (map (λ m. g.M.Medium.device m) c.run_disk-own.result.0.items) c.in-Some.run' =
    subst (λ o. IfSome o (RanDisk c.plan-item.result (map (λ m. g.M.Medium.device m) c.in-Ok-cut_front.own.items) (map (λ m. g.M.Medium.device m) c.run_disk-own.result.0.items))) c.in-Some.is c.run_disk-own.ensures.over in
    let counted = cut-count (λ m. g.M.Medium.device m) c.loop-plan.media.items c.in-Ok-cut_front.own.items c.cut_front.new.media.items (length c.as_slice.result.now + 1) c.in-Ok-cut_front.ensures.front c.in-Ok-cut_front.ensures.rest in
    record {
      goes = rw (added, c.push_reserved.ensures.items, take-next c.args.plans.now c.loop-plan.plan-index c.plan-item.result c.loop-plan-test.true c.plan-item.is)
          (goes-next c.args.plans.now (take c.loop-plan.plan-index c.args.plans.now) (drop c.loop-plan.plan-index c.args.plans.now) (drop (c.loop-plan.plan-index + 1) c.args.plans.now) c.plan-item.result _ _ _ _ _ _ c.loop-plan.runs.items c.in-Some.run'
          c.loop-plan.invariant.goes (drop-next c.args.plans.now c.loop-plan.plan-index c.plan-item.result c.loop-plan-test.true c.plan-item.is) cut ran);
      made = subst (AreMade (wanted_of (drop (c.loop-plan.plan-index + 1) c.args.plans.now))) (sym left) (subst (λ k. AreMade (wanted_of (drop (c.loop-plan.plan-index + 1) c.args.plans.now)) (drop k (map (λ m. g.M.Medium.device m) c.loop-plan.media.items))) (sym n) made);
      room = omega (arith, c.loop-plan.invariant.room, c.run_disk-own.ensures.back, counted, ap length c.add_back-in-loop-plan.ensures.items, length-append c.loop-plan.done.items c.run_disk-own.result.0.items, c.add_back-in-loop-plan.ensures.room);
      kept = omega (arith, c.loop-plan.invariant.kept, c.run_disk-own.ensures.back, counted, ap length c.add_back-in-loop-plan.ensures.items, length-append c.loop-plan.done.items c.run_disk-own.result.0.items);
      few = omega (arith, c.loop-plan.invariant.few, c.push_reserved.ensures.len);
      runs = omega (arith, c.loop-plan.invariant.runs, c.push_reserved.ensures.capacity);
    }

pub destroy_empty-requires : goal.destroy_empty-requires
destroy_empty-requires g c =
    let none : drop c.loop-plan.plan-index c.args.plans.now ≡ [] = drop_of_length-le c.args.plans.now c.loop-plan-test.false in
    let empty = last-made (drop c.loop-plan.plan-index c.args.plans.now) (map (λ m. g.M.Medium.device m) c.loop-plan.media.items) none c.loop-plan.invariant.made in
    omega (arith, ap length empty, length-map c.loop-plan.media.items (λ m. g.M.Medium.device m))

pub returns-clause-over : goal.returns-clause-over
returns-clause-over g c =
    let none : drop c.loop-plan.plan-index c.args.plans.now ≡ [] = drop_of_length-le c.args.plans.now c.loop-plan-test.false in
    let empty = last-made (drop c.loop-plan.plan-index c.args.plans.now) (map (λ m. g.M.Medium.device m) c.loop-plan.media.items) none c.loop-plan.invariant.made in
    goes-last c.args.plans.now _ _ _ _ _ c.loop-plan.runs.items c.loop-plan.invariant.goes none empty

pub returns-clause-back : goal.returns-clause-back
returns-clause-back g c =
    let none : drop c.loop-plan.plan-index c.args.plans.now ≡ [] = drop_of_length-le c.args.plans.now c.loop-plan-test.false in
    let empty = last-made (drop c.loop-plan.plan-index c.args.plans.now) (map (λ m. g.M.Medium.device m) c.loop-plan.media.items) none c.loop-plan.invariant.made in
    omega (arith, ap length empty, length-map c.loop-plan.media.items (λ m. g.M.Medium.device m), c.loop-plan.invariant.kept)
