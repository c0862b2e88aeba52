use Rattle.std.proofs.Common.{rules, ◌≡◌, length, ◌∙◌, sym, ap, false, arith, refl, get_or}
use Rattle.std.proofs.lemmas.List.{get_or_default}
use Rattle.partition_children.proofs.Places.{all-before, child-added, none-added}
use Rattle.partition_children.proofs.Records.{child_at, gives_child, records-flag}
use Rattle.partition_children.proofs.mbr.primaries.Goals.{then-flags-place+in_ok-add, else-flags-place}
use Rattle.partition_children.proofs.mbr.primaries.Goals as goal

pub loop-place-preserved : goal.loop-place-preserved
loop-place-preserved c =
    let mbr = c.args.mbr.now in
    let place = c.loop-place.place in
    let long : length mbr.records ≡ 4 = search rules in
    let there : c.records.result ≡ mbr.records = c.records.ensures in
    let r = get_or c.records.result place (record { boot = 0; os_type = 0; start = 0; size = 0 }) in
    let here : r ≡ get_or mbr.records place r = get_or_default c.records.result place (record { boot = 0; os_type = 0; start = 0; size = 0 }) r (omega (arith, ap length there)) ∙ ap (λ l. get_or l place r) there in
    let flag = records-flag c.args.blocks mbr c.usable-flags.result place r false c.usable-flags.ensures.exact (omega arith) here in
    elim c.if-flags-place.branch [
      | then-flags-place+in_ok-add w ↦ child-added (gives_child c.args.blocks mbr) (child_at mbr) mbr.records place r (omega arith) here c.loop-place.children.items c.if-flags-place.children.items (child_at mbr (place, r)) (sym flag ∙ w.if-flags-place.true) refl (ap (λ v. v.items) w.children-is ∙ (w.in_ok-add.ensures ∙ rw (w.origin_of.ensures, w.signature.ensures, w.from.ensures, w.from-then-flags-place.ensures) refl)) c.loop-place.invariant
      | else-flags-place w ↦ ap (λ v. v.items) w.children-is ∙ none-added (gives_child c.args.blocks mbr) (child_at mbr) mbr.records place r (omega arith) here c.loop-place.children.items (sym flag ∙ w.if-flags-place.false) c.loop-place.invariant
    ]

pub returns : goal.returns
returns c = c.loop-place.invariant ∙ all-before (gives_child c.args.blocks c.args.mbr.now) (child_at c.args.mbr.now) c.args.mbr.now.records c.loop-place.place (search rules)
