use Rattle.std.proofs.Common.{◌≡◌, suc, ◌<◌, ◌++◌, ◌∷◌, [], Some, IsSome, length, reverse, drop, get_or, slice_get, vec_len, refl, sym, ◌∙◌, ap, subst, arith}
use Rattle.std.proofs.lemmas.Bool.{false≢true}
use Rattle.std.specs.Vec.Iter.{into_iter_items}
use Rattle.shared_disk.specs.declared.books.Slot.{Slot}
use Rattle.script_text.specs.Report.{tagged_reads}
use Rattle.stack_run.specs.EndLines.{IsCollected, lines_told}
use Rattle.stack_run.proofs.RanLemmas.{all-at}
use Rattle.stack_run.proofs.EndLines.{step-told, skip-told, tokens-left, next-slot}
use Rattle.stack_run.proofs.end_lines.fill_lines.Goals.{in-Some+in-Some-next, in_default}
use Rattle.stack_run.proofs.end_lines.fill_lines.Goals as goal

pub loop-entry-init : goal.loop-entry-init
unfolding tagged_reads lines_told
loop-entry-init c =
    let none : vec_len c.args.ends.now ≡ 0 = omega (arith, ap length c.requires.empty) in
    record {
      items = c.requires.empty;
      count = none;
      rest = c.into_iter-slots.ensures.rest ∙ ap (λ n. drop n c.args.slots.items) (sym none);
      left = omega (arith, c.into_iter-slots.ensures.len, none);
      room = refl;
    }

pub line_of-requires : goal.line_of-requires
line_of-requires c =
    let next : drop (vec_len c.loop-entry.ends) c.args.slots.items ≡ c.in-Some-next.slot ∷ into_iter_items c.next.new.self = sym c.loop-entry.invariant.rest ∙ c.in-Some-next.ensures.items in
    all-at (λ (slot : Slot). IsCollected slot.buffer) c.args.slots.items (vec_len c.loop-entry.ends) c.in-Some-next.slot c.requires.collected (next-slot c.args.slots.items (vec_len c.loop-entry.ends) c.in-Some-next.slot (into_iter_items c.next.new.self) next).0

pub unreachable-requires : goal.unreachable-requires
unreachable-requires c =
    let inside : c.loop-entry.entry-index < length (reverse c.args.history.now.entries) = omega (arith, c.loop-entry-test.true, ap length c.entries-entry-items.ensures) in
    let is : c.entry-item.result ≡ get_or (reverse c.args.history.now.entries) c.loop-entry.entry-index c.entry-item.result = c.entry-item.is ∙ ap (λ l. get_or l c.loop-entry.entry-index c.entry-item.result) c.entries-entry-items.ensures in
    let few = tokens-left c.args.history.now.entries c.loop-entry.entry-index c.entry-item.result c.in-Some.tagged inside is (sym c.tagged_read.ensures ∙ c.in-Some.is) in
    let some : IsSome c.next.result = c.next.ensures.variant.1 (omega (arith, few, c.loop-entry.invariant.count, c.loop-entry.invariant.left, c.requires.counted)) in
    false≢true (rw c.in-None.is at some)

pub loop-entry-preserved : goal.loop-entry-preserved
loop-entry-preserved c =
    let inside : c.loop-entry.entry-index < length (reverse c.args.history.now.entries) = omega (arith, c.loop-entry-test.true, ap length c.entries-entry-items.ensures) in
    let is : c.entry-item.result ≡ get_or (reverse c.args.history.now.entries) c.loop-entry.entry-index c.entry-item.result = c.entry-item.is ∙ ap (λ l. get_or l c.loop-entry.entry-index c.entry-item.result) c.entries-entry-items.ensures in
    elim c.match-tagged_read.branch [
      | in-Some+in-Some-next w ↦
          (let next : drop (vec_len c.loop-entry.ends) c.args.slots.items ≡ w.in-Some-next.slot ∷ into_iter_items w.next.new.self = sym c.loop-entry.invariant.rest ∙ w.in-Some-next.ensures.items in
          let there = next-slot c.args.slots.items (vec_len c.loop-entry.ends) w.in-Some-next.slot (into_iter_items w.next.new.self) next in
          let long : vec_len c.loop-entry.ends ≡ length c.loop-entry.ends.items = omega arith in
          let at : slice_get c.args.slots.items (length c.loop-entry.ends.items) ≡ Some w.in-Some-next.slot = subst (λ n. slice_get c.args.slots.items n ≡ Some w.in-Some-next.slot) long there.0 in
          let told = step-told (reverse c.args.history.now.entries) c.loop-entry.entry-index c.entry-item.result w.in-Some.tagged c.args.slots.items w.in-Some-next.slot c.loop-entry.ends.items w.push_reserved.new.self.items inside is (sym c.tagged_read.ensures ∙ w.in-Some.is)
          c.loop-entry.invariant.items (omega (arith, c.loop-entry.invariant.count, long)) at (w.push_reserved.ensures.items ∙ ap (λ l. c.loop-entry.ends.items ++ l ∷ []) w.line_of.ensures) in
          let more : suc (vec_len c.loop-entry.ends) ≡ vec_len w.push_reserved.new.self = omega (arith, w.push_reserved.ensures.len) in
          rw (w.ends-is, w.slots-is) (record {
            items = told.0;
            count = omega (arith, told.1);
            rest = there.1 ∙ ap (λ n. drop n c.args.slots.items) more;
            left = omega (arith, w.in-Some-next.ensures.len, w.push_reserved.ensures.len, c.loop-entry.invariant.left);
            room = w.push_reserved.ensures.capacity ∙ c.loop-entry.invariant.room;
          }))
      | in_default w ↦
          (let same = skip-told (reverse c.args.history.now.entries) c.loop-entry.entry-index c.entry-item.result inside is (sym c.tagged_read.ensures ∙ w.in_default.is) in
          rw (w.ends-is, w.slots-is, same) (record {
            items = c.loop-entry.invariant.items;
            count = c.loop-entry.invariant.count;
            rest = c.loop-entry.invariant.rest;
            left = c.loop-entry.invariant.left;
            room = c.loop-entry.invariant.room;
          }))
    ]
