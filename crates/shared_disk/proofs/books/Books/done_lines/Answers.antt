use Rattle.std.proofs.Common.{◌+◌, ◌<◌, length, ap, arith, vec_len}
use Rattle.std.proofs.lemmas.List.Sums.{sum_by_more, sum_by-take-le}
use Rattle.shared_disk.specs.declared.books.Course.{Course}
use Rattle.shared_disk.proofs.books.Books.done_lines.Goals as goal

pub overflow_add-done : goal.overflow_add-done
overflow_add-done c =
    let below : c.loop-place.place < length c.args.self.now.courses.items = let e = c.len-place-end.ensures in omega (arith, e, c.loop-place-test.true) in
    let more = sum_by_more (λ (course : Course). vec_len course.places) c.args.self.now.courses.items c.loop-place.place c.index.result.now below in
    let here = ap (λ (course : Course). vec_len course.places) c.index.ensures in
    let few = sum_by-take-le (λ (course : Course). vec_len course.places) c.args.self.now.courses.items (c.loop-place.place + 1) in
    omega (arith, more, here, few, c.loop-place.invariant, c.len.ensures, c.requires)

pub loop-place-preserved : goal.loop-place-preserved
loop-place-preserved c =
    let below : c.loop-place.place < length c.args.self.now.courses.items = let e = c.len-place-end.ensures in omega (arith, e, c.loop-place-test.true) in
    let more = sum_by_more (λ (course : Course). vec_len course.places) c.args.self.now.courses.items c.loop-place.place c.index.result.now below in
    let here = ap (λ (course : Course). vec_len course.places) c.index.ensures in omega (arith, more, here, c.loop-place.invariant, c.len.ensures)
