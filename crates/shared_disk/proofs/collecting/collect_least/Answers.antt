use Rattle.std.proofs.Common.{refl, arith}
use Rattle.history_laws.proofs.ClosedLemmas.{open-first, closed-first}
use Rattle.shared_disk.proofs.LastLemmas.{closed-before, sound-marks, collected-before, none-left, least-left, own-tag, last-line, last-open, last-none, last-some}
use Rattle.shared_disk.proofs.collecting.collect_least.Goals as goal

pub returns-then-not-is_over-clause-says : goal.returns-then-not-is_over-clause-says
returns-then-not-is_over-clause-says g c = let left = c.if-not-is_over.ensures.left refl in last-line c.args.disk.now c.args.books.now c.args.books.now left.0 (record { opened = refl; clients = refl; places = refl; given = refl }) left.1

pub returns-then-books-count-clause-says : goal.returns-then-books-count-clause-says
returns-then-books-count-clause-says g c = last-open c.args.disk.now c.args.books.now _ (record { opened = refl; clients = refl; places = refl; given = refl }) (open-first c.args.disk.now.setup c.args.disk.now.entries c.first_open-books.result (c.first_open-books.ensures.here c.if-books-count.true))

pub returns-then-books-count-2-clause-says : goal.returns-then-books-count-2-clause-says
returns-then-books-count-2-clause-says g c = last-none c.args.disk.now c.args.books.now _ (record { opened = refl; clients = refl; places = refl; given = refl }) (none-left c.args.disk.now.setup c.args.disk.now.entries c.args.books.now c.requires c.first_awaited-books.result (λ t s from lt at. c.first_awaited-books.ensures.before t s from lt (rw c.deref.ensures.value at)) (rw c.deref.ensures.value at c.first_awaited-books.ensures.most) (omega (arith, c.if-books-count-2.true, c.len-count.ensures, c.requires.counted)))

pub returns-then-books-count-2-clause-sound : goal.returns-then-books-count-2-clause-sound
returns-then-books-count-2-clause-sound g c = sound-marks c.args.disk.now.setup c.args.disk.now.entries c.args.books.now c.first_open-books.result c.first_awaited-books.result c.requires (omega (arith, c.first_open-books.ensures.most, c.len-count.ensures, c.requires.counted)) (omega (arith, rw c.deref.ensures.value at c.first_awaited-books.ensures.most, c.len-count.ensures, c.requires.counted)) (λ t lt. closed-before c.args.disk.now c.args.books.now c.requires c.first_open-books.result c.first_open-books.ensures.before t lt) (collected-before c.args.disk.now.setup c.args.disk.now.entries c.args.books.now c.requires c.first_awaited-books.result (λ t s from lt at. c.first_awaited-books.ensures.before t s from lt (rw c.deref.ensures.value at)) (rw c.deref.ensures.value at c.first_awaited-books.ensures.most))

pub collect_token-requires-clause-sound : goal.collect_token-requires-clause-sound
collect_token-requires-clause-sound g c = sound-marks c.args.disk.now.setup c.args.disk.now.entries c.args.books.now c.first_open-books.result c.first_awaited-books.result c.requires (omega (arith, c.first_open-books.ensures.most, c.len-count.ensures, c.requires.counted)) (omega (arith, rw c.deref.ensures.value at c.first_awaited-books.ensures.most, c.len-count.ensures, c.requires.counted)) (λ t lt. closed-before c.args.disk.now c.args.books.now c.requires c.first_open-books.result c.first_open-books.ensures.before t lt) (collected-before c.args.disk.now.setup c.args.disk.now.entries c.args.books.now c.requires c.first_awaited-books.result (λ t s from lt at. c.first_awaited-books.ensures.before t s from lt (rw c.deref.ensures.value at)) (rw c.deref.ensures.value at c.first_awaited-books.ensures.most))

pub collect_token-requires-clause-uncollected : goal.collect_token-requires-clause-uncollected
collect_token-requires-clause-uncollected g c = (least-left c.args.disk.now.setup c.args.disk.now.entries c.args.books.now c.requires c.first_awaited-books.result (λ t s from lt at. c.first_awaited-books.ensures.before t s from lt (rw c.deref.ensures.value at)) (rw c.deref.ensures.value at c.first_awaited-books.ensures.most) (omega (arith, rw c.deref.ensures.value at c.first_awaited-books.ensures.most, c.if-books-count-2.false, c.len-count.ensures, c.requires.counted)) (λ s at. c.first_awaited-books.ensures.here s (rw c.deref.ensures.value at))).1

pub returns-clause-says : goal.returns-clause-says
returns-clause-says g c =
    last-some c.args.disk.now c.collect_token.new.disk c.args.books.now _ c.collect_token.new.books c.index.result.now.tag c.first_awaited-books.result (record { opened = refl; clients = refl; places = refl; given = refl }) (c.if-not-is_over.ensures.over refl) (closed-first c.args.disk.now.setup c.args.disk.now.entries (λ t lt. closed-before c.args.disk.now c.args.books.now c.requires c.first_open-books.result c.first_open-books.ensures.before t (omega (arith, lt, c.if-books-count.false, c.len-count.ensures, c.requires.counted))))
    (least-left c.args.disk.now.setup c.args.disk.now.entries c.args.books.now c.requires c.first_awaited-books.result (λ t s from lt at. c.first_awaited-books.ensures.before t s from lt (rw c.deref.ensures.value at)) (rw c.deref.ensures.value at c.first_awaited-books.ensures.most) (omega (arith, rw c.deref.ensures.value at c.first_awaited-books.ensures.most, c.if-books-count-2.false, c.len-count.ensures, c.requires.counted)) (λ s at. c.first_awaited-books.ensures.here s (rw c.deref.ensures.value at))).0 (own-tag c.args.disk.now.setup c.args.disk.now.entries c.args.books.now c.first_awaited-books.result c.index.result.now c.requires (omega (arith, rw c.deref.ensures.value at c.first_awaited-books.ensures.most, c.if-books-count-2.false, c.len-count.ensures, c.requires.counted)) c.index.ensures) c.collect_token.ensures.takes
