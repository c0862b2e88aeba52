use Rattle.std.proofs.Common.{◌≡◌, refl, length, arith}
use Rattle.shared_disk.proofs.CourseLemmas.{changes-course, are-same}
use Rattle.shared_disk.proofs.SoundLemmas.{sound-changes}
use Rattle.shared_disk.proofs.WaitLemmas.{ended-from, own-accepted, ended-course, ended-value}
use Rattle.shared_disk.proofs.waiting.is_waiting.Goals as goal

pub first_outstanding-course-requires-clause-from : goal.first_outstanding-course-requires-clause-from
first_outstanding-course-requires-clause-from g c = rw c.deref.ensures.value (ended-from c.args.disk.now.setup c.args.disk.now.entries c.args.books.now c.args.place c.index_mut-course.result.now c.requires.sound c.requires.there c.index_mut-course.ensures.value)

pub first_outstanding-course-requires-clause-accepted : goal.first_outstanding-course-requires-clause-accepted
first_outstanding-course-requires-clause-accepted g c j t at = own-accepted c.args.disk.now.setup c.args.disk.now.entries c.args.books.now c.args.place c.index_mut-course.result.now c.requires.sound c.requires.there c.index_mut-course.ensures.value j t (rw c.deref.ensures.value at at)

pub returns-clause-value : goal.returns-clause-value
returns-clause-value g c =
    let long : c.len.result ≡ length c.index_mut-course.result.now.tokens.items = omega (arith, c.len.ensures) in
    rw long (ended-value c.args.disk.now.setup c.args.disk.now.entries c.args.books.now c.args.place c.index_mut-course.result.now c.requires.sound c.requires.there c.index_mut-course.ensures.value c.first_outstanding-course.result c.first_outstanding-course.ensures.within (rw c.deref.ensures.value at c.first_outstanding-course.ensures.most)
    (λ j t from less at. c.first_outstanding-course.ensures.before j t from less (rw c.deref.ensures.value at)) (λ t at. c.first_outstanding-course.ensures.here t (rw c.deref.ensures.value at)))

pub returns-clause-same : goal.returns-clause-same
unfolding changes-course
returns-clause-same g c =
    let change = changes-course c.args.books.now c.args.place c.args.books.now.slots c.index_mut-course.result.now (record { places = c.index_mut-course.result.now.places; tokens = c.index_mut-course.result.now.tokens; ended = c.first_outstanding-course.result; collected = c.index_mut-course.result.now.collected }) (λ was now. Unit {0}) c.requires.there c.index_mut-course.ensures.value refl tt in
    are-same c.args.books.now _ c.args.place (λ was now. Unit {0}) change refl

pub returns-clause-sound : goal.returns-clause-sound
unfolding changes-course
returns-clause-sound g c =
    let change = changes-course c.args.books.now c.args.place c.args.books.now.slots c.index_mut-course.result.now (record { places = c.index_mut-course.result.now.places; tokens = c.index_mut-course.result.now.tokens; ended = c.first_outstanding-course.result; collected = c.index_mut-course.result.now.collected }) (λ was now. Unit {0}) c.requires.there c.index_mut-course.ensures.value refl tt in
    sound-changes c.args.disk.now.setup c.args.disk.now.entries c.args.books.now c.args.place (λ was now. Unit {0}) _ c.requires.sound change
    (λ client at course. ended-course c.args.disk.now.setup c.args.disk.now.entries c.args.books.now c.args.place c.index_mut-course.result.now c.requires.sound c.requires.there c.index_mut-course.ensures.value c.first_outstanding-course.result c.first_outstanding-course.ensures.within (rw c.deref.ensures.value at c.first_outstanding-course.ensures.most)
    (λ j t from less at. c.first_outstanding-course.ensures.before j t from less (rw c.deref.ensures.value at)) (λ t at. c.first_outstanding-course.ensures.here t (rw c.deref.ensures.value at)) (length client.orders.items) course)
