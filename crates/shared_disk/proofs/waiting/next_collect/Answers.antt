use Rattle.std.proofs.Common.{◌∙◌, refl, length}
use Rattle.shared_disk.proofs.CourseLemmas.{changes-course, are-same}
use Rattle.shared_disk.proofs.SoundLemmas.{sound-changes}
use Rattle.shared_disk.proofs.WaitLemmas.{collected-from, own-accepted, collected-course, left-value}
use Rattle.shared_disk.proofs.waiting.next_collect.Goals as goal

pub first_uncollected-course-requires-clause-from : goal.first_uncollected-course-requires-clause-from
first_uncollected-course-requires-clause-from g c = rw c.deref-2.ensures.value (collected-from c.args.disk.now.setup c.args.disk.now.entries c.args.books.now c.args.place c.index_mut-course.result.now c.requires.sound c.requires.there c.index_mut-course.ensures.value)

pub first_uncollected-course-requires-clause-there : goal.first_uncollected-course-requires-clause-there
first_uncollected-course-requires-clause-there g c j t at = rw (c.deref.ensures.value, c.requires.sound.counted) (own-accepted c.args.disk.now.setup c.args.disk.now.entries c.args.books.now c.args.place c.index_mut-course.result.now c.requires.sound c.requires.there c.index_mut-course.ensures.value j t (rw c.deref-2.ensures.value at at))

pub returns-clause-value : goal.returns-clause-value
returns-clause-value g c =
    c.token.ensures ∙ left-value c.args.disk.now.setup c.args.disk.now.entries c.args.books.now c.args.place c.index_mut-course.result.now c.requires.sound c.requires.there c.index_mut-course.ensures.value c.first_uncollected-course.result c.first_uncollected-course.ensures.within (rw c.deref-2.ensures.value at c.first_uncollected-course.ensures.most)
    (λ j t s from less at there. c.first_uncollected-course.ensures.before j t s from less (rw c.deref-2.ensures.value at) (rw c.deref.ensures.value there)) (λ t s at there. c.first_uncollected-course.ensures.here t s (rw c.deref-2.ensures.value at) (rw c.deref.ensures.value there))

pub returns-clause-same : goal.returns-clause-same
unfolding changes-course
returns-clause-same g c =
    let change = changes-course c.args.books.now c.args.place c.args.books.now.slots c.index_mut-course.result.now (record { places = c.index_mut-course.result.now.places; tokens = c.index_mut-course.result.now.tokens; ended = c.index_mut-course.result.now.ended; collected = c.first_uncollected-course.result }) (λ was now. Unit {0}) c.requires.there c.index_mut-course.ensures.value refl tt in
    are-same c.args.books.now _ c.args.place (λ was now. Unit {0}) change refl

pub returns-clause-sound : goal.returns-clause-sound
unfolding changes-course
returns-clause-sound g c =
    let change = changes-course c.args.books.now c.args.place c.args.books.now.slots c.index_mut-course.result.now (record { places = c.index_mut-course.result.now.places; tokens = c.index_mut-course.result.now.tokens; ended = c.index_mut-course.result.now.ended; collected = c.first_uncollected-course.result }) (λ was now. Unit {0}) c.requires.there c.index_mut-course.ensures.value refl tt in
    sound-changes c.args.disk.now.setup c.args.disk.now.entries c.args.books.now c.args.place (λ was now. Unit {0}) _ c.requires.sound change
    (λ client at course. collected-course c.args.disk.now.setup c.args.disk.now.entries c.args.books.now c.args.place c.index_mut-course.result.now c.requires.sound c.requires.there c.index_mut-course.ensures.value c.first_uncollected-course.result c.first_uncollected-course.ensures.within (rw c.deref-2.ensures.value at c.first_uncollected-course.ensures.most)
    (λ j t s from less at there. c.first_uncollected-course.ensures.before j t s from less (rw c.deref-2.ensures.value at) (rw c.deref.ensures.value there)) (λ t s at there. c.first_uncollected-course.ensures.here t s (rw c.deref-2.ensures.value at) (rw c.deref.ensures.value there)) (length client.orders.items) course)
