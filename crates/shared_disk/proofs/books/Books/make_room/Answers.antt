use Rattle.std.proofs.Common.{◌≡◌, ◌<◌, Some, refl, arith, Result, Ok, Err, OnOk, sym, ◌∙◌, subst, vec_len, vec_capacity}
use Rattle.shared_disk.specs.declared.books.Course.{Course}
use Rattle.shared_disk.specs.Inside.{IsRoomy}
use Rattle.shared_disk.proofs.CourseLemmas.{changes-course, set-here}
use Rattle.shared_disk.proofs.books.Books.make_room.Goals as goal

on : {A B P Q : Type 0} (r : Result A B) → (P → Q) → OnOk r P → OnOk r Q
on (Ok x) f p = f p
on (Err e) f p = tt

same-now : (x y : Course) → Some x ≡ Some y → x ≡ y
same-now x y e = cc

pub returns-clause-same : goal.returns-clause-same
returns-clause-same c = changes-course c.args.self.now c.args.place c.reserve.new.self c.index_mut.result.now c.make_room.new.self IsRoomy c.requires c.index_mut.ensures.value c.reserve.ensures.items c.make_room.ensures.same

pub returns-in_err-make_room-clause-same : goal.returns-in_err-make_room-clause-same
returns-in_err-make_room-clause-same c = changes-course c.args.self.now c.args.place c.args.self.now.slots c.index_mut.result.now c.make_room.new.self IsRoomy c.requires c.index_mut.ensures.value refl c.make_room.ensures.same

pub returns-clause-room : goal.returns-clause-room
returns-clause-room c = on c.reserve.result (λ lt. record {
  slots = omega (arith, lt);
  tokens = λ course at.
      let is : c.make_room.new.self ≡ course = same-now c.make_room.new.self course (sym (set-here c.args.self.now.courses.items c.args.place c.make_room.new.self c.requires) ∙ at) in
      subst (λ (x : Course). vec_len x.tokens < vec_capacity x.tokens) is c.in_ok-make_room.ensures.room;
}) c.reserve.ensures.ok
