use Rattle.std.proofs.Common.{◌≡◌, ap, sym, subst, ◌∙◌, arith, length, sum_by}
use Rattle.std.proofs.lemmas.List.{length-map}
use Rattle.shared_disk.specs.Desk.{DeskState}
use Rattle.shared_disk.specs.Inside.{desk_state}
use Rattle.shared_disk.specs.declared.books.Course.{Course}
use Rattle.shared_disk.proofs.PlateLemmas.{few-places, done-places}
use Rattle.shared_disk.proofs.DeskLemmas.{roles-count}
use Rattle.shared_disk.proofs.desk.Desk.place_bounds.Goals as goal

pub returns-clause-few : goal.returns-clause-few
unfolding desk_state
returns-clause-few g c =
    let most = few-places _ _ _ c.self.invariant in
    let same = done-places c.self.inside.books.courses.items ∙ ap (λ (s : DeskState). sum_by length s.places) c.self.view_is in omega (arith, most, same)

pub returns-clause-paired : goal.returns-clause-paired
unfolding desk_state
returns-clause-paired g c = subst (λ (s : DeskState). length s.places ≡ length s.script.roles) c.self.view_is (length-map c.self.inside.books.courses.items (λ (course : Course). course.places.items) ∙ (c.self.invariant.paired ∙ sym (roles-count c.self.inside.disk c.self.inside.books)))
