use Rattle.std.proofs.Common.{ap, ◌∙◌, arith, length, sum_by}
use Rattle.shared_disk.specs.Desk.{DeskState}
use Rattle.shared_disk.specs.Inside.{desk_state}
use Rattle.shared_disk.proofs.PlateLemmas.{few-places, done-places}
use Rattle.shared_disk.proofs.desk.Desk.done_lines.Goals as goal

pub done_lines-requires : goal.done_lines-requires
done_lines-requires g c = let most = few-places _ _ _ c.self.invariant in omega (arith, most)

pub returns-clause-lines : goal.returns-clause-lines
unfolding desk_state
returns-clause-lines g c = c.done_lines.ensures ∙ done-places c.self.inside.books.courses.items ∙ ap (λ (s : DeskState). sum_by length s.places) c.self.view_is

pub returns-clause-few : goal.returns-clause-few
returns-clause-few g c = let most = few-places _ _ _ c.self.invariant in omega (arith, most, c.done_lines.ensures)
