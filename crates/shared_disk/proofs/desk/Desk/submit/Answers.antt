use Rattle.std.proofs.Common.{◌≡◌, length, subst, arith}
use Rattle.disk_core.specs.Calls.{SubmitSays}
use Rattle.shared_disk.specs.Seats.{BesideLines}
use Rattle.shared_disk.specs.Inside.{desk_state}
use Rattle.shared_disk.proofs.DeskLemmas.{roles-count}
use Rattle.shared_disk.proofs.desk.Desk.submit.Goals as goal

pub submit_aside-requires-clause-there : goal.submit_aside-requires-clause-there
submit_aside-requires-clause-there g c = omega (arith, c.requires.there, subst (λ s. length s.script.roles ≡ length c.self.inside.books.clients.items) c.self.view_is (roles-count c.self.inside.disk c.self.inside.books))

pub returns : goal.returns
returns g c = subst (λ s. BesideLines s (desk_state c.submit_aside.new.disk c.submit_aside.new.books) (λ a b. SubmitSays a c.args.client c.args.view.now c.args.media_id c.args.ask c.submit_aside.result b)) c.self.view_is c.submit_aside.ensures.says
