use Rattle.std.proofs.Common.{◌≡◌, [], ◌∷◌, ap}
use Rattle.std.proofs.lemmas.List.Elements.{All-nil, All-cons}
use Rattle.medium.specs.declared.mem_medium.MemMedium.{MemMedium}
use Rattle.drive.proofs.tests.two_media.Goals as goal

pub make-drive-requires-clause-size : goal.make-drive-requires-clause-size
make-drive-requires-clause-size c = λ asked.
    let one = asked.in_ok-first.first in
    let two = asked.in_ok-second.second in
    let first : one.size ≡ 512 = ap (λ d. d.size) asked.in_ok-first.ensures in
    let second : two.size ≡ 512 = ap (λ d. d.size) asked.in_ok-second.ensures in
    let P : MemMedium → Type 0 = λ m. m.size ≡ 512 in
    (512, rw asked.in_ok-vec-3.ensures.items (All-cons P one (two ∷ []) first (All-cons P two [] second (All-nil P))))
