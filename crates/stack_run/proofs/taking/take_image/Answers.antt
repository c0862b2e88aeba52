use Rattle.stack_run.proofs.HandedLemmas.{taken-has, has-not-lacks, unmade, unmade-spent}
use Rattle.stack_run.proofs.taking.take_image.Goals as goal

pub returns-then-blocks-from-eq0-clause-lacks : goal.returns-then-blocks-from-eq0-clause-lacks
returns-then-blocks-from-eq0-clause-lacks g c lacks =
    let taken = rw c.as_str.ensures at c.in-Ok.ensures.taken in
    absurd (has-not-lacks c.args.want.now _ (taken-has _ _ c.args.want.now _ taken (rw (c.blocks-2.ensures, c.from.ensures) at c.if-blocks-from-eq0.true)) lacks)

pub returns-else-blocks-from-eq0-clause-image : goal.returns-else-blocks-from-eq0-clause-image
returns-else-blocks-from-eq0-clause-image g c is =
    let taken = rw c.as_str.ensures at c.in-Ok.ensures.taken in
    let worn = rw c.as_str.ensures at c.in-Ok.ensures.worn in
    let quiet = rw c.as_str.ensures at c.in-Ok.ensures.cause.quiet in
    unmade _ _ _ c.args.want.now _ taken worn quiet c.refuse_medium.result
    (rw (c.blocks-2.ensures, c.from.ensures) at c.if-blocks-from-eq0.false) c.refuse_medium.ensures.puts (cc)

pub returns-else-blocks-from-eq0-clause-memory : goal.returns-else-blocks-from-eq0-clause-memory
returns-else-blocks-from-eq0-clause-memory g c is =
    let taken = rw c.as_str.ensures at c.in-Ok.ensures.taken in
    let worn = rw c.as_str.ensures at c.in-Ok.ensures.worn in
    let quiet = rw c.as_str.ensures at c.in-Ok.ensures.cause.quiet in
    unmade-spent _ _ _ c.args.want.now _ taken worn quiet c.refuse_medium.result c.refuse_medium.ensures.puts (cc)
