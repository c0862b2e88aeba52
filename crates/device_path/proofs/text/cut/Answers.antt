use Rattle.std.proofs.lemmas.Str.Pattern.{split_after}
use Rattle.device_path.proofs.text.cut.Goals as goal

pub returns-in-Some : goal.returns-in-Some
returns-in-Some c = λ front rest lacks is.
    rw c.in-Some.is at (split_after c.args.end c.args.text.now front rest c.split_once.result c.split_once.ensures.cases c.requires is lacks.at)

pub returns-in-None : goal.returns-in-None
returns-in-None c = λ front rest lacks is.
    absurd (rw c.in-None.is at (split_after c.args.end c.args.text.now front rest c.split_once.result c.split_once.ensures.cases c.requires is lacks.at))
