use Rattle.std.proofs.Common.{refl}
use Rattle.history.specs.Tokens.{token_count, request}
use Rattle.history.specs.Commands.{has_done, done_commands}
use Rattle.history.specs.Marks.{mark_of, ending, is_complete, all_from}
use Rattle.script_text.proofs.TokenEnds.{ends_one_by_one}
use Rattle.script_text.proofs.tests.reports.make_sample.Goals as goal

pub returns : goal.returns
returns c =
    rw (c.in_ok-history.ensures, c.in_ok-entries.ensures.items, c.in_ok-ends.ensures.items)
    (unfold token_count request mark_of ending is_complete has_done done_commands all_from in ends_one_by_one _ _ _ refl (refl, (refl, (refl, (refl, (refl, (refl, (refl, (refl, (refl, tt))))))))))
