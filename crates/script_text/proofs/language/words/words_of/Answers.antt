use Rattle.std.proofs.Common.{rules, lit<, ◌==◌, not, length}
use Rattle.std.proofs.lemmas.Bool.Decides.{nat_tests}
use Rattle.std.proofs.lemmas.Iterator.Consumers.{map_from_collect, YieldsList-from_filter}
use Rattle.std.proofs.lemmas.Iterator.Splits.{YieldsList-from_str_split}
use Rattle.script_text.specs.Words.{words_of}
use Rattle.script_text.proofs.language.words.words_of.Goals as goal

pub returns : goal.returns
unfolding words_of
returns c =
    map_from_collect _ c.collect.ensures.ran
    (YieldsList-from_filter _ (λ word. not (length word == 0))
    (YieldsList-from_str_split 32 c.args.line.now (lit< tt) (cc) (cc) (cc))
    c.filter.ensures.closure (λ x b q k. search (rules, nat_tests)))
