use Rattle.std.proofs.Common.{List, ℕ, Bor, sym, ◌∙◌}
use Rattle.script_text.specs.Wording.{is_fixed_word}
use Rattle.script_text.proofs.Clean.{list_any_map}
use Rattle.script_text.proofs.language.single_words.has_fixed.Goals as goal

pub returns : goal.returns
returns c = c.is_any_fixed.ensures ∙ sym (list_any_map is_fixed_word (λ (word : Bor (List ℕ)). word.now) c.args.words.now)
