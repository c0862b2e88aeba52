use Rattle.script_text.proofs.Unwritten.{no_number_behind}
use Rattle.script_text.proofs.language.single_words.number_behind.Goals as goal

pub returns-in-Err : goal.returns-in-Err
returns-in-Err c = no_number_behind c.args.word.now (rw c.as_bytes.ensures.value at c.in-Err.ensures.cases.0)
