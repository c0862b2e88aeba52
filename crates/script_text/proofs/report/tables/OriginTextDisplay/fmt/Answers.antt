use Rattle.script_text.specs.Tables.{origin_text}
use Rattle.script_text.proofs.report.tables.OriginTextDisplay.fmt.Goals as goal

pub returns-in-Mbr-clause-writes : goal.returns-in-Mbr-clause-writes
unfolding origin_text
returns-in-Mbr-clause-writes g c = λ plain ok. rw c.in-Mbr.is (c.write.ensures.writes plain ok)

pub returns-in-Gpt-clause-writes : goal.returns-in-Gpt-clause-writes
unfolding origin_text
returns-in-Gpt-clause-writes g c = λ plain ok. rw c.in-Gpt.is (c.write-in-Gpt.ensures.writes plain ok)
