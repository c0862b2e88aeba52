use Rattle.script_text.proofs.Tokens.{body_of_ends}
use Rattle.script_text.proofs.report.writer.report_body.Goals as goal

pub returns-clause-text : goal.returns-clause-text
returns-clause-text g c = λ S grouped all. rw (body_of_ends S _ _ _ _ grouped all) c.put_body.ensures.text
