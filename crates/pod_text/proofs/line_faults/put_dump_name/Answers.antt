use Rattle.pod_text.proofs.line_faults.put_dump_name.Goals as goal

pub returns : goal.returns
returns c = c.put_question.ensures
