use Rattle.system_files.proofs.unread.put_text.Goals as goal

pub returns-in-NoText : goal.returns-in-NoText
returns-in-NoText c = rw c.in-NoText.is c.put_number.ensures

pub returns-in-Memory : goal.returns-in-Memory
returns-in-Memory c = rw c.in-Memory.is c.extend.ensures.ok
