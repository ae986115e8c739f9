-- What was done is what the run made, and its sentence is put.
use Rattle.program_exit.proofs.SaidLemmas.{said_of}
use Rattle.pw_program.proofs.program.run_program.Goals as goal

pub returns-clause-told : goal.returns-clause-told
returns-clause-told g c = c.run_words-status.ensures.says.told

pub returns-clause-asked : goal.returns-clause-asked
returns-clause-asked g c = c.run_words-status.ensures.says.asked

pub returns-clause-cause : goal.returns-clause-cause
returns-clause-cause g c = c.run_words-status.ensures.says.cause

pub returns-clause-usage : goal.returns-clause-usage
returns-clause-usage g c = c.run_words-status.ensures.says.usage

pub returns-clause-code : goal.returns-clause-code
returns-clause-code g c = c.run_words-status.ensures.says.code_of

pub returns-clause-said : goal.returns-clause-said
returns-clause-said g c = let made = c.run_words-status.ensures in record {
  sentence = made.sentence;
  is_sentence = made.says.sentence_of;
  said = said_of _ _ _ _ _ made.whole c.put_sentence.ensures;
}
