-- The sentence of what was done, or of what could not be read, is put.
use Rattle.std.proofs.Common.{refl, sym}
use Rattle.program_exit.proofs.SaidLemmas.{said_of, ended_of}
use Rattle.program_exit.proofs.running.run_read.Goals as goal

pub returns-in-Ok-clause-ended : goal.returns-in-Ok-clause-ended
returns-in-Ok-clause-ended g c =
    rw c.in-Ok.is (rw (sym c.as_slice.ensures) (ended_of _ _ _ _ _ c.run-code.ensures c.put_sentence.ensures))

pub returns-in-Err-clause-refused : goal.returns-in-Err-clause-refused
returns-in-Err-clause-refused g c = rw c.in-Err.is (record {
  code_of = c.number.ensures;
  same = refl;
  said_of = said_of _ _ _ _ _ c.refuse-sentence.ensures c.put_sentence-in-Err.ensures;
})
