use Rattle.pw_program.proofs.AskingLemmas.{tied_asked}
use Rattle.pw_program.proofs.asking.NthTicker.due.Goals as goal

pub invariant_of-self : goal.invariant_of-self
invariant_of-self g c = record {
  tied = tied_asked c.args.self.now.every c.due.new.self g.P.Asks.period c.args.self.now.tied c.due.ensures.next;
}
