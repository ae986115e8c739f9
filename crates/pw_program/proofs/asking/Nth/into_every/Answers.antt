use Rattle.pw_program.proofs.AskingLemmas.{tied_period}
use Rattle.pw_program.proofs.asking.Nth.into_every.Goals as goal

pub returns-clause-period : goal.returns-clause-period
returns-clause-period g c = tied_period c.args.self.every.period g.P.Asks.period c.args.self.tied
