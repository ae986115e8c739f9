use Rattle.std.proofs.Common.{refl}
use Rattle.data_loop.proofs.RunningLemmas.{way_on, started_on}
use Rattle.data_loop.proofs.running.pass_on.Goals as goal

pub returns-in-Ran-clause-way : goal.returns-in-Ran-clause-way
returns-in-Ran-clause-way g c = way_on c.args.ways.now c.args.state.now c.args.state.now c.args.way.now c.forward.new.way refl
    c.forward.ensures.sent.number c.forward.ensures.answered c.requires.way

pub returns-in-Ran-clause-started : goal.returns-in-Ran-clause-started
returns-in-Ran-clause-started g c = started_on c.args.way.now c.forward.new.way c.forward.ensures.sent.begins c.requires.started
