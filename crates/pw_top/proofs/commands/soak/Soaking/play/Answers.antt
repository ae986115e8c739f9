-- What is planned plays; a refusal has run nothing.
use Rattle.pw_top.specs.Soak.{PlansNumber}
use Rattle.pw_top.proofs.PlayingLemmas.{plays_goes, plays_stops}
use Rattle.pw_top.proofs.commands.soak.Soaking.play.Goals as goal

pub returns-in-Ok-clause-told : goal.returns-in-Ok-clause-told
returns-in-Ok-clause-told g c = plays_goes (PlansNumber c.args.self.number) _ _ c.in-Ok.planned c.soak_planned.result c.in-Ok.ensures.done
    c.soak_planned.ensures.done

pub returns-in-Err-clause-told : goal.returns-in-Err-clause-told
returns-in-Err-clause-told g c = plays_stops (PlansNumber c.args.self.number) _ _ c.in-Err.status c.in-Err.ensures.done c.requires.none
