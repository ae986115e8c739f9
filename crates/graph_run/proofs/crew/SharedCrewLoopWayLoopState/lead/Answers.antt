use Rattle.std.proofs.Common.{◌∙◌, ◌++◌, List, sym, ap, subst, arith}
use Rattle.std.specs.Prelude.{All}
use Rattle.data_loop.specs.declared.loop_state.LoopState.{LoopState}
use Rattle.driver_cycle.specs.Settling.{AreEach}
use Rattle.graph_run.specs.Threads.{CanRun, HasRun}
use Rattle.graph_run.specs.working.Crew.{states_of}
use Rattle.graph_run.proofs.DoneLemmas.{states_can}
use Rattle.graph_run.proofs.crew.SharedCrewLoopWayLoopState.lead.Goals as goal

pub append_states-requires : goal.append_states-requires
append_states-requires g c = let few = c.requires.leads.2 in let room = c.requires.leads.1.adopted in omega (arith, few, room)

pub drive-led-requires-clause-drives : goal.drive-led-requires-clause-drives
drive-led-requires-clause-drives g c = c.requires.leads.1.can_drive

pub drive-led-requires-clause-adopted : goal.drive-led-requires-clause-adopted
drive-led-requires-clause-adopted g c = subst (All (CanRun c.args.self.now))
    (sym (c.into_items.ensures ∙ (c.append_states.ensures ∙ ap (λ (l : List LoopState). l ++ states_of c.args.held) c.requires.leads.1.bare.0)))
    (states_can c.args.self.now c.args.held c.requires.held)

pub returns : goal.returns
returns g c = let led = c.drive-led in record {
  own = led.ensures.own;
  adopted = subst (λ (l : List LoopState). AreEach HasRun l led.result.adopted)
      (c.into_items.ensures ∙ (c.append_states.ensures ∙ ap (λ (l : List LoopState). l ++ states_of c.args.held) c.requires.leads.1.bare.0))
      led.ensures.adopted;
  drivers = led.ensures.drivers;
  looked = led.ensures.looked;
  room = (λ _. c.args.lead.done);
}
