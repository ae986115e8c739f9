use Rattle.std.proofs.Common.{◌∙◌, sym}
use Rattle.node_progress.proofs.RestartsLemmas.{stays_state, may_restart, stood, anew}
use Rattle.node_progress.proofs.restarting.enter_next.Goals as goal

pub restart-requires-clause-allowed : goal.restart-requires-clause-allowed
restart-requires-clause-allowed c = let r = c.requires in
    (may_restart _ _ _ _ r.ended c.in-Some.channels (sym r.restart ∙ c.in-Some.is) c.args.state.now r.state).0

pub restart-requires-clause-room : goal.restart-requires-clause-room
restart-requires-clause-room c = let r = c.requires in
    (may_restart _ _ _ _ r.ended c.in-Some.channels (sym r.restart ∙ c.in-Some.is) c.args.state.now r.state).1

pub restart-requires-clause-empty : goal.restart-requires-clause-empty
restart-requires-clause-empty c = let r = c.requires in
    (may_restart _ _ _ _ r.ended c.in-Some.channels (sym r.restart ∙ c.in-Some.is) c.args.state.now r.state).2

pub returns-in-Some : goal.returns-in-Some
returns-in-Some c = let r = c.requires in let is = sym r.restart ∙ c.in-Some.is in let e = c.restart.ensures in record {
  state = anew _ _ _ _ r.ended c.in-Some.channels is c.args.state.now r.state c.restart.new.self
      (e.stands _ (stood _ _ _ _ r.ended c.in-Some.channels is c.args.state.now r.state)) e.channels e.same;
}

pub returns-in-None : goal.returns-in-None
returns-in-None c = let r = c.requires in record {
  state = stays_state _ _ _ _ r.ended (sym r.restart ∙ c.in-None.is) c.args.state.now r.state;
}
