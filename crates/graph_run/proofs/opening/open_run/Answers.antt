use Rattle.std.proofs.Common.{◌≡◌, ◌∙◌, List, [], ◌∷◌, ◌++◌, map, ap, subst}
use Rattle.std.specs.Prelude.{Option, option_to_list}
use Rattle.pw_lists.specs.Listed.{Listed}
use Rattle.board_rule.specs.Known.{Known}
use Rattle.data_loop.specs.declared.loop_state.LoopState.{LoopState}
use Rattle.graph_run.specs.Loops.{AreLoopsOf}
use Rattle.graph_run.specs.LoopsOnPlan.{AreReady}
use Rattle.graph_run.specs.Seating.{holder_of}
use Rattle.graph_run.proofs.opening.open_run.Goals as goal

pub returns : goal.returns
returns c = let plan = c.args.plan.now in let waves = c.args.waves.now in let s = c.args.seating.now in
    let all = c.in_ok-all.all in let made = c.in_ok-all.ensures in let xs : List LoopState = c.pop.new.self in let own : LoopState = c.unwrap-own.result in
    let rows : List (List Known) = map (λ (r : Listed Known). r.list) all.seats.items in
    let whole : c.in_ok-loops.loops ≡ xs ++ own ∷ [] = c.pop.ensures.list ∙ ap (λ (o : Option LoopState). xs ++ option_to_list o) c.unwrap-own.ensures in record {
      shapes = made.shapes;
      drivers = made.drivers;
      leads = made.lead;
      ready = subst (AreReady all.boards s.loops) whole (c.in_ok-loops.ensures.ready all.boards made.shapes made.seats);
      rows = rows;
      are = subst (AreLoopsOf plan waves (holder_of s) rows) whole c.in_ok-loops.ensures.of;
    }
