use Rattle.node_progress.proofs.StateLemmas.{here, part, renderable, before, has_frames, some_left, state_on, quantum_is}
use Rattle.node_progress.proofs.FitsOutputLemmas.{came_long, slices, left_fits, right_fits}
use Rattle.node_progress.proofs.one_cycle.work.Goals as goal

pub process-requires : goal.process-requires
process-requires c = let may = c.requires.may in let run_model = c.args.run_model.now in let k = c.args.at.now.epoch in let t = c.args.at.now.cycle in
    let n = c.args.at.now.node in let s = c.args.state.now in let w = may.works in
    let a = came_long run_model k t n w 0 c.args.at.now.a.now may.a_is in let b = came_long run_model k t n w 1 c.args.at.now.b.now may.b_is in
    record {
      may = record {
        ready = record {
          renderable = renderable run_model k t n w;
          epoch = w.epoch;
          here = here run_model k t n w;
          active = part run_model k t n w;
          kind = may.state.kind;
          quantum = quantum_is run_model k t n w s may.state;
          before = before run_model k t n w s may.state;
          frames = has_frames run_model k t n w s may.state;
          some = some_left run_model k t n w s may.state;
        };
        slices = slices run_model k t n w s may.state _ _ _ _ a b may.left_fits may.right_fits;
        a_is = may.a_is;
        b_is = may.b_is;
        left_fits = left_fits run_model k t n w s may.state _ _ _ _ a b may.left_fits may.right_fits;
        right_fits = right_fits run_model k t n w s may.state _ _ _ _ a b may.left_fits may.right_fits;
      };
    }

pub returns-clause-state : goal.returns-clause-state
returns-clause-state c = let may = c.requires.may in
    state_on c.args.run_model.now c.args.at.now.epoch c.args.at.now.cycle c.args.at.now.node may.works c.args.state.now may.state c.process.new.state
    c.process.ensures.same c.process.ensures.frames c.process.ensures.received
