use Rattle.std.proofs.Common.{◌≡◌, ◌∙◌, ℕ, true, List, refl, sym, ap, subst, take, arith, inl}
use Rattle.pw_graph.specs.declared.shape.Shape.{Shape}
use Rattle.board_rule.specs.declared.view.View.{View}
use Rattle.board_rule.specs.Layout.{layout_of, index_in}
use Rattle.board_rule.specs.activation.WorkSteps.{IsReadyToFinish}
use Rattle.activation_words.specs.Calls.{started, HasFinished}
use Rattle.data_loop.specs.declared.member.Member.{Member}
use Rattle.data_loop.specs.turns.Ends.{reads_of}
use Rattle.data_loop.specs.working.ReadingInputs.{MayReadAll, AreRead}
use Rattle.data_loop.specs.working.Inputs.{links_of}
use Rattle.data_loop.proofs.TurnLemmas.{links_are}
use Rattle.data_loop.proofs.PlayLemmas.{board_is}
use Rattle.node_progress.proofs.StateLemmas.{here}
use Rattle.data_loop.proofs.DrivingLemmas.{may_read, ready, driven, inputs_are, few, first_wide, second_wide, long, second_fits}
use Rattle.data_loop.proofs.driving.play_driver.Goals as goal

pub gather-requires-clause-phase : goal.gather-requires-clause-phase
gather-requires-clause-phase g c = let at = c.args.turn_context.now in let shape = at.board.now.board_shape in let p = layout_of shape in let v : View = c.args.seat.now.knows in
    let r = c.requires in let x = r.player in let m : Member = c.args.member.now in let s = c.start.ensures.knows in
    let reads : links_of m.inputs ≡ reads_of p.shape p.shape.driver =
    ap links_of (inputs_are at.run_model.now p r.pooled v at.epoch at.cycle m x)
    ∙ links_are p.shape m.node ∙ ap (reads_of p.shape) x.driver in
    subst (λ (y : View × List ℕ). MayReadAll true p y.0 y.1) (λ i. (sym s.2 i, sym reads i))
    (may_read shape r.pooled v at.cycle s.0 r.awake)

pub gather-requires-clause-few : goal.gather-requires-clause-few
gather-requires-clause-few g c = let at = c.args.turn_context.now in let shape = at.board.now.board_shape in let p = layout_of shape in let v : View = c.args.seat.now.knows in
    let r = c.requires in let x = r.player in let m : Member = c.args.member.now in let s = c.start.ensures.knows in
    few at.run_model.now p r.pooled v at.epoch at.cycle m x

pub gather-requires-clause-long : goal.gather-requires-clause-long
gather-requires-clause-long g c = let at = c.args.turn_context.now in let shape = at.board.now.board_shape in let p = layout_of shape in let v : View = c.args.seat.now.knows in
    let r = c.requires in let x = r.player in let m : Member = c.args.member.now in let s = c.start.ensures.knows in
    long at.run_model.now p r.pooled v at.epoch at.cycle m x

pub gather-requires-clause-reads : goal.gather-requires-clause-reads
gather-requires-clause-reads g c = let at = c.args.turn_context.now in let shape = at.board.now.board_shape in let p = layout_of shape in let v : View = c.args.seat.now.knows in
    let r = c.requires in let x = r.player in let m : Member = c.args.member.now in let s = c.start.ensures.knows in
    let w : View = c.start.new.seat.knows in let run_model = at.run_model.now in let k = at.epoch in let cycle = at.cycle in
    let range = r.awake.node.1 in let now = r.awake.cycle in
    let board = board_is run_model k cycle m.node x.works p r.pooled x.shape v x.expect in
    let lead : w.lead.cycle ≡ cycle = ap (λ (y : View). y.lead.cycle) s.2 ∙ now in
    record {
      epoch = x.works.epoch;
      here = here run_model k cycle m.node x.works;
      board = record {
        shape = board.shape;
        expect = ap (λ (y : View). y.expect) s.2 ∙ board.expect;
        quantum = board.quantum;
        two = board.two;
        channels = board.channels;
      };
      inside = (omega (arith, range.0, now), omega (arith, range.1, now));
      inputs_are = inputs_are at.run_model.now p r.pooled v at.epoch at.cycle m x;
      now = λ l low e. lead;
      first_width = first_wide at.run_model.now p r.pooled v at.epoch at.cycle m x;
      second_width = second_wide at.run_model.now p r.pooled v at.epoch at.cycle m x;
    }

pub gather-requires-clause-second : goal.gather-requires-clause-second
gather-requires-clause-second g c = let at = c.args.turn_context.now in let shape = at.board.now.board_shape in let p = layout_of shape in let v : View = c.args.seat.now.knows in
    let r = c.requires in let x = r.player in let m : Member = c.args.member.now in let s = c.start.ensures.knows in
    second_fits at.run_model.now p r.pooled v at.epoch at.cycle m x

pub work-requires : goal.work-requires
work-requires g c = let at = c.args.turn_context.now in let shape = at.board.now.board_shape in let p = layout_of shape in let v : View = c.args.seat.now.knows in
    let r = c.requires in let x = r.player in let m : Member = c.args.member.now in let s = c.start.ensures.knows in
    record {
      may = record {
        works = x.works;
        state = r.state;
        a_is = ap (take m.first_width) c.as_slice.ensures.value ∙ c.gather.ensures.a;
        b_is = ap (take m.second_width) c.as_slice-2.ensures.value ∙ c.gather.ensures.b;
        left_fits = inl refl;
        right_fits = inl refl;
      };
    }

pub finish-requires-clause-ready : goal.finish-requires-clause-ready
finish-requires-clause-ready g c = let at = c.args.turn_context.now in let shape = at.board.now.board_shape in let p = layout_of shape in let v : View = c.args.seat.now.knows in
    let r = c.requires in let x = r.player in let m : Member = c.args.member.now in let s = c.start.ensures.knows in
    let reads : links_of m.inputs ≡ reads_of p.shape p.shape.driver =
    ap links_of (inputs_are at.run_model.now p r.pooled v at.epoch at.cycle m x)
    ∙ links_are p.shape m.node ∙ ap (reads_of p.shape) x.driver in
    let w : View = c.gather.new.seat.knows in
    let read : AreRead true p (started true v p.driver s.0) (reads_of p.shape p.shape.driver) w =
    subst (λ (y : View × List ℕ). AreRead true p y.0 y.1 w) (λ i. (s.2 i, reads i)) c.gather.ensures.knows in
    subst (IsReadyToFinish true p w) (sym (ap (λ (y : Shape). index_in shape.shape y.driver) c.shape.ensures))
    (ready shape r.pooled v at.cycle s.0 r.awake w read)

pub returns-clause-driven : goal.returns-clause-driven
returns-clause-driven g c = let at = c.args.turn_context.now in let shape = at.board.now.board_shape in let p = layout_of shape in let v : View = c.args.seat.now.knows in
    let r = c.requires in let x = r.player in let m : Member = c.args.member.now in let s = c.start.ensures.knows in
    let reads : links_of m.inputs ≡ reads_of p.shape p.shape.driver =
    ap links_of (inputs_are at.run_model.now p r.pooled v at.epoch at.cycle m x)
    ∙ links_are p.shape m.node ∙ ap (reads_of p.shape) x.driver in
    let w : View = c.gather.new.seat.knows in
    let read : AreRead true p (started true v p.driver s.0) (reads_of p.shape p.shape.driver) w =
    subst (λ (y : View × List ℕ). AreRead true p y.0 y.1 w) (λ i. (s.2 i, reads i)) c.gather.ensures.knows in
    driven shape r.pooled v at.cycle s.0 r.awake w read s.1 c.finish.new.seat.knows
    (subst (λ (n : ℕ). HasFinished true p w n c.finish.new.seat.knows) (ap (λ (y : Shape). index_in shape.shape y.driver) c.shape.ensures)
    c.finish.ensures.knows)
