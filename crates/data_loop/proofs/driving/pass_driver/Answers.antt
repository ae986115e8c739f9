use Rattle.std.proofs.Common.{ℕ, true, sym, ap, subst}
use Rattle.pw_graph.specs.declared.shape.Shape.{Shape}
use Rattle.board_rule.specs.declared.view.View.{View}
use Rattle.board_rule.specs.Layout.{layout_of, index_in}
use Rattle.board_rule.specs.activation.WorkSteps.{IsReadyToFinish}
use Rattle.activation_words.specs.Calls.{started, HasFinished}
use Rattle.data_loop.specs.turns.Ends.{reads_of}
use Rattle.data_loop.specs.working.ReadingInputs.{AreRead}
use Rattle.data_loop.proofs.DrivingLemmas.{ready, driven, none_read}
use Rattle.data_loop.proofs.driving.pass_driver.Goals as goal

pub finish-requires-clause-ready : goal.finish-requires-clause-ready
finish-requires-clause-ready g c = let shape = c.args.board.now.board_shape in let p = layout_of shape in let v : View = c.args.seat.now.knows in
    let r = c.requires in let s = c.start.ensures.knows in let w : View = c.start.new.seat.knows in
    let read : AreRead true p (started true v p.driver s.0) (reads_of p.shape p.shape.driver) w =
    subst (AreRead true p (started true v p.driver s.0) (reads_of p.shape p.shape.driver)) (sym s.2)
    (none_read shape r.pooled v c.args.cycle s.0 r.awake r.alone) in
    subst (IsReadyToFinish true p w) (sym (ap (λ (y : Shape). index_in shape.shape y.driver) c.shape.ensures))
    (ready shape r.pooled v c.args.cycle s.0 r.awake w read)

pub returns-clause-driven : goal.returns-clause-driven
returns-clause-driven g c = let shape = c.args.board.now.board_shape in let p = layout_of shape in let v : View = c.args.seat.now.knows in
    let r = c.requires in let s = c.start.ensures.knows in let w : View = c.start.new.seat.knows in
    let read : AreRead true p (started true v p.driver s.0) (reads_of p.shape p.shape.driver) w =
    subst (AreRead true p (started true v p.driver s.0) (reads_of p.shape p.shape.driver)) (sym s.2)
    (none_read shape r.pooled v c.args.cycle s.0 r.awake r.alone) in
    driven shape r.pooled v c.args.cycle s.0 r.awake w read s.1 c.finish.new.seat.knows
    (subst (λ (m : ℕ). HasFinished true p w m c.finish.new.seat.knows) (ap (λ (y : Shape). index_in shape.shape y.driver) c.shape.ensures)
    c.finish.ensures.knows)
