use Rattle.std.proofs.Common.{rules, ◌≢◌, ◌∙◌, ℕ, Bool, false, sym, subst}
use Rattle.board_rule.specs.declared.view.View.{View}
use Rattle.board_rule.specs.Layout.{layout_of}
use Rattle.board_rule.specs.Steps.{HasNode}
use Rattle.activation_words.specs.Told.{IsTelling, HasTold}
use Rattle.activation_words.specs.Calls.{worked, HasFinished}
use Rattle.board_rule.proofs.events.BitLemmas.{woke_bits}
use Rattle.activation_words.proofs.ViewLemmas.{follower_leads}
use Rattle.activation_words.proofs.CallLemmas.{worked_has, worked_tells, told_rests, other_place}
use Rattle.activation_words.proofs.running.finish.Goals as goal

pub tell_all-requires-clause-node : goal.tell_all-requires-clause-node
tell_all-requires-clause-node g c = let board = c.args.board.now in let p = layout_of board.board_shape in let m : ℕ = p.index c.args.node in
    let v : View = g.S.BoardSeat.knows c.args.seat.now in let b : Bool = g.S.BoardSeat.is_driver in
    let r = c.end_work.ensures.knows in let has = c.requires.ready.0 in let else : c.args.node ≢ board.board_shape.shape.driver = search rules in
    let f = follower_leads p v m b has.0 (other_place board.board_shape c.args.node board.sound has.2 else) in
    subst (λ (k : Bool × View). HasNode k.0 p k.1 m) (λ j. (sym f j, sym (r.2 ∙ (λ i. worked (f i) v m r.0)) j))
    (worked_has p v m r.0 (subst (λ (k : Bool). HasNode k p v m) f has))

pub tell_all-requires-clause-phase : goal.tell_all-requires-clause-phase
tell_all-requires-clause-phase g c = let board = c.args.board.now in let p = layout_of board.board_shape in let m : ℕ = p.index c.args.node in
    let v : View = g.S.BoardSeat.knows c.args.seat.now in let b : Bool = g.S.BoardSeat.is_driver in
    let r = c.end_work.ensures.knows in let has = c.requires.ready.0 in let else : c.args.node ≢ board.board_shape.shape.driver = search rules in
    let f = follower_leads p v m b has.0 (other_place board.board_shape c.args.node board.sound has.2 else) in
    subst (λ (k : Bool × View). IsTelling k.0 p k.1 m 0 k.1) (λ j. (sym f j, sym (r.2 ∙ (λ i. worked (f i) v m r.0)) j))
    (worked_tells p v m r.0 (board.sound.tells m has.2) (subst (λ (k : Bool). HasNode k p v m) f has))

pub returns-then-node-shape-clause-knows : goal.returns-then-node-shape-clause-knows
returns-then-node-shape-clause-knows g c = let board = c.args.board.now in let p = layout_of board.board_shape in let m : ℕ = p.index c.args.node in
    let v : View = g.S.BoardSeat.knows c.args.seat.now in let b : Bool = g.S.BoardSeat.is_driver in
    let r = c.end_work.ensures.knows in let has = c.requires.ready.0 in let else : c.args.node ≢ board.board_shape.shape.driver = search rules in
    let f = follower_leads p v m b has.0 (other_place board.board_shape c.args.node board.sound has.2 else) in
    let w : View = g.S.BoardSeat.knows c.tell_all.new.seat in
    let told : HasTold false p (worked false v m r.0) m w =
    subst (λ (k : Bool × View). HasTold k.0 p k.1 m w) (λ j. (f j, (r.2 ∙ (λ i. worked (f i) v m r.0)) j)) c.tell_all.ensures.knows in
    subst (λ (k : Bool). HasFinished k p v m w) (sym f) (told_rests p v m r.0 w r.1 (subst (λ (k : Bool). HasNode k p v m) f has) told)

pub returns-then-node-shape-clause-woke : goal.returns-then-node-shape-clause-woke
returns-then-node-shape-clause-woke g c n = woke_bits _ n
