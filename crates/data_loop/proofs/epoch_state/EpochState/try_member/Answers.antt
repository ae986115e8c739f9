use Rattle.std.proofs.Common.{◌≡◌, ◌≢◌, false, ◌+◌, ◌∙◌, ℕ, suc, List, get_or, set, refl, ap, subst, sym, arith, rules}
use Rattle.std.proofs.lemmas.List.{get_or_default}
use Rattle.pw_graph.specs.declared.shape.Shape.{Shape}
use Rattle.board_rule.specs.declared.view.View.{View}
use Rattle.board_rule.specs.OnBoard.{table_of}
use Rattle.board_rule.specs.Layout.{layout_of, first}
use Rattle.board_rule.specs.View.{node_of}
use Rattle.board_rule.specs.Steps.{woken, tried}
use Rattle.data_loop.specs.declared.member.Member.{Member}
use Rattle.data_loop.specs.declared.epoch_state.EpochState.{EpochState}
use Rattle.data_loop.specs.turns.Turning.{MayTurn, HasTurned}
use Rattle.node_progress.specs.NodeStates.{IsNodeState}
use Rattle.data_loop.specs.working.Standings.{IsPlayer}
use Rattle.data_loop.specs.Tries.{no_member, member_at, HasTried}
use Rattle.data_loop.specs.declared.tried.Tried.TheVariants.{NotYet}
use Rattle.data_loop.proofs.EpochStateLemmas.{may_turn, player, turned_before, turned_stands, tried_stands}
use Rattle.data_loop.proofs.epoch_state.EpochState.try_member.Goals as goal

pub returns-then-ended-shape-clause-tried : goal.returns-then-ended-shape-clause-tried
returns-then-ended-shape-clause-tried g' c = let board_shape = c.args.epoch_context.now.board.now.board_shape in let p = layout_of board_shape in
    let v : View = c.args.self.now.seat.knows in
    let m : Member = c.index-as_slice-index.result in
    let is : m ≡ member_at c.args.self.now c.args.index = c.index-as_slice-index.is ∙ ap (λ (l : List Member). get_or l c.args.index m) c.as_slice.ensures
    ∙ get_or_default c.args.self.now.members c.args.index m no_member c.requires.inside in
    let all : c.ended.result ≡ board_shape.shape.cycles = c.if-ended-shape.true ∙ ap (λ (s : Shape). s.cycles) c.shape.ensures in
    (ap (λ (x : Member). (node_of v (p.index x.node)).next) (sym is) ∙ sym c.ended.ensures ∙ ap (λ n. first p + n) all, refl)

pub play-requires-clause-player : goal.play-requires-clause-player
play-requires-clause-player g' c = let board_shape = c.args.epoch_context.now.board.now.board_shape in let p = layout_of board_shape in
    let g : EpochState = c.args.self.now in let v : View = g.seat.knows in let w : View = c.claim.new.seat.knows in
    let m : Member = c.index-as_slice-index.result in
    let is : m ≡ member_at g c.args.index = c.index-as_slice-index.is ∙ ap (λ (l : List Member). get_or l c.args.index m) c.as_slice.ensures
    ∙ get_or_default g.members c.args.index m no_member c.requires.inside in
    let some_left : c.ended.result ≢ board_shape.shape.cycles = search rules in
    let ended : first p + c.ended.result ≡ (node_of v (p.index (member_at g c.args.index).node)).next = c.ended.ensures
    ∙ ap (λ (x : Member). (node_of v (p.index x.node)).next) is in
    let woke : w ≡ woken false v (p.index (member_at g c.args.index).node) = c.in-Awake.ensures.claim.1
    ∙ ap (λ (x : Member). woken false v (p.index x.node)) is in
    let cycle : c.in-Awake.cycle ≡ (node_of v (p.index (member_at g c.args.index).node)).next = c.in-Awake.ensures.claim.0
    ∙ ap (λ (x : Member). (node_of v (p.index x.node)).next) is in
    subst (λ (x : Member). IsPlayer c.args.epoch_context.now.run_model.now p w c.args.epoch_context.now.epoch c.in-Awake.cycle x) (sym is)
    (player c.args.epoch_context.now.run_model.now c.args.epoch_context.now.epoch p (table_of c.args.epoch_context.now.board.now) g c.args.states.now c.args.rows.now c.requires.stands c.args.index c.requires.inside
    (λ e. some_left (omega (arith, e, ended))) w c.in-Awake.cycle woke cycle)

pub play-requires-clause-awake : goal.play-requires-clause-awake
play-requires-clause-awake g' c = let board_shape = c.args.epoch_context.now.board.now.board_shape in let p = layout_of board_shape in
    let g : EpochState = c.args.self.now in let v : View = g.seat.knows in let w : View = c.claim.new.seat.knows in
    let m : Member = c.index-as_slice-index.result in
    let is : m ≡ member_at g c.args.index = c.index-as_slice-index.is ∙ ap (λ (l : List Member). get_or l c.args.index m) c.as_slice.ensures
    ∙ get_or_default g.members c.args.index m no_member c.requires.inside in
    let some_left : c.ended.result ≢ board_shape.shape.cycles = search rules in
    let ended : first p + c.ended.result ≡ (node_of v (p.index (member_at g c.args.index).node)).next = c.ended.ensures
    ∙ ap (λ (x : Member). (node_of v (p.index x.node)).next) is in
    let woke : w ≡ woken false v (p.index (member_at g c.args.index).node) = c.in-Awake.ensures.claim.1
    ∙ ap (λ (x : Member). woken false v (p.index x.node)) is in
    let cycle : c.in-Awake.cycle ≡ (node_of v (p.index (member_at g c.args.index).node)).next = c.in-Awake.ensures.claim.0
    ∙ ap (λ (x : Member). (node_of v (p.index x.node)).next) is in
    subst (λ (x : Member). MayTurn p w g.own (p.index x.node)) (sym is)
    (may_turn c.args.epoch_context.now.run_model.now c.args.epoch_context.now.epoch p (table_of c.args.epoch_context.now.board.now) g c.args.states.now c.args.rows.now c.requires.stands c.args.index c.requires.inside
    (λ e. some_left (omega (arith, e, ended))) w woke)

pub returns-in-NotYet-clause-stands : goal.returns-in-NotYet-clause-stands
returns-in-NotYet-clause-stands g' c = let board_shape = c.args.epoch_context.now.board.now.board_shape in let p = layout_of board_shape in
    let g : EpochState = c.args.self.now in let v : View = g.seat.knows in let w : View = c.claim.new.seat.knows in
    let m : Member = c.index-as_slice-index.result in
    let is : m ≡ member_at g c.args.index = c.index-as_slice-index.is ∙ ap (λ (l : List Member). get_or l c.args.index m) c.as_slice.ensures
    ∙ get_or_default g.members c.args.index m no_member c.requires.inside in
    tried_stands c.args.epoch_context.now.run_model.now c.args.epoch_context.now.epoch p (table_of c.args.epoch_context.now.board.now) g c.args.states.now c.args.rows.now c.requires.stands c.args.index c.requires.inside
    (record g { seat = c.claim.new.seat }) (c.claim.ensures.table ∙ c.requires.stands.table) refl refl c.in-NotYet.found refl
    (c.in-NotYet.ensures.claim.1 ∙ ap (λ (x : Member). tried p v (p.index x.node) c.in-NotYet.found) is)

pub returns-in-NotYet-clause-tried : goal.returns-in-NotYet-clause-tried
returns-in-NotYet-clause-tried g' c = let board_shape = c.args.epoch_context.now.board.now.board_shape in let p = layout_of board_shape in
    let g : EpochState = c.args.self.now in let v : View = g.seat.knows in let w : View = c.claim.new.seat.knows in
    let m : Member = c.index-as_slice-index.result in
    let is : m ≡ member_at g c.args.index = c.index-as_slice-index.is ∙ ap (λ (l : List Member). get_or l c.args.index m) c.as_slice.ensures
    ∙ get_or_default g.members c.args.index m no_member c.requires.inside in
    let some_left : c.ended.result ≢ board_shape.shape.cycles = search rules in
    let ended : first p + c.ended.result ≡ (node_of v (p.index m.node)).next = c.ended.ensures in
    let tried_it = c.in-NotYet.ensures.claim in
    subst (λ (x : Member). HasTried p g x.node (NotYet c.in-NotYet.found) (record g { seat = c.claim.new.seat })) is
    ((λ e. some_left (omega (arith, e, ended))), tried_it.0, tried_it.1)

pub returns-in-Awake-clause-stands : goal.returns-in-Awake-clause-stands
returns-in-Awake-clause-stands g' c = let board_shape = c.args.epoch_context.now.board.now.board_shape in let p = layout_of board_shape in
    let g : EpochState = c.args.self.now in let v : View = g.seat.knows in let w : View = c.claim.new.seat.knows in
    let m : Member = c.index-as_slice-index.result in
    let is : m ≡ member_at g c.args.index = c.index-as_slice-index.is ∙ ap (λ (l : List Member). get_or l c.args.index m) c.as_slice.ensures
    ∙ get_or_default g.members c.args.index m no_member c.requires.inside in
    let some_left : c.ended.result ≢ board_shape.shape.cycles = search rules in
    let ended : first p + c.ended.result ≡ (node_of v (p.index (member_at g c.args.index).node)).next = c.ended.ensures
    ∙ ap (λ (x : Member). (node_of v (p.index x.node)).next) is in
    let woke : w ≡ woken false v (p.index (member_at g c.args.index).node) = c.in-Awake.ensures.claim.1
    ∙ ap (λ (x : Member). woken false v (p.index x.node)) is in
    let cycle : c.in-Awake.cycle ≡ (node_of v (p.index (member_at g c.args.index).node)).next = c.in-Awake.ensures.claim.0
    ∙ ap (λ (x : Member). (node_of v (p.index x.node)).next) is in
    let x : View = c.play.new.seat.knows in
    let after : HasTurned p w g.own (p.index (member_at g c.args.index).node) x c.play.new.own =
    subst (λ (y : Member). HasTurned p w g.own (p.index y.node) x c.play.new.own) is c.play.ensures.turned in
    let whole = turned_before c.args.epoch_context.now.run_model.now c.args.epoch_context.now.epoch p (table_of c.args.epoch_context.now.board.now) g c.args.states.now c.args.rows.now c.requires.stands c.args.index c.requires.inside
    (λ e. some_left (omega (arith, e, ended))) w x c.play.new.own woke after in
    turned_stands c.args.epoch_context.now.run_model.now c.args.epoch_context.now.epoch p (table_of c.args.epoch_context.now.board.now) g c.args.states.now c.args.rows.now c.requires.stands c.args.index c.requires.inside
    _ (c.play.ensures.table ∙ c.claim.ensures.table ∙ c.requires.stands.table) refl refl whole
    _ c.play.new.state (ap (λ (y : Member). set c.args.states.now y.at c.play.new.state) is)
    (subst (λ (y : ℕ × Member). IsNodeState c.args.epoch_context.now.run_model.now c.args.epoch_context.now.epoch (suc y.0) y.1.node c.play.new.state) (λ i. (cycle i, is i))
    c.play.ensures.state)
    c.play.new.rows c.play.ensures.rows

pub returns-in-Awake-clause-tried : goal.returns-in-Awake-clause-tried
returns-in-Awake-clause-tried g' c = let board_shape = c.args.epoch_context.now.board.now.board_shape in let p = layout_of board_shape in
    let g : EpochState = c.args.self.now in let v : View = g.seat.knows in let w : View = c.claim.new.seat.knows in
    let m : Member = c.index-as_slice-index.result in
    let is : m ≡ member_at g c.args.index = c.index-as_slice-index.is ∙ ap (λ (l : List Member). get_or l c.args.index m) c.as_slice.ensures
    ∙ get_or_default g.members c.args.index m no_member c.requires.inside in
    let some_left : c.ended.result ≢ board_shape.shape.cycles = search rules in
    let ended : first p + c.ended.result ≡ (node_of v (p.index (member_at g c.args.index).node)).next = c.ended.ensures
    ∙ ap (λ (x : Member). (node_of v (p.index x.node)).next) is in
    let woke : w ≡ woken false v (p.index (member_at g c.args.index).node) = c.in-Awake.ensures.claim.1
    ∙ ap (λ (x : Member). woken false v (p.index x.node)) is in
    let cycle : c.in-Awake.cycle ≡ (node_of v (p.index (member_at g c.args.index).node)).next = c.in-Awake.ensures.claim.0
    ∙ ap (λ (x : Member). (node_of v (p.index x.node)).next) is in
    let x : View = c.play.new.seat.knows in
    let after : HasTurned p w g.own (p.index (member_at g c.args.index).node) x c.play.new.own =
    subst (λ (y : Member). HasTurned p w g.own (p.index y.node) x c.play.new.own) is c.play.ensures.turned in
    let whole = turned_before c.args.epoch_context.now.run_model.now c.args.epoch_context.now.epoch p (table_of c.args.epoch_context.now.board.now) g c.args.states.now c.args.rows.now c.requires.stands c.args.index c.requires.inside
    (λ e. some_left (omega (arith, e, ended))) w x c.play.new.own woke after in
    whole

pub returns-in-Awake-clause-same : goal.returns-in-Awake-clause-same
returns-in-Awake-clause-same g' c = let kept = c.play.ensures.turned.kept in record {
  members = refl;
  driver = refl;
  restarts = refl;
  places = kept.places;
  shapes = kept.shapes;
  table = c.play.ensures.table ∙ c.claim.ensures.table;
}
