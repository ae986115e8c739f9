use Rattle.std.proofs.Common.{◌≡◌, ◌∙◌, ℕ, ℤ, false, List, length, take, refl, sym, ap, subst, arith}
use Rattle.std.proofs.lemmas.List.{length-take-le}
use Rattle.board_rule.specs.declared.view.Phase.TheVariants.{Running}
use Rattle.board_rule.specs.declared.view.NodeView.{NodeView}
use Rattle.board_rule.specs.declared.view.View.{View}
use Rattle.board_rule.specs.Layout.{layout_of}
use Rattle.board_rule.specs.View.{node_of}
use Rattle.activation_words.specs.Calls.{started}
use Rattle.activation_words.proofs.ViewLemmas.{again}
use Rattle.cycle_model.specs.Expected.{epoch_rows}
use Rattle.data_loop.specs.declared.inputs.Input.{Input}
use Rattle.data_loop.specs.declared.member.Member.{Member}
use Rattle.data_loop.specs.declared.rows.Rows.{Rows}
use Rattle.data_loop.specs.turns.Ends.{reads_of, fills_of}
use Rattle.data_loop.specs.working.ReadingInputs.{MayReadAll, AreRead}
use Rattle.data_loop.specs.working.Writing.{MayFillAll, AreWritten}
use Rattle.data_loop.specs.working.Inputs.{links_of, AreLong, IsWide}
use Rattle.data_loop.specs.working.Giving.{AllPut}
use Rattle.data_loop.specs.Rooms.{left_row, right_row}
use Rattle.data_loop.proofs.turns.EndsLemmas.{filled_by}
use Rattle.data_loop.proofs.turns.WritingLemmas.{equipped_moves}
use Rattle.data_loop.proofs.turns.TurningLemmas.{may_read_all, may_fill_all, ready, turned, begun_has, begun_runs, begun_even, turned_whole}
use Rattle.node_progress.proofs.StateLemmas.{here}
use Rattle.data_loop.proofs.TurnLemmas.{links_are, all_put}
use Rattle.data_loop.proofs.PlayerLemmas.{member_of, plays}
use Rattle.data_loop.proofs.SameLemmas.{room_on}
use Rattle.data_loop.proofs.EpochStateLemmas.{rows_stay}
use Rattle.data_loop.proofs.playing.play.Goals as goal

pub gather-requires-clause-phase : goal.gather-requires-clause-phase
gather-requires-clause-phase g c = let at = c.args.turn_context.now in let p = layout_of at.board.now.board_shape in let v : View = c.args.seat.now.knows in
    let r : Member = c.args.member.now in let x = c.requires.player in let of = member_of at.run_model.now p v at.epoch at.cycle r x in
    let a = c.requires.awake in let n = r.node in let m = p.index n in let s = c.start.ensures.knows in
    let reads = ap links_of of.inputs ∙ links_are p.shape n in
    subst (λ (y : View × List ℕ). MayReadAll false p y.0 y.1) (λ i. (sym s.2 i, sym reads i))
    (may_read_all p c.requires.equipped.plain n _ c.args.own.now (begun_has p v m s.0 a.has) (begun_runs p v m s.0 a.has)
    (begun_even p v m s.0 a.has c.args.own.now a.even))

pub gather-requires-clause-few : goal.gather-requires-clause-few
gather-requires-clause-few g c = let at = c.args.turn_context.now in let p = layout_of at.board.now.board_shape in let v : View = c.args.seat.now.knows in
    let r : Member = c.args.member.now in let x = c.requires.player in let of = member_of at.run_model.now p v at.epoch at.cycle r x in
    of.few

pub gather-requires-clause-long : goal.gather-requires-clause-long
gather-requires-clause-long g c = let at = c.args.turn_context.now in let p = layout_of at.board.now.board_shape in let v : View = c.args.seat.now.knows in
    let r : Member = c.args.member.now in let x = c.requires.player in let of = member_of at.run_model.now p v at.epoch at.cycle r x in
    let fits = plays at.run_model.now p v at.epoch at.cycle r x c.requires.equipped.plain c.args.state.now c.requires.state c.args.rows.now c.requires.rows in
    subst (AreLong p r.first_width) (sym of.inputs) fits.long

pub gather-requires-clause-reads : goal.gather-requires-clause-reads
gather-requires-clause-reads g c = let at = c.args.turn_context.now in let p = layout_of at.board.now.board_shape in let v : View = c.args.seat.now.knows in
    let r : Member = c.args.member.now in let x = c.requires.player in let of = member_of at.run_model.now p v at.epoch at.cycle r x in
    let a = c.requires.awake in let n = r.node in let m = p.index n in let s = c.start.ensures.knows in
    let fits = plays at.run_model.now p v at.epoch at.cycle r x c.requires.equipped.plain c.args.state.now c.requires.state c.args.rows.now c.requires.rows in
    let w : View = c.start.new.seat.knows in let has = a.has in let now = fits.now in let range = has.1 in
    let slept : (node_of (started false v m s.0) m).next ≡ (node_of v m).next =
    ap (λ (y : NodeView). y.next) (again p v m (record (node_of v m) { phase = Running; start = s.0 }) v.trail has.0.there) in
    let is : (node_of w m).next ≡ at.cycle = ap (λ (y : View). (node_of y m).next) s.2 ∙ slept ∙ now in
    let board = fits.board in
    record {
      epoch = fits.works.epoch;
      here = here at.run_model.now at.epoch at.cycle n fits.works;
      board = record {
        shape = board.shape;
        expect = ap (λ (y : View). y.expect) s.2 ∙ board.expect;
        quantum = board.quantum;
        two = board.two;
        channels = board.channels;
      };
      inside = (omega (arith, range.0, now), omega (arith, range.1, now));
      inputs_are = of.inputs;
      now = λ l low e. ap (λ k. (node_of w (p.index k)).next) e ∙ is;
      first_width = sym (length-take-le r.first_width c.args.rows.now.a.items c.requires.rows.a) ∙ fits.first_width;
      second_width = sym (length-take-le r.second_width c.args.rows.now.b.items c.requires.rows.b) ∙ fits.second_width;
    }

pub gather-requires-clause-second : goal.gather-requires-clause-second
gather-requires-clause-second g c = let at = c.args.turn_context.now in let p = layout_of at.board.now.board_shape in let v : View = c.args.seat.now.knows in
    let r : Member = c.args.member.now in let x = c.requires.player in let of = member_of at.run_model.now p v at.epoch at.cycle r x in
    let fits = plays at.run_model.now p v at.epoch at.cycle r x c.requires.equipped.plain c.args.state.now c.requires.state c.args.rows.now c.requires.rows in
    subst (λ (y : ℕ × List Input). IsWide r.first_width y.0 y.1)
    (λ i. (length-take-le r.second_width c.args.rows.now.b.items c.requires.rows.b i, sym of.inputs i)) fits.second

pub work_in_rows-requires-clause-may : goal.work_in_rows-requires-clause-may
work_in_rows-requires-clause-may g c = let at = c.args.turn_context.now in let p = layout_of at.board.now.board_shape in let v : View = c.args.seat.now.knows in
    let r : Member = c.args.member.now in let x = c.requires.player in let of = member_of at.run_model.now p v at.epoch at.cycle r x in
    let rows : Rows = c.gather.new.rows in let room = rows_stay c.args.rows.now rows r c.gather.ensures.rows c.requires.rows in
    let fits = plays at.run_model.now p v at.epoch at.cycle r x c.requires.equipped.plain c.args.state.now c.requires.state rows room in
    record {
      works = fits.works;
      state = c.requires.state;
      a_is = c.gather.ensures.a;
      b_is = c.gather.ensures.b;
      left_fits = fits.left_fits;
      right_fits = fits.right_fits;
    }

pub work_in_rows-requires-clause-rows : goal.work_in_rows-requires-clause-rows
work_in_rows-requires-clause-rows g c = rows_stay c.args.rows.now c.gather.new.rows c.args.member.now c.gather.ensures.rows c.requires.rows

pub give_all-requires-clause-equipped : goal.give_all-requires-clause-equipped
give_all-requires-clause-equipped g c = let at = c.args.turn_context.now in let p = layout_of at.board.now.board_shape in let v : View = c.args.seat.now.knows in
    let r : Member = c.args.member.now in let x = c.requires.player in let of = member_of at.run_model.now p v at.epoch at.cycle r x in
    let a = c.requires.awake in let n = r.node in let m = p.index n in let s = c.start.ensures.knows in
    let w : View = c.gather.new.seat.knows in
    equipped_moves p v c.args.own.now w c.args.own.now
    (ap (λ (y : View). length y.blocks) c.gather.ensures.knows.same ∙ ap (λ (y : View). length y.blocks) s.2)
    (record { places = refl; shapes = refl; free = refl }) c.requires.equipped

pub give_all-requires-clause-phase : goal.give_all-requires-clause-phase
give_all-requires-clause-phase g c = let at = c.args.turn_context.now in let p = layout_of at.board.now.board_shape in let v : View = c.args.seat.now.knows in
    let r : Member = c.args.member.now in let x = c.requires.player in let of = member_of at.run_model.now p v at.epoch at.cycle r x in
    let a = c.requires.awake in let n = r.node in let m = p.index n in let s = c.start.ensures.knows in
    let w : View = c.gather.new.seat.knows in
    let reads = ap links_of of.inputs ∙ links_are p.shape n in
    let pools = c.as_slice.ensures ∙ of.pools in
    let plain = c.requires.equipped.plain in
    let read : AreRead false p (started false v m s.0) (reads_of p.shape n) w =
    subst (λ (y : View × List ℕ). AreRead false p y.0 y.1 w) (λ i. (s.2 i, reads i)) c.gather.ensures.knows in
    subst (λ (y : List ℕ). MayFillAll p w c.args.own.now y) (sym pools)
    (may_fill_all p plain n _ c.args.own.now (begun_has p v m s.0 a.has) (begun_runs p v m s.0 a.has)
    (begun_even p v m s.0 a.has c.args.own.now a.even) w read
    c.requires.equipped.blocks)

pub give_all-requires-clause-gives : goal.give_all-requires-clause-gives
give_all-requires-clause-gives g c = let at = c.args.turn_context.now in let p = layout_of at.board.now.board_shape in let v : View = c.args.seat.now.knows in
    let r : Member = c.args.member.now in let x = c.requires.player in let of = member_of at.run_model.now p v at.epoch at.cycle r x in
    let a = c.requires.awake in let n = r.node in let m = p.index n in let s = c.start.ensures.knows in
    let w : View = c.gather.new.seat.knows in
    let reads = ap links_of of.inputs ∙ links_are p.shape n in
    let pools = c.as_slice.ensures ∙ of.pools in
    let plain = c.requires.equipped.plain in
    let read : AreRead false p (started false v m s.0) (reads_of p.shape n) w =
    subst (λ (y : View × List ℕ). AreRead false p y.0 y.1 w) (λ i. (s.2 i, reads i)) c.gather.ensures.knows in
    let rows : Rows = c.gather.new.rows in let room = rows_stay c.args.rows.now rows r c.gather.ensures.rows c.requires.rows in
    let fits = plays at.run_model.now p v at.epoch at.cycle r x c.requires.equipped.plain c.args.state.now c.requires.state rows room in
    let worked : Rows = c.work_in_rows.new.rows in let run_model = at.run_model.now in
    let has = a.has in let now = fits.now in let range = has.1 in
    let slept : (node_of (started false v m s.0) m).next ≡ (node_of v m).next =
    ap (λ (y : NodeView). y.next) (again p v m (record (node_of v m) { phase = Running; start = s.0 }) v.trail has.0.there) in
    let cycle : (node_of w m).next ≡ at.cycle = ap (λ (y : View). (node_of y m).next) read.same ∙ slept ∙ now in
    let expect : w.expect ≡ epoch_rows run_model.plan.value run_model.waves.value fits.works.epoch =
    ap (λ (y : View). y.expect) read.same ∙ fits.board.expect in
    subst (λ (y : List ℕ × List ℤ × List ℤ). AllPut p w r.first_output (take r.left_width y.1) (take r.right_width y.2) y.0)
    (λ i. (sym pools i, sym c.as_slice-2.ensures.value i, sym c.as_slice-3.ensures.value i))
    (all_put run_model p fits.works.epoch fits.board.shape w at.cycle n r.first_output expect
    (omega (arith, range.0, now)) (omega (arith, range.1, now)) of.first_output
    (left_row rows r) (right_row rows r) (left_row worked r) (right_row worked r)
    c.work_in_rows.ensures.left c.work_in_rows.ensures.right (fills_of p.shape n)
    (λ q i. let f = filled_by p plain n has.2 q i in (f.0, ap (λ k. (node_of w k).next) f.1 ∙ cycle, fits.rows q i)))

pub finish-requires-clause-ready : goal.finish-requires-clause-ready
finish-requires-clause-ready g c = let at = c.args.turn_context.now in let p = layout_of at.board.now.board_shape in let v : View = c.args.seat.now.knows in
    let r : Member = c.args.member.now in let x = c.requires.player in let of = member_of at.run_model.now p v at.epoch at.cycle r x in
    let a = c.requires.awake in let n = r.node in let m = p.index n in let s = c.start.ensures.knows in
    let w : View = c.gather.new.seat.knows in
    let reads = ap links_of of.inputs ∙ links_are p.shape n in
    let pools = c.as_slice.ensures ∙ of.pools in
    let plain = c.requires.equipped.plain in
    let read : AreRead false p (started false v m s.0) (reads_of p.shape n) w =
    subst (λ (y : View × List ℕ). AreRead false p y.0 y.1 w) (λ i. (s.2 i, reads i)) c.gather.ensures.knows in
    let u : View = c.give_all.new.seat.knows in
    ready p plain n _ c.args.own.now (begun_has p v m s.0 a.has) (begun_runs p v m s.0 a.has)
    (begun_even p v m s.0 a.has c.args.own.now a.even) w read
    u c.give_all.new.own
    (subst (λ (y : List ℕ). AreWritten p w c.args.own.now y u c.give_all.new.own) pools c.give_all.ensures.knows)

pub returns-clause-turned : goal.returns-clause-turned
returns-clause-turned g c = let at = c.args.turn_context.now in let p = layout_of at.board.now.board_shape in let v : View = c.args.seat.now.knows in
    let r : Member = c.args.member.now in let x = c.requires.player in let of = member_of at.run_model.now p v at.epoch at.cycle r x in
    let a = c.requires.awake in let n = r.node in let m = p.index n in let s = c.start.ensures.knows in
    let w : View = c.gather.new.seat.knows in
    let reads = ap links_of of.inputs ∙ links_are p.shape n in
    let pools = c.as_slice.ensures ∙ of.pools in
    let plain = c.requires.equipped.plain in
    let read : AreRead false p (started false v m s.0) (reads_of p.shape n) w =
    subst (λ (y : View × List ℕ). AreRead false p y.0 y.1 w) (λ i. (s.2 i, reads i)) c.gather.ensures.knows in
    let u : View = c.give_all.new.seat.knows in
    turned_whole p v m (record (node_of v m) { phase = Running; start = s.0 })
    v.trail a.has.0.there refl c.args.own.now c.finish.new.seat.knows c.give_all.new.own
    (turned p plain n _ c.args.own.now (begun_has p v m s.0 a.has) (begun_runs p v m s.0 a.has)
    (begun_even p v m s.0 a.has c.args.own.now a.even) w read
    u c.give_all.new.own
    (subst (λ (y : List ℕ). AreWritten p w c.args.own.now y u c.give_all.new.own) pools c.give_all.ensures.knows)
    c.finish.new.seat.knows c.finish.ensures.knows)

pub returns-clause-rows : goal.returns-clause-rows
returns-clause-rows g c = room_on c.gather.ensures.rows c.work_in_rows.ensures.rows
