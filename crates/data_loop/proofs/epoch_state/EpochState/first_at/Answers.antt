use Rattle.std.proofs.Common.{◌≡◌, ◌+◌, ◌<◌, List, get_or, length, sym, ap, ◌∙◌, arith}
use Rattle.board_rule.specs.OnBoard.{layout}
use Rattle.board_rule.specs.Layout.{first}
use Rattle.board_rule.specs.declared.view.View.{View}
use Rattle.data_loop.specs.declared.member.Member.{Member}
use Rattle.data_loop.specs.Tries.{no_member}
use Rattle.data_loop.specs.LoopTurn.{next_in}
use Rattle.std.proofs.lemmas.List.{get_or_default}
use Rattle.data_loop.proofs.ProgressLemmas.{none_more, none_all}
use Rattle.data_loop.proofs.epoch_state.EpochState.first_at.Goals as goal

pub returns-then-ended-least : goal.returns-then-ended-least
returns-then-ended-least c = let p = layout c.args.board.now in let v : View = c.args.self.now.seat.knows in
    let ms : List Member = c.args.self.now.members in let i = c.loop-index.index in let so = c.loop-index.invariant in
    let end = so.end in let test = c.loop-index-test.true in let low : i < length ms = omega (arith, end, test) in
    let r : Member = c.index-as_slice-index.result in
    let named : get_or c.as_slice.result.now i r ≡ get_or ms i no_member = ap (λ (l : List Member). get_or l i r) c.as_slice.ensures
    ∙ get_or_default ms i r no_member low in
    record {
      none = so.none;
      here = λ _. ap (λ (x : Member). next_in p v x.node) (sym named) ∙ sym c.ended.ensures ∙ ap (λ n. first p + n) c.if-ended-least.true;
    }

pub loop-index-preserved : goal.loop-index-preserved
loop-index-preserved c = let p = layout c.args.board.now in let v : View = c.args.self.now.seat.knows in
    let ms : List Member = c.args.self.now.members in let i = c.loop-index.index in let so = c.loop-index.invariant in
    let end = so.end in let test = c.loop-index-test.true in let low : i < length ms = omega (arith, end, test) in
    let r : Member = c.index-as_slice-index.result in
    let named : get_or c.as_slice.result.now i r ≡ get_or ms i no_member = ap (λ (l : List Member). get_or l i r) c.as_slice.ensures
    ∙ get_or_default ms i r no_member low in
    let at : first p + c.ended.result ≡ next_in p v (get_or ms i no_member).node = c.ended.ensures ∙ ap (λ (x : Member). next_in p v x.node) named in
    record {
      end = end;
      none = λ h. none_more p v ms c.args.least i low (λ is. c.if-ended-least.false (omega (arith, is, at))) (so.none h);
    }

pub returns : goal.returns
returns c = let p = layout c.args.board.now in let v : View = c.args.self.now.seat.knows in
    let ms : List Member = c.args.self.now.members in let i = c.loop-index.index in let so = c.loop-index.invariant in
    let end = so.end in let test = c.loop-index-test.false in let all = c.len.ensures in
    record {
      none = λ h. none_all p v ms c.args.least i c.len.result (omega (arith, end, test)) all (so.none h);
      here = λ low. absurd (omega (arith, low, all));
    }
