use Rattle.std.proofs.Common.{◌≡◌, ◌+◌, ◌<◌, List, get_or, length, ap, ◌∙◌, arith}
use Rattle.board_rule.specs.OnBoard.{layout}
use Rattle.board_rule.specs.Layout.{first}
use Rattle.board_rule.specs.declared.view.View.{View}
use Rattle.data_loop.specs.declared.member.Member.{Member}
use Rattle.data_loop.specs.Tries.{no_member}
use Rattle.data_loop.specs.LoopTurn.{next_in}
use Rattle.std.proofs.lemmas.List.{get_or_default}
use Rattle.data_loop.proofs.ProgressLemmas.{least_more}
use Rattle.data_loop.proofs.epoch_state.EpochState.fewest.Goals as goal

pub loop-index-preserved : goal.loop-index-preserved
loop-index-preserved c = let p = layout c.args.board.now in let v : View = c.args.self.now.seat.knows in
    let ms : List Member = c.args.self.now.members in let i = c.loop-index.index in let so = c.loop-index.invariant in
    let end = so.end in let test = c.loop-index-test.true in let low : i < length ms = omega (arith, end, test) in
    let r : Member = c.index-as_slice-index.result in
    let named : get_or c.as_slice.result.now i r ≡ get_or ms i no_member = ap (λ (l : List Member). get_or l i r) c.as_slice.ensures
    ∙ get_or_default ms i r no_member low in
    let at : first p + c.ended.result ≡ next_in p v (get_or ms i no_member).node = c.ended.ensures ∙ ap (λ (x : Member). next_in p v x.node) named in
    let so_far = so.least in let step = c.min-least.ensures in let more = least_more p v ms i low in
    record {
      end = end;
      least = omega (arith, so_far, step, more, at);
    }
