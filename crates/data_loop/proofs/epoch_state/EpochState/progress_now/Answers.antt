use Rattle.std.proofs.Common.{◌<◌, List, length, arith}
use Rattle.board_rule.specs.OnBoard.{layout}
use Rattle.board_rule.specs.declared.view.View.{View}
use Rattle.data_loop.specs.declared.member.Member.{Member}
use Rattle.data_loop.specs.Tries.{no_member}
use Rattle.data_loop.proofs.ProgressLemmas.{least_is, least_floor}
use Rattle.data_loop.proofs.epoch_state.EpochState.progress_now.Goals as goal

pub returns-then-at-len : goal.returns-then-at-len
returns-then-at-len c = let p = layout c.args.board.now in let v : View = c.args.self.now.seat.knows in
    let ms : List Member = c.args.self.now.members in let at = c.first_at-at.result in
    let less = c.if-at-len.true in let len = c.len.ensures in let low : at < length ms = omega (arith, less, len) in
    record {
      progress = record { floor = c.requires.progress.floor; past = c.first_at-at.ensures.none c.requires.progress.past };
      exact = least_is p v ms c.args.self.now.progress.least at c.requires.progress.floor low (c.first_at-at.ensures.here low)
          (c.requires.own at no_member low).1.1;
    }

pub returns : goal.returns
returns c = let p = layout c.args.board.now in let v : View = c.args.self.now.seat.knows in
    let ms : List Member = c.args.self.now.members in let exact = c.fewest-least.ensures in
    record {
      progress = record {
        floor = λ k d low. let a = least_floor p v ms k d low in omega (arith, a, exact);
        past = c.first_at.ensures.none (λ k d low. absurd (omega (arith, low)));
      };
      exact = exact;
    }
