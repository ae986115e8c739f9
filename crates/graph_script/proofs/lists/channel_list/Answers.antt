use Rattle.std.proofs.Common.{◌≡◌, ◌-◌, ◌≤◌, [], ◌∷◌, ◌++◌, length, sym, ap, ◌∙◌, subst, arith, length-append}
use Rattle.std.specs.Prelude.{Some, None}
use Rattle.std.specs.List.{slice_split}
use Rattle.graph_script.specs.Arguments.{number_of, is_comma, channel_list}
use Rattle.graph_script.proofs.ListLemmas.{listed, listed_start, listed_bad, listed_full, listed_more, listed_end}
use Rattle.graph_script.proofs.lists.channel_list.Goals as goal

pub loop-n-init : goal.loop-n-init
loop-n-init c = record {
  parsed = subst (λ xs. listed c.args.channels xs (slice_split is_comma c.args.word.now) ≡ channel_list c.args.channels c.args.word.now)
      (sym c.new-list.ensures) (listed_start c.args.channels c.args.word.now);
  few = omega (arith, ap length c.new-list.ensures);
}

pub returns-in_default : goal.returns-in_default
returns-in_default c =
    let bad : number_of 0 (c.args.channels - 1) c.next_piece.result.0.now ≡ None = sym c.number_within.ensures.is ∙ c.in_default.is in
    sym (listed_bad c.args.channels c.loop-n.list c.next_piece.result.0.now _ _ c.next_piece.ensures.pieces bad)
    ∙ c.loop-n.invariant.parsed

pub returns-then-len : goal.returns-then-len
returns-then-len c =
    sym (listed_full c.args.channels c.loop-n.list c.next_piece.result.0.now _ _ c.next_piece.ensures.pieces (omega arith))
    ∙ c.loop-n.invariant.parsed

pub returns-in-None : goal.returns-in-None
returns-in-None c =
    let last = rw c.in-None.is at c.next_piece.ensures.pieces in
    let good : number_of 0 (c.args.channels - 1) c.next_piece.result.0.now ≡ Some c.in-Some.n = sym c.number_within.ensures.is ∙ c.in-Some.is in
    let pushed : c.push.new.self ≡ c.loop-n.list ++ c.in-Some.n ∷ [] = c.in-Ok.ensures.ok in
    let few : length c.push.new.self ≤ 8 = omega (arith, ap length pushed, length-append c.loop-n.list (c.in-Some.n ∷ [])) in
    sym (listed_end c.args.channels c.push.new.self few)
    ∙ ap (λ xs. listed c.args.channels xs []) pushed
    ∙ sym (listed_more c.args.channels c.in-Some.n c.loop-n.list c.next_piece.result.0.now [] good)
    ∙ sym (ap (λ ps. listed c.args.channels c.loop-n.list ps) last)
    ∙ c.loop-n.invariant.parsed

pub loop-n-smaller : goal.loop-n-smaller
loop-n-smaller c = let shorter = rw c.in-Some-after.is at c.next_piece.ensures.shorter in omega (arith, shorter)

pub loop-n-preserved : goal.loop-n-preserved
loop-n-preserved c =
    let more = rw c.in-Some-after.is at c.next_piece.ensures.pieces in
    let good : number_of 0 (c.args.channels - 1) c.next_piece.result.0.now ≡ Some c.in-Some.n = sym c.number_within.ensures.is ∙ c.in-Some.is in
    let pushed : c.push.new.self ≡ c.loop-n.list ++ c.in-Some.n ∷ [] = c.in-Ok.ensures.ok in
    record {
      parsed = ap (λ xs. listed c.args.channels xs (slice_split is_comma c.in-Some-after.more.now)) pushed
          ∙ sym (listed_more c.args.channels c.in-Some.n c.loop-n.list c.next_piece.result.0.now
          (slice_split is_comma c.in-Some-after.more.now) good)
          ∙ sym (ap (λ ps. listed c.args.channels c.loop-n.list ps) more)
          ∙ c.loop-n.invariant.parsed;
      few = omega (arith, ap length pushed, length-append c.loop-n.list (c.in-Some.n ∷ []));
    }
