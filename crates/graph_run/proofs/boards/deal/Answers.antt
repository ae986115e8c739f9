use Rattle.std.proofs.Common.{◌≡◌, ◌<◌, ◌+◌, ◌-◌, ◌∙◌, List, [], ◌∷◌, ◌++◌, ℕ, length, map, get_or, set, take, drop, sym, ap, subst, arith, length-append}
use Rattle.std.specs.Prelude.{zip}
use Rattle.std.proofs.lemmas.List.{append_assoc}
use Rattle.pw_lists.specs.Listed.{Listed}
use Rattle.board_rule.specs.Known.{Known}
use Rattle.graph_run.specs.Boards.{dealt}
use Rattle.graph_run.proofs.DealLemmas.{partly, next_is, length_partly, one_more}
use Rattle.graph_run.proofs.boards.deal.Goals as goal

-- the loop's invariant, by the number of seats that were handed out
module _ (i : ℕ) (rows : List (Listed Known)) (ys : List Known) (e : i ≡ length ys) where
  pub as_partly : map dealt (zip (take i rows) ys) ++ drop i rows ≡ partly dealt rows ys
  as_partly = ap (λ n. map dealt (zip (take n rows) ys) ++ drop n rows) e

pub index_mut-requires : goal.index_mut-requires
index_mut-requires c = let v = c.loop-seat.invariant in let steps = c.in-Some.ensures.steps.0 in
    let n = v.number in let rest = ap (λ (l : List Known). length l) v.rest in
    let more = ap (λ (l : List Known). length l) steps in
    let long = length-append c.loop-seat.yielded c.loop-seat.seat-iterator.rest.items in
    let count = c.requires.count in
    let same = ap (λ (l : List (Listed Known)). length l) (v.rows ∙ as_partly c.loop-seat.i c.args.rows.now.items c.loop-seat.yielded n) in
    let whole = length_partly dealt c.args.rows.now.items c.loop-seat.yielded (omega (arith, rest, long, count)) in
    omega (arith, n, rest, more, long, count, same, whole, c.loop-seat.rows.ok.0)

pub push_spare-requires : goal.push_spare-requires
push_spare-requires c = let v = c.loop-seat.invariant in let steps = c.in-Some.ensures.steps.0 in
    let n = v.number in let rest = ap (λ (l : List Known). length l) v.rest in
    let more = ap (λ (l : List Known). length l) steps in
    let long = length-append c.loop-seat.yielded c.loop-seat.seat-iterator.rest.items in
    let count = c.requires.count in let d = c.index_mut.result.now in
    let lt : length c.loop-seat.yielded < length c.args.rows.now.items = omega (arith, rest, more, long, count) in
    let is = next_is dealt c.args.rows.now.items c.loop-seat.yielded d lt in
    subst (λ (r : Listed Known). 0 < r.spare) (sym (c.index_mut.ensures.value
    ∙ (ap (λ (l : List (Listed Known)). get_or l c.loop-seat.i d) (v.rows ∙ as_partly c.loop-seat.i c.args.rows.now.items c.loop-seat.yielded n)
    ∙ (ap (λ k. get_or (partly dealt c.args.rows.now.items c.loop-seat.yielded) k d) n ∙ is))))
    (c.requires.spare (length c.loop-seat.yielded) d lt)

pub loop-seat-preserved : goal.loop-seat-preserved
loop-seat-preserved c = let v = c.loop-seat.invariant in let steps = c.in-Some.ensures.steps.0 in
    let n = v.number in let rest = ap (λ (l : List Known). length l) v.rest in let ys = c.loop-seat.yielded in let seat = c.in-Some.seat in
    let more = ap (λ (l : List Known). length l) steps in
    let long = length-append ys c.loop-seat.seat-iterator.rest.items in
    let count = c.requires.count in let d = c.index_mut.result.now in let rows = c.args.rows.now.items in
    let lt : length ys < length rows = omega (arith, rest, more, long, count) in
    let is = c.index_mut.ensures.value
    ∙ (ap (λ (l : List (Listed Known)). get_or l c.loop-seat.i d) (v.rows ∙ as_partly c.loop-seat.i rows ys n)
    ∙ (ap (λ k. get_or (partly dealt rows ys) k d) n ∙ next_is dealt rows ys d lt)) in
    let pushed : c.push_spare.new.self ≡ dealt (get_or rows (length ys) d, seat) = ap (λ (x : List Known × ℕ). record { list = x.0; spare = x.1 })
    (λ i. (
      (c.push_spare.ensures.list ∙ ap (λ (r : Listed Known). r.list ++ seat ∷ []) is) i,
      (let less : c.push_spare.new.self.spare ≡ c.index_mut.result.now.spare - 1 = omega (arith, c.push_spare.ensures.spare) in
          less ∙ ap (λ (r : Listed Known). r.spare - 1) is) i,
    )) in
    let grown = length-append ys (seat ∷ []) in
    let number : c.loop-seat.i + 1 ≡ length (ys ++ seat ∷ []) = omega (arith, n, grown) in record {
      number = number;
      rest = v.rest ∙ (ap (λ (l : List Known). ys ++ l) steps ∙ sym (append_assoc ys (seat ∷ []) c.next.new.self.rest.items));
      rows = ap (λ (x : List (Listed Known) × (ℕ × Listed Known)). set x.0 x.1.0 x.1.1)
          (λ i. ((v.rows ∙ as_partly c.loop-seat.i rows ys n) i, (n i, pushed i)))
          ∙ (one_more dealt rows ys seat d lt ∙ sym (as_partly (c.loop-seat.i + 1) rows (ys ++ seat ∷ []) number));
    }
