use Rattle.std.proofs.Common.{◌≤◌, ◌∙◌, List, [], ◌∷◌, ◌++◌, map, sym, ap, subst, zero-add}
use Rattle.std.specs.Prelude.{All}
use Rattle.std.proofs.lemmas.List.{map-append}
use Rattle.std.proofs.lemmas.List.Elements.{All-push}
use Rattle.std.proofs.lemmas.List.FromFn.{map-range_with_len_more}
use Rattle.pw_lists.specs.Listed.{Listed}
use Rattle.board_rule.specs.Known.{Known}
use Rattle.graph_run.proofs.boards.seat_rows.Goals as goal

pub loop-preserved : goal.loop-preserved
loop-preserved c = let i = c.loop.invariant in let room : Listed Known = c.in_ok-into_room.field-0 in record {
  lists = ap (λ (rows : List (Listed Known)). map (λ r. r.list) rows) c.in_ok-push.ensures.ok
      ∙ (map-append (λ (r : Listed Known). r.list) c.loop.rows (room ∷ [])
      ∙ (ap (λ (x : List (List Known) × List Known). x.0 ++ x.1 ∷ []) (λ j. (i.lists j, (c.in_ok-into_room.ensures.list ∙ c.new.ensures) j))
      ∙ sym (map-range_with_len_more {X = List Known} (λ _. []) 0 c.loop.counter c.loop.counter (zero-add c.loop.counter))));
  spare = subst (All (λ (r : Listed Known). c.args.count ≤ r.spare)) (sym c.in_ok-push.ensures.ok)
      (All-push (λ (r : Listed Known). c.args.count ≤ r.spare) c.loop.rows room i.spare c.in_ok-into_room.ensures.spare);
}
