use Rattle.std.proofs.Common.{◌∙◌, ℕ, List, [], ◌∷◌, ◌++◌, map, sym, ap, subst, arith, length-append, append-nil}
use Rattle.std.proofs.lemmas.List.{append_assoc, length-map, map-append, nil_from_length}
use Rattle.pw_lists.specs.Listed.{Listed}
use Rattle.board_rule.specs.Known.{Known}
use Rattle.data_loop.specs.declared.draft.LoopDraft.{LoopDraft}
use Rattle.data_loop.specs.Drafts.{HasFirst}
use Rattle.graph_run.specs.Seating.{nodes_of_loop, holder_of}
use Rattle.graph_run.specs.working.Drafts.{AreDrafts}
use Rattle.graph_run.proofs.DraftLemmas.{one_draft}
use Rattle.graph_run.proofs.loops.drafts_of.Goals as goal

pub loop-row-preserved : goal.loop-row-preserved
loop-row-preserved c = let v = c.loop-row.invariant in let steps = c.in-Some.ensures.steps.0 in
    let n = v.number in let ys = c.loop-row.yielded in let row : Listed Known = c.in-Some.row in
    let plan = c.args.plan.now in let f = holder_of c.args.seating.now in
    let draft : LoopDraft = c.in_ok-new.field-0 in
    let grown = length-append ys (row ∷ []) in record {
      number = omega (arith, n, grown);
      rest = v.rest ∙ (ap (λ (l : List (Listed Known)). ys ++ l) steps ∙ sym (append_assoc ys (row ∷ []) c.next.new.self.rest.items));
      drafts = subst (λ (x : List (List Known) × List LoopDraft). AreDrafts plan f x.0 0 x.1)
          (λ j. (sym (map-append (λ (r : Listed Known). r.list) ys (row ∷ [])) j, sym c.in_ok-push.ensures.ok j))
          (one_draft plan f 0 (map (λ (r : Listed Known). r.list) ys) c.loop-row.drafts row.list draft v.drafts
          (subst (λ (x : List ℕ × List Known). HasFirst plan x.0 x.1 0 draft)
          (λ j. (
            (c.in_ok-nodes.ensures ∙ ap (nodes_of_loop f plan) (n ∙ sym (length-map ys (λ (r : Listed Known). r.list)))) j,
            c.into_items.ensures j,
          )) (c.in_ok-new.ensures plan)));
    }

pub returns : goal.returns
returns c = let v = c.loop-row.invariant in let rest = c.loop-row.row-iterator.rest in
    subst (λ (x : List (Listed Known) × List LoopDraft). AreDrafts c.args.plan.now (holder_of c.args.seating.now) (map (λ r. r.list) x.0) 0 x.1)
    (λ i. (
      (sym (v.rest ∙ (ap (λ (l : List (Listed Known)). c.loop-row.yielded ++ l)
          (nil_from_length rest.items (sym rest.ok.0 ∙ c.in-None.ensures.steps.0)) ∙ append-nil c.loop-row.yielded))) i,
      sym c.into_vec.ensures i,
    )) v.drafts
