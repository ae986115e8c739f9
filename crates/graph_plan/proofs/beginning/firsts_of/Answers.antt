use Rattle.std.proofs.Common.{◌∙◌, ℕ, List, [], ◌∷◌, ◌++◌, sym, ap, subst, append-nil}
use Rattle.std.specs.List.{AllZip}
use Rattle.std.proofs.lemmas.List.{append_assoc, nil_from_length}
use Rattle.graph_plan.specs.declared.member.Member.{Member}
use Rattle.graph_plan.specs.working.Members.{IsFirst}
use Rattle.graph_plan.proofs.lists.AllZipLemmas.{pairs_push}
use Rattle.graph_plan.proofs.beginning.firsts_of.Goals as goal

pub loop-nodes-init : goal.loop-nodes-init
loop-nodes-init c = let items = c.into_iter-nodes-iterator.ensures.into_iter_gives.0 ∙ c.into_vec-nodes-items.ensures in record {
  rest = sym items;
  so_far = subst (AllZip (IsFirst c.args.lines.now c.args.ports.now) []) (sym c.new-members.ensures) tt;
}

pub loop-nodes-preserved : goal.loop-nodes-preserved
loop-nodes-preserved c = let i = c.loop-nodes.invariant in let steps = c.in-Some.ensures.steps.0 in let ys = c.loop-nodes.yielded in
    let x : List ℕ = c.in-Some.nodes in let left = c.next.new.self.rest.items in let m : Member = c.in_ok-first_of.field-0 in record {
      rest = i.rest ∙ (ap (λ (l : List (List ℕ)). ys ++ l) steps ∙ sym (append_assoc ys (x ∷ []) left));
      so_far = subst (AllZip (IsFirst c.args.lines.now c.args.ports.now) (ys ++ x ∷ [])) (sym c.in_ok-push.ensures.ok)
          (pairs_push (IsFirst c.args.lines.now c.args.ports.now) ys c.loop-nodes.members x m i.so_far c.in_ok-first_of.ensures);
    }

pub returns : goal.returns
returns c = let i = c.loop-nodes.invariant in let rest = c.loop-nodes.nodes-iterator.rest in
    let none = nil_from_length rest.items (sym rest.ok.0 ∙ c.in-None.ensures.steps.0) in
    subst (λ (l : List (List ℕ)). AllZip (IsFirst c.args.lines.now c.args.ports.now) l c.loop-nodes.members)
    (sym (i.rest ∙ (ap (λ (l : List (List ℕ)). c.loop-nodes.yielded ++ l) none ∙ append-nil c.loop-nodes.yielded))) i.so_far
