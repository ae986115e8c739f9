use Rattle.std.proofs.Common.{◌∙◌, List, [], ◌∷◌, ◌++◌, length, sym, ap, subst, append-nil}
use Rattle.std.specs.Prelude.{All}
use Rattle.std.specs.List.{AllZip}
use Rattle.std.proofs.lemmas.List.{append_assoc, nil_from_length}
use Rattle.std.proofs.lemmas.List.Elements.{All-head, All-tail}
use Rattle.pw_graph.specs.declared.parts.Part.{Part}
use Rattle.graph_plan.specs.declared.member.Member.{Member}
use Rattle.graph_plan.specs.working.Members.{IsLastMember}
use Rattle.graph_plan.specs.Parted.{IsPartOfMember}
use Rattle.graph_plan.proofs.lists.AllZipLemmas.{pairs_push}
use Rattle.graph_plan.proofs.parting.into_all.Goals as goal

pub loop-member-init : goal.loop-member-init
loop-member-init c = let items = c.into_iter-member-iterator.ensures.into_iter_gives.0 ∙ c.into_vec-member-items.ensures in record {
  rest = sym items;
  last = subst (All (IsLastMember (length c.args.names.now))) (sym items) c.requires;
  so_far = subst (AllZip (IsPartOfMember c.args.names.now) []) (sym c.new-parts.ensures) tt;
}

pub into_part-requires-clause-member : goal.into_part-requires-clause-member
into_part-requires-clause-member c = (All-head (IsLastMember (length c.args.names.now)) c.in-Some.member c.next.new.self.rest.items
    (subst (All (IsLastMember (length c.args.names.now))) c.in-Some.ensures.steps.0 c.loop-member.invariant.last)).stands

pub into_part-requires-clause-named : goal.into_part-requires-clause-named
into_part-requires-clause-named c = (All-head (IsLastMember (length c.args.names.now)) c.in-Some.member c.next.new.self.rest.items
    (subst (All (IsLastMember (length c.args.names.now))) c.in-Some.ensures.steps.0 c.loop-member.invariant.last)).named

pub loop-member-preserved : goal.loop-member-preserved
loop-member-preserved c = let i = c.loop-member.invariant in let steps = c.in-Some.ensures.steps.0 in let ys = c.loop-member.yielded in
    let x : Member = c.in-Some.member in let left = c.next.new.self.rest.items in let p : Part = c.in_ok-into_part.field-0 in record {
      rest = i.rest ∙ (ap (λ (l : List Member). ys ++ l) steps ∙ sym (append_assoc ys (x ∷ []) left));
      last = All-tail (IsLastMember (length c.args.names.now)) x left (subst (All (IsLastMember (length c.args.names.now))) steps i.last);
      so_far = subst (AllZip (IsPartOfMember c.args.names.now) (ys ++ x ∷ [])) (sym c.in_ok-push.ensures.ok)
          (pairs_push (IsPartOfMember c.args.names.now) ys c.loop-member.parts x p i.so_far c.in_ok-into_part.ensures);
    }

pub returns : goal.returns
returns c = let i = c.loop-member.invariant in let rest = c.loop-member.member-iterator.rest in
    let none = nil_from_length rest.items (sym rest.ok.0 ∙ c.in-None.ensures.steps.0) in
    subst (λ (l : List Member). AllZip (IsPartOfMember c.args.names.now) l c.loop-member.parts)
    (sym (i.rest ∙ (ap (λ (l : List Member). c.loop-member.yielded ++ l) none ∙ append-nil c.loop-member.yielded))) i.so_far
