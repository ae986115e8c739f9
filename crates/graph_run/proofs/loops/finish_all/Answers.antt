use Rattle.std.proofs.Common.{◌∙◌, List, [], ◌∷◌, ◌++◌, sym, ap, subst, append-nil}
use Rattle.std.specs.Prelude.{All}
use Rattle.std.specs.List.{AllZip}
use Rattle.std.proofs.lemmas.List.{append_assoc, nil_from_length}
use Rattle.std.proofs.lemmas.List.Elements.{All-push, All-tail}
use Rattle.data_loop.specs.declared.draft.LoopDraft.{LoopDraft}
use Rattle.data_loop.specs.declared.loop_state.LoopState.{LoopState}
use Rattle.data_loop.specs.Drafts.{HasAll}
use Rattle.data_loop.specs.Loops.{IsBetweenEpochs}
use Rattle.graph_run.specs.working.Drafts.{IsLoopFrom}
use Rattle.graph_run.proofs.ClosingLemmas.{all_zip_append}
use Rattle.graph_run.proofs.loops.finish_all.Goals as goal

pub loop-draft-preserved : goal.loop-draft-preserved
loop-draft-preserved c = let v = c.loop-draft.invariant in let steps = c.in-Some.ensures.steps.0 in
    let R = IsLoopFrom c.args.plan.now c.args.waves.now in let pushed = c.in_ok-push.ensures.ok in
    let ys = c.loop-draft.yielded in let x : LoopDraft = c.in-Some.draft in let left = c.next.new.self.rest.items in
    let s : LoopState = c.in_ok-finish.field-0 in record {
      rest = v.rest ∙ (ap (λ (l : List LoopDraft). ys ++ l) steps ∙ sym (append_assoc ys (x ∷ []) left));
      all = All-tail (HasAll c.args.plan.now) x left (subst (All (HasAll c.args.plan.now)) steps v.all);
      between = subst (All IsBetweenEpochs) (sym pushed) (All-push IsBetweenEpochs c.loop-draft.states s v.between c.in_ok-finish.ensures.between);
      loops_are = subst (AllZip R (ys ++ x ∷ [])) (sym pushed)
          (all_zip_append R ys (x ∷ []) c.loop-draft.states (s ∷ []) v.loops_are (c.in_ok-finish.ensures.of, tt));
    }

pub returns-clause-of : goal.returns-clause-of
returns-clause-of c = let v = c.loop-draft.invariant in let rest = c.loop-draft.draft-iterator.rest in
    let none = nil_from_length rest.items (sym rest.ok.0 ∙ c.in-None.ensures.steps.0) in
    subst (λ (l : List LoopDraft). AllZip (IsLoopFrom c.args.plan.now c.args.waves.now) l c.loop-draft.states)
    (sym (v.rest ∙ (ap (λ (l : List LoopDraft). c.loop-draft.yielded ++ l) none ∙ append-nil c.loop-draft.yielded))) v.loops_are
