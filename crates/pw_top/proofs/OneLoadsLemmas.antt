-- ONE STOCK: two answers of what all lines load, neither out of memory, are the same: what each leaves is what the next
-- asks for.
use Rattle.std.proofs.Common.{◌≡◌, ◌≤◌, List, [], ◌∷◌, length, refl, sym, subst}
use Rattle.std.specs.Prelude.{Ok, option_map}
use Rattle.pw_graph.specs.declared.kind.Kind.{Kind}
use Rattle.pw_outside.specs.Files.{Names}
use Rattle.graph_script.specs.declared.script.Line.{Line}
use Rattle.graph_script.specs.Kinds.{made_by}
use Rattle.pw_top.specs.declared.inputs.PlanInputs.{PlanInputs}
use Rattle.pw_top.specs.Answer.{Expected}
use Rattle.pw_top.specs.Loads.{LoadsLine, LoadsAll}
use Rattle.script_inputs.proofs.LineLemmas.{IsUnderWay, may_make, one_more}
use Rattle.pw_top.proofs.OnePartLemmas.{HasOne, part_one, outcomes_equal, ok_is, binds_given, part_gave, went}
use Rattle.pw_top.proofs.OneLineLemmas.{IsFresh, IsKnown, line_known}

-- all lines
module _ (names : Names) (all : List Kind) (few : length all ≤ 63) where
  first_known : (l : Line) (ls : List Line) (inputs : PlanInputs) → IsFresh inputs.ports → IsUnderWay all (l ∷ ls) inputs.ports
      → IsKnown inputs (option_map (λ m. m.1) (made_by l.command)) (LoadsLine names l.line l.command inputs)
  first_known l ls inputs fresh way = line_known names l.line l.command inputs fresh (may_make all few l ls inputs.ports way)

  pub all_one : (ls : List Line) (inputs : PlanInputs) → IsFresh inputs.ports → IsUnderWay all ls inputs.ports → HasOne (LoadsAll names ls inputs)
  all_one [] inputs fresh way = part_one [] (λ outcome. outcome ≡ Ok inputs) (outcomes_equal (Ok inputs))
  all_one (l ∷ ls) inputs fresh way =
      let known = first_known l ls inputs fresh way in
      binds_given (LoadsLine names l.line l.command inputs) (LoadsAll names ls) known.one (λ e x p is.
      let a = known.after e x p is in all_one ls x a.0 (one_more all few l ls inputs.ports way x.ports a.1))

  pub all_after : (ls : List Line) (inputs : PlanInputs) → IsFresh inputs.ports → IsUnderWay all ls inputs.ports → (e : Expected PlanInputs) (x : PlanInputs)
      → LoadsAll names ls inputs e → e.outcome ≡ Ok x → IsFresh x.ports × IsUnderWay all [] x.ports
  all_after [] inputs fresh way e x p is =
      let same = ok_is x inputs (Ok x) refl (part_gave [] (λ outcome. outcome ≡ Ok inputs) e x p is) in
      subst (λ (y : PlanInputs). IsFresh y.ports × IsUnderWay all [] y.ports) (sym same) (fresh, way)
  all_after (l ∷ ls) inputs fresh way e x p is =
      let known = first_known l ls inputs fresh way in
      let w = went (LoadsLine names l.line l.command inputs) (LoadsAll names ls) e x p is in
      let a = known.after w.first w.given w.allowed w.gave in
      all_after ls w.given a.0 (one_more all few l ls inputs.ports way w.given.ports a.1) w.rest x w.after w.gives
