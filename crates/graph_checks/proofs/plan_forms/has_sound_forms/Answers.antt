use Rattle.std.proofs.Common.{refl, subst, sym}
use Rattle.std.specs.Prelude.{All, AllPairs, IsTrue}
use Rattle.pw_graph.specs.declared.plan.PortForm.{PortForm}
use Rattle.pw_graph.specs.Pools.{is_before}
use Rattle.pw_graph.specs.PlanForms.{IsSoundForm, AreShared, IsFormed}
use Rattle.graph_checks.specs.working.FormChecks.{IsWhole}
use Rattle.graph_checks.proofs.FormChecksLemmas.{whole_by_ports}
use Rattle.graph_checks.proofs.plan_forms.has_sound_forms.Goals as goal

abbrev Before : PortForm → PortForm → Type 0
Before f g = IsTrue (is_before f.port g.port)

pub returns-then-not-are_sound_forms : goal.returns-then-not-are_sound_forms
returns-then-not-are_sound_forms c = (
  λ f. cc,
  λ h. c.if-not-are_sound_forms.ensures.1 (subst (All (IsSoundForm c.args.plan.now c.args.epoch.now))
      (sym c.as_slice-forms.ensures) h.each),
)

pub returns-then-not-all_shared : goal.returns-then-not-all_shared
returns-then-not-all_shared c = (
  λ f. cc,
  λ h. c.if-not-all_shared.ensures.1 (subst (AllPairs (AreShared c.args.plan.now)) (sym c.as_slice-forms.ensures) h.shared),
)

pub returns-then-not-are_whole : goal.returns-then-not-are_whole
returns-then-not-are_whole c = (
  λ f. cc,
  λ h. c.if-not-are_whole.ensures.1 (subst (All (IsWhole c.args.plan.now c.args.epoch.now)) (sym c.as_slice.ensures)
      ((whole_by_ports c.args.plan.now c.args.epoch.now).1 h.whole)),
)

pub returns : goal.returns
returns c = (
  λ t. record {
    ascend = subst (AllPairs Before) c.as_slice-forms.ensures (c.if-not-forms_ascend.ensures.0 refl);
    each = subst (All (IsSoundForm c.args.plan.now c.args.epoch.now)) c.as_slice-forms.ensures (c.if-not-are_sound_forms.ensures.0 refl);
    shared = subst (AllPairs (AreShared c.args.plan.now)) c.as_slice-forms.ensures (c.if-not-all_shared.ensures.0 refl);
    whole = (whole_by_ports c.args.plan.now c.args.epoch.now).0
        (subst (All (IsWhole c.args.plan.now c.args.epoch.now)) c.as_slice.ensures (c.if-not-are_whole.ensures.0 refl));
    links = subst (All (IsFormed c.args.plan.now c.args.epoch.now)) c.as_slice-2.ensures (c.are_formed.ensures.0 t);
  },
  λ h. c.are_formed.ensures.1 (subst (All (IsFormed c.args.plan.now c.args.epoch.now)) (sym c.as_slice-2.ensures) h.links),
)
