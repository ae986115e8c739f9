-- Laws of `specs/working/FreshChecks.antt`: fresh nodes and kept forms by epochs at their places.
use Rattle.std.proofs.Common.{◌≡◌, ℕ, ◌<◌, ◌≤◌, length, get_or, refl, sym, subst, arith, inl, inr, ◌+◌}
use Rattle.std.proofs.lemmas.Bool.{cases_lt}
use Rattle.std.proofs.lemmas.Option.{slice_get_within}
use mathlib.Core.Logic.{dite}
use native.Mathlib.Decide.{ℕ_discrete}
use Rattle.std.specs.Prelude.{All, ◌↔◌}
use Rattle.std.proofs.lemmas.List.{get_or_default}
use Rattle.std.proofs.lemmas.List.Elements.{All-contains}
use Rattle.pw_graph.specs.declared.ids.PortId.{PortId}
use Rattle.pw_graph.specs.declared.plan.Epoch.{Epoch}
use Rattle.pw_graph.specs.declared.plan.Plan.{Plan}
use Rattle.pw_graph.specs.declared.plan.PortForm.{PortForm}
use Rattle.pw_graph.specs.PlanForms.{HasForm}
use Rattle.pw_graph.specs.PlanFresh.{IsEpoch, Names, HasSoundFresh}
use Rattle.graph_checks.specs.working.FreshChecks.{HasEntry, HasSomeEntry, IsNamed, IsSameForm, AgreesIn, KeepsForm, IsKeptFrom, IsLastNamed, IsKeptForm}
use Rattle.graph_checks.specs.working.FreshChecks.{KeepsEpoch, NamesWell}

-- an epoch's place has one epoch
pub epoch_is : (plan : Plan) (k : ℕ) (e f : Epoch) → IsEpoch plan k e → IsEpoch plan k f → e ≡ f
epoch_is plan k e f at at' = cc

module _ (plan : Plan) (k node : ℕ) (e : Epoch) (at : IsEpoch plan k e) where
  -- an epoch names what its entries name
  pub names_by_entry : (channels : ℕ) → HasEntry e node channels ↔ Names plan k node channels
  names_by_entry channels = (
    λ c. record { epoch = e; at = at; entry = c },
    λ n. subst (λ f. HasEntry f node channels) (epoch_is plan k n.epoch e n.at at) n.entry,
  )

  pub named_by_entry : HasSomeEntry e node ↔ IsNamed plan k node
  named_by_entry = (λ c. (c.0, (names_by_entry c.0).0 c.1), λ n. (n.0, (names_by_entry n.0).1 n.1))

-- what holds of each place after i below j, and at j
pub between_more : (P : ℕ → Type 0) (i j : ℕ) → ((k : ℕ) → i < k → k < j → P k) → P j → (k : ℕ) → i < k → k < j + 1 → P k
between_more P i j below here k above lt = dite (ℕ_discrete k j) (λ e. subst P (sym e) here) (λ ne. below k above (omega arith))

-- a form on the way through the epochs after its own
module _ (plan : Plan) (i j : ℕ) (a : PortForm) where
  pub keeps_until : ((k : ℕ) → i < k → k < j → AgreesIn plan k a) → i < j → IsNamed plan j a.port.node → KeepsForm plan i a
  keeps_until same lt named = record {
    later = λ m above within stays. elim (cases_lt m j)
        [ inl below ↦ same m above below | inr past ↦ absurd (stays j named.0 lt past named.1) ];
  }

  pub keeps_to_end : ((k : ℕ) → i < k → k < j → AgreesIn plan k a) → length plan.epochs ≤ j → KeepsForm plan i a
  keeps_to_end same end = record { later = λ m above within stays. same m above (omega arith) }

  pub keeps_at : ((k : ℕ) → i < k → k < j → ¬ IsNamed plan k a.port.node) → ¬ IsNamed plan j a.port.node → i < j → j < length plan.epochs
      → KeepsForm plan i a → AgreesIn plan j a
  keeps_at never here lt within h = h.later j lt within
      (λ k channels above le named. between_more (λ m. ¬ IsNamed plan m a.port.node) i j never here k above (omega arith) (channels, named))

pub kept_to_end : (plan : Plan) (i j node : ℕ) → ((k : ℕ) → i < k → k < j → ¬ IsNamed plan k node) → length plan.epochs ≤ j
    → IsKeptFrom plan i node
kept_to_end plan i j node never end = record {
  never = λ m above named. let within : m < length plan.epochs = slice_get_within plan.epochs m named.1.epoch named.1.at in
      never m above (omega arith) named;
}

-- the last epoch that names a node, found from the back
module _ (plan : Plan) (j node channels : ℕ) where
  pub last_here : IsNamed plan j node → IsLastNamed plan j node channels ↔ Names plan j node channels
  last_here named = (
    λ h. dite (ℕ_discrete h.0 j) (λ e. subst (λ k. Names plan k node channels) e h.2)
        (λ ne. let le : h.0 ≤ j = h.1 in absurd (h.3 j named.0 (omega arith) (omega arith) named.1)),
    λ n. (j, omega arith, n, λ k more lt le. absurd (omega arith)),
  )

  pub last_before : (i : ℕ) → j ≡ i + 1 → ¬ IsNamed plan j node → IsLastNamed plan j node channels ↔ IsLastNamed plan i node channels
  last_before i next never = (
    λ h. dite (ℕ_discrete h.0 j) (λ e. absurd (never (channels, subst (λ k. Names plan k node channels) e h.2)))
        (λ ne. let le : h.0 ≤ j = h.1 in (h.0, omega arith, h.2, λ k more lt le'. h.3 k more lt (omega arith))),
    λ h. let le : h.0 ≤ i = h.1 in (
      h.0,
      omega arith,
      h.2,
      λ k more lt le'. dite (ℕ_discrete k j)
          (λ e n. never (more, subst (λ m. Names plan m node more) e n)) (λ ne. h.3 k more lt (omega arith)),
    ),
  )

  pub last_none : j ≡ 0 → ¬ IsNamed plan j node → ¬ IsLastNamed plan j node channels
  last_none zero never h = let le : h.0 ≤ j = h.1 in let e : h.0 ≡ j = omega arith in
      never (channels, subst (λ k. Names plan k node channels) e h.2)

-- each form is an epoch's own
own_form : (e : Epoch) (k : ℕ) (d : PortForm) → k < length e.forms
    → HasForm e (get_or e.forms k d).port (get_or e.forms k d).rate (get_or e.forms k d).channels
own_form e k d lt = (k, lt, get_or_default e.forms k (get_or e.forms k d) d lt)

module _ (plan : Plan) (keeps : (i : ℕ) → i < length plan.epochs → KeepsEpoch plan i) where
  kept : (i : ℕ) (e : Epoch) (port : PortId) (rate channels : ℕ) → IsEpoch plan i e → HasForm e port rate channels
      → IsKeptForm plan i (record { port = port; rate = rate; channels = channels })
  kept i e port rate channels at has = All-contains (IsKeptForm plan i) e.forms (record { port = port; rate = rate; channels = channels })
      ((keeps i (slice_get_within plan.epochs i e at)).each e at) has

  -- what each form of each epoch says is what the whole plan says
  pub fresh_is_sound : All (NamesWell plan) plan.epochs → HasSoundFresh plan
  fresh_is_sound well = record {
    ascend = λ k d lt. (well k d lt).ascend;
    each = λ k d lt. (well k d lt).each;
    forms = λ i j e f port rate channels rate' channels' lt at at' stays has has'.
        let agrees = (kept i e port rate channels at has).form.later j lt (slice_get_within plan.epochs j f at') stays in
        All-contains (IsSameForm (record { port = port; rate = rate; channels = channels })) f.forms
        (record { port = port; rate = rate'; channels = channels' }) (agrees.same f at') has' refl;
    sinks = λ i j e port rate channels more lt at sink has named. ((kept i e port rate channels at has).sink.kept sink).never j lt
        (more, named);
    told = λ j e node rate channels at lt has. (kept j e (record { node = node; port = 0 }) rate channels at has).told.last refl lt;
  }

module _ (plan : Plan) (h : HasSoundFresh plan) where
  pub names_well_each : All (NamesWell plan) plan.epochs
  names_well_each k d lt = record { ascend = h.ascend k d lt; each = h.each k d lt }

  form_kept : (i : ℕ) (e : Epoch) (a : PortForm) → IsEpoch plan i e → HasForm e a.port a.rate a.channels → IsKeptForm plan i a
  form_kept i e a at has = record {
    form = record {
      later = λ j lt within stays. record {
        same = λ f at' k d lt' same.
            let b : PortForm = get_or f.forms k d in
            h.forms i j e f a.port a.rate a.channels b.rate b.channels lt at at' stays has
            (subst (λ p. HasForm f p b.rate b.channels) same (own_form f k d lt'));
      };
    };
    sink = record { kept = λ sink. record { never = λ j lt named. h.sinks i j e a.port a.rate a.channels named.0 lt at sink has named.1 } };
    told = record {
      last = λ zero lt. h.told i e a.port.node a.rate a.channels at lt
          (subst (λ n. HasForm e (record { node = a.port.node; port = n }) a.rate a.channels) zero has);
    };
  }

  pub keeps_each : (i : ℕ) → i < length plan.epochs → KeepsEpoch plan i
  keeps_each i lt = record { each = λ e at k d lt'. form_kept i e (get_or e.forms k d) at (own_form e k d lt') }
