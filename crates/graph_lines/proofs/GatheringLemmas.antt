-- The forms of an epoch, one port after the other.
use Rattle.std.proofs.Common.{◌≡◌, ◌⊎◌, inl, inr, ℕ, ◌+◌, ◌<◌, ◌≤◌, Bool, true, false, List, [], ◌∷◌, ◌++◌, length, get_or}
use Rattle.std.proofs.Common.{refl, sym, ap, ◌∙◌, subst, arith, eq-eqb}
use Rattle.std.specs.Prelude.{Contains, IsTrue, Result, Ok, Err, OnOk}
use Rattle.std.proofs.lemmas.Bool.{cases_eq, lt-ltb, le-ltb}
use Rattle.std.proofs.lemmas.List.Elements.{Contains-get_or, Contains-push, Contains-push_cases, Contains-append_left}
use Rattle.std.proofs.lemmas.List.Quantifiers.{all_pairs_push}
use Rattle.pw_graph.specs.declared.ids.PortId.{PortId}
use Rattle.pw_graph.specs.declared.plan.PortForm.{PortForm}
use Rattle.pw_graph.specs.Pools.{is_before}
use Rattle.pw_graph.proofs.PoolLemmas.{port_is}
use Rattle.port_model.specs.declared.port_state.Node.{Node}
use Rattle.port_model.specs.PortState.{port_count_of}
use Rattle.port_model.specs.SoundPorts.{AreSoundNodes}
use Rattle.graph_lines.specs.Forms.{FormIn}
use Rattle.graph_lines.specs.Searching.{is_in}
use Rattle.graph_lines.specs.Gathering.{IsEarlier, HasFormsBefore, HasFormsOf}
use Rattle.graph_lines.proofs.PortLemmas.{form_one, node_below}

earlier_is_before : (p q : PortId) → IsEarlier p q → IsTrue (is_before p q)
earlier_is_before p q (inl l) = rw (lt-ltb p.node q.node l) refl
earlier_is_before p q (inr h) =
    let low : q.node ≤ p.node = omega (arith, h.0) in
    rw (le-ltb p.node q.node low, eq-eqb p.node q.node h.0, lt-ltb p.port q.port h.1) refl

-- an order of forms
abbrev Before : PortForm → PortForm → Type 0
Before f g = IsTrue (is_before f.port g.port)

abbrev pub form_of : PortId → ℕ → ℕ → PortForm
form_of port rate channels = record { port = port; rate = rate; channels = channels }

module _ (ports : List Node) (here : List Bool) (sound : AreSoundNodes ports) (port : PortId) (forms : List PortForm)
    (h : HasFormsBefore ports here port forms) where
  abbrev pub next : PortId
  next = record { node = port.node; port = port.port + 1 }

  later : (p : PortId) → IsEarlier p port → IsEarlier p next
  later p (inl l) = inl l
  later p (inr e) = inr (e.0, (let l = e.1 in omega (arith, l)))

  here_is : IsEarlier port next
  here_is = inr (refl, omega arith)

  earlier : (p : PortId) → IsEarlier p next → IsEarlier p port ⊎ (p ≡ port)
  earlier p (inl l) = inl (inl l)
  earlier p (inr e) = elim (cases_eq p.port port.port) [
    | inl same ↦ inr (port_is p port e.0 same)
    | inr other ↦ inl (inr (e.0, (let l = e.1 in omega (arith, l, other))))
  ]

  -- a port that has a form
  pub form_more : is_in here port.node ≡ true → (rate channels : ℕ) → FormIn ports port rate channels
      → HasFormsBefore ports here next (forms ++ form_of port rate channels ∷ [])
  form_more active rate channels form = record {
    ascend = all_pairs_push Before forms (form_of port rate channels) h.ascend (λ k d l.
        let f = get_or forms k d in
        let had = (h.each f.port f.rate f.channels).0 (Contains-get_or forms k d l) in
        earlier_is_before f.port port had.1);
    each = λ p r c. (
      (λ has. elim (Contains-push_cases forms (form_of port rate channels) (form_of p r c) has) [
        | inl old ↦ let w = (h.each p r c).0 old in (w.0, later p w.1, w.2)
        | inr same ↦ subst (λ (f : PortForm). (is_in here f.port.node ≡ true) × IsEarlier f.port next × FormIn ports f.port f.rate f.channels)
            same (active, here_is, form)
      ]),
      (λ w. elim (earlier p w.1) [
        | inl e ↦ Contains-append_left forms (form_of port rate channels ∷ []) (form_of p r c) ((h.each p r c).1 (w.0, e, w.2))
        | inr same ↦
            let one = form_one ports port rate channels r c sound form (subst (λ (q : PortId). FormIn ports q r c) same w.2) in
            let is : form_of port rate channels ≡ form_of p r c =
            λ i. record { port = sym same i; rate = one.0 i; channels = one.1 i } in
            subst (λ (f : PortForm). Contains (forms ++ form_of port rate channels ∷ []) f) is
            (Contains-push forms (form_of port rate channels))
      ]),
    );
  }

  -- a port that has no format
  pub form_none : ((rate channels : ℕ) → FormIn ports port rate channels → ⊥) → HasFormsBefore ports here next forms
  form_none none = record {
    ascend = h.ascend;
    each = λ p r c. (
      (λ has. let w = (h.each p r c).0 has in (w.0, later p w.1, w.2)),
      (λ w. elim (earlier p w.1) [
        | inl e ↦ (h.each p r c).1 (w.0, e, w.2)
        | inr same ↦ absurd (none r c (subst (λ (q : PortId). FormIn ports q r c) same w.2))
      ]),
    );
  }

  -- the first port of the next node
  abbrev pub after : PortId
  after = record { node = port.node + 1; port = 0 }

  below_after : (p : PortId) → IsEarlier p port → IsEarlier p after
  below_after p (inl l) = inl (omega (arith, l))
  below_after p (inr e) = inl (let same = e.0 in omega (arith, same))

  -- the ports of a node are done
  pub node_done : port_count_of ports port.node ≡ port.port → HasFormsBefore ports here after forms
  node_done count = record {
    ascend = h.ascend;
    each = λ p r c. (
      (λ has. let w = (h.each p r c).0 has in (w.0, below_after p w.1, w.2)),
      (λ w. (h.each p r c).1 (w.0, within p w.1 w.2.0, w.2)),
    );
  } where
    within : (p : PortId) → IsEarlier p after → p.port < port_count_of ports p.node → IsEarlier p port
    within p (inl l) is = elim (cases_eq p.node port.node) [
      | inl same ↦ let all = ap (port_count_of ports) same ∙ count in inr (same, omega (arith, is, all))
      | inr other ↦ inl (omega (arith, l, other))
    ]
    within p (inr e) is = absurd (let none = e.1 in omega (arith, none))

  -- a node that is not in
  pub node_skipped : is_in here port.node ≡ false → port.port ≡ 0 → HasFormsBefore ports here after forms
  node_skipped out first = record {
    ascend = h.ascend;
    each = λ p r c. (
      (λ has. let w = (h.each p r c).0 has in (w.0, below_after p w.1, w.2)),
      (λ w. (h.each p r c).1 (w.0, before p w.1 w.0, w.2)),
    );
  } where
    differ : false ≡ true → ⊥
    differ e = cc

    before : (p : PortId) → IsEarlier p after → is_in here p.node ≡ true → IsEarlier p port
    before p (inl l) active = elim (cases_eq p.node port.node) [
      | inl same ↦ absurd (differ (sym out ∙ (ap (is_in here) (sym same) ∙ active)))
      | inr other ↦ inl (omega (arith, l, other))
    ]
    before p (inr e) active = absurd (let none = e.1 in omega (arith, none))

pub forms_begin : (ports : List Node) (here : List Bool) → HasFormsBefore ports here (record { node = 0; port = 0 }) []
forms_begin ports here = record {
  ascend = λ j k d l m. absurd (omega (arith, m));
  each = λ p r c. ((λ has. absurd (let l = has.1 in omega (arith, l))), (λ w. absurd (none p w.1)));
} where
  none : (p : PortId) → IsEarlier p (record { node = 0; port = 0 }) → ⊥
  none p (inl l) = omega (arith, l)
  none p (inr e) = let l = e.1 in omega (arith, l)

-- all nodes are done
pub forms_end : (ports : List Node) (here : List Bool) (count : ℕ) (forms : List PortForm) → AreSoundNodes ports → length ports ≤ count
    → HasFormsBefore ports here (record { node = count; port = 0 }) forms → HasFormsOf ports here forms
forms_end ports here count forms sound all h = record {
  ascend = h.ascend;
  each = λ p r c. (
    (λ has. let w = (h.each p r c).0 has in (w.0, w.2)),
    (λ w. let l = node_below ports p r c sound w.1 in (h.each p r c).1 (w.0, inl (omega (arith, l, all)), w.1)),
  );
}

-- what holds of a list after a push that may fail
pub on_ok : {X T E : Type 0} (P : X → Type 0) (r : Result T E) (new more : X) → OnOk r (new ≡ more) → P more → OnOk r (P new)
on_ok P (Ok v) new more e h = subst P (sym e) h
on_ok P (Err x) new more e h = tt
