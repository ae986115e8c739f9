-- The nodes that begin anew, one after the other.
use Rattle.std.proofs.Common.{◌≡◌, inl, inr, ℕ, ◌+◌, ◌<◌, Bool, true, false, List, [], ◌∷◌, ◌++◌, length, get_or}
use Rattle.std.proofs.Common.{sym, ap, ◌∙◌, subst, arith}
use Rattle.std.specs.Prelude.{Contains}
use Rattle.std.proofs.lemmas.Bool.{cases_eq, cases_lt}
use Rattle.std.proofs.lemmas.List.{get_or_past}
use Rattle.std.proofs.lemmas.List.Elements.{Contains-get_or, Contains-push, Contains-push_cases, Contains-append_left}
use Rattle.std.proofs.lemmas.List.Quantifiers.{all_pairs_push}
use Rattle.pw_graph.specs.declared.plan.Fresh.{Fresh}
use Rattle.graph_lines.specs.declared.graph.Graph.{Graph}
use Rattle.graph_lines.specs.declared.standing.Standing.{Standing}
use Rattle.graph_lines.specs.Activity.{nobody, standing}
use Rattle.graph_lines.specs.Fresh.{ChannelsIn, IsFresh}
use Rattle.port_model.specs.PortState.{IsInput}
use Rattle.port_model.specs.SoundPorts.{AreSoundNodes}
use Rattle.graph_lines.specs.Forms.{FormIn}
use Rattle.graph_lines.specs.Gathering.{HasFreshBelow}
use Rattle.graph_lines.proofs.PortLemmas.{form_one}

abbrev pub fresh_of : ℕ → ℕ → Fresh
fresh_of n channels = record { node = n; channels = channels }

pub fresh_begins : (g : Graph) → HasFreshBelow g 0 []
fresh_begins g = record {
  ascend = λ j k d l m. absurd (omega (arith, m));
  each = λ n c. ((λ has. absurd (let l = has.1 in omega (arith, l))), (λ w. absurd (let l = w.0 in omega (arith, l))));
}

module _ (g : Graph) (count : ℕ) (fresh : List Fresh) (h : HasFreshBelow g count fresh) (channels : ℕ) (here : ChannelsIn g count channels)
    (only : (c : ℕ) → ChannelsIn g count c → c ≡ channels) where
  -- a node that begins anew
  pub fresh_more : IsFresh g count channels → HasFreshBelow g (count + 1) (fresh ++ fresh_of count channels ∷ [])
  fresh_more is = record {
    ascend = all_pairs_push (λ x y. x.node < y.node) fresh (fresh_of count channels) h.ascend (λ k d l.
        let f = get_or fresh k d in ((h.each f.node f.channels).0 (Contains-get_or fresh k d l)).0);
    each = λ n c. (
      (λ has. elim (Contains-push_cases fresh (fresh_of count channels) (fresh_of n c) has) [
        | inl old ↦ let w = (h.each n c).0 old in let l = w.0 in (omega (arith, l), w.1, w.2)
        | inr same ↦ subst (λ (f : Fresh). (f.node < count + 1) × ChannelsIn g f.node f.channels × IsFresh g f.node f.channels) same
            (omega arith, here, is)
      ]),
      (λ w. elim (cases_eq n count) [
        | inl same ↦
            let one = only c (subst (λ (m : ℕ). ChannelsIn g m c) same w.1) in
            let it : fresh_of count channels ≡ fresh_of n c = λ i. record { node = sym same i; channels = sym one i } in
            subst (λ (f : Fresh). Contains (fresh ++ fresh_of count channels ∷ []) f) it (Contains-push fresh (fresh_of count channels))
        | inr other ↦ let l = w.0 in Contains-append_left fresh (fresh_of count channels ∷ []) (fresh_of n c)
            ((h.each n c).1 (omega (arith, l, other), w.1, w.2))
      ]),
    );
  }

  -- a node that goes on
  pub fresh_none : (IsFresh g count channels → ⊥) → HasFreshBelow g (count + 1) fresh
  fresh_none goes = record {
    ascend = h.ascend;
    each = λ n c. (
      (λ has. let w = (h.each n c).0 has in let l = w.0 in (omega (arith, l), w.1, w.2)),
      (λ w. elim (cases_eq n count) [
        | inl same ↦
            let one = only c (subst (λ (m : ℕ). ChannelsIn g m c) same w.1) in
            absurd (goes (subst (λ (k : ℕ). IsFresh g count k) one (subst (λ (m : ℕ). IsFresh g m c) same w.2)))
        | inr other ↦ let l = w.0 in (h.each n c).1 (omega (arith, l, other), w.1, w.2)
      ]),
    );
  }

-- only nodes that are there begin anew
pub fresh_below : (g : Graph) (n channels : ℕ) → ChannelsIn g n channels → IsFresh g n channels → n < length g.nodes
fresh_below g n channels here is = elim (cases_lt n (length g.nodes)) [
  | inl l ↦ l
  | inr past ↦ absurd (nowhere (get_or_past g.nodes n nobody past) here is)
] where
  differ : false ≡ true → ⊥
  differ e = cc

  nowhere : standing g.nodes n ≡ nobody → ChannelsIn g n channels → IsFresh g n channels → ⊥
  nowhere e (inl first) f = differ (ap (λ (s : Standing). s.there) (sym e) ∙ first.there)
  nowhere e (inr none) (inl gave) = differ (ap (λ (s : Standing). s.gave_up) (sym e) ∙ gave)
  nowhere e (inr none) (inr other) = other (none.0 ∙ ap (λ (s : Standing). s.told) (sym e))

-- the channels of a node are one number
pub channels_one : (g : Graph) (n rate channels : ℕ) → AreSoundNodes g.ports → (standing g.nodes n).there ≡ true
    → IsInput g.ports (record { node = n; port = 0 }) → FormIn g.ports (record { node = n; port = 0 }) rate channels
    → (k : ℕ) → ChannelsIn g n k → k ≡ channels
channels_one g n rate channels sound there input form k (inl first) =
    (form_one g.ports (record { node = n; port = 0 }) first.rate k rate channels sound first.form form).1
channels_one g n rate channels sound there input form k (inr none) =
    absurd (none.1 channels (record { there = there; input = input; rate = rate; form = form }))

pub not_both : (b : Bool) → b ≡ true → b ≡ false → ⊥
not_both b e d = cc
