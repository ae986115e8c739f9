-- What a port offers is one thing, so two ports that negotiate no format part at just that key.
use Rattle.std.proofs.Common.{◌≡◌, inl, inr, ℕ, ◌<◌, List, sym, ap, ◌∙◌, subst, arith}
use Rattle.std.proofs.lemmas.Bool.{cases_lt}
use Rattle.pw_graph.specs.declared.ids.PortId.{PortId}
use Rattle.format_filter.specs.declared.format.Format.{Format}
use Rattle.port_model.specs.declared.port_state.PortState.{PortState}
use Rattle.port_model.specs.declared.port_state.Node.{Node}
use Rattle.port_model.specs.declared.sharing.Offered.{Offered}
use Rattle.port_model.specs.declared.sharing.Offered.TheVariants.{Offer, Nothing}
use Rattle.port_model.specs.Forms.{IsAtOdds, IsAtEase, Offers}
use Rattle.port_model.proofs.NodeLemmas.{at_port}
use Rattle.link_negotiation.specs.declared.common_formats.Negotiated.TheVariants as negotiated
use Rattle.link_negotiation.specs.Negotiation.{OffersAt, Settles, SettlesFrom, Negotiates}
use Rattle.link_negotiation.proofs.MayBeGivenLemmas.{IsThere}
use Rattle.refused_links.specs.Sides.{PartAt, HasSides}
use Rattle.refused_links.specs.declared.refused_link.Sides.{Sides}
use Rattle.refused_links.specs.working.Finding.{ShowsSides}

-- of two numbers neither is less
neither : (a b : ℕ) → (a < b → ⊥) → (b < a → ⊥) → a ≡ b
neither a b low high = elim (cases_lt a b) [
  | inl lt ↦ absurd (low lt)
  | inr ge ↦ elim (cases_lt b a) [ inl lt ↦ absurd (high lt) | inr le ↦ omega (arith, ge, le) ]
]

at_odds : (node : Node) (s : PortState) (key : ℕ) → IsAtOdds node s key → IsAtEase node s key → ⊥
at_odds node s key w ease = w.outside (ease w.free w.field w.value w.own w.shared)

offers_one : (node : Node) (s : PortState) (x y : Offered) → Offers node s x → Offers node s y → x ≡ y
offers_one node s (Offer f) (Offer g) h k = ap (λ (x : Format). Offer x) (h.0 ∙ sym k.0)
offers_one node s (Offer f) (Nothing key) h k = absurd (at_odds node s key k.0 (h.1 key))
offers_one node s (Nothing key) (Offer g) h k = absurd (at_odds node s key h.0 (k.1 key))
offers_one node s (Nothing a) (Nothing b) h k = ap (λ (x : ℕ). Nothing x)
    (neither a b (λ low. at_odds node s a h.0 (k.1 a low)) (λ low. at_odds node s b k.0 (h.1 b low)))

-- WHAT A PORT OFFERS is one thing
pub offered_one : (nodes : List Node) (port : PortId) → IsThere nodes port → (x y : Offered) → OffersAt nodes port x → OffersAt nodes port y
    → x ≡ y
offered_one nodes port t x y h k = offers_one t.node t.state x y
    (at_port (λ (node : Node) (s : PortState). Offers node s x) nodes port t.node t.state t.node_is t.state_is h)
    (at_port (λ (node : Node) (s : PortState). Offers node s y) nodes port t.node t.state t.node_is t.state_is k)

module _ (nodes : List Node) (from to : PortId) (s : IsThere nodes from) (t : IsThere nodes to) (key : ℕ) where
  -- an input that offers a format clashes, and one that offers nothing does so because of the key
  settled : (f : Format) (other : Offered) → Settles f other (negotiated.NoFormat key) → PartAt (Offer f) other key
  settled f (Nothing k) h = h
  settled f (Offer g) h = h

  settled_from : (own other : Offered) → OffersAt nodes to other → SettlesFrom nodes to own (negotiated.NoFormat key) → PartAt own other key
  settled_from (Nothing k) other is h = h
  settled_from (Offer f) other is h =
      let same : h.0 ≡ other = offered_one nodes to t h.0 other h.1 is in
      settled f other (subst (λ (o : Offered). Settles f o (negotiated.NoFormat key)) same h.2)

  -- PORTS WITHOUT A COMMON FORMAT part at its key
  pub parted : (own other : Offered) → OffersAt nodes from own → OffersAt nodes to other → Negotiates nodes from to (negotiated.NoFormat key)
      → PartAt own other key
  parted own other first second h =
      let same : h.0 ≡ own = offered_one nodes from s h.0 own h.1 first in
      settled_from own other second (subst (λ (o : Offered). SettlesFrom nodes to o (negotiated.NoFormat key)) same h.2)

  pub sides_part : (sides : Sides) → Negotiates nodes from to (negotiated.NoFormat key) → ShowsSides nodes from to key sides
      → HasSides nodes from to key sides
  sides_part sides h w = (w.0, w.1, w.2, w.3, parted w.0 w.1 w.2 w.3 h, w.4)
