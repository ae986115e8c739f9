-- What becomes of a link is one thing: what ports offer, settle on and share is fixed, and so is
-- the outcome.
use Rattle.std.proofs.Common.{◌≡◌, inl, inr, ℕ, ◌<◌, List, Option, Some, None, Bool, true, false, true≢false, refl, sym, ap, ap₂}
use Rattle.std.proofs.Common.{◌∙◌, subst, arith}
use Rattle.std.proofs.lemmas.Bool.{cases_lt}
use Rattle.std.specs.Prelude.{slice_get}
use Rattle.std.specs.Option.{option_map_or}
use Rattle.pw_graph.specs.KindPorts.{input_count, port_count}
use Rattle.pw_graph.specs.declared.ids.PortId.{PortId}
use Rattle.format_filter.specs.declared.choice.Choice.{Choice}
use Rattle.format_filter.specs.declared.format.Format.{Format}
use Rattle.format_filter.specs.declared.common.Filtered.TheVariants.{Common, Clash}
use Rattle.format_filter.specs.Fixation.{fixated}
use Rattle.format_filter.proofs.OneIntersectionLemmas.{meets_one}
use Rattle.format_filter.proofs.OneFormatLemmas.{filters_one}
use Rattle.port_model.specs.declared.port_state.PortState.{PortState}
use Rattle.port_model.specs.declared.port_state.Node.{Node}
use Rattle.port_model.specs.declared.sharing.Offered.{Offered}
use Rattle.port_model.specs.declared.sharing.Offered.TheVariants.{Offer, Nothing}
use Rattle.port_model.specs.PortState.{IsPort, IsInput, IsOutput, AtPort}
use Rattle.port_model.specs.Offers.{int_of}
use Rattle.port_model.specs.Forms.{IsAtOdds, IsAtEase, Offers, buffers_of}
use Rattle.port_model.specs.SoundPorts.{AreSoundNodes}
use Rattle.port_model.proofs.NodeLemmas.{at_port}
use Rattle.link_negotiation.specs.declared.common_formats.Negotiated.{Negotiated}
use Rattle.link_negotiation.specs.declared.common_formats.Negotiated.TheVariants as negotiated
use Rattle.link_negotiation.specs.declared.negotiation.Linked.{Linked}
use Rattle.link_negotiation.specs.declared.negotiation.Linked.TheVariants.{Made, NoFormat, NoBuffers, Twice, Loop, Many}
use Rattle.link_negotiation.specs.Links.{LinkState, are_linked}
use Rattle.link_negotiation.specs.Negotiation.{OffersAt, Settles, SettlesFrom, Negotiates, IsCount, MeetsIn, SharesBuffers}
use Rattle.link_negotiation.specs.LinkOutcome.{IsNewLink, IsSettled, IsLinkOutcome}
use Rattle.link_negotiation.proofs.MayBeGivenLemmas.{IsThere, there}

-- of two numbers neither is less
neither : (a b : ℕ) → (a < b → ⊥) → (b < a → ⊥) → a ≡ b
neither a b low high = elim (cases_lt a b) [
  | inl lt ↦ absurd (low lt)
  | inr ge ↦ elim (cases_lt b a) [ inl lt ↦ absurd (high lt) | inr le ↦ omega (arith, ge, le) ]
]

-- WHAT A PORT OFFERS

at_odds : (node : Node) (s : PortState) (key : ℕ) → IsAtOdds node s key → IsAtEase node s key → ⊥
at_odds node s key w ease = w.outside (ease w.free w.field w.value w.own w.shared)

offers_one : (node : Node) (s : PortState) (x y : Offered) → Offers node s x → Offers node s y → x ≡ y
offers_one node s (Offer f) (Offer g) h k = ap (λ (x : Format). Offer x) (h.0 ∙ sym k.0)
offers_one node s (Offer f) (Nothing key) h k = absurd (at_odds node s key k.0 (h.1 key))
offers_one node s (Nothing key) (Offer g) h k = absurd (at_odds node s key h.0 (k.1 key))
offers_one node s (Nothing a) (Nothing b) h k = ap (λ (x : ℕ). Nothing x)
    (neither a b (λ low. at_odds node s a h.0 (k.1 a low)) (λ low. at_odds node s b k.0 (h.1 b low)))

offered_one : (nodes : List Node) (port : PortId) → IsThere nodes port → (x y : Offered) → OffersAt nodes port x → OffersAt nodes port y
    → x ≡ y
offered_one nodes port t x y h k = offers_one t.node t.state x y
    (at_port (λ (node : Node) (s : PortState). Offers node s x) nodes port t.node t.state t.node_is t.state_is h)
    (at_port (λ (node : Node) (s : PortState). Offers node s y) nodes port t.node t.state t.node_is t.state_is k)

-- WHAT TWO PORTS SETTLE ON

settles_one : (f : Format) (p : Offered) (x y : Negotiated) → Settles f p x → Settles f p y → x ≡ y
settles_one f (Nothing k) (negotiated.NoFormat a) (negotiated.NoFormat b) h g = ap (λ (n : ℕ). negotiated.NoFormat n) (sym h ∙ g)
settles_one f (Nothing k) (negotiated.NoFormat a) (negotiated.Format d) h g = absurd g
settles_one f (Nothing k) (negotiated.Format c) y h g = absurd h
settles_one f (Offer o) (negotiated.NoFormat a) (negotiated.NoFormat b) h g =
    let same : Clash a ≡ Clash b = filters_one f o (Clash a) (Clash b) h g in
    let keys : a ≡ b = cc in
    ap (λ (n : ℕ). negotiated.NoFormat n) keys
settles_one f (Offer o) (negotiated.NoFormat a) (negotiated.Format d) h g =
    let same : Clash a ≡ Common g.0 = filters_one f o (Clash a) (Common g.0) h g.1 in absurd (cc)
settles_one f (Offer o) (negotiated.Format c) (negotiated.NoFormat b) h g =
    let same : Common h.0 ≡ Clash b = filters_one f o (Common h.0) (Clash b) h.1 g in absurd (cc)
settles_one f (Offer o) (negotiated.Format c) (negotiated.Format d) h g =
    let same : Common h.0 ≡ Common g.0 = filters_one f o (Common h.0) (Common g.0) h.1 g.1 in
    let commons : h.0 ≡ g.0 = cc in
    ap (λ (x : Format). negotiated.Format x) (h.2 ∙ ap fixated commons ∙ sym g.2)

settles_from_one : (nodes : List Node) (to : PortId) → IsThere nodes to → (o : Offered) (x y : Negotiated) → SettlesFrom nodes to o x
    → SettlesFrom nodes to o y → x ≡ y
settles_from_one nodes to t (Nothing k) (negotiated.NoFormat a) (negotiated.NoFormat b) h g =
    ap (λ (n : ℕ). negotiated.NoFormat n) (sym h ∙ g)
settles_from_one nodes to t (Nothing k) (negotiated.NoFormat a) (negotiated.Format d) h g = absurd g
settles_from_one nodes to t (Nothing k) (negotiated.Format c) y h g = absurd h
settles_from_one nodes to t (Offer f) x y h g =
    let same : g.0 ≡ h.0 = offered_one nodes to t g.0 h.0 g.1 h.1 in
    settles_one f h.0 x y h.2 (subst (λ (p : Offered). Settles f p y) same g.2)

pub negotiates_one : (nodes : List Node) (from to : PortId) → IsThere nodes from → IsThere nodes to → (x y : Negotiated)
    → Negotiates nodes from to x → Negotiates nodes from to y → x ≡ y
negotiates_one nodes from to s t x y h g =
    let same : g.0 ≡ h.0 = offered_one nodes from s g.0 h.0 g.1 h.1 in
    settles_from_one nodes to t h.0 x y h.2 (subst (λ (o : Offered). SettlesFrom nodes to o y) same g.2)

-- THE NUMBER OF BUFFERS

counts_one : (c : Option Choice) (m n : Option ℕ) → IsCount c m → IsCount c n → m ≡ n
counts_one None None None h g = refl
counts_one None None (Some n) h g = absurd g
counts_one None (Some m) n h g = absurd h
counts_one (Some c) (Some m) (Some n) h g = let same : int_of m ≡ int_of n = sym h ∙ g in let number : m ≡ n = cc in ap Some number
counts_one (Some c) (Some m) None h g = absurd g
counts_one (Some c) None n h g = absurd h

meets_in_one : (own other : Choice) (m n : Option ℕ) → MeetsIn own other m → MeetsIn own other n → m ≡ n
meets_in_one own other m n h g =
    let same : g.0 ≡ h.0 = meets_one own other g.0 h.0 g.1 h.1 in
    counts_one h.0 m n h.2 (subst (λ (c : Option Choice). IsCount c n) same g.2)

pub shares_one : (nodes : List Node) (from to : PortId) → IsThere nodes from → IsThere nodes to → (m n : Option ℕ)
    → SharesBuffers nodes from to m → SharesBuffers nodes from to n → m ≡ n
shares_one nodes from to s t m n h g = meets_in_one (buffers_of s.state) (buffers_of t.state) m n (at m h) (at n g) where
  at : (k : Option ℕ) → SharesBuffers nodes from to k → MeetsIn (buffers_of s.state) (buffers_of t.state) k
  at k w =
      let own = at_port (λ (node : Node) (u : PortState). AtPort nodes to (λ other v. MeetsIn (buffers_of u) (buffers_of v) k))
      nodes from s.node s.state s.node_is s.state_is w in
      at_port (λ (other : Node) (v : PortState). MeetsIn (buffers_of s.state) (buffers_of v) k) nodes to t.node t.state t.node_is t.state_is own

-- WHAT BECOMES OF A LINK

module _ (links : LinkState) (nodes : List Node) (from to : PortId) (s : IsThere nodes from) (t : IsThere nodes to) where
  format_or_none : (format : Format) (key : ℕ) → Negotiates nodes from to (negotiated.Format format)
      → Negotiates nodes from to (negotiated.NoFormat key) → ⊥
  format_or_none format key h g =
      let same : negotiated.Format format ≡ negotiated.NoFormat key = negotiates_one nodes from to s t _ _ h g in cc

  count_or_none : (n : ℕ) → SharesBuffers nodes from to (Some n) → SharesBuffers nodes from to None → ⊥
  count_or_none n h g = let same : Some n ≡ None = shares_one nodes from to s t (Some n) None h g in cc

  settled_one : (x y : Linked) → IsSettled links nodes from to x → IsSettled links nodes from to y → x ≡ y
  settled_one (NoFormat a) (NoFormat b) h g =
      let same : negotiated.NoFormat a ≡ negotiated.NoFormat b = negotiates_one nodes from to s t _ _ h g in
      let keys : a ≡ b = cc in ap (λ (n : ℕ). NoFormat n) keys
  settled_one (NoFormat a) NoBuffers h g = absurd (format_or_none g.0.0 a g.0.1 h)
  settled_one (NoFormat a) Many h g = absurd (format_or_none g.0.0 a g.0.1 h)
  settled_one (NoFormat a) (Made f n) h g = absurd (format_or_none f a g.0 h)
  settled_one NoBuffers (NoFormat b) h g = absurd (format_or_none h.0.0 b h.0.1 g)
  settled_one NoBuffers NoBuffers h g = refl
  settled_one NoBuffers Many h g = absurd (count_or_none g.1.0 g.1.1 h.1)
  settled_one NoBuffers (Made f n) h g = absurd (count_or_none n g.1 h.1)
  settled_one Many (NoFormat b) h g = absurd (format_or_none h.0.0 b h.0.1 g)
  settled_one Many NoBuffers h g = absurd (count_or_none h.1.0 h.1.1 g.1)
  settled_one Many Many h g = refl
  settled_one Many (Made f n) h g = let full = h.2 in let room = g.2 in absurd (omega (arith, full, room))
  settled_one (Made f n) (NoFormat b) h g = absurd (format_or_none f b h.0 g)
  settled_one (Made f n) NoBuffers h g = absurd (count_or_none n h.1 g.1)
  settled_one (Made f n) Many h g = let room = h.2 in let full = g.2 in absurd (omega (arith, full, room))
  settled_one (Made f n) (Made e m) h g =
      let formats : negotiated.Format f ≡ negotiated.Format e = negotiates_one nodes from to s t _ _ h.0 g.0 in
      let counts : Some n ≡ Some m = shares_one nodes from to s t (Some n) (Some m) h.1 g.1 in
      let format : f ≡ e = cc in
      let count : n ≡ m = cc in
      ap₂ (λ (x : Format) (k : ℕ). Made x k) format count
  settled_one Twice y h g = absurd h
  settled_one Loop y h g = absurd h
  settled_one x Twice h g = absurd g
  settled_one x Loop h g = absurd g

  not_both : (b : Bool) → b ≡ true → b ≡ false → ⊥
  not_both b h g = true≢false (sym h ∙ g)

  closes : IsNewLink links from to → IsLinkOutcome links nodes from to Loop → ⊥
  closes new loop = elim loop.1 [ inl same ↦ new.other same | inr walk ↦ new.straight walk ]

  outcome_one : (x y : Linked) → IsLinkOutcome links nodes from to x → IsLinkOutcome links nodes from to y → x ≡ y
  outcome_one Twice Twice h g = refl
  outcome_one Twice Loop h g = absurd (not_both (are_linked links.made from to) h g.0)
  outcome_one Twice (NoFormat b) h g = absurd (not_both (are_linked links.made from to) h g.0.once)
  outcome_one Twice NoBuffers h g = absurd (not_both (are_linked links.made from to) h g.0.once)
  outcome_one Twice Many h g = absurd (not_both (are_linked links.made from to) h g.0.once)
  outcome_one Twice (Made f n) h g = absurd (not_both (are_linked links.made from to) h g.0.once)
  outcome_one Loop Twice h g = absurd (not_both (are_linked links.made from to) g h.0)
  outcome_one Loop Loop h g = refl
  outcome_one Loop (NoFormat b) h g = absurd (closes g.0 h)
  outcome_one Loop NoBuffers h g = absurd (closes g.0 h)
  outcome_one Loop Many h g = absurd (closes g.0 h)
  outcome_one Loop (Made f n) h g = absurd (closes g.0 h)
  outcome_one (NoFormat a) Twice h g = absurd (not_both (are_linked links.made from to) g h.0.once)
  outcome_one NoBuffers Twice h g = absurd (not_both (are_linked links.made from to) g h.0.once)
  outcome_one Many Twice h g = absurd (not_both (are_linked links.made from to) g h.0.once)
  outcome_one (Made f n) Twice h g = absurd (not_both (are_linked links.made from to) g h.0.once)
  outcome_one (NoFormat a) Loop h g = absurd (closes h.0 g)
  outcome_one NoBuffers Loop h g = absurd (closes h.0 g)
  outcome_one Many Loop h g = absurd (closes h.0 g)
  outcome_one (Made f n) Loop h g = absurd (closes h.0 g)
  outcome_one (NoFormat a) (NoFormat b) h g = settled_one (NoFormat a) (NoFormat b) h.1 g.1
  outcome_one (NoFormat a) NoBuffers h g = settled_one (NoFormat a) NoBuffers h.1 g.1
  outcome_one (NoFormat a) Many h g = settled_one (NoFormat a) Many h.1 g.1
  outcome_one (NoFormat a) (Made e m) h g = settled_one (NoFormat a) (Made e m) h.1 g.1
  outcome_one NoBuffers (NoFormat b) h g = settled_one NoBuffers (NoFormat b) h.1 g.1
  outcome_one NoBuffers NoBuffers h g = refl
  outcome_one NoBuffers Many h g = settled_one NoBuffers Many h.1 g.1
  outcome_one NoBuffers (Made e m) h g = settled_one NoBuffers (Made e m) h.1 g.1
  outcome_one Many (NoFormat b) h g = settled_one Many (NoFormat b) h.1 g.1
  outcome_one Many NoBuffers h g = settled_one Many NoBuffers h.1 g.1
  outcome_one Many Many h g = refl
  outcome_one Many (Made e m) h g = settled_one Many (Made e m) h.1 g.1
  outcome_one (Made f n) (NoFormat b) h g = settled_one (Made f n) (NoFormat b) h.1 g.1
  outcome_one (Made f n) NoBuffers h g = settled_one (Made f n) NoBuffers h.1 g.1
  outcome_one (Made f n) Many h g = settled_one (Made f n) Many h.1 g.1
  outcome_one (Made f n) (Made e m) h g = settled_one (Made f n) (Made e m) h.1 g.1

-- an input is a port
input_is_port : (nodes : List Node) (port : PortId) → IsInput nodes port → IsPort nodes port
input_is_port nodes port h = go (slice_get nodes port.node) h where
  go : (o : Option Node) → port.port < option_map_or (λ n. input_count n.kind) o 0 → port.port < option_map_or (λ n. port_count n.kind) o 0
  go None h = h
  go (Some node) h = omega (arith, h)

pub only_outcome : (links : LinkState) (nodes : List Node) (from to : PortId) → IsOutput nodes from → IsInput nodes to → AreSoundNodes nodes
    → (x y : Linked) → IsLinkOutcome links nodes from to x → IsLinkOutcome links nodes from to y → x ≡ y
only_outcome links nodes from to output input sound x y h g = outcome_one links nodes from to (there nodes from sound output.1)
    (there nodes to sound (input_is_port nodes to input)) x y h g
