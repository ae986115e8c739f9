-- A search along synchronous links: one node expanded, and all of them.
use Rattle.std.proofs.Common.{◌≡◌, ◌⊎◌, inl, inr, ℕ, ◌+◌, ◌-◌, ◌<◌, ◌≤◌, ◌==◌, [], length, get_or, replicate, true, false}
use Rattle.std.proofs.Common.{refl, sym, ap, ◌∙◌, subst, arith}
use Rattle.std.proofs.Math.ListN.{set}
use Rattle.std.proofs.lemmas.Bool.{and_from, and_parts, cases_eq, eqb-true}
use Rattle.std.proofs.lemmas.List.Elements.{All-contains}
use Rattle.std.proofs.lemmas.List.{get_or-set_same, get_or_default, length-replicate}
use Rattle.link_negotiation.specs.declared.link.Link.{Link}
use Rattle.link_negotiation.specs.declared.outgoing.Outgoing.{Outgoing}
use Rattle.link_negotiation.specs.declared.reached.Reached.{Reached}
use Rattle.link_negotiation.specs.Links.{LinkState, is_synchronous, synchronous_links, IsReachable}
use Rattle.link_negotiation.specs.working.Searching.{IsBounded, leaves, IsOutgoing, is_reached, IsQueue, IsLonger, IsLed, IsExpanded, Expands}
use Rattle.link_negotiation.proofs.WalkLemmas.{kept, origin, walk_stays, walk_on}
use Rattle.link_negotiation.proofs.ReachedLemmas.{old_or_new, longer_same, none_reached, reached_below}

false_true : false ≡ true → ⊥
false_true e = cc

-- a link of which the test says that it leaves a node leads from it
pub led_by : (s : LinkState) (n k : ℕ) (d : Link) → k < length s.made → leaves s n (get_or s.made k d) ≡ true
    → IsLed s n (get_or s.made k d).to.node
led_by s n k d l e =
    let link = get_or s.made k d in
    let w = and_parts (is_synchronous s link) (link.from.node == n) e in
    record {
      link = link;
      there = kept (is_synchronous s) s.made k link l (get_or_default s.made k link d l) w.0;
      from = eqb-true link.from.node n w.1;
      to = refl;
    }

-- what holds while the links of a node are looked at, the last one first
pub record IsExpanding (s : LinkState) (n at : ℕ) (before now : Reached) : Type 0 where
  pub queue : IsQueue now
  pub longer : IsLonger before now
  pub led : (m : ℕ) → is_reached now.here m ≡ true → (is_reached before.here m ≡ true) ⊎ IsLed s n m
  pub within : at ≤ length s.made
  pub there : (d : Link) → 0 < at → leaves s n (get_or s.made (at - 1) d) ≡ true
  pub done : (k : ℕ) (d : Link) → at ≤ k → k < length s.made → leaves s n (get_or s.made k d) ≡ true
      → is_reached now.here (get_or s.made k d).to.node ≡ true

pub expanding_begins : (s : LinkState) (n : ℕ) (o : Outgoing) (r : Reached) → n < 64 → IsQueue r → IsOutgoing s (length s.made) o
    → IsExpanding s n (get_or o.last n 0) r r
expanding_begins s n o r low queue out =
    let last = out.last n low in record {
      queue = queue;
      longer = longer_same r;
      led = λ m t. inl t;
      within = last.within;
      there = last.there;
      done = λ k d low high e. absurd (false_true (sym (last.none k d low high) ∙ e));
    }

longer_on : (a b c : Reached) → IsLonger a b → IsLonger b c → IsLonger a c
longer_on a b c p q = record {
  count = omega (arith, p.count, q.count);
  order = λ k below. q.order k (omega (arith, below, p.count)) ∙ p.order k below;
  here = λ n t. q.here n (p.here n t);
}

to_below : (s : LinkState) (k : ℕ) (d : Link) → k < length s.made → IsBounded s → (get_or s.made k d).to.node < 64
to_below s k d there bounded =
    (All-contains (λ (l : Link). (l.from.node < 64) × (l.to.node < 64)) s.made (get_or s.made k d) bounded.links
    (k, there, get_or_default s.made k (get_or s.made k d) d there)).1

pub expanding_goes_on : (s : LinkState) (n at : ℕ) (o : Outgoing) (d : Link) (before now after : Reached) → IsBounded s
    → IsOutgoing s (length s.made) o → IsExpanding s n at before now → 0 < at
    → IsQueue after → IsLonger now after → after.here ≡ set now.here (get_or s.made (at - 1) d).to.node true
    → IsExpanding s n (get_or o.earlier (at - 1) 0) before after
expanding_goes_on s n at o d before now after bounded out h some queue longer here =
    let last = out.earlier (at - 1) n d (omega (arith, h.within, some)) (h.there d some) in
    let below : (get_or s.made (at - 1) d).to.node < length now.here =
    omega (arith, h.queue.nodes, to_below s (at - 1) d (omega (arith, h.within, some)) bounded) in
    let link = get_or s.made (at - 1) d in record {
      queue = queue;
      longer = longer_on before now after h.longer longer;
      led = λ m t. elim (old_or_new now.here link.to.node m (sym (ap (λ xs. is_reached xs m) here) ∙ t)) [
        | inl same ↦ inr (subst (IsLed s n) (sym same) (led_by s n (at - 1) d (omega (arith, h.within, some)) (h.there d some)))
        | inr old ↦ h.led m old
      ];
      within = omega (arith, last.within, h.within, some);
      there = last.there;
      done = λ k e low high t. elim (cases_eq k (at - 1)) [
        | inl same ↦ ap (is_reached after.here) (ap (λ i. (get_or s.made i e).to.node) same
            ∙ ap (λ (l : Link). l.to.node) (get_or_default s.made (at - 1) e d (omega (arith, h.within, some))))
            ∙ ap (λ xs. is_reached xs link.to.node) here ∙ get_or-set_same now.here link.to.node true false below
        | inr other ↦ elim (split k (at - 1) other) [
          | inl less ↦ absurd (false_true (sym (last.none k e low less) ∙ t))
          | inr more ↦ longer.here (get_or s.made k e).to.node (h.done k e (omega (arith, more)) high t)
        ]
      ];
    } where
      split : (a b : ℕ) → (a ≡ b → ⊥) → (a < b) ⊎ (b < a)
      split a b ne = grind arith

pub expanding_ends : (s : LinkState) (n at : ℕ) (before now : Reached) → at ≡ 0 → IsExpanding s n at before now → Expands s n before now
expanding_ends s n at before now zero h = record {
  queue = h.queue;
  longer = h.longer;
  led = h.led;
  all = λ m led.
      let w = origin (is_synchronous s) s.made led.link led.there in
      let k = w.0.0 in
      let e : get_or s.made k led.link ≡ led.link = w.0.2 in
      let t : leaves s n (get_or s.made k led.link) ≡ true = ap (leaves s n) e
      ∙ and_from (is_synchronous s led.link) (led.link.from.node == n) w.1 (same led.link.from.node n led.from) in
      ap (is_reached now.here) (sym (ap (λ (l : Link). l.to.node) e ∙ led.to)) ∙ h.done k led.link (omega (arith, zero)) w.0.1 t;
} where
  same : (a b : ℕ) → a ≡ b → (a == b) ≡ true
  same a b e = grind (arith, e)

-- what holds while the nodes are taken one after the other
pub record IsSearched (s : LinkState) (from taken : ℕ) (r : Reached) : Type 0 where
  pub within : taken ≤ r.count
  pub queue : IsQueue r
  pub begin : is_reached r.here from ≡ true
  pub walks : (n : ℕ) → is_reached r.here n ≡ true → IsReachable (synchronous_links s) from n
  pub expanded : (k : ℕ) → k < taken → IsExpanded s (get_or r.order k 0) r.here

pub search_begins : (s : LinkState) (from : ℕ) (r : Reached) → from < 64 → IsQueue r → r.here ≡ set (replicate 64 false) from true
    → IsSearched s from 0 r
search_begins s from r low queue here = record {
  within = omega arith;
  queue = queue;
  begin = ap (λ xs. is_reached xs from) here ∙ get_or-set_same (replicate 64 false) from true false
      (omega (arith, length-replicate 64 false));
  walks = λ n t. elim (old_or_new (replicate 64 false) from n (sym (ap (λ xs. is_reached xs n) here) ∙ t)) [
    | inl same ↦ ([], sym same)
    | inr there ↦ absurd (false_true (sym (none_reached 64 n) ∙ there))
  ];
  expanded = λ k none. absurd (omega arith);
}

pub search_goes_on : (s : LinkState) (from taken : ℕ) (r after : Reached) → IsSearched s from taken r → taken < r.count
    → Expands s (get_or r.order taken 0) r after → IsSearched s from (taken + 1) after
search_goes_on s from taken r after h some x = record {
  within = omega (arith, x.longer.count);
  queue = x.queue;
  begin = x.longer.here from h.begin;
  walks = λ n t. elim (x.led n t) [
    | inl old ↦ h.walks n old
    | inr led ↦ walk_on s from (get_or r.order taken 0) n (h.walks (get_or r.order taken 0) (h.queue.here taken some)) led
  ];
  expanded = λ k below. elim (cases_eq k taken) [
    | inl same ↦ subst (λ (n : ℕ). IsExpanded s n after.here)
        (sym (ap (λ i. get_or after.order i 0) same ∙ x.longer.order taken some)) x.all
    | inr other ↦ subst (λ (n : ℕ). IsExpanded s n after.here) (sym (x.longer.order k (omega (arith, below, other, some))))
        (λ m led. x.longer.here m (h.expanded k (omega (arith, below, other)) m led))
  ];
}

pub taken_below : (s : LinkState) (from taken : ℕ) (r : Reached) → IsSearched s from taken r → taken < r.count → get_or r.order taken 0 < 64
taken_below s from taken r h some = reached_below r (get_or r.order taken 0) h.queue (h.queue.here taken some)

pub search_ends : (s : LinkState) (from to taken : ℕ) (r : Reached) → IsSearched s from taken r → r.count ≤ taken
    → IsReachable (synchronous_links s) from to → is_reached r.here to ≡ true
search_ends s from to taken r h all w = walk_stays s r.here closed w.0 from to w.1 h.begin where
  closed : (n m : ℕ) → is_reached r.here n ≡ true → IsLed s n m → is_reached r.here m ≡ true
  closed n m t led = (let p = h.queue.places n t in
      h.expanded p.0 (omega (arith, p.1, all)) m (subst (λ (k : ℕ). IsLed s k m) (sym p.2) led))
