-- What a line that makes no epoch leaves: the epochs, what was noted of a node, and whether it has
-- given up.
use Rattle.std.proofs.Common.{◌≡◌, ◌⊎◌, inl, inr, ℕ, ◌<◌, ◌==◌, ◌&&◌, ◌||◌, Bool, true, false, not, List, length, refl, sym, ap, ◌∙◌, subst, arith}
use Rattle.std.proofs.Math.ListN.{set, length-set}
use Rattle.std.specs.Int.{bit_at}
use Rattle.std.proofs.lemmas.Nat.Bits.{bit_at-zero, bit_at-lt}
use Rattle.std.proofs.lemmas.Bool.{cases_eq, both_ways, eq-eqb, ne_eqb}
use Rattle.std.proofs.lemmas.List.{get_or-set_same, get_or-set_other}
use Rattle.pw_graph.specs.declared.ids.PortId.{PortId}
use Rattle.graph_script.specs.declared.command.Command.{Command}
use Rattle.graph_script.specs.declared.command.Command.TheVariants as C
use Rattle.link_negotiation.specs.declared.link.Link.{Link}
use Rattle.link_negotiation.specs.declared.unlinking.Unlinked.{Unlinked}
use Rattle.link_negotiation.specs.declared.unlinking.Unlinked.TheVariants as U
use Rattle.link_negotiation.specs.Links.{has_link}
use Rattle.link_negotiation.specs.Unlinking.{without, is_released, giving_up, HasUnlinked}
use Rattle.graph_lines.specs.declared.graph.Graph.{Graph}
use Rattle.graph_lines.specs.declared.graph.Stepped.TheVariants as T
use Rattle.graph_lines.specs.declared.standing.Standing.{Standing}
use Rattle.graph_lines.specs.Activity.{standing, nobody}
use Rattle.graph_lines.specs.Lines.{Does, with_node, made, prior, looped, switched_on, switched_off, mark, Marks}
use Rattle.graph_lines.specs.UnlinkLines.{giving, IsTakenAway, UnlinksLine}
use Rattle.graph_plan.specs.ScriptStreams.{gives_up}
use Rattle.graph_plan.specs.working.SoundGraph.{IsSoundGraph}
use Rattle.graph_plan.proofs.sound.StepLemmas.{IsGoodLine}
use Rattle.graph_plan.proofs.sound.UnlinkLineLemmas.{bit_here, bit_stays, bit_more, giving_at}

or_none : (b : Bool) → b ≡ (b || false)
or_none true = refl
or_none false = refl

pub record LeavesOf (g : Graph) (command : Command) (n : ℕ) (after : Graph) : Type 0 where
  pub epochs : after.epochs ≡ g.epochs
  pub first : after.first ≡ g.first
  pub told : (standing after.nodes n).told ≡ (standing g.nodes n).told
  pub there : (standing g.nodes n).there ≡ true → (standing after.nodes n).there ≡ true
  pub gave : (standing after.nodes n).gave_up ≡ ((standing g.nodes n).gave_up || gives_up g command n)

-- of one node something else is said
module _ (said : List Standing) (m : ℕ) (t : Standing) (within : m < length said) (n : ℕ) where
  set_same : {X : Type 0} (f : Standing → X) → f t ≡ f (standing said m) → f (standing (set said m t) n) ≡ f (standing said n)
  set_same f same = elim (cases_eq n m) [
    | inl e ↦ ap (λ (k : ℕ). f (standing (set said m t) k)) e
        ∙ (ap f (get_or-set_same said m t nobody within) ∙ (same ∙ ap (λ (k : ℕ). f (standing said k)) (sym e)))
    | inr ne ↦ ap f (get_or-set_other said m n t nobody ne)
  ]

  set_there : ((standing said m).there ≡ true → t.there ≡ true) → (standing said n).there ≡ true → (standing (set said m t) n).there ≡ true
  set_there more h = elim (cases_eq n m) [
    | inl e ↦ ap (λ (k : ℕ). (standing (set said m t) k).there) e
        ∙ (ap (λ (s : Standing). s.there) (get_or-set_same said m t nobody within) ∙ more (ap (λ (k : ℕ). (standing said k).there) (sym e) ∙ h))
    | inr ne ↦ ap (λ (s : Standing). s.there) (get_or-set_other said m n t nobody ne) ∙ h
  ]

-- a line that says something of a node but nothing of its epochs
record IsAside (s t : Standing) : Type 0 where
  told : t.told ≡ s.told
  gave : t.gave_up ≡ s.gave_up
  there : s.there ≡ true → t.there ≡ true

said_leaves : (g after : Graph) (command : Command) (n m : ℕ) (t : Standing) → m < length g.nodes → IsAside (standing g.nodes m) t
    → gives_up g command n ≡ false → (nodes : after.nodes ≡ set g.nodes m t) → after.epochs ≡ g.epochs → after.first ≡ g.first
    → LeavesOf g command n after
said_leaves g after command n m t within aside none nodes epochs first = record {
  epochs = epochs;
  first = first;
  told = ap (λ (x : List Standing). (standing x n).told) nodes ∙ set_same g.nodes m t within n (λ (s : Standing). s.told) aside.told;
  there = λ h. ap (λ (x : List Standing). (standing x n).there) nodes ∙ set_there g.nodes m t within n aside.there h;
  gave = (ap (λ (x : List Standing). (standing x n).gave_up) nodes ∙ set_same g.nodes m t within n (λ (s : Standing). s.gave_up) aside.gave)
      ∙ (or_none (standing g.nodes n).gave_up ∙ ap (λ (b : Bool). (standing g.nodes n).gave_up || b) (sym none));
}

-- a line that says nothing of nodes
none_leaves : (g after : Graph) (command : Command) (n : ℕ) → gives_up g command n ≡ false → after.nodes ≡ g.nodes → after.epochs ≡ g.epochs
    → after.first ≡ g.first → LeavesOf g command n after
none_leaves g after command n none nodes epochs first = record {
  epochs = epochs;
  first = first;
  told = ap (λ (x : List Standing). (standing x n).told) nodes;
  there = λ h. ap (λ (x : List Standing). (standing x n).there) nodes ∙ h;
  gave = ap (λ (x : List Standing). (standing x n).gave_up) nodes
      ∙ (or_none (standing g.nodes n).gave_up ∙ ap (λ (b : Bool). (standing g.nodes n).gave_up || b) (sym none));
}

-- AN UNLINK LINE
module _ (g after : Graph) (from to : PortId) (n : ℕ) (small : n < 64) (from_in : from.node < length g.nodes) (to_in : to.node < length g.nodes)
    (h : UnlinksLine g from to after) where
  abbrev left : List Link
  left = without from to g.links.made

  -- a node that keeps its formats, by its bit
  kept_is : (bit_at h.keep n == 0) ≡ not (standing g.nodes n).kept
  kept_is = go (standing g.nodes n).kept refl where
    go : (b : Bool) → (standing g.nodes n).kept ≡ b → (bit_at h.keep n == 0) ≡ not b
    go true e = ap (λ (k : ℕ). k == 0) ((h.kept n small).1 e)
    go false e = elim (cases_eq (bit_at h.keep n) 1) [
      | inl one ↦ absurd (both_ways (standing g.nodes n).kept e ((h.kept n small).0 one))
      | inr ne ↦ ap (λ (k : ℕ). k == 0) (let l = bit_at-lt h.keep n in let z : bit_at h.keep n ≡ 0 = omega (arith, l, ne) in z)
    ]

  released_is : is_released left h.keep n ≡ (not (has_link left n) && not (standing g.nodes n).kept)
  released_is = ap (λ (b : Bool). not (has_link left n) && b) kept_is

  -- the bit of a node of the link
  module _ (gave : ℕ) (is : gave ≡ giving_up left h.keep to.node (giving_up left h.keep from.node 0)) where
    abbrev first_bits : ℕ
    first_bits = giving_up left h.keep from.node 0

    bit_is : ((n ≡ from.node) ⊎ (n ≡ to.node)) → (bit_at gave n == 1) ≡ is_released left h.keep n
    bit_is end = go (is_released left h.keep n) refl where
      set_by : is_released left h.keep n ≡ true → ((n ≡ from.node) ⊎ (n ≡ to.node)) → bit_at (giving_up left h.keep to.node first_bits) n ≡ 1
      set_by e (inl a) = bit_more left h.keep to.node first_bits n
          (subst (λ (k : ℕ). bit_at (giving_up left h.keep from.node 0) k ≡ 1) (sym a)
          (bit_here left h.keep from.node 0 (ap (is_released left h.keep) (sym a) ∙ e)))
      set_by e (inr b) = subst (λ (k : ℕ). bit_at (giving_up left h.keep to.node first_bits) k ≡ 1) (sym b)
          (bit_here left h.keep to.node first_bits (ap (is_released left h.keep) (sym b) ∙ e))

      go : (r : Bool) → is_released left h.keep n ≡ r → (bit_at gave n == 1) ≡ r
      go true e = eq-eqb (bit_at gave n) 1 (ap (λ (k : ℕ). bit_at k n) is ∙ set_by e end)
      go false e = ap (λ (k : ℕ). k == 1) (ap (λ (k : ℕ). bit_at k n) is
          ∙ (bit_stays left h.keep to.node first_bits n (λ d. ap (is_released left h.keep) (sym d) ∙ e)
          ∙ (bit_stays left h.keep from.node 0 n (λ d. ap (is_released left h.keep) (sym d) ∙ e) ∙ bit_at-zero n)))

  -- one of the two that is given a bit
  flag_at : (gave m : ℕ) (said : List Standing) → m < length said
      → (standing (giving gave m said) n).gave_up ≡ ((standing said n).gave_up || ((n == m) && (bit_at gave n == 1)))
  flag_at gave m said within = elim (giving_at gave m said within n) [
    | inl w ↦ ap (λ (s : Standing). s.gave_up) w.1
        ∙ (ap (λ (k : ℕ). (standing said n).gave_up || (bit_at gave k == 1)) (sym w.0)
        ∙ ap (λ (b : Bool). (standing said n).gave_up || (b && (bit_at gave n == 1))) (sym (eq-eqb n m w.0)))
    | inr w ↦ ap (λ (s : Standing). s.gave_up) w.1
        ∙ (or_none (standing said n).gave_up
        ∙ ap (λ (b : Bool). (standing said n).gave_up || (b && (bit_at gave n == 1))) (sym (ne_eqb n m w.0)))
  ]

  two : (f a b s r : Bool) → (a ≡ true → s ≡ r) → (b ≡ true → s ≡ r) → ((f || (a && s)) || (b && s)) ≡ (f || ((a || b) && r))
  two true a b s r h k = refl
  two false true true s r h k = go s r (h refl) where
    go : (s r : Bool) → s ≡ r → (s || s) ≡ r
    go true r e = e
    go false r e = e
  two false true false s r h k = sym (or_none s) ∙ h refl
  two false false true s r h k = k refl
  two false false false s r h k = refl

  end_of : (m : ℕ) → (n == m) ≡ true → n ≡ m
  end_of m e = elim (cases_eq n m) [ inl d ↦ d | inr ne ↦ absurd (both_ways (n == m) (ne_eqb n m ne) e) ]

  gave_is : (standing after.nodes n).gave_up ≡ ((standing g.nodes n).gave_up || gives_up g (C.Unlink from to) n)
  gave_is = go h.unlinked h.outcome h.noted where
    go : (u : Unlinked) → HasUnlinked g.links g.ports from to h.keep u after.links after.ports → IsTakenAway g from to u after
        → (standing after.nodes n).gave_up ≡ ((standing g.nodes n).gave_up || gives_up g (C.Unlink from to) n)
    go U.NotThere o w = ap (λ (x : List Standing). (standing x n).gave_up) w.1
        ∙ (or_none (standing g.nodes n).gave_up
        ∙ ap (λ (b : Bool). (standing g.nodes n).gave_up || (b && (((n == from.node) || (n == to.node))
        && (not (has_link left n) && not (standing g.nodes n).kept)))) (sym o.0))
    go (U.Gone gave) o w =
        let said_first = giving gave from.node g.nodes in
        let many = length-set g.nodes from.node (record (standing g.nodes from.node) {
          gave_up = (standing g.nodes from.node).gave_up || (bit_at gave from.node == 1);
        }) in
        let there : to.node < length (giving gave from.node g.nodes) = omega (arith, to_in, many) in
        ap (λ (x : List Standing). (standing x n).gave_up) w.1
        ∙ (flag_at gave to.node (giving gave from.node g.nodes) there
        ∙ (ap (λ (f : Bool). f || ((n == to.node) && (bit_at gave n == 1))) (flag_at gave from.node g.nodes from_in)
        ∙ (two (standing g.nodes n).gave_up (n == from.node) (n == to.node) (bit_at gave n == 1) (not (has_link left n) && not (standing g.nodes n).kept)
        (λ e. bit_is gave o.2 (inl (end_of from.node e)) ∙ released_is) (λ e. bit_is gave o.2 (inr (end_of to.node e)) ∙ released_is)
        ∙ ap (λ (b : Bool). (standing g.nodes n).gave_up || (b && (((n == from.node) || (n == to.node))
        && (not (has_link left n) && not (standing g.nodes n).kept)))) (sym o.0))))

  -- the rest
  alike : {X : Type 0} (f : Standing → X) → ((s : Standing) (b : Bool) → f (record s { gave_up = b }) ≡ f s)
      → f (standing after.nodes n) ≡ f (standing g.nodes n)
  alike f same = go h.unlinked h.noted where
    given : (gave m : ℕ) (said : List Standing) → m < length said → f (standing (giving gave m said) n) ≡ f (standing said n)
    given gave m said within = set_same said m (record (standing said m) {
      gave_up = (standing said m).gave_up || (bit_at gave m == 1);
    }) within n f (same (standing said m) ((standing said m).gave_up || (bit_at gave m == 1)))

    go : (u : Unlinked) → IsTakenAway g from to u after → f (standing after.nodes n) ≡ f (standing g.nodes n)
    go U.NotThere w = ap (λ (x : List Standing). f (standing x n)) w.1
    go (U.Gone gave) w =
        let many = length-set g.nodes from.node (record (standing g.nodes from.node) {
          gave_up = (standing g.nodes from.node).gave_up || (bit_at gave from.node == 1);
        }) in
        let there : to.node < length (giving gave from.node g.nodes) = omega (arith, to_in, many) in
        ap (λ (x : List Standing). f (standing x n)) w.1
        ∙ (given gave to.node (giving gave from.node g.nodes) there ∙ given gave from.node g.nodes from_in)

  unlink_leaves : LeavesOf g (C.Unlink from to) n after
  unlink_leaves = record {
    epochs = ap (λ (x : Graph). x.epochs) h.same;
    first = ap (λ (x : Graph). x.first) h.same;
    told = alike (λ (s : Standing). s.told) (λ s b. refl);
    there = λ d. alike (λ (s : Standing). s.there) (λ s b. refl) ∙ d;
    gave = gave_is;
  }

-- ANY LINE THAT MAKES NO EPOCH
module _ (count : ℕ) (g after : Graph) (n : ℕ) (small : n < 64) (sound : IsSoundGraph count g) where
  inside : (m : ℕ) → m < length g.kinds → m < length g.nodes
  inside m l = let e = sound.nodes in omega (arith, l, e)

  makes : (command : Command) (m : ℕ) → m < length g.kinds → gives_up g command n ≡ false → after ≡ with_node g m made → LeavesOf g command n after
  makes command m l none same = said_leaves g after command n m (made (standing g.nodes m)) (inside m l)
      (record { told = refl; gave = refl; there = λ h. refl }) none (ap (λ (x : Graph). x.nodes) same) (ap (λ (x : Graph). x.epochs) same)
      (ap (λ (x : Graph). x.first) same)

  tells : (command : Command) (m : ℕ) (t : Standing) → m < length g.kinds → IsAside (standing g.nodes m) t → gives_up g command n ≡ false
      → after ≡ record g { nodes = set g.nodes m t } → LeavesOf g command n after
  tells command m t l aside none same = said_leaves g after command n m t (inside m l) aside none (ap (λ (x : Graph). x.nodes) same)
      (ap (λ (x : Graph). x.epochs) same) (ap (λ (x : Graph). x.first) same)

  marks : (m : ℕ) → m < length g.kinds → Marks g m after → LeavesOf g (C.Async m) n after
  marks m l (inl h) = none_leaves g after (C.Async m) n refl (ap (λ (x : Graph). x.nodes) h.1) (ap (λ (x : Graph). x.epochs) h.1)
      (ap (λ (x : Graph). x.first) h.1)
  marks m l (inr h) = said_leaves g after (C.Async m) n m (mark (standing g.nodes m)) (inside m l)
      (record { told = refl; gave = refl; there = λ d. d }) refl (ap (λ (x : Graph). x.nodes) h.1) (ap (λ (x : Graph). x.epochs) h.1)
      (ap (λ (x : Graph). x.first) h.1)

  aside : (s t : Standing) → t.told ≡ s.told → t.gave_up ≡ s.gave_up → t.there ≡ s.there → IsAside s t
  aside s t a b c = record { told = a; gave = b; there = λ h. c ∙ h }

  pub line_leaves : (command : Command) → IsGoodLine count g.kinds command → Does g command T.Done after → LeavesOf g command n after
  line_leaves (C.Source m file) l h = makes (C.Source m file) m l.nodes refl h.1
  line_leaves (C.Square m rate channels period amp) l h = makes (C.Square m rate channels period amp) m l.nodes refl h.1
  line_leaves (C.Gain m gain) l h = makes (C.Gain m gain) m l.nodes refl h.1
  line_leaves (C.Mix2 m ga gb) l h = makes (C.Mix2 m ga gb) m l.nodes refl h.1
  line_leaves (C.Delay m frames) l h = makes (C.Delay m frames) m l.nodes refl h.1
  line_leaves (C.Map m channels list) l h = makes (C.Map m channels list) m l.nodes refl h.1
  line_leaves (C.Split m) l h = makes (C.Split m) m l.nodes refl h.1
  line_leaves (C.Sink m file) l h = makes (C.Sink m file) m l.nodes refl h.1
  line_leaves (C.Meter m) l h = makes (C.Meter m) m l.nodes refl h.1
  line_leaves (C.Driver m p) l h = tells (C.Driver m p) m (prior p (standing g.nodes m)) l.nodes
      (aside (standing g.nodes m) (prior p (standing g.nodes m)) refl refl refl) refl h.1
  line_leaves (C.Loop m k) l h = tells (C.Loop m k) m (looped k (standing g.nodes m)) l.nodes
      (aside (standing g.nodes m) (looped k (standing g.nodes m)) refl refl refl) refl h.1
  line_leaves (C.On m) l h = tells (C.On m) m (switched_on (standing g.nodes m)) l.nodes
      (aside (standing g.nodes m) (switched_on (standing g.nodes m)) refl refl refl) refl h.1
  line_leaves (C.Off m) l h = tells (C.Off m) m (switched_off (standing g.nodes m)) l.nodes
      (aside (standing g.nodes m) (switched_off (standing g.nodes m)) refl refl refl) refl h.1
  line_leaves (C.Async m) l h = marks m l.nodes h.1
  line_leaves (C.Buffers port k) l h = none_leaves g after (C.Buffers port k) n refl (ap (λ (x : Graph). x.nodes) h.1)
      (ap (λ (x : Graph). x.epochs) h.1) (ap (λ (x : Graph). x.first) h.1)
  line_leaves (C.Link from to) l h = none_leaves g after (C.Link from to) n refl (ap (λ (x : Graph). x.nodes) h.same)
      (ap (λ (x : Graph). x.epochs) h.same) (ap (λ (x : Graph). x.first) h.same)
  line_leaves (C.Unlink from to) l h = unlink_leaves g after from to n small (inside from.node l.nodes.0) (inside to.node l.nodes.1) h.1
  line_leaves (C.Quantum k) l h = none_leaves g after (C.Quantum k) n refl (ap (λ (x : Graph). x.nodes) h.1)
      (ap (λ (x : Graph). x.epochs) h.1) (ap (λ (x : Graph). x.first) h.1)
  line_leaves (C.Offer port file) l h = none_leaves g after (C.Offer port file) n refl (ap (λ (x : Graph). x.nodes) h.1)
      (ap (λ (x : Graph). x.epochs) h.1) (ap (λ (x : Graph). x.first) h.1)
  line_leaves (C.Cycles k) l h = absurd h
  line_leaves C.Drain l h = absurd h
