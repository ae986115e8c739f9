-- Links change no kinds, and so no ports.
use Rattle.std.proofs.Common.{◌≡◌, ℕ, zero, suc, List, [], ◌∷◌, ◌++◌, length, get_or, map, Bool, true, false, refl, sym, ap, ◌∙◌, subst}
use Rattle.std.proofs.Common.{arith}
use Rattle.std.specs.Prelude.{slice_get, if◌then◌else◌, Result, Ok, Err, IfOk, OnErr}
use Rattle.pw_lists.specs.declared.memory.Memory.{Memory}
use Rattle.format_filter.specs.declared.format.Format.{Format}
use Rattle.format_filter.specs.declared.common.Filtered.TheVariants.{Common}
use Rattle.format_filter.specs.CommonFormat.{Filters}
use Rattle.port_model.specs.declared.narrowing.Narrowed.{Narrowed}
use Rattle.port_model.specs.declared.narrowing.Narrowed.TheVariants.{Done, NotFormat, Clash}
use Rattle.port_model.specs.Narrowing.{Narrows}
use Rattle.std.specs.Option.{option_map_or}
use Rattle.pw_graph.specs.KindPorts.{port_count, input_count}
use Rattle.pw_graph.specs.declared.ids.PortId.{PortId}
use Rattle.port_model.specs.declared.port_state.PortState.{PortState}
use Rattle.port_model.specs.declared.port_state.Node.{Node}
use Rattle.port_model.proofs.ChangedLemmas.{length-changed}
use Rattle.port_model.proofs.NodeLemmas.{at_port}
use Rattle.link_negotiation.proofs.MayBeGivenLemmas.{IsThere}
use Rattle.std.proofs.lemmas.List.{length-append}
use Rattle.port_model.specs.PortState.{changed, offering, with_port, with_released, released, port_count_of, input_count_of}
use Rattle.link_negotiation.specs.declared.negotiation.Linked.{Linked}
use Rattle.link_negotiation.specs.declared.negotiation.Linked.TheVariants.{Made, NoFormat, NoBuffers, Twice, Loop, Many}
use Rattle.link_negotiation.specs.declared.unlinking.Unlinked.{Unlinked}
use Rattle.link_negotiation.specs.declared.unlinking.Unlinked.TheVariants.{Gone, NotThere}
use Rattle.link_negotiation.specs.Links.{LinkState}
use Rattle.link_tests.specs.Counted.{AreCounted}
use Rattle.link_negotiation.specs.LinkOutcome.{given, LeavesLink}
use Rattle.link_negotiation.specs.Unlinking.{HasUnlinked, is_released, without}

-- the nodes have the same numbers of ports
pub record SamePorts (nodes after : List Node) : Type 0 where
  pub long : length after ≡ length nodes
  pub ports : (k : ℕ) → port_count_of after k ≡ port_count_of nodes k
  pub inputs : (k : ℕ) → input_count_of after k ≡ input_count_of nodes k

count_of_changed : (h : Node → ℕ) (g : Node → Node) → ((n : Node) → h (g n) ≡ h n) → (ns : List Node) (i k : ℕ)
    → option_map_or h (slice_get (changed ns i g) k) 0 ≡ option_map_or h (slice_get ns k) 0
count_of_changed h g same [] i k = refl
count_of_changed h g same (n ∷ ns) zero zero = same n
count_of_changed h g same (n ∷ ns) zero (suc k) = refl
count_of_changed h g same (n ∷ ns) (suc i) zero = refl
count_of_changed h g same (n ∷ ns) (suc i) (suc k) = count_of_changed h g same ns i k

pub same_port : (nodes : List Node) (port : PortId) (f : PortState → PortState) → SamePorts nodes (with_port nodes port f)
same_port nodes port f = record {
  long = length-changed nodes port.node (λ node. record node { ports = changed node.ports port.port f });
  ports = count_of_changed (λ n. port_count n.kind) (λ node. record node { ports = changed node.ports port.port f })
      (λ n. refl) nodes port.node;
  inputs = count_of_changed (λ n. input_count n.kind) (λ node. record node { ports = changed node.ports port.port f })
      (λ n. refl) nodes port.node;
}

same_released : (nodes : List Node) (n : ℕ) (b : Bool) → SamePorts nodes (if b then with_released nodes n else nodes)
same_released nodes n true = record {
  long = length-changed nodes n (λ node. record node { ports = map released node.ports });
  ports = count_of_changed (λ m. port_count m.kind) (λ node. record node { ports = map released node.ports }) (λ m. refl) nodes n;
  inputs = count_of_changed (λ m. input_count m.kind) (λ node. record node { ports = map released node.ports }) (λ m. refl) nodes n;
}
same_released nodes n false = record { long = refl; ports = λ k. refl; inputs = λ k. refl }

both : (a b c : List Node) → SamePorts a b → SamePorts b c → SamePorts a c
both a b c p q = record { long = q.long ∙ p.long; ports = λ k. q.ports k ∙ p.ports k; inputs = λ k. q.inputs k ∙ p.inputs k }

equal : (nodes after : List Node) → after ≡ nodes → SamePorts nodes after
equal nodes after e = record {
  long = ap (λ (ns : List Node). length ns) e;
  ports = λ k. ap (λ (ns : List Node). port_count_of ns k) e;
  inputs = λ k. ap (λ (ns : List Node). input_count_of ns k) e;
}

pub link_keeps : (s t : LinkState) (nodes after : List Node) (from to : PortId) (linked : Linked)
    → LeavesLink s nodes from to linked t after → SamePorts nodes after
link_keeps s t nodes after from to (Made format buffers) w =
    both nodes (with_port (with_port nodes from (given format)) to (given format)) after
    (both nodes (with_port nodes from (given format)) (with_port (with_port nodes from (given format)) to (given format))
    (same_port nodes from (given format)) (same_port (with_port nodes from (given format)) to (given format)))
    (equal _ after w.1)
link_keeps s t nodes after from to (NoFormat key) w = equal nodes after w.1
link_keeps s t nodes after from to NoBuffers w = equal nodes after w.1
link_keeps s t nodes after from to Twice w = equal nodes after w.1
link_keeps s t nodes after from to Loop w = equal nodes after w.1
link_keeps s t nodes after from to Many w = equal nodes after w.1

pub unlink_keeps : (s t : LinkState) (nodes after : List Node) (from to : PortId) (keep : ℕ) (unlinked : Unlinked)
    → HasUnlinked s nodes from to keep unlinked t after → SamePorts nodes after
unlink_keeps s t nodes after from to keep NotThere w = equal nodes after w.2
unlink_keeps s t nodes after from to keep (Gone gave_up) w =
    let made = without from to s.made in
    let first = is_released made keep from.node in
    let middle = if first then with_released nodes from.node else nodes in
    let second = is_released made keep to.node in
    both nodes (if second then with_released middle to.node else middle) after
    (both nodes middle (if second then with_released middle to.node else middle) (same_released nodes from.node first)
    (same_released middle to.node second))
    (equal _ after w.3)

pub link_same : (r : Result Linked Memory) (s t : LinkState) (nodes after : List Node) (from to : PortId)
    → IfOk r (λ linked. LeavesLink s nodes from to linked t after) → OnErr r ((t ≡ s) × (after ≡ nodes)) → SamePorts nodes after
link_same (Ok linked) s t nodes after from to ok err = link_keeps s t nodes after from to linked ok
link_same (Err e) s t nodes after from to ok err = equal nodes after err.1

-- an offer too
pub narrow_keeps : (nodes after : List Node) (port : PortId) (file : Format) (narrowed : Narrowed) → IsThere nodes port
    → Narrows nodes port file narrowed after → SamePorts nodes after
narrow_keeps nodes after port file NotFormat there w = equal nodes after w.1
narrow_keeps nodes after port file (Clash key) there w = equal nodes after w.1
narrow_keeps nodes after port file Done there w =
    let v = at_port (λ node s. (own : Format) × Filters s.own file (Common own) × (after ≡ with_port nodes port (offering own)))
    nodes port there.node there.state there.node_is there.state_is w in
    both nodes (with_port nodes port (offering v.0)) after (same_port nodes port (offering v.0))
    (equal (with_port nodes port (offering v.0)) after v.2)

-- so their counts stay
pub counted_still : (nodes after : List Node) (ins all : List ℕ) → SamePorts nodes after → AreCounted nodes ins all
    → AreCounted after ins all
counted_still nodes after ins all same h = record {
  ins_long = h.ins_long ∙ sym same.long;
  all_long = h.all_long ∙ sym same.long;
  inputs = λ k. h.inputs k ∙ sym (same.inputs k);
  ports = λ k. h.ports k ∙ sym (same.ports k);
}

-- one node more
one_more : (f : Node → ℕ) (ns : List Node) (xs : List ℕ) (n : Node) (x : ℕ) → x ≡ f n → length xs ≡ length ns
    → ((k : ℕ) → get_or xs k 0 ≡ option_map_or f (slice_get ns k) 0) → (k : ℕ)
    → get_or (xs ++ x ∷ []) k 0 ≡ option_map_or f (slice_get (ns ++ n ∷ []) k) 0
one_more f [] [] n x e l h zero = e
one_more f [] [] n x e l h (suc k) = refl
one_more f [] (y ∷ xs) n x e l h k = absurd (omega (arith, l))
one_more f (m ∷ ns) [] n x e l h k = absurd (omega (arith, l))
one_more f (m ∷ ns) (y ∷ xs) n x e l h zero = h 0
one_more f (m ∷ ns) (y ∷ xs) n x e l h (suc k) = one_more f ns xs n x e (omega (arith, l)) (λ j. h (suc j)) k

pub counted_more : (nodes : List Node) (ins all : List ℕ) (node : Node) (i c : ℕ) → i ≡ input_count node.kind → c ≡ port_count node.kind
    → AreCounted nodes ins all → AreCounted (nodes ++ node ∷ []) (ins ++ i ∷ []) (all ++ c ∷ [])
counted_more nodes ins all node i c ei ec h = record {
  ins_long = omega (arith, length-append ins (i ∷ []), length-append nodes (node ∷ []), h.ins_long);
  all_long = omega (arith, length-append all (c ∷ []), length-append nodes (node ∷ []), h.all_long);
  inputs = one_more (λ n. input_count n.kind) nodes ins node i ei h.ins_long h.inputs;
  ports = one_more (λ n. port_count n.kind) nodes all node c ec h.all_long h.ports;
}

pub counted_added : (nodes after : List Node) (ins more_ins all more_all : List ℕ) (node : Node) (i c : ℕ) → i ≡ input_count node.kind
    → c ≡ port_count node.kind
    → after ≡ nodes ++ node ∷ [] → more_ins ≡ ins ++ i ∷ [] → more_all ≡ all ++ c ∷ [] → AreCounted nodes ins all
    → AreCounted after more_ins more_all
counted_added nodes after ins more_ins all more_all node i c ei ec en ein eal h =
    subst (λ (xs : List ℕ). AreCounted after more_ins xs) (sym eal)
    (subst (λ (xs : List ℕ). AreCounted after xs (all ++ c ∷ [])) (sym ein)
    (subst (λ (ns : List Node). AreCounted ns (ins ++ i ∷ []) (all ++ c ∷ [])) (sym en) (counted_more nodes ins all node i c ei ec h)))

pub counted_none : (nodes : List Node) (ins all : List ℕ) → nodes ≡ [] → ins ≡ [] → all ≡ [] → AreCounted nodes ins all
counted_none nodes ins all en ein eal =
    subst (λ (xs : List ℕ). AreCounted nodes ins xs) (sym eal)
    (subst (λ (xs : List ℕ). AreCounted nodes xs []) (sym ein) (subst (λ (ns : List Node). AreCounted ns [] []) (sym en) none)) where
      none : AreCounted [] [] []
      none = record { ins_long = refl; all_long = refl; inputs = λ k. refl; ports = λ k. refl }
