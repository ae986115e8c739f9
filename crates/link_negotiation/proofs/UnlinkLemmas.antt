-- Links that are taken away, and where their nodes are.
use Rattle.std.proofs.Common.{◌≡◌, ℕ, zero, suc, ◌+◌, ◌<◌, ◌≤◌, get_or, take, drop, cond, not, List, [], ◌∷◌, length, map, Bool}
use Rattle.std.proofs.Common.{true, false, Option, Some, None, refl, sym, ap, ◌∙◌, subst, arith}
use Rattle.std.specs.List.{All, filter, remove}
use Rattle.std.proofs.lemmas.List.Elements.{All-head, All-tail, All-more}
use Rattle.std.proofs.lemmas.List.{take_all, length-append, length-take, length-drop}
use Rattle.std.specs.Prelude.{slice_get, if◌then◌else◌}
use Rattle.std.specs.Option.{option_map_or}
use Rattle.std.proofs.lemmas.Option.{slice_get_past}
use Rattle.std.proofs.lemmas.Bool.{and_parts}
use Rattle.std.proofs.lemmas.List.Folds.{Any-from_list_any}
use Rattle.std.proofs.lemmas.List.Sums.{length-filter, count_by-le-length}
use Rattle.pw_graph.specs.KindPorts.{port_count, input_count}
use Rattle.pw_graph.specs.declared.ids.PortId.{PortId}
use Rattle.pw_graph.specs.Pools.{is_same_port}
use Rattle.pw_graph.proofs.PoolLemmas.{same_port}
use Rattle.port_model.specs.declared.port_state.Node.{Node}
use Rattle.port_model.specs.PortState.{IsPort, IsInput, with_released, released}
use Rattle.port_model.proofs.ChangedLemmas.{length-changed}
use Rattle.link_negotiation.specs.declared.link.Link.{Link}
use Rattle.link_negotiation.specs.Links.{joins, are_linked}
use Rattle.link_negotiation.specs.Unlinking.{is_released, releasing, without}

-- a port that is there is of a node that is there
pub node_there : (nodes : List Node) (port : PortId) → IsPort nodes port → port.node < length nodes
node_there nodes port there = grind (
  arith,
  slice_get_past nodes port.node,
  ap (λ (o : Option Node). option_map_or (λ (n : Node). port_count n.kind) o 0),
  there,
)

-- the nodes of a link that is there have numbers below 64
pub linked_below : (made : List Link) (from to : PortId) → All (λ l. (l.from.node < 64) × (l.to.node < 64)) made
    → are_linked made from to ≡ true → (from.node < 64) × (to.node < 64)
linked_below made from to h e =
    let w = Any-from_list_any (joins from to) made e in
    let two = and_parts (is_same_port w.1.from from) (is_same_port w.1.to to) w.4 in
    let one : w.1.from.node ≡ from.node = ap (λ p. p.node) (same_port w.1.from from two.0) in
    let other : w.1.to.node ≡ to.node = ap (λ p. p.node) (same_port w.1.to to two.1) in
    let bound = subst (λ (l : Link). (l.from.node < 64) × (l.to.node < 64)) w.3 (h w.0 w.1 w.2) in
    (omega (arith, bound.0, one), omega (arith, bound.1, other))

-- a release keeps how many nodes there are
length_either : (b : Bool) (nodes : List Node) (n : ℕ) → length (if b then with_released nodes n else nodes) ≡ length nodes
length_either true nodes n = length-changed nodes n (λ node. record node { ports = map released node.ports })
length_either false nodes n = refl

pub length-releasing : (made : List Link) (keep n : ℕ) (nodes : List Node) → length (releasing made keep n nodes) ≡ length nodes
length-releasing made keep n nodes = length_either (is_released made keep n) nodes n

-- an input is a port
some_input : (o : Option Node) (n : ℕ) → n < option_map_or (λ (m : Node). input_count m.kind) o 0
    → n < option_map_or (λ (m : Node). port_count m.kind) o 0
some_input None n h = h
some_input (Some m) n h = omega arith

pub input_there : (nodes : List Node) (port : PortId) → IsInput nodes port → IsPort nodes port
input_there nodes port h = some_input (slice_get nodes port.node) port.port h

-- what is left of links when one that does not pass is taken out, and when all pass
pub filter-remove : (p : Link → Bool) (xs : List Link) (i : ℕ) (d : Link) → i < length xs → p (get_or xs i d) ≡ false
    → filter p (remove xs i) ≡ filter p xs
filter-remove p [] i d l e = absurd (omega arith)
filter-remove p (x ∷ xs) zero d l e = sym (ap (λ (b : Bool). cond b (x ∷ filter p xs) (filter p xs)) e)
filter-remove p (x ∷ xs) (suc i) d l e = ap (λ (zs : List Link). cond (p x) (x ∷ zs) zs) (filter-remove p xs i d (omega arith) e)

pub take-remove : (xs : List Link) (i : ℕ) → i < length xs → take i (remove xs i) ≡ take i xs
take-remove [] i l = absurd (omega arith)
take-remove (x ∷ xs) zero l = refl
take-remove (x ∷ xs) (suc i) l = ap (λ (zs : List Link). x ∷ zs) (take-remove xs i (omega arith))

pub filter_whole : (p : Link → Bool) (xs : List Link) → All (λ x. p x ≡ true) xs → filter p xs ≡ xs
filter_whole p [] h = refl
filter_whole p (x ∷ xs) h =
    ap (λ (b : Bool). cond b (x ∷ filter p xs) (filter p xs)) (All-head (λ (y : Link). p y ≡ true) x xs h)
    ∙ ap (λ (zs : List Link). x ∷ zs) (filter_whole p xs (All-tail (λ (y : Link). p y ≡ true) x xs h))

pub fewer_links : (p : Link → Bool) (xs : List Link) → length (filter p xs) ≤ length xs
fewer_links p xs = omega (arith, length-filter p xs, count_by-le-length p xs)

not_false : (b : Bool) → b ≡ false → not b ≡ true
not_false true e = absurd (cc (e))
not_false false e = refl

pub passes : (b : Bool) → b ≡ true → not b ≡ false
passes true e = refl
passes false e = absurd (cc (e))

-- the loop that takes a link out: what is left to pass, and what has passed
pub record IsTaken (from to : PortId) (initial made : List Link) (at : ℕ) : Type 0 where
  pub within : at ≤ length made
  pub same : without from to made ≡ without from to initial
  pub kept : All (λ l. not (joins from to l) ≡ true) (take at made)

pub taken_out : (from to : PortId) (initial made : List Link) (at : ℕ) (d : Link) → at < length made
    → joins from to (get_or made at d) ≡ true → IsTaken from to initial made at → IsTaken from to initial (remove made at) at
taken_out from to initial made at d l e h = record {
  within = omega (arith, length-append (take at made) (drop (suc at) made), length-take at made, length-drop (suc at) made);
  same = filter-remove (λ l. not (joins from to l)) made at d l (passes (joins from to (get_or made at d)) e) ∙ h.same;
  kept = subst (λ (xs : List Link). All (λ (l : Link). not (joins from to l) ≡ true) xs) (sym (take-remove made at l)) h.kept;
}

pub passed_by : (from to : PortId) (initial made : List Link) (at : ℕ) (d : Link) → at < length made
    → joins from to (get_or made at d) ≡ false → IsTaken from to initial made at → IsTaken from to initial made (at + 1)
passed_by from to initial made at d l e h = record {
  within = omega arith;
  same = h.same;
  kept = All-more (λ (l : Link). not (joins from to l) ≡ true) made at d l h.kept (not_false (joins from to (get_or made at d)) e);
}

pub all_passed : (from to : PortId) (initial made : List Link) (at : ℕ) → length made ≤ at → IsTaken from to initial made at
    → made ≡ without from to initial
all_passed from to initial made at l h =
    sym (filter_whole (λ l. not (joins from to l)) made
    (subst (λ (xs : List Link). All (λ (l : Link). not (joins from to l) ≡ true) xs) (take_all at made l) h.kept)) ∙ h.same
