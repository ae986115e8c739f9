-- An epoch from its parts.
use Rattle.std.proofs.Common.{◌≡◌, inl, inr, ℕ, ◌+◌, ◌<◌, ◌≤◌, ◌==◌, ◌&&◌, Bool, true, false, List, [], ◌∷◌, ◌++◌, map, length, get_or, take, append-nil}
use Rattle.std.proofs.Common.{refl, sym, ap, ◌∙◌, subst, arith, cond, suc, ne_eqb, eq-eqb}
use Rattle.std.specs.Prelude.{All, Contains, filter, None, Result, Ok, Err, IfOk, slice_index_or, if◌then◌else◌}
use Rattle.std.specs.List.{list_any, AllZip, range_with_len}
use Rattle.std.specs.List.Sorted.{IsStrictlyIncreasing}
use Rattle.std.proofs.lemmas.Bool.{cases_lt}
use Rattle.std.proofs.lemmas.Option.{none-some}
use Rattle.std.proofs.lemmas.List.{get_or_past, get_or_default, length-map}
use Rattle.std.proofs.lemmas.List.Elements.{All-nil, All-cons, All-head, All-tail, All-filter, filter_agree, filter_more}
use Rattle.std.proofs.lemmas.Slice.Zip.{all_zipped_more}
use Rattle.std.proofs.lemmas.List.Folds.{list_any_none, list_any_at}
use Rattle.std.proofs.lemmas.List.FromFn.{length-range_with_len}
use Rattle.pw_lists.specs.declared.memory.Memory.{Memory}
use Rattle.pw_graph.specs.declared.kind.Kind.{Kind}
use Rattle.pw_graph.specs.declared.kind.Kind.TheVariants.{Dummy}
use Rattle.pw_graph.specs.declared.plan.Fresh.{Fresh}
use Rattle.pw_graph.specs.declared.plan.PortForm.{PortForm}
use Rattle.pw_graph.specs.declared.shape.Shape.{Shape}
use Rattle.pw_graph.specs.declared.shape.ShapeLink.{ShapeLink}
use Rattle.pw_graph.specs.declared.shape.ShapeNode.{ShapeNode}
use Rattle.pw_graph.specs.Dependencies.{nodes_of}
use Rattle.pw_graph.specs.LinkOrder.{IsWithinNodes}
use Rattle.pw_graph.specs.SoundShape.{IsCounted}
use Rattle.port_model.specs.declared.port_state.Node.{Node}
use Rattle.port_model.specs.SoundPorts.{AreSoundNodes}
use Rattle.link_negotiation.proofs.MayBeGivenLemmas.{below}
use Rattle.graph_lines.specs.declared.epochs.ActiveNodes.{ActiveNodes}
use Rattle.graph_lines.specs.declared.graph.Graph.{Graph}
use Rattle.graph_lines.specs.declared.standing.Standing.{Standing}
use Rattle.graph_lines.specs.declared.wire.Wire.{Wire}
use Rattle.graph_lines.specs.Activity.{nobody, standing, is_live, live_wires, may_drive, IsDriver, IsActive}
use Rattle.graph_lines.specs.Epochs.{has_node, is_used, IsLinkOf, IsEpochOf}
use Rattle.graph_lines.specs.Searching.{is_in, numbers_in, IsWithin}
use Rattle.graph_lines.specs.Ready.{IsReadyWire, IsReady}
use Rattle.graph_lines.specs.Gathering.{IsActivityOf, is_used_in, IsShapeOf, HasFormsOf, HasFreshBelow}
use Rattle.graph_lines.proofs.CountingLemmas.{numbers_ascend, contains_numbers, numbers_contain}
use Rattle.graph_lines.proofs.FreshLemmas.{fresh_below}
use Rattle.graph_lines.proofs.PortLemmas.{input_is_port}

-- a number that is in is one of those of the row
pub in_below : (here : List Bool) (n : ℕ) → is_in here n ≡ true → n < length here
in_below here n e = elim (cases_lt n (length here)) [
  | inl l ↦ l
  | inr past ↦ absurd (differ (sym (get_or_past here n false past) ∙ e))
] where
  differ : false ≡ true → ⊥
  differ e = cc

-- the numbers that are in hold a number just where it is in
pub numbers_hold : (here : List Bool) (n : ℕ) → length here ≡ 64 → list_any (λ m. m == n) (numbers_in here 64) ≡ is_in here n
numbers_hold here n long = go (is_in here n) refl where
  differ : false ≡ true → ⊥
  differ p = cc

  go : (b : Bool) → is_in here n ≡ b → list_any (λ m. m == n) (numbers_in here 64) ≡ is_in here n
  go true e =
      let w = numbers_contain here 64 n (let l = in_below here n e in omega (arith, l, long)) e in
      list_any_at (λ m. m == n) (numbers_in here 64) w.0 n w.1 (eq-eqb (get_or (numbers_in here 64) w.0 n) n w.2) ∙ sym e
  go false e = list_any_none (λ m. m == n) (numbers_in here 64) (λ k d l. ne_eqb (get_or (numbers_in here 64) k d) n (λ same.
      differ (sym e ∙ contains_numbers here 64 n (k, l, get_or_default (numbers_in here 64) k n d l ∙ same)))) ∙ sym e

-- the links of wires that are sound
pub wires_within : (nodes : List Node) (wires : List Wire) → AreSoundNodes nodes → All (IsReadyWire nodes) wires → All IsWithin wires
wires_within nodes wires sound each k d l =
    let w = each k d l in
    (below nodes (get_or wires k d).from sound w.output.1, below nodes (get_or wires k d).to sound (input_is_port nodes (get_or wires k d).to w.input))

pub links_within : (g : Graph) (wires : List Wire) (links : List ShapeLink) → AllZip (IsLinkOf g) wires links → All IsWithin wires → All IsWithinNodes links
links_within g [] [] z h = All-nil IsWithinNodes
links_within g [] (l ∷ ls) z h = absurd z
links_within g (w ∷ ws) [] z h = absurd z
links_within g (w ∷ ws) (l ∷ ls) z h =
    let here = All-head IsWithin w ws h in
    let from = ap (λ p. p.node) z.0.from in let to = ap (λ p. p.node) z.0.to in
    All-cons IsWithinNodes l ls (let a = here.0 in let b = here.1 in (omega (arith, from, a), omega (arith, to, b)))
    (links_within g ws ls z.1 (All-tail IsWithin w ws h))

pub shape_links_within : (g : Graph) (here : List Bool) (links : List ShapeLink) → IsReady g
    → AllZip (IsLinkOf g) (filter (is_used_in g.nodes here) g.wires) links → All IsWithinNodes links
shape_links_within g here links sound z = links_within g (filter (is_used_in g.nodes here) g.wires) links z
    (All-filter (is_used_in g.nodes here) IsWithin g.wires (wires_within g.ports g.wires sound.nodes.ports sound.wires.each))

pub live_within : (g : Graph) (nodes : List Standing) (wires live : List Wire) → IsReady g → wires ≡ g.wires → live ≡ live_wires nodes wires
    → All IsWithin live
live_within g nodes wires live ready same e = subst (All IsWithin) (sym e) (All-filter (is_live nodes) IsWithin wires
    (subst (All IsWithin) (sym same) (wires_within g.ports g.wires ready.nodes.ports ready.wires.each)))

-- what a read of a wire that is not there would give
abbrev pub no_wire : Wire
no_wire = record { from = record { node = 0; port = 0 }; to = record { node = 0; port = 0 }; buffers = 0 }

-- the links so far, with one more
module _ (g : Graph) (here : List Bool) (items : List Wire) (same : items ≡ g.wires) (i : ℕ) (d : Wire) (lt : i < length items)
    (links : List ShapeLink) (h : AllZip (IsLinkOf g) (filter (is_used_in g.nodes here) (take i g.wires)) links) where
  below_it : i < length g.wires
  below_it = subst (λ (ws : List Wire). i < length ws) same lt

  pub link_more : is_used_in g.nodes here (get_or items i d) ≡ true → (l : ShapeLink) → IsLinkOf g (get_or items i d) l
      → AllZip (IsLinkOf g) (filter (is_used_in g.nodes here) (take (i + 1) g.wires)) (links ++ l ∷ [])
  link_more used l is =
      let test = is_used_in g.nodes here in
      let here_used : test (get_or g.wires i d) ≡ true = subst (λ (ws : List Wire). is_used_in g.nodes here (get_or ws i d) ≡ true) same used in
      let more : filter test (take (i + 1) g.wires) ≡ filter test (take i g.wires) ++ get_or g.wires i d ∷ [] =
      filter_more test g.wires i d below_it ∙ ap (λ (b : Bool). filter test (take i g.wires) ++ cond b (get_or g.wires i d ∷ []) []) here_used in
      subst (λ (ws : List Wire). AllZip (IsLinkOf g) ws (links ++ l ∷ [])) (sym more)
      (all_zipped_more (IsLinkOf g) (filter test (take i g.wires)) links (get_or g.wires i d) l h
      (subst (λ (ws : List Wire). IsLinkOf g (get_or ws i d) l) same is))

  pub link_not : is_used_in g.nodes here (get_or items i d) ≡ false
      → AllZip (IsLinkOf g) (filter (is_used_in g.nodes here) (take (i + 1) g.wires)) links
  link_not unused =
      let test = is_used_in g.nodes here in
      let here_unused : test (get_or g.wires i d) ≡ false =
      subst (λ (ws : List Wire). is_used_in g.nodes here (get_or ws i d) ≡ false) same unused in
      let more : filter test (take (i + 1) g.wires) ≡ filter test (take i g.wires) =
      filter_more test g.wires i d below_it ∙ (ap (λ (b : Bool). filter test (take i g.wires) ++ cond b (get_or g.wires i d ∷ []) []) here_unused
      ∙ append-nil (filter test (take i g.wires))) in
      subst (λ (ws : List Wire). AllZip (IsLinkOf g) ws links) (sym more) h

-- at most 64 nodes are in
filter_few : {X : Type 0} (p : X → Bool) (xs : List X) → length (filter p xs) ≤ length xs
filter_few {X = X} p [] = omega arith
filter_few {X = X} p (x ∷ xs) = go (p x) (filter p xs) (filter_few p xs) where
  go : (b : Bool) (ys : List X) → length ys ≤ length xs → length (cond b (x ∷ ys) ys) ≤ suc (length xs)
  go true ys l = omega (arith, l)
  go false ys l = omega (arith, l)

pub bare_few : (here : List Bool) (nodes : List ShapeNode) → map (λ n. n.node) nodes ≡ numbers_in here 64 → length nodes ≤ 64
bare_few here nodes e =
    let same : length nodes ≡ length (numbers_in here 64) = sym (length-map nodes (λ n. n.node)) ∙ ap length e in
    let few = filter_few (is_in here) (range_with_len 0 64) in
    let all = length-range_with_len 0 64 in
    omega (arith, same, few, all)

-- a driver is one of 64 numbers
pub driver_below : (kinds : List Kind) (nodes : List Standing) (d : ℕ) → IsDriver kinds nodes d → length nodes ≤ 63 → d < 64
driver_below kinds nodes d (inl none) few = let e = none.1 in omega (arith, e)
driver_below kinds nodes d (inr first) few = elim (cases_lt d 63) [
  | inl l ↦ omega (arith, l)
  | inr past ↦ absurd (nowhere (get_or_past nodes d nobody (omega (arith, past, few))))
] where
  no_candidate : (s : Standing) → s ≡ nobody → (b : Bool) → (if b && s.on then s.priority else None) ≡ None
  no_candidate s e true = ap (λ (x : Standing). if x.on then x.priority else None) e
  no_candidate s e false = refl

  nowhere : standing nodes d ≡ nobody → ⊥
  nowhere e = none-some first.0 (sym (no_candidate (standing nodes d) e (may_drive (slice_index_or kinds d Dummy))) ∙ first.1.0)

-- the shape from its nodes and links
pub shape_is : (g : Graph) (a : ActiveNodes) (cycles : ℕ) (links : List ShapeLink) (s : Shape) → IsActivityOf g a
    → AllZip (IsLinkOf g) (filter (is_used_in g.nodes a.here) g.wires) links
    → s ≡ record { quantum = g.quantum; first = g.first; cycles = cycles; driver = a.driver; nodes = s.nodes; links = links }
    → nodes_of s ≡ numbers_in a.here 64 → All (IsCounted s) s.nodes → IsShapeOf g cycles s
shape_is g a cycles links s act z e names counts = record {
  quantum = ap (λ (x : Shape). x.quantum) e;
  first = ap (λ (x : Shape). x.first) e;
  cycles = ap (λ (x : Shape). x.cycles) e;
  nodes = record {
    driver = subst (λ (d : ℕ). IsDriver g.kinds g.nodes d) (sym driver) act.driver;
    ascend = subst IsStrictlyIncreasing (sym names) (numbers_ascend a.here 64);
    active = λ n. (
      (λ c. subst (λ (d : ℕ). IsActive (live_wires g.nodes g.wires) d n) (sym driver)
          ((act.active n).0 (contains_numbers a.here 64 n (subst (λ (ns : List ℕ). Contains ns n) names c)))),
      (λ i.
          let in_it = (act.active n).1 (subst (λ (d : ℕ). IsActive (live_wires g.nodes g.wires) d n) driver i) in
          subst (λ (ns : List ℕ). Contains ns n) (sym names)
          (numbers_contain a.here 64 n (let l = in_below a.here n in_it in let long = act.long in omega (arith, l, long)) in_it)),
    );
    counts = counts;
  };
  links = subst (λ (ls : List ShapeLink). AllZip (IsLinkOf g) (filter (is_used g s) g.wires) ls) (sym (ap (λ (x : Shape). x.links) e))
      (subst (λ (ws : List Wire). AllZip (IsLinkOf g) ws links) (filter_agree (is_used_in g.nodes a.here) (is_used g s) used g.wires) z);
} where
  driver : s.driver ≡ a.driver
  driver = ap (λ (x : Shape). x.driver) e

  holds : (n : ℕ) → is_in a.here n ≡ has_node s n
  holds n = sym (ap (list_any (λ m. m == n)) names ∙ numbers_hold a.here n act.long)

  used : (w : Wire) → is_used_in g.nodes a.here w ≡ is_used g s w
  used w = λ i. is_live g.nodes w && (holds w.from.node i && holds w.to.node i)

-- the shape that was counted
pub shape_ok : (g : Graph) (a : ActiveNodes) (cycles : ℕ) (nodes : List ShapeNode) (links : List ShapeLink) (r : Result Shape Memory)
    → IsActivityOf g a → AllZip (IsLinkOf g) (filter (is_used_in g.nodes a.here) g.wires) links → map (λ n. n.node) nodes ≡ numbers_in a.here 64
    → IfOk r (λ s. s ≡ record { quantum = g.quantum; first = g.first; cycles = cycles; driver = a.driver; nodes = s.nodes; links = links })
    → IfOk r (λ s. nodes_of s ≡ map (λ n. n.node) nodes) → IfOk r (λ s. All (IsCounted s) s.nodes) → IfOk r (IsShapeOf g cycles)
shape_ok g a cycles nodes links (Ok s) act z bare e numbers counts = shape_is g a cycles links s act z e (numbers ∙ bare) counts
shape_ok g a cycles nodes links (Err m) act z bare e numbers counts = e

-- the epoch from its shape, its forms and its fresh nodes
pub epoch_is : (g : Graph) (a : ActiveNodes) (cycles : ℕ) (s : Shape) (forms : List PortForm) (fresh : List Fresh) → IsActivityOf g a
    → IsShapeOf g cycles s → nodes_of s ≡ numbers_in a.here 64 → HasFormsOf g.ports a.here forms → HasFreshBelow g (length g.nodes) fresh
    → IsEpochOf g cycles (record { shape = s; forms = forms; fresh = fresh })
epoch_is g a cycles s forms fresh act shape names f h = record {
  quantum = shape.quantum;
  first = shape.first;
  cycles = shape.cycles;
  nodes = shape.nodes;
  links = shape.links;
  forms = record {
    ascend = f.ascend;
    each = λ port rate channels. (
      (λ has. let w = (f.each port rate channels).0 has in (
        subst (λ (ns : List ℕ). Contains ns port.node) (sym names)
            (numbers_contain a.here 64 port.node (let l = in_below a.here port.node w.0 in let long = act.long in omega (arith, l, long)) w.0),
        w.1,
      )),
      (λ w. (f.each port rate channels).1
          (contains_numbers a.here 64 port.node (subst (λ (ns : List ℕ). Contains ns port.node) names w.0), w.1)),
    );
  };
  fresh = record {
    ascend = h.ascend;
    each = λ n c. (
      (λ has. let w = (h.each n c).0 has in (w.1, w.2)),
      (λ w. (h.each n c).1 (fresh_below g n c w.0 w.1, w.0, w.1)),
    );
  };
}
