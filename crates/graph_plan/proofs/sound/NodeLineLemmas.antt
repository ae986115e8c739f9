-- Lines that change what is said of one node, `async` lines and `buffers` lines keep a sound graph sound.
use Rattle.std.proofs.Common.{◌≡◌, ◌≢◌, ◌⊎◌, inl, inr, ℕ, ◌<◌, ◌≤◌, List, length, Bool, true, false, not, ◌&&◌, ◌||◌, ◌==◌}
use Rattle.std.proofs.Common.{refl, sym, ap, ◌∙◌, subst, arith}
use Rattle.std.proofs.Math.ListN.{set, length-set}
use Rattle.std.specs.Prelude.{Contains}
use Rattle.std.proofs.lemmas.Bool.{cases_eq, cases_lt, both_ways, or_left, or_right, eq-eqb}
use Rattle.std.proofs.lemmas.List.{length-map, get_or-set_same, get_or-set_other}
use Rattle.std.proofs.lemmas.List.Elements.{All-weaker}
use Rattle.pw_graph.specs.declared.ids.PortId.{PortId}
use Rattle.pw_graph.specs.SoundShape.{IsBetween}
use Rattle.port_model.specs.declared.port_state.PortState.{PortState}
use Rattle.port_model.specs.declared.port_state.Node.{Node}
use Rattle.port_model.specs.PortState.{changed, with_port, buffered}
use Rattle.port_model.proofs.ReleaseLemmas.{nodes_buffered}
use Rattle.link_negotiation.specs.declared.link.Link.{Link}
use Rattle.link_negotiation.specs.Links.{LinkState, has_link, is_marked, is_synchronous}
use Rattle.graph_lines.specs.declared.graph.Graph.{Graph}
use Rattle.graph_lines.specs.declared.standing.Standing.{Standing}
use Rattle.graph_lines.specs.declared.wire.Wire.{Wire}
use Rattle.graph_lines.specs.Activity.{standing, nobody}
use Rattle.graph_lines.specs.Lines.{mark, Marks}
use Rattle.graph_plan.specs.working.Reaching.{IsOrdered}
use Rattle.graph_plan.specs.working.SoundWires.{HasFormatOf, IsSoundWire}
use Rattle.graph_plan.specs.working.Remembering.{CarriesOn}
use Rattle.graph_plan.specs.working.SoundGraph.{AreMade, IsSoundGraph}
use Rattle.graph_plan.proofs.lists.ElementLemmas.{origin, kept, any_of, map_changed}
use Rattle.graph_plan.proofs.sound.StandsLemmas.{with_port_keeps, buffered_stands}
use Rattle.graph_plan.proofs.sound.CarriesOnLemmas.{rebuilt_sound}
use Rattle.graph_plan.proofs.sound.LinkLineLemmas.{carries}

-- what a line says of a node: nothing of its epochs, and nothing less
pub record SaysMore (s t : Standing) : Type 0 where
  pub gave_up : t.gave_up ≡ s.gave_up
  pub told : t.told ≡ s.told
  pub kept : t.kept ≡ s.kept
  pub there : s.there ≡ true → t.there ≡ true

says_same : (s : Standing) → SaysMore s s
says_same s = record { gave_up = refl; told = refl; kept = refl; there = λ h. h }

-- of one node more is said
module _ (said : List Standing) (n : ℕ) (t : Standing) (within : n < length said) where
  said_here : (m : ℕ) → m ≡ n → standing (set said n t) m ≡ t
  said_here m e = ap (standing (set said n t)) e ∙ get_or-set_same said n t nobody within

  said_other : (m : ℕ) → m ≢ n → standing (set said n t) m ≡ standing said m
  said_other m ne = get_or-set_other said n m t nobody ne

  says : SaysMore (standing said n) t → (m : ℕ) → SaysMore (standing said m) (standing (set said n t) m)
  says more m = elim (cases_eq m n) [
    | inl e ↦ subst (SaysMore (standing said m)) (sym (said_here m e)) (subst (λ (k : ℕ). SaysMore (standing said k) t) (sym e) more)
    | inr ne ↦ subst (SaysMore (standing said m)) (sym (said_other m ne)) (says_same (standing said m))
  ]

  -- a mark that stays, or is made
  marked_at : (m : ℕ) → (standing said n).marked ≡ t.marked → (standing (set said n t) m).marked ≡ (standing said m).marked
  marked_at m same = elim (cases_eq m n) [
    | inl e ↦ ap (λ (s : Standing). s.marked) (said_here m e) ∙ (sym same ∙ ap (λ (k : ℕ). (standing said k).marked) (sym e))
    | inr ne ↦ ap (λ (s : Standing). s.marked) (said_other m ne)
  ]

  -- the nodes that lines have made, where a line makes the next one or names one of them
  made_more : (count more : ℕ) (wires : List Wire) → AreMade count said wires → count ≤ more → n < more
      → ((m : ℕ) → m < more → (m < count) ⊎ (m ≡ n)) → ((standing said n).there ≡ true → t.there ≡ true)
      → (count ≤ n → t.there ≡ true) → more ≤ length said → AreMade more (set said n t) wires
  made_more count more wires old up low new stays comes few = record {
    within = omega (arith, few, length-set said n t);
    there = λ m l. elim (cases_eq m n) [
      | inl e ↦ ap (λ (s : Standing). s.there) (said_here m e) ∙ elim (cases_lt n count) [
        | inl old_one ↦ stays (old.there n old_one)
        | inr next ↦ comes next
      ]
      | inr ne ↦ ap (λ (s : Standing). s.there) (said_other m ne) ∙ elim (new m l) [
        | inl old_one ↦ old.there m old_one
        | inr e ↦ absurd (ne e)
      ]
    ];
    wires_at = All-weaker (λ (w : Wire). (w.from.node < count) × (w.to.node < count)) (λ (w : Wire). (w.from.node < more) × (w.to.node < more))
        (λ w h. (omega (arith, h.0, up), omega (arith, h.1, up))) wires old.wires_at;
    prior = λ m p h. elim (cases_eq m n) [
      | inl e ↦ omega (arith, e, low)
      | inr ne ↦ (let l = old.prior m p (sym (ap (λ (s : Standing). s.priority) (said_other m ne)) ∙ h) in omega (arith, l, up))
    ];
  }

-- nodes of which more is said carry on
carries_more : (nodes : List Node) (said after : List Standing) → ((m : ℕ) → SaysMore (standing said m) (standing after m)) → (m : ℕ)
    → CarriesOn nodes said nodes after m
carries_more nodes said after more m = let s = more m in record {
  told = s.told;
  there = s.there;
  kept = λ h. s.kept ∙ h;
  quiet = λ h. sym s.gave_up ∙ h;
  stands = λ quiet port rate channels h. h;
  held = λ kept quiet. s.gave_up ∙ quiet;
}

-- A LINE THAT SAYS MORE OF A NODE
pub node_sound : (count more : ℕ) (g after : Graph) (n : ℕ) (t : Standing) → IsSoundGraph count g → n < length g.nodes → count ≤ more → n < more
    → ((m : ℕ) → m < more → (m < count) ⊎ (m ≡ n)) → (count ≤ n → t.there ≡ true) → more ≤ length g.nodes
    → SaysMore (standing g.nodes n) t → (standing g.nodes n).marked ≡ t.marked
    → after ≡ record g { nodes = set g.nodes n t } → IsSoundGraph more after
node_sound count more g after n t sound within up low new comes few says_t marked same =
    rebuilt_sound count more g after g.ports g.links g.wires (set g.nodes n t) g.lines sound (record {
      sound = sound.ports;
      kinds = sound.kinds;
      many = length-set g.nodes n t;
      made = made_more g.nodes n t within count more g.wires sound.made up low new says_t.there comes few;
      wires_sound = sound.wires;
      wired = sound.wired;
      marks = sound.marks;
      marked = λ m. sound.marked m ∙ sym (marked_at g.nodes n t within m marked);
      order = sound.order;
      on = carries_more g.ports g.nodes (set g.nodes n t) (says g.nodes n t within says_t);
      joins = sound.lines;
    }) same

-- AN `async` LINE
module _ (s : LinkState) (n : ℕ) (free : has_link s.made n ≡ false) where
  abbrev pub marked_links : LinkState
  marked_links = record s { marks = set s.marks n true }

  -- links are not at the node
  apart : (l : Link) → Contains s.made l → (l.from.node ≢ n) × (l.to.node ≢ n)
  apart l c = (
    λ e. both_ways (has_link s.made n) free (any_of (λ (x : Link). (x.from.node == n) || (x.to.node == n)) s.made l c
        (or_left (l.from.node == n) (l.to.node == n) (eq-eqb l.from.node n e))),
    λ e. both_ways (has_link s.made n) free (any_of (λ (x : Link). (x.from.node == n) || (x.to.node == n)) s.made l c
        (or_right (l.from.node == n) (l.to.node == n) (eq-eqb l.to.node n e))),
  )

  mark_other : (m : ℕ) → m ≢ n → is_marked marked_links m ≡ is_marked s m
  mark_other m ne = get_or-set_other s.marks n m true false ne

  same_links : (l : Link) → Contains s.made l → is_synchronous marked_links l ≡ is_synchronous s l
  same_links l c = let a = apart l c in
      ap (λ (b : Bool). not b && not (is_marked marked_links l.to.node)) (mark_other l.from.node a.0)
      ∙ ap (λ (b : Bool). not (is_marked s l.from.node) && not b) (mark_other l.to.node a.1)

  order_marked : IsOrdered s → IsOrdered marked_links
  order_marked h = record {
    rank = h.rank;
    rises = λ l w.
        let o = origin (is_synchronous marked_links) s.made l w in
        h.rises l (kept (is_synchronous s) s.made l o.0 (sym (same_links l o.0) ∙ o.1));
  }

pub marks_sound : (count : ℕ) (g after : Graph) (n : ℕ) → IsSoundGraph count g → n < length g.nodes → n < count → Marks g n after
    → IsSoundGraph count after
marks_sound count g after n sound within low (inl h) = subst (IsSoundGraph count) (sym h.1) sound
marks_sound count g after n sound within low (inr h) =
    let t = mark (standing g.nodes n) in
    let few = sound.ports.few in
    let kinds = ap length sound.kinds in
    let nodes = sound.nodes in
    let long = sound.marks in
    let mapped = length-map g.ports (λ (x : Node). x.kind) in
    let inside : n < length g.links.marks = omega (arith, within, few, kinds, nodes, long, mapped) in
    let more : SaysMore (standing g.nodes n) (mark (standing g.nodes n)) = record { gave_up = refl; told = refl; kept = refl; there = λ x. x } in
    rebuilt_sound count count g after g.ports (record g.links { marks = set g.links.marks n true }) g.wires
    (set g.nodes n (mark (standing g.nodes n))) g.lines sound (record {
      sound = sound.ports;
      kinds = sound.kinds;
      many = length-set g.nodes n (mark (standing g.nodes n));
      made = made_more g.nodes n (mark (standing g.nodes n)) within count count g.wires sound.made (omega arith) low (λ m l. inl l) (λ x. x)
          (λ past. absurd (omega (arith, past, low))) sound.made.within;
      wires_sound = sound.wires;
      wired = sound.wired;
      marks = length-set g.links.marks n true ∙ sound.marks;
      marked = λ m. elim (cases_eq m n) [
        | inl e ↦ (ap (is_marked (record g.links { marks = set g.links.marks n true })) e ∙ get_or-set_same g.links.marks n true false inside)
            ∙ sym (ap (λ (s : Standing). s.marked) (said_here g.nodes n (mark (standing g.nodes n)) within m e))
        | inr ne ↦ mark_other g.links n h.0 m ne ∙ (sound.marked m
            ∙ sym (ap (λ (s : Standing). s.marked) (said_other g.nodes n (mark (standing g.nodes n)) within m ne)))
      ];
      order = order_marked g.links n h.0 sound.order;
      on = carries_more g.ports g.nodes (set g.nodes n (mark (standing g.nodes n))) (says g.nodes n (mark (standing g.nodes n)) within more);
      joins = sound.lines;
    }) h.1

-- A `buffers` LINE
pub buffers_sound : (count : ℕ) (g after : Graph) (port : PortId) (n : ℕ) → IsSoundGraph count g → IsBetween 1 8 n
    → after ≡ record g { ports = with_port g.ports port (buffered n) } → IsSoundGraph count after
buffers_sound count g after port n sound range same =
    rebuilt_sound count count g after (with_port g.ports port (buffered n)) g.links g.wires g.nodes g.lines sound (record {
      sound = nodes_buffered g.ports port n sound.ports range;
      kinds = map_changed (λ (x : Node). x.kind) g.ports port.node (λ node. record node { ports = changed node.ports port.port (buffered n) })
          (λ node. refl) ∙ sound.kinds;
      many = refl;
      made = sound.made;
      wires_sound = record {
        few = sound.wires.few;
        each = All-weaker (IsSoundWire g.kinds g.ports) (IsSoundWire g.kinds (with_port g.ports port (buffered n))) (λ w s. record {
          from = s.from;
          to = s.to;
          apart = s.apart;
          buffers = s.buffers;
          rate = s.rate;
          channels = s.channels;
          from_format = with_port_keeps (HasFormatOf s.rate s.channels) g.ports port w.from (buffered n) (keeps s.rate s.channels) s.from_format;
          to_format = with_port_keeps (HasFormatOf s.rate s.channels) g.ports port w.to (buffered n) (keeps s.rate s.channels) s.to_format;
        }) g.wires sound.wires.each;
        apart = sound.wires.apart;
      };
      wired = sound.wired;
      marks = sound.marks;
      marked = sound.marked;
      order = sound.order;
      on = carries g.ports (with_port g.ports port (buffered n)) g.nodes (buffered_stands g.ports port n sound.ports range);
      joins = sound.lines;
    }) same
  where
    keeps : (rate channels : ℕ) (s : PortState) → HasFormatOf rate channels s → HasFormatOf rate channels (buffered n s)
    keeps rate channels s h = record { format = h.format; has = h.has; rate_is = h.rate_is; channels_is = h.channels_is }
