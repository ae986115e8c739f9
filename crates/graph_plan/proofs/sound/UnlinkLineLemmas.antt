-- An `unlink` line keeps a sound graph sound.
use Rattle.std.proofs.Common.{◌≡◌, ◌≢◌, ◌⊎◌, inl, inr, ℕ, ◌^◌, ◌<◌, max, List, [], ◌∷◌, ◌++◌, length, map, Bool, true, false, not}
use Rattle.std.proofs.Common.{◌||◌, ◌==◌, Option, refl, sym, ap, ◌∙◌, subst, arith}
use Rattle.std.proofs.Math.ListN.{length-set}
use Rattle.std.specs.Prelude.{Contains, slice_get, IfSome, IsSome, Ok, if◌then◌else◌}
use Rattle.std.specs.Option.{option_map_or}
use Rattle.std.specs.List.{All, filter}
use Rattle.std.specs.Int.{bit_at}
use Rattle.std.specs.Int.Bits.{bit_or}
use Rattle.std.proofs.lemmas.Nat.Bits.{bit_at-zero, bit_at_or, bit_at-pow_same, bit_at-pow_other, bit_at-lt}
use Rattle.std.proofs.lemmas.Bool.{cases_eq, both_ways, or_left, or_right, or_parts, and_left, and_right, not_from_true, false_from_ne_true, eq-eqb}
use Rattle.std.proofs.lemmas.List.{length-map, get_or-set_same, get_or-set_other}
use Rattle.std.proofs.lemmas.List.Elements.{All-filter, All-push}
use Rattle.std.proofs.lemmas.List.Kept.{AllPairs-filter}
use Rattle.std.proofs.lemmas.List.Sums.{length-filter, count_by-le-length}
use Rattle.pw_graph.specs.declared.ids.PortId.{PortId}
use Rattle.pw_graph.specs.declared.plan.LinkLine.{LinkLine}
use Rattle.pw_graph.specs.declared.plan.LineOutcome.TheVariants as O
use Rattle.pw_graph.specs.KindPorts.{port_count}
use Rattle.graph_script.specs.declared.command.Command.TheVariants as C
use Rattle.graph_script.specs.Kinds.{IsInput, IsOutput}
use Rattle.port_model.specs.declared.port_state.Node.{Node}
use Rattle.port_model.specs.PortState.{IsPort, released, with_released}
use Rattle.port_model.specs.SoundPorts.{AreSoundNodes}
use Rattle.port_model.proofs.ChangedLemmas.{changed_elsewhere}
use Rattle.port_model.proofs.ReleaseLemmas.{nodes_released}
use Rattle.link_negotiation.specs.declared.link.Link.{Link}
use Rattle.link_negotiation.specs.declared.unlinking.Unlinked.{Unlinked}
use Rattle.link_negotiation.specs.declared.unlinking.Unlinked.TheVariants as U
use Rattle.link_negotiation.specs.Links.{LinkState, joins, link_of, has_link, is_synchronous}
use Rattle.link_negotiation.specs.Unlinking.{without, is_released, releasing, giving_up, HasUnlinked}
use Rattle.graph_lines.specs.declared.graph.Graph.{Graph}
use Rattle.graph_lines.specs.declared.graph.Stepped.TheVariants as T
use Rattle.graph_lines.specs.declared.standing.Standing.{Standing}
use Rattle.graph_lines.specs.declared.wire.Wire.{Wire}
use Rattle.graph_lines.specs.Activity.{standing, nobody}
use Rattle.graph_lines.specs.Conditions.{AreWired}
use Rattle.graph_lines.specs.Forms.{IsFormOfPort}
use Rattle.graph_lines.specs.UnlinkLines.{HasKept, giving, wires_without, IsTakenAway, UnlinksLine}
use Rattle.graph_lines.proofs.WireLemmas.{set_wired}
use Rattle.graph_plan.specs.working.Reaching.{IsOrdered}
use Rattle.graph_plan.specs.working.SoundWires.{HasFormatOf, IsFormatted, IsSoundWire, AreApart, AreSoundWires}
use Rattle.graph_plan.specs.working.Remembering.{Stands, CarriesOn}
use Rattle.graph_plan.specs.working.SoundGraph.{IsJoining, IsSoundGraph}
use Rattle.graph_plan.proofs.lists.ElementLemmas.{origin, kept, any_of, map_changed, stands_for, all_of}
use Rattle.graph_plan.proofs.sound.RankLemmas.{fewer_rank}
use Rattle.graph_plan.proofs.sound.SoundGraphLemmas.{wire_at}
use Rattle.graph_plan.proofs.sound.LinkLineLemmas.{noted_sound}
use Rattle.graph_plan.proofs.sound.CarriesOnLemmas.{rebuilt_sound}

-- A RELEASE, if there is one: other nodes stay as they are
module _ (made : List Link) (keep n : ℕ) (nodes : List Node) where
  pub releasing_sound : AreSoundNodes nodes → AreSoundNodes (releasing made keep n nodes)
  releasing_sound sound = go (is_released made keep n) where
    go : (b : Bool) → AreSoundNodes (if b then with_released nodes n else nodes)
    go true = nodes_released nodes n sound
    go false = sound

  pub releasing_kinds : map (λ (m : Node). m.kind) (releasing made keep n nodes) ≡ map (λ (m : Node). m.kind) nodes
  releasing_kinds = go (is_released made keep n) where
    go : (b : Bool) → map (λ (m : Node). m.kind) (if b then with_released nodes n else nodes) ≡ map (λ (m : Node). m.kind) nodes
    go true = map_changed (λ (m : Node). m.kind) nodes n (λ node. record node { ports = map released node.ports }) (λ node. refl)
    go false = refl

  -- a node that is not released
  pub releasing_other : (m : ℕ) → (m ≡ n → is_released made keep n ≡ false) → slice_get (releasing made keep n nodes) m ≡ slice_get nodes m
  releasing_other m h = go (is_released made keep n) refl where
    go : (b : Bool) → is_released made keep n ≡ b → slice_get (if b then with_released nodes n else nodes) m ≡ slice_get nodes m
    go true e = changed_elsewhere nodes n m (λ node. record node { ports = map released node.ports })
        (λ d. both_ways (is_released made keep n) (h d) e)
    go false e = refl

-- THE BITS of the nodes that gave up
module _ (made : List Link) (keep n set : ℕ) where
  pub bit_here : is_released made keep n ≡ true → bit_at (giving_up made keep n set) n ≡ 1
  bit_here e = subst (λ (b : Bool). bit_at (if b then bit_or set (2 ^ n) else set) n ≡ 1) (sym e)
      (bit_at_or set (2 ^ n) n ∙ go (bit_at set n) (bit_at (2 ^ n) n) (bit_at-lt set n) (bit_at-pow_same n))
    where
      go : (a b : ℕ) → a < 2 → b ≡ 1 → max a b ≡ 1
      go a b l d = omega (arith, l, d)

  pub bit_stays : (m : ℕ) → (m ≡ n → is_released made keep n ≡ false) → bit_at (giving_up made keep n set) m ≡ bit_at set m
  bit_stays m h = go (is_released made keep n) refl where
    other : (a b : ℕ) → b ≡ 0 → max a b ≡ a
    other a b d = omega (arith, d)

    go : (b : Bool) → is_released made keep n ≡ b → bit_at (if b then bit_or set (2 ^ n) else set) m ≡ bit_at set m
    go true e = bit_at_or set (2 ^ n) m ∙ other (bit_at set m) (bit_at (2 ^ n) m)
        (bit_at-pow_other n m (λ d. both_ways (is_released made keep n) (h d) e))
    go false e = refl

  pub bit_more : (m : ℕ) → bit_at set m ≡ 1 → bit_at (giving_up made keep n set) m ≡ 1
  bit_more m h = go (is_released made keep n) where
    at_least : (a b : ℕ) → a ≡ 1 → b < 2 → max a b ≡ 1
    at_least a b d l = omega (arith, d, l)

    go : (b : Bool) → bit_at (if b then bit_or set (2 ^ n) else set) m ≡ 1
    go true = bit_at_or set (2 ^ n) m ∙ at_least (bit_at set m) (bit_at (2 ^ n) m) h (bit_at-lt (2 ^ n) m)
    go false = h

-- WHAT IS SAID of the nodes of the link
module _ (gave n : ℕ) (said : List Standing) (within : n < length said) where
  abbrev pub given_up : Standing → Standing
  given_up s = record s { gave_up = s.gave_up || (bit_at gave n == 1) }

  pub giving_at : (m : ℕ) → ((m ≡ n) × (standing (giving gave n said) m ≡ given_up (standing said m)))
      ⊎ ((m ≢ n) × (standing (giving gave n said) m ≡ standing said m))
  giving_at m = elim (cases_eq m n) [
    | inl e ↦ inl (
      e,
      ap (standing (giving gave n said)) e
          ∙ (get_or-set_same said n (given_up (standing said n)) nobody within ∙ ap (λ (k : ℕ). given_up (standing said k)) (sym e)),
    )
    | inr ne ↦ inr (ne, get_or-set_other said n m (given_up (standing said n)) nobody ne)
  ]

  -- all but that is as before
  pub giving_same : {X : Type 0} (f : Standing → X) → ((s : Standing) → f (given_up s) ≡ f s) → (m : ℕ)
      → f (standing (giving gave n said) m) ≡ f (standing said m)
  giving_same f h m = elim (giving_at m) [ inl w ↦ ap f w.1 ∙ h (standing said m) | inr w ↦ ap f w.1 ]

  -- it stays that a node gave up; it gives up where its bit is set, and only there
  pub giving_quiet : (m : ℕ) → (standing (giving gave n said) m).gave_up ≡ false
      → ((standing said m).gave_up ≡ false) × (m ≡ n → bit_at gave n ≡ 1 → ⊥)
  giving_quiet m h = elim (giving_at m) [
    | inl w ↦
        let both = or_parts (standing said m).gave_up (bit_at gave n == 1) (sym (ap (λ (s : Standing). s.gave_up) w.1) ∙ h) in
        (both.0, λ e b. both_ways (bit_at gave n == 1) both.1 (eq-eqb (bit_at gave n) 1 b))
    | inr w ↦ (sym (ap (λ (s : Standing). s.gave_up) w.1) ∙ h, λ e b. w.0 e)
  ]

  pub giving_held : (m : ℕ) → (standing said m).gave_up ≡ false → (m ≡ n → bit_at gave n ≡ 0) → (standing (giving gave n said) m).gave_up ≡ false
  giving_held m h none = elim (giving_at m) [
    | inl w ↦ ap (λ (s : Standing). s.gave_up) w.1 ∙ (ap (λ (b : Bool). b || (bit_at gave n == 1)) h ∙ ap (λ (k : ℕ). k == 1) (none w.0))
    | inr w ↦ ap (λ (s : Standing). s.gave_up) w.1 ∙ h
  ]

-- what is at a node that stays
module _ (nodes nodes' : List Node) (n : ℕ) (same : slice_get nodes' n ≡ slice_get nodes n) where
  pub formats_stay : (port rate channels : ℕ) → IsFormatted nodes (record { node = n; port = port }) rate channels
      → IsFormatted nodes' (record { node = n; port = port }) rate channels
  formats_stay port rate channels h =
      subst (λ (o : Option Node). IfSome o (λ node. IfSome (slice_get node.ports port) (λ s. HasFormatOf rate channels s))) (sym same) h

  there_stays : (port : ℕ) → IsPort nodes (record { node = n; port = port }) → IsPort nodes' (record { node = n; port = port })
  there_stays port h = subst (λ (o : Option Node). port < option_map_or (λ node. port_count node.kind) o 0) (sym same) h

  pub stands_still : (port rate channels : ℕ) → Stands nodes (record { node = n; port = port }) rate channels
      → Stands nodes' (record { node = n; port = port }) rate channels
  stands_still port rate channels h = record {
    form = (
      there_stays port h.form.0,
      subst (λ (o : Option Node). IfSome o (λ node. IfSome (slice_get node.ports port) (IsFormOfPort rate channels node))) (sym same) h.form.1,
    );
    some = record {
      port = h.some.port;
      there = there_stays h.some.port h.some.there;
      has = subst (λ (o : Option Node). IfSome o (λ node. IfSome (slice_get node.ports h.some.port) (λ s. IsSome s.format))) (sym same) h.some.has;
    };
  }

-- a node with a link is not released
unreleased : (made : List Link) (keep m : ℕ) → has_link made m ≡ true → (n : ℕ) → m ≡ n → is_released made keep n ≡ false
unreleased made keep m h n e = subst (λ (k : ℕ). is_released made keep k ≡ false) e
    (and_left (not (has_link made m)) (bit_at keep m == 0) (not_from_true (has_link made m) h))

-- nor is one that keeps its formats
kept_unreleased : (made : List Link) (keep m : ℕ) → bit_at keep m ≡ 1 → (n : ℕ) → m ≡ n → is_released made keep n ≡ false
kept_unreleased made keep m h n e = subst (λ (k : ℕ). is_released made keep k ≡ false) e
    (and_right (not (has_link made m)) (bit_at keep m == 0) (ap (λ (k : ℕ). k == 0) h))

module _ (count : ℕ) (g : Graph) (sound : IsSoundGraph count g) (from to : PortId) (keep : ℕ) (kept_bits : HasKept g.nodes keep)
    (from_in : from.node < length g.nodes) (to_in : to.node < length g.nodes) where
  abbrev pub left : List Link
  left = without from to g.links.made

  abbrev pub released_ports : List Node
  released_ports = releasing (without from to g.links.made) keep to.node (releasing (without from to g.links.made) keep from.node g.ports)

  abbrev pub first_bits : ℕ
  first_bits = giving_up (without from to g.links.made) keep from.node 0

  abbrev pub bits : ℕ
  bits = giving_up (without from to g.links.made) keep to.node (giving_up (without from to g.links.made) keep from.node 0)

  abbrev pub said_first : List Standing
  said_first = giving bits from.node g.nodes

  abbrev pub said_after : List Standing
  said_after = giving bits to.node (giving bits from.node g.nodes)

  long_first : length said_first ≡ length g.nodes
  long_first = length-set g.nodes from.node _

  long_after : length said_after ≡ length g.nodes
  long_after = length-set said_first to.node _ ∙ long_first

  to_first : to.node < length said_first
  to_first = omega (arith, to_in, long_first)

  -- what is said but for giving up
  said_same : {X : Type 0} (f : Standing → X) → ((s : Standing) (b : Bool) → f (record s { gave_up = b }) ≡ f s) → (m : ℕ)
      → f (standing said_after m) ≡ f (standing g.nodes m)
  said_same f h m = giving_same bits to.node said_first to_first f (λ s. h s _) m ∙ giving_same bits from.node g.nodes from_in f (λ s. h s _) m

  -- a node that is not released stays as it is
  port_same : (m : ℕ) → ((n : ℕ) → m ≡ n → is_released left keep n ≡ false) → slice_get released_ports m ≡ slice_get g.ports m
  port_same m h = releasing_other left keep to.node (releasing left keep from.node g.ports) m (h to.node)
      ∙ releasing_other left keep from.node g.ports m (h from.node)

  -- one that has not given up was not released
  quiet_same : (m : ℕ) → (standing said_after m).gave_up ≡ false → slice_get released_ports m ≡ slice_get g.ports m
  quiet_same m quiet =
      let second = giving_quiet bits to.node said_first to_first m quiet in
      let first = giving_quiet bits from.node g.nodes from_in m second.0 in
      releasing_other left keep to.node (releasing left keep from.node g.ports) m (λ e. false_from_ne_true (is_released left keep to.node)
      (λ r. second.1 e (bit_here left keep to.node first_bits r)))
      ∙ releasing_other left keep from.node g.ports m (λ e. false_from_ne_true (is_released left keep from.node)
      (λ r. first.1 e (bit_more left keep to.node first_bits from.node (bit_here left keep from.node 0 r))))

  -- the bit of a sink that keeps its formats is not set
  kept_bit : (m : ℕ) → m < 64 → (standing g.nodes m).kept ≡ true → bit_at bits m ≡ 0
  kept_bit m small k =
      let none = kept_unreleased left keep m ((kept_bits m small).1 k) in
      bit_stays left keep to.node first_bits m (none to.node) ∙ (bit_stays left keep from.node 0 m (none from.node) ∙ bit_at-zero m)

  small : (m : ℕ) → m < length g.nodes → m < 64
  small m l = (let few = sound.ports.few in let a = ap length sound.kinds in let b = sound.nodes in
      let c = length-map g.ports (λ (n : Node). n.kind) in omega (arith, l, few, a, b, c))

  on : (m : ℕ) → CarriesOn g.ports g.nodes released_ports said_after m
  on m = record {
    told = said_same (λ (s : Standing). s.told) (λ s b. refl) m;
    there = λ h. said_same (λ (s : Standing). s.there) (λ s b. refl) m ∙ h;
    kept = λ h. said_same (λ (s : Standing). s.kept) (λ s b. refl) m ∙ h;
    quiet = λ h. (giving_quiet bits from.node g.nodes from_in m (giving_quiet bits to.node said_first to_first m h).0).0;
    stands = λ quiet port rate channels h. stands_still g.ports released_ports m (quiet_same m quiet) port rate channels h;
    held = λ k quiet.
        giving_held bits to.node said_first to_first m
        (giving_held bits from.node g.nodes from_in m quiet
        (λ e. ap (bit_at bits) (sym e) ∙ kept_bit m (small m (omega (arith, e, from_in))) k))
        (λ e. ap (bit_at bits) (sym e) ∙ kept_bit m (small m (omega (arith, e, to_in))) k);
  }

  -- a link that is left
  wire_left : (w : Wire) → Contains (wires_without from to g.wires) w → Contains g.wires w × Contains left (link_of w.from w.to)
  wire_left w c =
      let o = origin (λ (x : Wire). not (joins from to (link_of x.from x.to))) g.wires w c in
      let made = subst (λ (ls : List Link). Contains ls (link_of w.from w.to)) sound.wired
      (stands_for (λ (x : Wire). link_of x.from x.to) g.wires w o.0) in
      (o.0, kept (λ (l : Link). not (joins from to l)) g.links.made (link_of w.from w.to) made o.1)

  wires_ok : AreSoundWires g.kinds released_ports (wires_without from to g.wires)
  wires_ok = record {
    few = (let a = length-filter (λ (x : Wire). not (joins from to (link_of x.from x.to))) g.wires in
        let b = count_by-le-length (λ (x : Wire). not (joins from to (link_of x.from x.to))) g.wires in
        let f = sound.wires.few in omega (arith, a, b, f));
    each = all_of (IsSoundWire g.kinds released_ports) (wires_without from to g.wires) (λ w c.
        let o = wire_left w c in
        let s = wire_at count g sound w o.0 in
        let link_from = any_of (λ (l : Link). (l.from.node == w.from.node) || (l.to.node == w.from.node)) left (link_of w.from w.to) o.1
        (or_left (w.from.node == w.from.node) (w.to.node == w.from.node) (eq-eqb w.from.node w.from.node refl)) in
        let link_to = any_of (λ (l : Link). (l.from.node == w.to.node) || (l.to.node == w.to.node)) left (link_of w.from w.to) o.1
        (or_right (w.from.node == w.to.node) (w.to.node == w.to.node) (eq-eqb w.to.node w.to.node refl)) in
        record {
          from = s.from;
          to = s.to;
          apart = s.apart;
          buffers = s.buffers;
          rate = s.rate;
          channels = s.channels;
          from_format = formats_stay g.ports released_ports w.from.node (port_same w.from.node (unreleased left keep w.from.node link_from))
              w.from.port s.rate s.channels s.from_format;
          to_format = formats_stay g.ports released_ports w.to.node (port_same w.to.node (unreleased left keep w.to.node link_to))
              w.to.port s.rate s.channels s.to_format;
        });
    apart = AllPairs-filter AreApart (λ (x : Wire). not (joins from to (link_of x.from x.to))) g.wires sound.wires.apart;
  }

  order_ok : IsOrdered (record g.links { made = left })
  order_ok = fewer_rank (filter (is_synchronous g.links) left) (filter (is_synchronous g.links) g.links.made) (λ l c.
      let o = origin (is_synchronous g.links) left l c in
      let p = origin (λ (x : Link). not (joins from to x)) g.links.made l o.0 in
      kept (is_synchronous g.links) g.links.made l p.0 o.1) sound.order

  pub gone_sound : (after : Graph) (ports : List Node) (links : LinkState) (wires : List Wire) (said : List Standing) (lines : List LinkLine)
      (l : LinkLine) → IsJoining g.kinds l → map (λ w. link_of w.from w.to) (wires_without from to g.wires) ≡ left
      → links ≡ record g.links { made = left } → ports ≡ released_ports → wires ≡ wires_without from to g.wires → said ≡ said_after
      → lines ≡ g.lines ++ l ∷ []
      → after ≡ record g { ports = ports; links = links; wires = wires; nodes = said; lines = lines } → IsSoundGraph count after
  gone_sound after ports links wires said lines l joins_l wired k p w d n same =
      rebuilt_sound count count g after released_ports (record g.links { made = left }) (wires_without from to g.wires) said_after lines sound (record {
        sound = releasing_sound left keep to.node (releasing left keep from.node g.ports) (releasing_sound left keep from.node g.ports sound.ports);
        kinds = releasing_kinds left keep to.node (releasing left keep from.node g.ports)
            ∙ (releasing_kinds left keep from.node g.ports ∙ sound.kinds);
        many = long_after;
        made = record {
          within = (let m = sound.made.within in omega (arith, m, long_after));
          there = λ m h. said_same (λ (s : Standing). s.there) (λ s b. refl) m ∙ sound.made.there m h;
          wires_at = All-filter (λ (x : Wire). not (joins from to (link_of x.from x.to)))
              (λ (x : Wire). (x.from.node < count) × (x.to.node < count)) g.wires sound.made.wires_at;
          prior = λ m q h. sound.made.prior m q (sym (said_same (λ (s : Standing). s.priority) (λ s b. refl) m) ∙ h);
        };
        wires_sound = wires_ok;
        wired = wired;
        marks = sound.marks;
        marked = λ m. sound.marked m ∙ sym (said_same (λ (s : Standing). s.marked) (λ s b. refl) m);
        order = order_ok;
        on = on;
        joins = subst (All (IsJoining g.kinds)) (sym n) (All-push (IsJoining g.kinds) g.lines l sound.lines joins_l);
      }) (same ∙ parts)
    where
      parts : record g { ports = ports; links = links; wires = wires; nodes = said; lines = lines }
          ≡ record g {
            ports = released_ports;
            links = record g.links { made = left };
            wires = wires_without from to g.wires;
            nodes = said_after;
            lines = lines;
          }
      parts = ap (λ (x : List Node). record g { ports = x; links = links; wires = wires; nodes = said; lines = lines }) p
          ∙ (ap (λ (x : LinkState). record g { ports = released_ports; links = x; wires = wires; nodes = said; lines = lines }) k
          ∙ (ap (λ (x : List Wire). record g { ports = released_ports; links = record g.links { made = left }; wires = x; nodes = said; lines = lines }) w
          ∙ ap (λ (x : List Standing). record g {
            ports = released_ports;
            links = record g.links { made = left };
            wires = wires_without from to g.wires;
            nodes = x;
            lines = lines;
          }) d))

-- ANY UNLINK LINE
pub unlinks_sound : (count : ℕ) (g after : Graph) (from to : PortId) → IsSoundGraph count g → IsOutput g.kinds from → IsInput g.kinds to
    → from.node < length g.nodes → to.node < length g.nodes → UnlinksLine g from to after → IsSoundGraph count after
unlinks_sound count g after from to sound out in' from_in to_in h = go h.unlinked h.outcome h.noted where
  wired_after : AreWired after
  wired_after = set_wired g after (C.Unlink from to) (Ok T.Done) (refl, h) sound.wired refl

  go : (u : Unlinked) → HasUnlinked g.links g.ports from to h.keep u after.links after.ports → IsTakenAway g from to u after
      → IsSoundGraph count after
  go U.NotThere o n = noted_sound count g after after.ports after.links after.wires after.lines
      (record { from = from; to = to; outcome = O.NotThere }) sound (out, in') o.2 o.1 n.0 n.2
      (h.same ∙ ap (λ (x : List Standing). record g { ports = after.ports; links = after.links; wires = after.wires; nodes = x; lines = after.lines }) n.1)
  go (U.Gone gave) o n =
      gone_sound count g sound from to h.keep h.kept from_in to_in after after.ports after.links after.wires after.nodes after.lines
      (record { from = from; to = to; outcome = O.Gone }) (out, in')
      (ap (map (λ (w : Wire). link_of w.from w.to)) (sym n.0) ∙ (wired_after ∙ ap (λ (s : LinkState). s.made) o.1)) o.1 o.3 n.0
      (n.1 ∙ ap (λ (k : ℕ). giving k to.node (giving k from.node g.nodes)) o.2) n.2 h.same
