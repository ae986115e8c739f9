-- A script means one thing from a graph on: each line leaves one graph, or passes one limit.
use Rattle.std.proofs.Common.{◌≡◌, inl, inr, ℕ, zero, suc, ◌^◌, ◌<◌, ◌≤◌, List, [], ◌∷◌, ◌++◌, Bool, not, ◌&&◌, ◌==◌}
use Rattle.std.proofs.Common.{refl, sym, ap, ◌∙◌, subst, arith}
use Rattle.std.specs.Prelude.{Result, Err, if◌then◌else◌}
use Rattle.std.specs.Int.{bit_at}
use Rattle.std.specs.Int.Bits.{bit_or}
use Rattle.std.proofs.lemmas.Nat.Bits.{bit_at-lt}
use Rattle.std.proofs.lemmas.Bool.{both_ways}
use Rattle.pw_graph.specs.declared.ids.PortId.{PortId}
use Rattle.pw_graph.specs.declared.kind.Kind.{Kind}
use Rattle.pw_lists.specs.declared.limit.Which.{Which}
use Rattle.pw_graph.specs.declared.plan.LinkLine.{LinkLine}
use Rattle.pw_graph.specs.declared.plan.LineOutcome.{LineOutcome}
use Rattle.pw_graph.specs.declared.plan.LineOutcome.TheVariants as O
use Rattle.wav_files.specs.declared.wav.WavIn.{WavIn}
use Rattle.graph_script.specs.declared.command.Command.{Command}
use Rattle.graph_script.specs.declared.command.Command.TheVariants as C
use Rattle.graph_script.specs.declared.script.Line.{Line}
use Rattle.graph_script.specs.Kinds.{IsInput, IsOutput}
use Rattle.port_model.specs.declared.port_state.PortState.{PortState}
use Rattle.port_model.specs.declared.port_state.Node.{Node}
use Rattle.port_model.specs.PortState.{IsPort, AtPort, with_released}
use Rattle.port_model.specs.PortState.{IsInput as IsInputOf, IsOutput as IsOutputOf}
use Rattle.port_model.specs.Forms.{value_of, HasForm}
use Rattle.port_model.specs.SoundPorts.{AreSoundNodes}
use Rattle.port_model.proofs.NodeLemmas.{at_port}
use Rattle.link_negotiation.specs.declared.link.Link.{Link}
use Rattle.link_negotiation.specs.declared.negotiation.Linked.{Linked}
use Rattle.link_negotiation.specs.declared.negotiation.Linked.TheVariants as L
use Rattle.link_negotiation.specs.declared.unlinking.Unlinked.{Unlinked}
use Rattle.link_negotiation.specs.declared.unlinking.Unlinked.TheVariants as U
use Rattle.link_negotiation.specs.Links.{LinkState, has_link}
use Rattle.link_negotiation.specs.LinkOutcome.{IsLinkOutcome, LeavesLink, formatted, given}
use Rattle.link_negotiation.specs.Unlinking.{without, is_released, releasing, giving_up, HasUnlinked}
use Rattle.link_negotiation.proofs.MayBeGivenLemmas.{there}
use Rattle.link_negotiation.proofs.OneLinkOutcomeLemmas.{only_outcome}
use Rattle.graph_lines.specs.declared.graph.Graph.{Graph}
use Rattle.graph_lines.specs.declared.graph.Stepped.{Stepped}
use Rattle.graph_lines.specs.declared.graph.Stepped.TheVariants as T
use Rattle.graph_lines.specs.declared.standing.Standing.{Standing}
use Rattle.graph_lines.specs.declared.wire.Wire.{Wire}
use Rattle.graph_lines.specs.EpochLines.{RunsFor, Steps}
use Rattle.graph_lines.specs.LinkLines.{NotesAlone, IsRecorded, LinksLine}
use Rattle.graph_lines.specs.Lines.{Marks}
use Rattle.graph_lines.specs.UnlinkLines.{HasKept, giving, IsTakenAway, UnlinksLine}
use Rattle.graph_script.specs.Making.{grown}
use Rattle.graph_plan.specs.Following.{Follows}
use Rattle.graph_plan.specs.working.SoundGraph.{IsSoundGraph}
use Rattle.graph_plan.proofs.one.OneEpochLemmas.{runs_one, drain_one}
use Rattle.graph_plan.proofs.sound.FormLemmas.{one_number, input_count_is}
use Rattle.graph_plan.proofs.sound.MadeLinkLemmas.{link_made}
use Rattle.graph_plan.proofs.sound.StandsLemmas.{port_stays}
use Rattle.graph_plan.proofs.sound.SoundGraphLemmas.{few_nodes, count_within, port_there}
use Rattle.graph_plan.proofs.sound.StepLemmas.{IsGoodLine, AreGoodLines, good_first, good_rest, step_sound, step_kinds}

-- one answer, and one graph where the line is done
abbrev pub IsOneStep : Stepped → Stepped → Graph → Graph → Type 0
IsOneStep s t a b = (s ≡ t) × (s ≡ T.Done → a ≡ b)

both_done : (s t : Stepped) (a b c : Graph) → s ≡ T.Done → t ≡ T.Done → a ≡ c → b ≡ c → IsOneStep s t a b
both_done s t a b c p q h k = (p ∙ sym q, λ e. h ∙ sym k)

-- a form that a port has
one_has : (nodes : List Node) → AreSoundNodes nodes → (port : PortId) → IsPort nodes port → (rate channels rate' channels' : ℕ)
    → AtPort nodes port (λ node s. HasForm node s rate channels) → AtPort nodes port (λ node s. HasForm node s rate' channels')
    → (rate ≡ rate') × (channels ≡ channels')
one_has nodes sound port is rate channels rate' channels' h k =
    let t = there nodes port sound is in
    let a = at_port (λ (node : Node) (s : PortState). HasForm node s rate channels) nodes port t.node t.state t.node_is t.state_is h in
    let b = at_port (λ (node : Node) (s : PortState). HasForm node s rate' channels') nodes port t.node t.state t.node_is t.state_is k in
    (one_number (value_of t.node t.state 65539) rate rate' a.0 b.0, one_number (value_of t.node t.state 65540) channels channels' a.1 b.1)

module _ (count : ℕ) (g : Graph) (sound : IsSoundGraph count g) where
  output_of : (port : PortId) → IsOutput g.kinds port → IsOutputOf g.ports port
  output_of port h = (
    subst (λ (n : ℕ). n ≤ port.port) (sym (input_count_is g.ports g.kinds sound.kinds port.node)) h.0,
    port_there count g sound port h.1,
  )

  input_of : (port : PortId) → IsInput g.kinds port → IsInputOf g.ports port
  input_of port h = subst (λ (n : ℕ). port.port < n) (sym (input_count_is g.ports g.kinds sound.kinds port.node)) h

  -- A LINK LINE
  module _ (from to : PortId) (out : IsOutput g.kinds from) (in' : IsInput g.kinds to) (s t : Stepped) (a b : Graph)
      (h : LinksLine g from to s a) (k : LinksLine g from to t b) where
    same_graph : a.ports ≡ b.ports → a.links ≡ b.links → a.wires ≡ b.wires → a.lines ≡ b.lines → a ≡ b
    same_graph p l w n = h.same ∙ (ap (λ (x : List Node). record g { ports = x; links = a.links; wires = a.wires; lines = a.lines }) p
        ∙ (ap (λ (x : LinkState). record g { ports = b.ports; links = x; wires = a.wires; lines = a.lines }) l
        ∙ (ap (λ (x : List Wire). record g { ports = b.ports; links = b.links; wires = x; lines = a.lines }) w
        ∙ (ap (λ (x : List LinkLine). record g { ports = b.ports; links = b.links; wires = b.wires; lines = x }) n ∙ sym k.same))))

    alone : (outcome : LineOutcome) → (a.links ≡ g.links) × (a.ports ≡ g.ports) → (b.links ≡ g.links) × (b.ports ≡ g.ports)
        → NotesAlone g from to outcome s a → NotesAlone g from to outcome t b → IsOneStep s t a b
    alone outcome x y m n = (
      m.0 ∙ sym n.0,
      λ e. same_graph (x.1 ∙ sym y.1) (x.0 ∙ sym y.0) (m.1 ∙ sym n.1) (m.2 ∙ sym n.2),
    )

    not_done : (w : Which) → s ≡ T.Passed w → s ≡ T.Done → ⊥
    not_done w p q = cc

    go : (linked : Linked) → IsLinkOutcome g.links g.ports from to linked
        → LeavesLink g.links g.ports from to linked a.links a.ports → LeavesLink g.links g.ports from to linked b.links b.ports
        → IsRecorded g from to linked s a → IsRecorded g from to linked t b → IsOneStep s t a b
    go (L.Made format buffers) o x y m n =
        let is_from = port_there count g sound from out.1 in
        let is_to = port_there count g sound to (omega (arith, in')) in
        let made = link_made g.ports from to format sound.ports is_from is_to o.0.other o.1.0 in
        let after : IsPort (formatted g.ports from to format) from = port_stays _ to from (given format) (port_stays g.ports from from (given format) is_from) in
        let r = one_has (formatted g.ports from to format) made.sound from after m.2.0 m.2.1 n.2.0 n.2.1
        (subst (λ (ns : List Node). AtPort ns from (λ node u. HasForm node u m.2.0 m.2.1)) x.1 m.2.2)
        (subst (λ (ns : List Node). AtPort ns from (λ node u. HasForm node u n.2.0 n.2.1)) y.1 n.2.2) in
        let lines : a.lines ≡ b.lines = m.2.3 ∙ (ap (λ (q : ℕ). g.lines ++ record { from = from; to = to; outcome = O.Linked q m.2.1 buffers } ∷ []) r.0
        ∙ (ap (λ (q : ℕ). g.lines ++ record { from = from; to = to; outcome = O.Linked n.2.0 q buffers } ∷ []) r.1 ∙ sym n.2.3)) in
        (m.0 ∙ sym n.0, λ e. same_graph (x.1 ∙ sym y.1) (x.0 ∙ sym y.0) (m.1 ∙ sym n.1) lines)
    go (L.NoFormat key) o x y m n = alone _ x y m n
    go L.NoBuffers o x y m n = alone _ x y m n
    go L.Twice o x y m n = alone _ x y m n
    go L.Loop o x y m n = alone _ x y m n
    go L.Many o x y m n = (m.0 ∙ sym n.0, λ e. absurd (not_done _ m.0 e))

    pub links_one : IsOneStep s t a b
    links_one =
        let same = only_outcome g.links g.ports from to (output_of from out) (input_of to in') sound.ports k.linked h.linked k.outcome h.outcome in
        go h.linked h.outcome h.leaves (subst (λ (x : Linked). LeavesLink g.links g.ports from to x b.links b.ports) same k.leaves) h.noted
        (subst (λ (x : Linked). IsRecorded g from to x t b) same k.noted)

  -- AN UNLINK LINE
  bit_one : (keep keep' n : ℕ) → n < 64 → HasKept g.nodes keep → HasKept g.nodes keep' → bit_at keep n ≡ bit_at keep' n
  bit_one keep keep' n l h k = go (bit_at keep n) (bit_at keep' n) (bit_at-lt keep n) (bit_at-lt keep' n)
      (λ e. (k n l).1 ((h n l).0 e)) (λ e. (h n l).1 ((k n l).0 e)) where
        go : (x y : ℕ) → x < 2 → y < 2 → (x ≡ 1 → y ≡ 1) → (y ≡ 1 → x ≡ 1) → x ≡ y
        go zero zero p q f b = refl
        go zero (suc y) p q f b = (let z : 0 ≡ 1 = b (omega (arith, q)) in absurd (omega (arith, z)))
        go (suc x) y p q f b = let one : suc x ≡ 1 = omega (arith, p) in one ∙ sym (f one)

  released_one : (made : List Link) (keep keep' n : ℕ) → n < 64 → HasKept g.nodes keep → HasKept g.nodes keep'
      → is_released made keep n ≡ is_released made keep' n
  released_one made keep keep' n l h k = ap (λ (x : ℕ). not (has_link made n) && (x == 0)) (bit_one keep keep' n l h k)

  releasing_one : (made : List Link) (keep keep' n : ℕ) (nodes : List Node) → n < 64 → HasKept g.nodes keep → HasKept g.nodes keep'
      → releasing made keep n nodes ≡ releasing made keep' n nodes
  releasing_one made keep keep' n nodes l h k = ap (λ (x : Bool). if x then with_released nodes n else nodes) (released_one made keep keep' n l h k)

  giving_one : (made : List Link) (keep keep' n set : ℕ) → n < 64 → HasKept g.nodes keep → HasKept g.nodes keep'
      → giving_up made keep n set ≡ giving_up made keep' n set
  giving_one made keep keep' n set l h k = ap (λ (x : Bool). if x then bit_or set (2 ^ n) else set) (released_one made keep keep' n l h k)

  module _ (from to : PortId) (from_in : from.node < 64) (to_in : to.node < 64) (a b : Graph) (h : UnlinksLine g from to a) (k : UnlinksLine g from to b) where
    same_after : a.ports ≡ b.ports → a.links ≡ b.links → a.wires ≡ b.wires → a.nodes ≡ b.nodes → a.lines ≡ b.lines → a ≡ b
    same_after p l w d n = h.same ∙ (ap (λ (x : List Node). record g { ports = x; links = a.links; wires = a.wires; nodes = a.nodes; lines = a.lines }) p
        ∙ (ap (λ (x : LinkState). record g { ports = b.ports; links = x; wires = a.wires; nodes = a.nodes; lines = a.lines }) l
        ∙ (ap (λ (x : List Wire). record g { ports = b.ports; links = b.links; wires = x; nodes = a.nodes; lines = a.lines }) w
        ∙ (ap (λ (x : List Standing). record g { ports = b.ports; links = b.links; wires = b.wires; nodes = x; lines = a.lines }) d
        ∙ (ap (λ (x : List LinkLine). record g { ports = b.ports; links = b.links; wires = b.wires; nodes = b.nodes; lines = x }) n ∙ sym k.same)))))

    taken : (u v : Unlinked) → HasUnlinked g.links g.ports from to h.keep u a.links a.ports → HasUnlinked g.links g.ports from to k.keep v b.links b.ports
        → IsTakenAway g from to u a → IsTakenAway g from to v b → a ≡ b
    taken U.NotThere U.NotThere x y m n = same_after (x.2 ∙ sym y.2) (x.1 ∙ sym y.1) (m.0 ∙ sym n.0) (m.1 ∙ sym n.1) (m.2 ∙ sym n.2)
    taken U.NotThere (U.Gone w) x y m n = absurd (both_ways _ x.0 y.0)
    taken (U.Gone v) U.NotThere x y m n = absurd (both_ways _ y.0 x.0)
    taken (U.Gone v) (U.Gone w) x y m n =
        let ports : a.ports ≡ b.ports = x.3
        ∙ (ap (releasing (without from to g.links.made) h.keep to.node) (releasing_one (without from to g.links.made) h.keep k.keep from.node g.ports from_in h.kept k.kept)
        ∙ (releasing_one (without from to g.links.made) h.keep k.keep to.node (releasing (without from to g.links.made) k.keep from.node g.ports) to_in h.kept k.kept
        ∙ sym y.3)) in
        let bits : v ≡ w = x.2
        ∙ (ap (giving_up (without from to g.links.made) h.keep to.node) (giving_one (without from to g.links.made) h.keep k.keep from.node 0 from_in h.kept k.kept)
        ∙ (giving_one (without from to g.links.made) h.keep k.keep to.node (giving_up (without from to g.links.made) k.keep from.node 0) to_in h.kept k.kept
        ∙ sym y.2)) in
        same_after ports (x.1 ∙ sym y.1) (m.0 ∙ sym n.0)
        (m.1 ∙ (ap (λ (q : ℕ). giving q to.node (giving q from.node g.nodes)) bits ∙ sym n.1)) (m.2 ∙ sym n.2)

    pub unlinks_one : a ≡ b
    unlinks_one = taken h.unlinked k.unlinked h.outcome k.outcome h.noted k.noted

  marks_one : (n : ℕ) (a b : Graph) → Marks g n a → Marks g n b → a ≡ b
  marks_one n a b (inl h) (inl k) = h.1 ∙ sym k.1
  marks_one n a b (inr h) (inr k) = h.1 ∙ sym k.1
  marks_one n a b (inl h) (inr k) = absurd (both_ways (has_link g.links.made n) k.0 h.0)
  marks_one n a b (inr h) (inl k) = absurd (both_ways (has_link g.links.made n) h.0 k.0)

  small : (n : ℕ) → n < count → n < 64
  small n l = omega (arith, l, count_within count g sound, few_nodes count g sound)

  -- ANY LINE
  pub step_one : (waves : List WavIn) (command : Command) → IsGoodLine count g.kinds command → (s t : Stepped) (a b : Graph) → Steps waves g command s a
      → Steps waves g command t b → IsOneStep s t a b
  step_one waves (C.Source n file) l s t a b h k = both_done s t a b _ h.0 k.0 h.1 k.1
  step_one waves (C.Square n rate channels period amp) l s t a b h k = both_done s t a b _ h.0 k.0 h.1 k.1
  step_one waves (C.Gain n gain) l s t a b h k = both_done s t a b _ h.0 k.0 h.1 k.1
  step_one waves (C.Mix2 n ga gb) l s t a b h k = both_done s t a b _ h.0 k.0 h.1 k.1
  step_one waves (C.Delay n frames) l s t a b h k = both_done s t a b _ h.0 k.0 h.1 k.1
  step_one waves (C.Map n channels list) l s t a b h k = both_done s t a b _ h.0 k.0 h.1 k.1
  step_one waves (C.Split n) l s t a b h k = both_done s t a b _ h.0 k.0 h.1 k.1
  step_one waves (C.Sink n file) l s t a b h k = both_done s t a b _ h.0 k.0 h.1 k.1
  step_one waves (C.Meter n) l s t a b h k = both_done s t a b _ h.0 k.0 h.1 k.1
  step_one waves (C.Driver n p) l s t a b h k = both_done s t a b _ h.0 k.0 h.1 k.1
  step_one waves (C.Loop n i) l s t a b h k = both_done s t a b _ h.0 k.0 h.1 k.1
  step_one waves (C.On n) l s t a b h k = both_done s t a b _ h.0 k.0 h.1 k.1
  step_one waves (C.Off n) l s t a b h k = both_done s t a b _ h.0 k.0 h.1 k.1
  step_one waves (C.Async n) l s t a b h k = (h.0 ∙ sym k.0, λ e. marks_one n a b h.1 k.1)
  step_one waves (C.Buffers port n) l s t a b h k = both_done s t a b _ h.0 k.0 h.1 k.1
  step_one waves (C.Link from to) l s t a b h k = links_one from to l.ports.0 l.ports.1 s t a b h k
  step_one waves (C.Unlink from to) l s t a b h k = (h.0 ∙ sym k.0, λ e. unlinks_one from to (small from.node l.named.0) (small to.node l.named.1) a b h.1 k.1)
  step_one waves (C.Quantum n) l s t a b h k = both_done s t a b _ h.0 k.0 h.1 k.1
  step_one waves (C.Offer port file) l s t a b h k = both_done s t a b _ h.0 k.0 h.1 k.1
  step_one waves (C.Cycles n) l s t a b h k = runs_one count g sound n s t a b h k
  step_one waves C.Drain l s t a b h k =
      let same = drain_one count g sound waves k.0 h.0 k.1 h.1 in
      runs_one count g sound h.0 s t a b h.2 (subst (λ (n : ℕ). RunsFor g n t b) same k.2)

-- ALL LINES
done_not_passed : (w : Which) → T.Done ≡ T.Passed w → ⊥
done_not_passed w e = cc

same_limit : (v w : Which) → T.Passed v ≡ T.Passed w → v ≡ w
same_limit v w e = cc

pub follows_one : (waves : List WavIn) (kinds : List Kind) (lines : List Line) (count : ℕ) (g : Graph) → IsSoundGraph count g → g.kinds ≡ kinds
    → AreGoodLines count kinds lines → (x y : Result Graph (ℕ × Which)) → Follows waves g lines x → Follows waves g lines y → x ≡ y
follows_one waves kinds [] count g sound same good x y h k = h ∙ sym k
follows_one waves kinds (l ∷ ls) count g sound same good x y (inl h) (inl k) =
    let line = subst (λ (ks : List Kind). IsGoodLine count ks l.command) (sym same) (good_first count kinds l ls good) in
    let one = (step_one count g sound waves l.command line T.Done T.Done h.0 k.0 h.1 k.1).1 refl in
    follows_one waves kinds ls (grown count l.command) h.0 (step_sound waves count g h.0 l.command sound line h.1)
    (step_kinds waves g h.0 l.command h.1 ∙ same) (good_rest count kinds l ls good) x y h.2
    (subst (λ (z : Graph). Follows waves z ls y) (sym one) k.2)
follows_one waves kinds (l ∷ ls) count g sound same good x y (inl h) (inr k) =
    let line = subst (λ (ks : List Kind). IsGoodLine count ks l.command) (sym same) (good_first count kinds l ls good) in
    absurd (done_not_passed k.0 (step_one count g sound waves l.command line T.Done (T.Passed k.0) h.0 k.1 h.1 k.2).0)
follows_one waves kinds (l ∷ ls) count g sound same good x y (inr h) (inl k) =
    let line = subst (λ (ks : List Kind). IsGoodLine count ks l.command) (sym same) (good_first count kinds l ls good) in
    absurd (done_not_passed h.0 (step_one count g sound waves l.command line T.Done (T.Passed h.0) k.0 h.1 k.1 h.2).0)
follows_one waves kinds (l ∷ ls) count g sound same good x y (inr h) (inr k) =
    let line = subst (λ (ks : List Kind). IsGoodLine count ks l.command) (sym same) (good_first count kinds l ls good) in
    let one = same_limit h.0 k.0 (step_one count g sound waves l.command line (T.Passed h.0) (T.Passed k.0) h.1 k.1 h.2 k.2).0 in
    h.3 ∙ (ap (λ (w : Which). Err (l.line, w)) one ∙ sym k.3)
