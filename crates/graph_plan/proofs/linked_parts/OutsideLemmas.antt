-- In the plan of a part, a sink or meter outside of it ends without a format: no line of the part names it.
use Rattle.std.proofs.Common.{◌≡◌, ◌≢◌, inl, inr, ℕ, zero, suc, Bool, true, false, cond, List, [], ◌∷◌, ◌||◌, get_or, Option, Some, None, refl, sym, ap, ◌∙◌, subst}
use Rattle.std.specs.Prelude.{slice_get, All, IsSome, Ok}
use Rattle.std.specs.List.{list_all}
use Rattle.std.specs.Option.{is_some}
use Rattle.std.proofs.lemmas.Bool.{both_ways, and_parts}
use Rattle.pw_graph.specs.declared.ids.PortId.{PortId}
use Rattle.pw_graph.specs.declared.kind.Kind.{Kind}
use Rattle.pw_graph.specs.declared.kind.Kind.TheVariants.{Dummy}
use Rattle.pw_graph.specs.KindRanges.{IsSinkOrMeter}
use Rattle.pw_graph.specs.declared.plan.Plan.{Plan}
use Rattle.pw_graph.specs.declared.plan.PlanNode.{PlanNode}
use Rattle.format_filter.specs.declared.format.Format.{Format}
use Rattle.wav_files.specs.declared.wav.WavIn.{WavIn}
use Rattle.graph_script.specs.declared.command.Command.{Command}
use Rattle.graph_script.specs.declared.command.Command.TheVariants as C
use Rattle.graph_script.specs.declared.script.Line.{Line}
use Rattle.graph_script.specs.declared.script.Script.{Script}
use Rattle.graph_script.specs.Kinds.{made_by, HasKinds}
use Rattle.graph_script.specs.Making.{NamesMade}
use Rattle.graph_script.specs.Ranges.{HasRanges}
use Rattle.port_model.specs.declared.port_state.PortState.{PortState}
use Rattle.port_model.specs.declared.port_state.Node.{Node}
use Rattle.port_model.specs.PortState.{changed, with_port, buffered}
use Rattle.port_model.proofs.ChangedLemmas.{changed_elsewhere}
use Rattle.port_model.proofs.NodeLemmas.{at_place, at_port}
use Rattle.link_negotiation.specs.declared.link.Link.{Link}
use Rattle.link_negotiation.specs.declared.negotiation.Linked.{Linked}
use Rattle.link_negotiation.specs.declared.negotiation.Linked.TheVariants as L
use Rattle.link_negotiation.specs.declared.unlinking.Unlinked.{Unlinked}
use Rattle.link_negotiation.specs.declared.unlinking.Unlinked.TheVariants as U
use Rattle.link_negotiation.specs.LinkOutcome.{given, LeavesLink}
use Rattle.link_negotiation.specs.Unlinking.{without, releasing, HasUnlinked}
use Rattle.link_negotiation.proofs.MayBeGivenLemmas.{IsThere, there}
use Rattle.graph_lines.specs.declared.graph.Graph.{Graph}
use Rattle.graph_lines.specs.declared.graph.Stepped.TheVariants as T
use Rattle.graph_lines.specs.EpochLines.{RunsFor, Steps}
use Rattle.graph_lines.specs.Forms.{IsFormOfPort}
use Rattle.graph_lines.specs.Lines.{Marks}
use Rattle.graph_lines.specs.Start.{kinds_of}
use Rattle.graph_plan.specs.Conditions.{AreScriptPorts}
use Rattle.graph_plan.specs.Following.{Follows}
use Rattle.graph_plan.specs.PartLines.{named_by, is_line_of, part_lines, part_script}
use Rattle.graph_plan.specs.Parts.{is_among}
use Rattle.graph_plan.specs.PlanOf.{HasEnd, IsEndOf}
use Rattle.graph_plan.specs.Planned.{IsPlanned}
use Rattle.graph_plan.proofs.sound.FormLemmas.{kind_at_is}
use Rattle.graph_plan.proofs.linked_parts.PartLinesLemmas.{ranges_kept, kinds_kept, names_kept, ports_kept}
use Rattle.graph_plan.proofs.PlannedLemmas.{lines_are}
use Rattle.graph_plan.proofs.sound.StartLemmas.{first_sound}
use Rattle.graph_plan.proofs.sound.StepLemmas.{EndsSound, follows_sound, follows_end, no_stop}
use Rattle.graph_plan.proofs.sound.UnlinkLineLemmas.{releasing_other}

module _ (nodes : List ℕ) (n : ℕ) (out : is_among nodes n ≡ false) where
  -- a node of the part is another
  other : (m : ℕ) → is_among nodes m ≡ true → n ≢ m
  other m inside same = both_ways (is_among nodes n) out (ap (is_among nodes) same ∙ inside)

  one_named : (m : ℕ) → list_all (is_among nodes) (m ∷ []) ≡ true → is_among nodes m ≡ true
  one_named m h = (and_parts (is_among nodes m) true h).0

  two_named : (a b : ℕ) → list_all (is_among nodes) (a ∷ b ∷ []) ≡ true → (is_among nodes a ≡ true) × (is_among nodes b ≡ true)
  two_named a b h = let both = and_parts (is_among nodes a) (list_all (is_among nodes) (b ∷ [])) h in (both.0, one_named b both.1)

  port_stays : (ports : List Node) (q : PortId) (f : PortState → PortState) → is_among nodes q.node ≡ true
      → slice_get (with_port ports q f) n ≡ slice_get ports n
  port_stays ports q f inside = changed_elsewhere ports q.node n (λ node. record node { ports = changed node.ports q.port f }) (other q.node inside)

  release_stays : (made : List Link) (keep m : ℕ) (ports : List Node) → is_among nodes m ≡ true
      → slice_get (releasing made keep m ports) n ≡ slice_get ports n
  release_stays made keep m ports inside = releasing_other made keep m ports n (λ same. absurd (other m inside same))

  run_stays : (g after : Graph) (cycles : ℕ) → RunsFor g cycles T.Done after → slice_get after.ports n ≡ slice_get g.ports n
  run_stays g after zero h = ap (λ (x : Graph). slice_get x.ports n) h.1
  run_stays g after (suc cycles) h = ap (λ (x : Graph). slice_get x.ports n) h.2.1.same

  mark_stays : (g after : Graph) (m : ℕ) → Marks g m after → slice_get after.ports n ≡ slice_get g.ports n
  mark_stays g after m (inl h) = ap (λ (x : Graph). slice_get x.ports n) h.1
  mark_stays g after m (inr h) = ap (λ (x : Graph). slice_get x.ports n) h.1

  -- a link changes its two nodes
  link_stays : (g after : Graph) (from to : PortId) (linked : Linked) → is_among nodes from.node ≡ true → is_among nodes to.node ≡ true
      → LeavesLink g.links g.ports from to linked after.links after.ports → slice_get after.ports n ≡ slice_get g.ports n
  link_stays g after from to (L.Made format buffers) a b h = ap (λ (x : List Node). slice_get x n) h.1
      ∙ (port_stays (with_port g.ports from (given format)) to (given format) b ∙ port_stays g.ports from (given format) a)
  link_stays g after from to (L.NoFormat key) a b h = ap (λ (x : List Node). slice_get x n) h.1
  link_stays g after from to L.NoBuffers a b h = ap (λ (x : List Node). slice_get x n) h.1
  link_stays g after from to L.Twice a b h = ap (λ (x : List Node). slice_get x n) h.1
  link_stays g after from to L.Loop a b h = ap (λ (x : List Node). slice_get x n) h.1
  link_stays g after from to L.Many a b h = ap (λ (x : List Node). slice_get x n) h.1

  unlink_stays : (g after : Graph) (from to : PortId) (keep : ℕ) (unlinked : Unlinked) → is_among nodes from.node ≡ true
      → is_among nodes to.node ≡ true → HasUnlinked g.links g.ports from to keep unlinked after.links after.ports
      → slice_get after.ports n ≡ slice_get g.ports n
  unlink_stays g after from to keep U.NotThere a b h = ap (λ (x : List Node). slice_get x n) h.2
  unlink_stays g after from to keep (U.Gone gave_up) a b h = ap (λ (x : List Node). slice_get x n) h.3
      ∙ (release_stays (without from to g.links.made) keep to.node (releasing (without from to g.links.made) keep from.node g.ports) b
      ∙ release_stays (without from to g.links.made) keep from.node g.ports a)

  -- A LINE OF THE PART leaves it as it was
  line_stays : (waves : List WavIn) (g after : Graph) (c : Command) → (is_some (made_by c) || list_all (is_among nodes) (named_by c)) ≡ true
      → Steps waves g c T.Done after → slice_get after.ports n ≡ slice_get g.ports n
  line_stays waves g after (C.Quantum m) is h = ap (λ (x : Graph). slice_get x.ports n) h.1
  line_stays waves g after (C.Source m file) is h = ap (λ (x : Graph). slice_get x.ports n) h.1
  line_stays waves g after (C.Square m rate channels period amp) is h = ap (λ (x : Graph). slice_get x.ports n) h.1
  line_stays waves g after (C.Gain m gain) is h = ap (λ (x : Graph). slice_get x.ports n) h.1
  line_stays waves g after (C.Mix2 m ga gb) is h = ap (λ (x : Graph). slice_get x.ports n) h.1
  line_stays waves g after (C.Delay m frames) is h = ap (λ (x : Graph). slice_get x.ports n) h.1
  line_stays waves g after (C.Map m channels list) is h = ap (λ (x : Graph). slice_get x.ports n) h.1
  line_stays waves g after (C.Split m) is h = ap (λ (x : Graph). slice_get x.ports n) h.1
  line_stays waves g after (C.Sink m file) is h = ap (λ (x : Graph). slice_get x.ports n) h.1
  line_stays waves g after (C.Meter m) is h = ap (λ (x : Graph). slice_get x.ports n) h.1
  line_stays waves g after (C.Driver m p) is h = ap (λ (x : Graph). slice_get x.ports n) h.1
  line_stays waves g after (C.Loop m k) is h = ap (λ (x : Graph). slice_get x.ports n) h.1
  line_stays waves g after (C.Offer port file) is h = ap (λ (x : Graph). slice_get x.ports n) h.1
  line_stays waves g after (C.Buffers port k) is h = ap (λ (x : Graph). slice_get x.ports n) h.1
      ∙ port_stays g.ports port (buffered k) (one_named port.node is)
  line_stays waves g after (C.Link from to) is h = let both = two_named from.node to.node is in
      link_stays g after from to h.linked both.0 both.1 h.leaves
  line_stays waves g after (C.Unlink from to) is h = let both = two_named from.node to.node is in
      unlink_stays g after from to h.1.keep h.1.unlinked both.0 both.1 h.1.outcome
  line_stays waves g after (C.On m) is h = ap (λ (x : Graph). slice_get x.ports n) h.1
  line_stays waves g after (C.Off m) is h = ap (λ (x : Graph). slice_get x.ports n) h.1
  line_stays waves g after (C.Async m) is h = mark_stays g after m h.1
  line_stays waves g after (C.Cycles cycles) is h = run_stays g after cycles h
  line_stays waves g after C.Drain is h = run_stays g after h.0 h.2

  abbrev StaysFrom : List WavIn → List Line → Type 0
  StaysFrom waves ls = (g end : Graph) → Follows waves g (part_lines nodes ls) (Ok end) → slice_get end.ports n ≡ slice_get g.ports n

  -- ALL LINES OF THE PART
  all_stay : (waves : List WavIn) (ls : List Line) → StaysFrom waves ls
  all_stay waves [] g end h = ap (λ (x : Graph). slice_get x.ports n) (follows_end g end h)
  all_stay waves (l ∷ ls) g end h = go (all_stay waves ls) (is_line_of nodes l) refl h where
    go : StaysFrom waves ls → (b : Bool) → is_line_of nodes l ≡ b
        → Follows waves g (cond b (l ∷ part_lines nodes ls) (part_lines nodes ls)) (Ok end) → slice_get end.ports n ≡ slice_get g.ports n
    go rest true is (inl f) = rest f.0 end f.2 ∙ line_stays waves g f.0 l.command is f.1
    go rest true is (inr f) = absurd (no_stop end l.line f.0 f.3)
    go rest false is f = rest g end f

  module _ (script : Script) (ranges : HasRanges script) (has : HasKinds script) (named : NamesMade 0 script.lines) (ports : List Node)
      (script_ports : AreScriptPorts script.lines ports) (waves : List WavIn) (plan : Plan)
      (planned : IsPlanned (part_lines nodes script.lines) script.names waves ports (Ok plan)) where
    abbrev start : Graph
    start = planned.0

    abbrev end : Graph
    end = planned.2.0

    abbrev own : Script
    own = part_script nodes script

    own_ranges : HasRanges own
    own_ranges = ranges_kept nodes script ranges

    ends : EndsSound (kinds_of own.lines) end
    ends = follows_sound waves (kinds_of own.lines) own.lines 0 start end
        (first_sound own.lines ports start own_ranges.ranges (ports_kept nodes script.lines ports script_ports) planned.1) planned.1.kinds
        (record { named = names_kept nodes script.lines 0 named; lines_of = lines_are own own_ranges (kinds_kept nodes script has) }) planned.2.1

    -- no port of it has a format at the end
    no_format : (node : Node) (i : ℕ) (s : PortState) → slice_get end.ports n ≡ Some node → slice_get node.ports i ≡ Some s → s.format ≡ None
    no_format node i s node_is state_is =
        let before : slice_get ports n ≡ Some node = ap (λ (x : List Node). slice_get x n) (sym planned.1.ports)
        ∙ (sym (all_stay waves script.lines start end planned.2.1) ∙ node_is) in
        (at_place (λ (x : PortState). (x.format ≡ None) × (x.buffers ≡ None)) node.ports i s
        (at_place (λ (x : Node). All (λ s. (s.format ≡ None) × (s.buffers ≡ None)) x.ports) ports n node script_ports.unused before) state_is).0

    no_end : (kind : Kind) (rate channels : ℕ) → kind ≡ get_or end.kinds n Dummy → HasEnd end n kind rate channels → ⊥
    no_end kind rate channels kind_is h =
        let port : PortId = record { node = n; port = 0 } in
        let t : IsThere end.ports port = there end.ports port ends.sound.ports h.1.0 in
        let form = at_port (IsFormOfPort rate channels) end.ports port t.node t.state t.node_is t.state_is h.1.1 in
        let same : kind ≡ t.node.kind = kind_is ∙ sym (kind_at_is end.ports end.kinds ends.sound.kinds n t.node t.node_is) in
        let has_format : IsSome t.state.format = form.1 (subst IsSinkOrMeter same h.0) in
        let some : false ≡ true = subst (λ (o : Option Format). IsSome o) (no_format t.node 0 t.state t.node_is t.state_is) has_format in
        absurd (let no : false ≡ true = some in cc)

    -- OUTSIDE, a node ends with nothing
    pub outside_ends : (node : PlanNode) → slice_get plan.nodes n ≡ Some node → (node.rate ≡ 0) × (node.channels ≡ 0)
    outside_ends node at = go (planned.2.2.nodes n node at).ends where
      go : IsEndOf end n node.kind node.rate node.channels → (node.rate ≡ 0) × (node.channels ≡ 0)
      go (inl h) = absurd (no_end node.kind node.rate node.channels (planned.2.2.nodes n node at).kind h)
      go (inr h) = (h.0, h.1)
