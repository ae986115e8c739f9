-- A script refuses just these links: what a port offers is one thing, and so is what a line does.
use Rattle.std.proofs.Common.{◌≡◌, ℕ, List, [], ◌∷◌, ◌++◌, Option, Some, None, refl, sym, ap, ap₂, ◌∙◌, subst, arith}
use Rattle.std.specs.Prelude.{option_map, option_to_list}
use Rattle.std.proofs.lemmas.Option.{same_Some, none-some}
use Rattle.pw_graph.specs.declared.ids.PortId.{PortId}
use Rattle.pw_graph.specs.declared.kind.Kind.{Kind}
use Rattle.wav_files.specs.declared.wav.WavIn.{WavIn}
use Rattle.graph_script.specs.declared.command.Command.{Command}
use Rattle.graph_script.specs.declared.command.Command.TheVariants as C
use Rattle.graph_script.specs.declared.script.Line.{Line}
use Rattle.graph_script.specs.declared.script.Script.{Script}
use Rattle.graph_script.specs.Kinds.{HasKinds, HasPorts}
use Rattle.graph_script.specs.Making.{NamesMade, grown}
use Rattle.graph_script.specs.Ranges.{HasRanges}
use Rattle.port_model.specs.declared.port_state.Node.{Node}
use Rattle.port_model.specs.declared.port_state.PortState.{PortState}
use Rattle.port_model.specs.declared.sharing.Offered.{Offered}
use Rattle.port_model.specs.declared.sharing.Offered.TheVariants.{Offer, Nothing}
use Rattle.port_model.specs.Forms.{IsForm}
use Rattle.port_model.specs.Offers.{int_of}
use Rattle.port_model.specs.PortState.{AtPort}
use Rattle.port_model.proofs.NodeLemmas.{at_port}
use Rattle.format_filter.specs.declared.choice.Choice.{Choice}
use Rattle.link_negotiation.proofs.MayBeGivenLemmas.{IsThere, there}
use Rattle.graph_lines.specs.declared.graph.Graph.{Graph}
use Rattle.graph_lines.specs.Start.{kinds_of}
use Rattle.graph_plan.specs.Conditions.{AreScriptPorts}
use Rattle.graph_plan.specs.working.SoundGraph.{IsSoundGraph}
use Rattle.graph_plan.proofs.PlannedLemmas.{lines_are}
use Rattle.graph_plan.proofs.linked_parts.RehearsalLemmas.{rehearsal_kinds}
use Rattle.graph_plan.proofs.one.OnePlanLemmas.{start_one}
use Rattle.graph_plan.proofs.one.OneRehearsalLemmas.{rehearses_sound, rehearses_one}
use Rattle.graph_plan.proofs.sound.SoundGraphLemmas.{port_there}
use Rattle.graph_plan.proofs.sound.StartLemmas.{first_sound}
use Rattle.graph_plan.proofs.sound.StepLemmas.{IsGoodLine, AreGoodLines, good_first, good_rest}
use Rattle.refused_links.specs.declared.refused_link.RefusedLink.{RefusedLink}
use Rattle.refused_links.specs.declared.refused_link.Sides.{Sides}
use Rattle.refused_links.specs.Refused.{IsRefusedLink, LinkAdds, Adds, Refuses, AreRefusedLinks}
use Rattle.refused_links.specs.declared.refused_link.Sides.TheVariants as S
use Rattle.refused_links.specs.Sides.{choice_at, number_at, HasNumber, TellsNode, Tells, HasSides}
use Rattle.refused_links.proofs.PartingLemmas.{offered_one}

-- WHAT IS TOLD OF A PORT that offers nothing
form_one : (node : Node) (s : PortState) (x y : Option (ℕ × ℕ)) → IsForm node s x → IsForm node s y → x ≡ y
form_one node s None None h k = refl
form_one node s None (Some g) h k = absurd (h g.0 g.1 k)
form_one node s (Some f) None h k = absurd (k f.0 f.1 h)
form_one node s (Some f) (Some g) h k =
    let rates : int_of f.0 ≡ int_of g.0 = same_Some (int_of f.0) (int_of g.0) (sym h.0 ∙ k.0) in
    let channels : int_of f.1 ≡ int_of g.1 = same_Some (int_of f.1) (int_of g.1) (sym h.1 ∙ k.1) in
    let rate : f.0 ≡ g.0 = cc in
    let channel : f.1 ≡ g.1 = cc in
    ap₂ (λ (a b : ℕ). Some (a, b)) rate channel

module _ (nodes : List Node) (at : PortId) (t : IsThere nodes at) (key : ℕ) where
  own_one : (a b : Option Choice) → AtPort nodes at (λ node s. a ≡ choice_at s.own key) → AtPort nodes at (λ node s. b ≡ choice_at s.own key) → a ≡ b
  own_one a b h k = at_port (λ (node : Node) (s : PortState). a ≡ choice_at s.own key) nodes at t.node t.state t.node_is t.state_is h
      ∙ sym (at_port (λ (node : Node) (s : PortState). b ≡ choice_at s.own key) nodes at t.node t.state t.node_is t.state_is k)

  number_one : (a b : Option ℕ) → HasNumber nodes at key a → HasNumber nodes at key b → a ≡ b
  number_one a b h k =
      let same : h.0 ≡ k.0 = form_one t.node t.state h.0 k.0
      (at_port (λ (node : Node) (s : PortState). IsForm node s h.0) nodes at t.node t.state t.node_is t.state_is h.1)
      (at_port (λ (node : Node) (s : PortState). IsForm node s k.0) nodes at t.node t.state t.node_is t.state_is k.1) in
      h.2 ∙ (ap (λ (o : Option (ℕ × ℕ)). option_map (number_at key) o) same ∙ sym k.2)

  node_one : (x y : Sides) → TellsNode nodes at key x → TellsNode nodes at key y → x ≡ y
  node_one (S.Both a b) y h k = absurd h
  node_one (S.Node p o n) (S.Both a b) h k = absurd k
  node_one (S.Node p o n) (S.Node q v m) h k = ap (λ (z : PortId). S.Node z o n) (h.0 ∙ sym k.0)
      ∙ (ap (λ (z : Option Choice). S.Node q z n) (own_one o v h.1 k.1) ∙ ap (λ (z : Option ℕ). S.Node q v z) (number_one n m h.2 k.2))

-- WHAT IS TOLD OF BOTH
module _ (nodes : List Node) (from to : PortId) (s : IsThere nodes from) (t : IsThere nodes to) (key : ℕ) where
  tells_one : (own other : Offered) (x y : Sides) → Tells nodes from to own other key x → Tells nodes from to own other key y → x ≡ y
  tells_one (Nothing k) other x y h g = node_one nodes from s key x y h g
  tells_one (Offer f) (Nothing k) x y h g = node_one nodes to t key x y h g
  tells_one (Offer f) (Offer g) x y h k = h ∙ sym k

  sides_one : (x y : Sides) → HasSides nodes from to key x → HasSides nodes from to key y → x ≡ y
  sides_one x y h k =
      let own : k.0 ≡ h.0 = offered_one nodes from s k.0 h.0 k.2 h.2 in
      let other : k.1 ≡ h.1 = offered_one nodes to t k.1 h.1 k.3 h.3 in
      tells_one h.0 h.1 x y h.5 (subst (λ (p : Offered). Tells nodes from to h.0 p key y) other
      (subst (λ (o : Offered). Tells nodes from to o k.1 key y) own k.5))

-- ONE LINE
module _ (g after : Graph) (number : ℕ) (from to : PortId) (s : IsThere g.ports from) (t : IsThere g.ports to) where
  link_one : (x y : RefusedLink) → IsRefusedLink g number from to after x → IsRefusedLink g number from to after y → x ≡ y
  link_one x y h k =
      let keys : x.key ≡ y.key = same_Some x.key y.key (sym h.noted ∙ k.noted) in
      let sides : x.sides ≡ y.sides = sides_one g.ports from to s t y.key x.sides y.sides
      (subst (λ (n : ℕ). HasSides g.ports from to n x.sides) keys h.sides) k.sides in
      ap (λ (n : ℕ). record x { line = n }) (h.line ∙ sym k.line)
      ∙ (ap (λ (n : ℕ). record x { line = y.line; place = n }) (h.place ∙ sym k.place)
      ∙ (ap (λ (p : PortId). record x { line = y.line; place = y.place; from = p }) (h.from ∙ sym k.from)
      ∙ (ap (λ (p : PortId). record y { to = p; key = x.key; sides = x.sides }) (h.to ∙ sym k.to)
      ∙ (ap (λ (n : ℕ). record y { key = n; sides = x.sides }) keys
      ∙ ap (λ (z : Sides). record y { sides = z }) sides))))

  link_adds_one : (x y : Option RefusedLink) → LinkAdds g number from to after x → LinkAdds g number from to after y → x ≡ y
  link_adds_one None None h k = refl
  link_adds_one None (Some q) h k = absurd (none-some q.key (sym h ∙ k.noted))
  link_adds_one (Some r) None h k = absurd (none-some r.key (sym k ∙ h.noted))
  link_adds_one (Some r) (Some q) h k = ap (λ (z : RefusedLink). Some z) (link_one r q h k)

module _ (count : ℕ) (g after : Graph) (sound : IsSoundGraph count g) (number : ℕ) (x y : Option RefusedLink) where
  adds_one : (command : Command) → HasPorts g.kinds command → Adds g number command after x → Adds g number command after y → x ≡ y
  adds_one (C.Link from to) p h k = link_adds_one g after number from to (there g.ports from sound.ports (port_there count g sound from p.0.1))
      (there g.ports to sound.ports (port_there count g sound to (let within = p.1 in omega (arith, within)))) x y h k
  adds_one (C.Source n file) p h k = h ∙ sym k
  adds_one (C.Square n rate channels period amp) p h k = h ∙ sym k
  adds_one (C.Gain n gain) p h k = h ∙ sym k
  adds_one (C.Mix2 n ga gb) p h k = h ∙ sym k
  adds_one (C.Delay n frames) p h k = h ∙ sym k
  adds_one (C.Map n channels list) p h k = h ∙ sym k
  adds_one (C.Split n) p h k = h ∙ sym k
  adds_one (C.Sink n file) p h k = h ∙ sym k
  adds_one (C.Meter n) p h k = h ∙ sym k
  adds_one (C.Driver n priority) p h k = h ∙ sym k
  adds_one (C.Loop n i) p h k = h ∙ sym k
  adds_one (C.On n) p h k = h ∙ sym k
  adds_one (C.Off n) p h k = h ∙ sym k
  adds_one (C.Async n) p h k = h ∙ sym k
  adds_one (C.Buffers port n) p h k = h ∙ sym k
  adds_one (C.Unlink from to) p h k = h ∙ sym k
  adds_one (C.Quantum n) p h k = h ∙ sym k
  adds_one (C.Offer port file) p h k = h ∙ sym k
  adds_one (C.Cycles n) p h k = h ∙ sym k
  adds_one C.Drain p h k = h ∙ sym k

-- ALL LINES
refuses_one : (waves : List WavIn) (kinds : List Kind) (lines : List Line) (count : ℕ) (g : Graph) → IsSoundGraph count g → g.kinds ≡ kinds
    → AreGoodLines count kinds lines → (x y : List RefusedLink) → Refuses waves g lines x → Refuses waves g lines y → x ≡ y
refuses_one waves kinds [] count g sound same good x y h k = h ∙ sym k
refuses_one waves kinds (l ∷ ls) count g sound same good x y h k =
    let line = subst (λ (ks : List Kind). IsGoodLine count ks l.command) (sym same) (good_first count kinds l ls good) in
    let one : h.0 ≡ k.0 = (rehearses_one waves count g sound l.command h.3.0 k.3.0 h.0 k.0 line h.3.1 k.3.1).1 in
    let added : h.1 ≡ k.1 = adds_one count g h.0 sound l.line h.1 k.1 l.command line.ports h.3.2
    (subst (λ (z : Graph). Adds g l.line l.command z k.1) (sym one) k.3.2) in
    let later : h.2 ≡ k.2 = refuses_one waves kinds ls (grown count l.command) h.0
    (rehearses_sound waves count g sound l.command h.3.0 h.0 line h.3.1) (rehearsal_kinds waves g h.0 l.command h.3.0 h.3.1 ∙ same)
    (good_rest count kinds l ls good) h.2 k.2 h.4 (subst (λ (z : Graph). Refuses waves z ls k.2) (sym one) k.4) in
    h.5 ∙ (ap (λ (z : Option RefusedLink). option_to_list z ++ h.2) added
    ∙ (ap (λ (rs : List RefusedLink). option_to_list k.1 ++ rs) later ∙ sym k.5))

-- THE REFUSED LINKS OF A SCRIPT are one list
pub refused_one : (script : Script) → HasRanges script → HasKinds script → NamesMade 0 script.lines → (ports : List Node)
    → AreScriptPorts script.lines ports → (waves : List WavIn) (x y : List RefusedLink) → AreRefusedLinks script.lines waves ports x
    → AreRefusedLinks script.lines waves ports y → x ≡ y
refused_one script ranges has made ports script_ports waves x y h k =
    let same = start_one script.lines ports k.0 h.0 k.1 h.1 in
    refuses_one waves (kinds_of script.lines) script.lines 0 h.0 (first_sound script.lines ports h.0 ranges.ranges script_ports h.1) h.1.kinds
    (record { named = made; lines_of = lines_are script ranges has }) x y h.2
    (subst (λ (g : Graph). Refuses waves g script.lines y) same k.2)
