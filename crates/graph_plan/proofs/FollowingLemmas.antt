-- One line more is followed, and what a line needs of the graph before it.
use Rattle.std.proofs.Common.{◌≡◌, inl, inr, ℕ, suc, ◌+◌, ◌<◌, ◌≤◌, List, ◌∷◌, length, get_or, drop, refl, sym, ap, ◌∙◌, subst, arith, add-one, drop-cons}
use Rattle.std.specs.Prelude.{Result, Err}
use Rattle.pw_graph.specs.declared.ids.PortId.{PortId}
use Rattle.pw_graph.specs.declared.kind.Kind.{Kind}
use Rattle.pw_lists.specs.declared.limit.Which.{Which}
use Rattle.wav_files.specs.declared.wav.WavIn.{WavIn}
use Rattle.graph_script.specs.declared.command.Command.{Command}
use Rattle.graph_script.specs.declared.command.Command.TheVariants as C
use Rattle.graph_script.specs.declared.script.Line.{Line}
use Rattle.graph_script.specs.Kinds.{HasPorts, IsInput, IsOutput}
use Rattle.graph_script.specs.Kinds.{IsPort as HasPort}
use Rattle.graph_script.specs.Ranges.{IsInRange, HasNodes}
use Rattle.port_model.specs.PortState.{IsPort}
use Rattle.port_model.specs.PortState.{IsInput as IsInputOf, IsOutput as IsOutputOf}
use Rattle.graph_lines.specs.declared.graph.Graph.{Graph}
use Rattle.graph_lines.specs.declared.graph.Stepped.TheVariants as T
use Rattle.graph_lines.specs.Conditions.{MayStep}
use Rattle.graph_lines.specs.EpochLines.{Steps}
use Rattle.graph_lines.specs.Ready.{IsReady}
use Rattle.graph_plan.specs.Conditions.{AreLinesOf}
use Rattle.graph_plan.specs.Following.{Follows}
use Rattle.graph_plan.proofs.sound.FormLemmas.{port_count_is, input_count_is}

module _ (waves : List WavIn) (g : Graph) (lines : List Line) (i : ℕ) (line : Line) (lt : i < length lines) (is : line ≡ get_or lines i line) where
  -- the lines that are left, with the next in front
  pub next_line : drop i lines ≡ line ∷ drop (i + 1) lines
  next_line = drop-cons lines i line lt ∙ ap (λ (l : Line). l ∷ drop (suc i) lines) (sym is) ∙ ap (λ (k : ℕ). line ∷ drop k lines) (sym (add-one i))

  pub follow_more : (next : Graph) (outcome : Result Graph (ℕ × Which)) → Steps waves g line.command T.Done next
      → Follows waves next (drop (i + 1) lines) outcome → Follows waves g (drop i lines) outcome
  follow_more next outcome s f = subst (λ (ls : List Line). Follows waves g ls outcome) (sym next_line) (inl (next, s, f))

  pub follow_stop : (which : Which) (after : Graph) → Steps waves g line.command (T.Passed which) after
      → Follows waves g (drop i lines) (Err (line.line, which))
  follow_stop which after s = subst (λ (ls : List Line). Follows waves g ls (Err (line.line, which))) (sym next_line) (inr (which, after, s, refl))

-- ports by the kinds
module _ (g : Graph) (ready : IsReady g) where
  port_of : (port : PortId) → HasPort g.kinds port → IsPort g.ports port
  port_of port h = subst (λ (n : ℕ). port.port < n) (sym (port_count_is g.ports g.kinds ready.nodes.kinds port.node)) h

  input_of : (port : PortId) → IsInput g.kinds port → IsInputOf g.ports port
  input_of port h = subst (λ (n : ℕ). port.port < n) (sym (input_count_is g.ports g.kinds ready.nodes.kinds port.node)) h

  output_of : (port : PortId) → IsOutput g.kinds port → IsOutputOf g.ports port
  output_of port h = (
    subst (λ (n : ℕ). n ≤ port.port) (sym (input_count_is g.ports g.kinds ready.nodes.kinds port.node)) h.0,
    port_of port h.1,
  )

  within : (n : ℕ) → n < length g.kinds → n < length g.nodes
  within n h = let e = ready.nodes.many in omega (arith, h, e)

  -- A LINE MAY BE DONE
  pub may : (command : Command) → IsInRange command → HasPorts g.kinds command → HasNodes (length g.kinds) command → MayStep g command
  may (C.Source n file) r p h = within n h
  may (C.Square n rate channels period amp) r p h = within n h
  may (C.Gain n gain) r p h = within n h
  may (C.Mix2 n ga gb) r p h = within n h
  may (C.Delay n frames) r p h = within n h
  may (C.Map n channels list) r p h = within n h
  may (C.Split n) r p h = within n h
  may (C.Sink n file) r p h = within n h
  may (C.Meter n) r p h = within n h
  may (C.Driver n priority) r p h = within n h
  may (C.Loop n k) r p h = within n h
  may (C.On n) r p h = within n h
  may (C.Off n) r p h = within n h
  may (C.Async n) r p h = within n h
  may (C.Buffers port n) r p h = (port_of port p, r)
  may (C.Link from to) r p h = (output_of from p.0, input_of to p.1)
  may (C.Unlink from to) r p h = (output_of from p.0, input_of to p.1, within from.node h.0, within to.node h.1)
  may (C.Quantum n) r p h = tt
  may (C.Offer port file) r p h = within port.node h
  may (C.Cycles n) r p h = tt
  may C.Drain r p h = tt

pub may_step : (g : Graph) (kinds : List Kind) (lines : List Line) (i : ℕ) (line : Line) → IsReady g → g.kinds ≡ kinds → AreLinesOf kinds lines
    → i < length lines → line ≡ get_or lines i line → MayStep g line.command
may_step g kinds lines i line ready same h lt is =
    may g ready line.command (subst (λ (l : Line). IsInRange l.command) (sym is) (h.ranges i line lt))
    (subst (λ (ks : List Kind). HasPorts ks line.command) (sym same) (subst (λ (l : Line). HasPorts kinds l.command) (sym is) (h.ports i line lt)))
    (subst (λ (ks : List Kind). HasNodes (length ks) line.command) (sym same)
    (subst (λ (l : Line). HasNodes (length kinds) l.command) (sym is) (h.nodes i line lt)))
