-- A sound graph after any line that is done, and before the first.
use Rattle.std.proofs.Common.{◌≡◌, ◌⊎◌, inl, inr, ℕ, ◌<◌, ◌≤◌, false, List, map, length, get_or, refl, sym, ap, ◌∙◌, subst, arith}
use Rattle.std.specs.Prelude.{Result, Ok, Err, IfOk, All}
use Rattle.std.specs.List.{range_with_len}
use Rattle.std.proofs.lemmas.Bool.{cases_lt}
use Rattle.std.proofs.lemmas.List.{length-map, length-replicate, get_or_past, get_or-map}
use Rattle.std.proofs.lemmas.List.Elements.{All-nil, All-weaker}
use Rattle.std.proofs.lemmas.List.FromFn.{length-range_with_len}
use Rattle.pw_graph.specs.declared.ids.PortId.{PortId}
use Rattle.pw_lists.specs.declared.memory.Memory.{Memory}
use Rattle.pw_graph.specs.SoundShape.{IsBetween}
use Rattle.wav_files.specs.declared.wav.WavIn.{WavIn}
use Rattle.graph_script.specs.declared.command.Command.{Command}
use Rattle.graph_script.specs.declared.command.Command.TheVariants as C
use Rattle.graph_script.specs.declared.script.Line.{Line}
use Rattle.port_model.specs.declared.port_state.Node.{Node}
use Rattle.port_model.specs.PortState.{changed, with_port, buffered}
use Rattle.port_model.specs.SoundPorts.{AreSoundNodes}
use Rattle.port_model.proofs.ReleaseLemmas.{nodes_buffered}
use Rattle.link_negotiation.specs.Links.{LinkState, link_of, is_marked}
use Rattle.graph_lines.specs.declared.graph.Graph.{Graph}
use Rattle.graph_lines.specs.declared.graph.Stepped.{Stepped}
use Rattle.graph_lines.specs.declared.graph.Stepped.TheVariants as T
use Rattle.graph_lines.specs.declared.limits.Sums.{Sums}
use Rattle.graph_lines.specs.declared.standing.Standing.{Standing}
use Rattle.graph_lines.specs.declared.wire.Wire.{Wire}
use Rattle.graph_lines.specs.Activity.{nobody, standing}
use Rattle.graph_lines.specs.Conditions.{MayDo, MayStep}
use Rattle.graph_lines.specs.EpochLines.{Steps}
use Rattle.graph_lines.specs.Lines.{with_node, made, prior, looped, switched_on, switched_off, Does}
use Rattle.graph_lines.specs.Start.{kinds_of, newcomer, MayStart, IsStart}
use Rattle.graph_lines.specs.Ready.{IsReadyWire, IsReady}
use Rattle.graph_lines.proofs.ActivityLemmas.{none_in}
use Rattle.graph_lines.proofs.AfterLemmas.{run_sound}
use Rattle.graph_lines.proofs.ReadyLinkLemmas.{link_sound}
use Rattle.graph_lines.proofs.ReadyWireLemmas.{kinds_kept, format_kept, wire_kept}
use Rattle.graph_lines.proofs.StandingLemmas.{with_node_sound, marks_sound}
use Rattle.graph_lines.proofs.ReadyUnlinkLemmas.{unlink_sound}

-- a line that says something of a node
node_line : (g after : Graph) (n : ℕ) (f : Standing → Standing) → ((s : Standing) → (f s).marked ≡ s.marked)
    → after ≡ with_node g n f → IsReady g → IsReady after
node_line g after n f marked e sound = subst IsReady (sym e) (with_node_sound g n f marked sound)

made_line : (g after : Graph) (n : ℕ) → after ≡ with_node g n made → IsReady g → IsReady after
made_line g after n e sound = node_line g after n made (λ s. refl) e sound

-- a count of buffers
buffers_line : (g after : Graph) (port : PortId) (n : ℕ) → IsBetween 1 8 n → after ≡ record g { ports = with_port g.ports port (buffered n) }
    → IsReady g → IsReady after
buffers_line g after port n range e sound =
    let later = with_port g.ports port (buffered n) in
    let kinds = kinds_kept g.ports g.kinds port.node (λ m. record m { ports = changed m.ports port.port (buffered n) }) (λ m. refl) sound.nodes.kinds in
    subst IsReady (sym e) (record {
      nodes = record { many = sound.nodes.many; kinds = kinds; ports = nodes_buffered g.ports port n sound.nodes.ports range };
      wires = record {
        wired = sound.wires.wired;
        each = All-weaker (IsReadyWire g.ports) (IsReadyWire later) (λ w. wire_kept g.ports later g.kinds w sound.nodes.kinds kinds
            (format_kept g.ports port w.from (buffered n) (λ s has. has)) (format_kept g.ports port w.to (buffered n) (λ s has. has)))
            g.wires sound.wires.each;
      };
      marks = record { many = sound.marks.many; same = sound.marks.same };
      counts = sound.counts;
    })

-- A LINE that makes no epoch
pub does_sound : (g after : Graph) (command : Command) (stepped : Stepped) → IsReady g → MayDo g command → Does g command stepped after → IsReady after
does_sound g after (C.Source n file) stepped sound may h = made_line g after n h.1 sound
does_sound g after (C.Square n rate channels period amp) stepped sound may h = made_line g after n h.1 sound
does_sound g after (C.Gain n gain) stepped sound may h = made_line g after n h.1 sound
does_sound g after (C.Mix2 n ga gb) stepped sound may h = made_line g after n h.1 sound
does_sound g after (C.Delay n frames) stepped sound may h = made_line g after n h.1 sound
does_sound g after (C.Map n channels list) stepped sound may h = made_line g after n h.1 sound
does_sound g after (C.Split n) stepped sound may h = made_line g after n h.1 sound
does_sound g after (C.Sink n file) stepped sound may h = made_line g after n h.1 sound
does_sound g after (C.Meter n) stepped sound may h = made_line g after n h.1 sound
does_sound g after (C.Driver n p) stepped sound may h = node_line g after n (prior p) (λ s. refl) h.1 sound
does_sound g after (C.Loop n k) stepped sound may h = node_line g after n (looped k) (λ s. refl) h.1 sound
does_sound g after (C.On n) stepped sound may h = node_line g after n switched_on (λ s. refl) h.1 sound
does_sound g after (C.Off n) stepped sound may h = node_line g after n switched_off (λ s. refl) h.1 sound
does_sound g after (C.Async n) stepped sound may h = marks_sound g after n may h.1 sound
does_sound g after (C.Buffers port n) stepped sound may h = buffers_line g after port n may.1 h.1 sound
does_sound g after (C.Link from to) stepped sound may h = link_sound g after from to may.0 may.1 sound h.same stepped h.linked h.outcome h.leaves h.noted
does_sound g after (C.Unlink from to) stepped sound may h =
    unlink_sound g after from to h.1.keep sound h.1.same h.1.unlinked h.1.outcome h.1.noted
does_sound g after (C.Quantum n) stepped sound may h = subst IsReady (sym h.1) sound
does_sound g after (C.Offer port file) stepped sound may h = subst IsReady (sym h.1) sound
does_sound g after (C.Cycles n) stepped sound may h = absurd h
does_sound g after C.Drain stepped sound may h = absurd h

-- ANY LINE
pub steps_sound : (waves : List WavIn) (g after : Graph) (command : Command) → IsReady g → MayStep g command
    → Steps waves g command T.Done after → IsReady after
steps_sound waves g after (C.Source n file) sound may h = does_sound g after (C.Source n file) T.Done sound may h
steps_sound waves g after (C.Square n rate channels period amp) sound may h = does_sound g after (C.Square n rate channels period amp) T.Done sound may h
steps_sound waves g after (C.Gain n gain) sound may h = does_sound g after (C.Gain n gain) T.Done sound may h
steps_sound waves g after (C.Mix2 n ga gb) sound may h = does_sound g after (C.Mix2 n ga gb) T.Done sound may h
steps_sound waves g after (C.Delay n frames) sound may h = does_sound g after (C.Delay n frames) T.Done sound may h
steps_sound waves g after (C.Map n channels list) sound may h = does_sound g after (C.Map n channels list) T.Done sound may h
steps_sound waves g after (C.Split n) sound may h = does_sound g after (C.Split n) T.Done sound may h
steps_sound waves g after (C.Sink n file) sound may h = does_sound g after (C.Sink n file) T.Done sound may h
steps_sound waves g after (C.Meter n) sound may h = does_sound g after (C.Meter n) T.Done sound may h
steps_sound waves g after (C.Driver n p) sound may h = does_sound g after (C.Driver n p) T.Done sound may h
steps_sound waves g after (C.Loop n k) sound may h = does_sound g after (C.Loop n k) T.Done sound may h
steps_sound waves g after (C.On n) sound may h = does_sound g after (C.On n) T.Done sound may h
steps_sound waves g after (C.Off n) sound may h = does_sound g after (C.Off n) T.Done sound may h
steps_sound waves g after (C.Async n) sound may h = does_sound g after (C.Async n) T.Done sound may h
steps_sound waves g after (C.Buffers port n) sound may h = does_sound g after (C.Buffers port n) T.Done sound may h
steps_sound waves g after (C.Link from to) sound may h = does_sound g after (C.Link from to) T.Done sound may h
steps_sound waves g after (C.Unlink from to) sound may h = does_sound g after (C.Unlink from to) T.Done sound may h
steps_sound waves g after (C.Quantum n) sound may h = does_sound g after (C.Quantum n) T.Done sound may h
steps_sound waves g after (C.Offer port file) sound may h = does_sound g after (C.Offer port file) T.Done sound may h
steps_sound waves g after (C.Cycles n) sound may h = run_sound g after n sound h
steps_sound waves g after C.Drain sound may h = run_sound g after h.0 sound h.2

pub done_sound : (waves : List WavIn) (g after : Graph) (command : Command) (r : Result Stepped Memory) → IsReady g → MayStep g command
    → IfOk r (λ stepped. Steps waves g command stepped after) → IfOk r (λ stepped. stepped ≡ T.Done → IsReady after)
done_sound waves g after command (Ok stepped) sound may h = λ e. steps_sound waves g after command sound may
    (subst (λ (s : Stepped). Steps waves g command s after) e h)
done_sound waves g after command (Err memory) sound may h = h

-- BEFORE THE FIRST LINE
pub start_sound : (script : List Line) (ports : List Node) (g : Graph) → MayStart script ports → IsStart script ports g → IsReady g
start_sound script ports g may h = record {
  nodes = record {
    many = ap length h.nodes ∙ (length-map (range_with_len 0 count) newcomer ∙ (length-range_with_len 0 count ∙ sym (ap length h.kinds)));
    kinds = ap (map (λ (n : Node). n.kind)) h.ports ∙ (may.kinds ∙ sym h.kinds);
    ports = subst AreSoundNodes (sym h.ports) may.ports;
  };
  wires = record {
    wired = ap (map (λ (w : Wire). link_of w.from w.to)) h.wires ∙ sym (ap (λ (s : LinkState). s.made) h.links);
    each = subst (λ (ws : List Wire). All (IsReadyWire g.ports) ws) (sym h.wires) (All-nil (IsReadyWire g.ports));
  };
  marks = record {
    many = ap (λ (s : LinkState). length s.marks) h.links ∙ length-replicate 64 false;
    same = λ n. ap (λ (ns : List Standing). (standing ns n).marked) h.nodes ∙ (unmarked n (cases_lt n count)
        ∙ sym (ap (λ (s : LinkState). is_marked s n) h.links ∙ none_in 64 n));
  };
  counts = record {
    quantum = subst (IsBetween 1 8192) (sym h.quantum) may.quantum;
    events = let first = h.first in omega (arith, first);
    limit = let none = ap (λ (s : Sums). s.events) h.sums in omega (arith, none);
  };
} where
  count : ℕ
  count = length (kinds_of script)

  row : List Standing
  row = map newcomer (range_with_len 0 count)

  here : (n : ℕ) → n < count → standing row n ≡ newcomer (get_or (range_with_len 0 count) n 0)
  here n l = get_or-map newcomer (range_with_len 0 count) n 0 nobody (let all = length-range_with_len 0 count in omega (arith, l, all))

  past : (n : ℕ) → count ≤ n → standing row n ≡ nobody
  past n le = get_or_past row n nobody (let all = length-map (range_with_len 0 count) newcomer ∙ length-range_with_len 0 count in omega (arith, le, all))

  unmarked : (n : ℕ) → (n < count) ⊎ (count ≤ n) → (standing row n).marked ≡ false
  unmarked n (inl l) = ap (λ (s : Standing). s.marked) (here n l)
  unmarked n (inr le) = ap (λ (s : Standing). s.marked) (past n le)

pub started : (script : List Line) (ports : List Node) (r : Result Graph Memory) → MayStart script ports → IfOk r (IsStart script ports)
    → IfOk r IsReady
started script ports (Ok g) may h = start_sound script ports g may h
started script ports (Err m) may h = h

pub few_made : (script : List Line) (ports : List Node) → MayStart script ports → length (kinds_of script) ≤ 63
few_made script ports may =
    let same = sym (ap length may.kinds) ∙ length-map ports (λ n. n.kind) in let few = may.ports.few in omega (arith, same, few)
