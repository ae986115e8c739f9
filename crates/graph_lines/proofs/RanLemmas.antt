-- No node ran in more cycles than there were: before the first line, and after each line that is done.
use Rattle.std.proofs.Common.{◌≡◌, inl, inr, ℕ, List, map, length, refl, sym, ap, ◌∙◌, subst, arith}
use Rattle.std.specs.Prelude.{Result, Ok, Err, IfOk}
use Rattle.std.specs.List.{range_with_len}
use Rattle.std.proofs.lemmas.Bool.{cases_lt}
use Rattle.std.proofs.lemmas.List.{get_or_past}
use Rattle.std.proofs.lemmas.List.FromFn.{length-map-range_with_len, get_or-map-range_with_len}
use Rattle.pw_lists.specs.declared.memory.Memory.{Memory}
use Rattle.wav_files.specs.declared.wav.WavIn.{WavIn}
use Rattle.graph_script.specs.declared.command.Command.{Command}
use Rattle.graph_script.specs.declared.command.Command.TheVariants as C
use Rattle.graph_script.specs.declared.script.Line.{Line}
use Rattle.port_model.specs.declared.port_state.Node.{Node}
use Rattle.graph_lines.specs.declared.graph.Graph.{Graph}
use Rattle.graph_lines.specs.declared.graph.Stepped.{Stepped}
use Rattle.graph_lines.specs.declared.graph.Stepped.TheVariants as T
use Rattle.graph_lines.specs.declared.standing.Standing.{Standing}
use Rattle.graph_lines.specs.Activity.{nobody, standing}
use Rattle.graph_lines.specs.EpochLines.{Steps}
use Rattle.graph_lines.specs.Lines.{with_node, made, prior, looped, switched_on, switched_off, Does}
use Rattle.graph_lines.specs.Start.{kinds_of, newcomer, IsStart}
use Rattle.graph_lines.specs.Ready.{HasRan}
use Rattle.graph_lines.proofs.AfterLemmas.{run_ran}
use Rattle.graph_lines.proofs.StandingLemmas.{with_node_ran, marks_ran}
use Rattle.graph_lines.proofs.ReadyUnlinkLemmas.{unlink_ran}

-- a line that says something of a node
node_ran : (g after : Graph) (n : ℕ) (f : Standing → Standing) → ((s : Standing) → (f s).ran ≡ s.ran) → after ≡ with_node g n f
    → HasRan g → HasRan after
node_ran g after n f same e ran = subst HasRan (sym e) (with_node_ran g n f same ran)

made_ran : (g after : Graph) (n : ℕ) → after ≡ with_node g n made → HasRan g → HasRan after
made_ran g after n e ran = node_ran g after n made (λ s. refl) e ran

-- A LINE that makes no epoch
pub does_ran : (g after : Graph) (command : Command) (stepped : Stepped) → HasRan g → Does g command stepped after → HasRan after
does_ran g after (C.Source n file) stepped ran h = made_ran g after n h.1 ran
does_ran g after (C.Square n rate channels period amp) stepped ran h = made_ran g after n h.1 ran
does_ran g after (C.Gain n gain) stepped ran h = made_ran g after n h.1 ran
does_ran g after (C.Mix2 n ga gb) stepped ran h = made_ran g after n h.1 ran
does_ran g after (C.Delay n frames) stepped ran h = made_ran g after n h.1 ran
does_ran g after (C.Map n channels list) stepped ran h = made_ran g after n h.1 ran
does_ran g after (C.Split n) stepped ran h = made_ran g after n h.1 ran
does_ran g after (C.Sink n file) stepped ran h = made_ran g after n h.1 ran
does_ran g after (C.Meter n) stepped ran h = made_ran g after n h.1 ran
does_ran g after (C.Driver n p) stepped ran h = node_ran g after n (prior p) (λ s. refl) h.1 ran
does_ran g after (C.Loop n k) stepped ran h = node_ran g after n (looped k) (λ s. refl) h.1 ran
does_ran g after (C.On n) stepped ran h = node_ran g after n switched_on (λ s. refl) h.1 ran
does_ran g after (C.Off n) stepped ran h = node_ran g after n switched_off (λ s. refl) h.1 ran
does_ran g after (C.Async n) stepped ran h = marks_ran g after n h.1 ran
does_ran g after (C.Buffers port n) stepped ran h = subst HasRan (sym h.1) (record { within = ran.within })
does_ran g after (C.Link from to) stepped ran h = subst HasRan (sym h.same) (record { within = ran.within })
does_ran g after (C.Unlink from to) stepped ran h = unlink_ran g after from to h.1.unlinked h.1.same h.1.noted ran
does_ran g after (C.Quantum n) stepped ran h = subst HasRan (sym h.1) ran
does_ran g after (C.Offer port file) stepped ran h = subst HasRan (sym h.1) ran
does_ran g after (C.Cycles n) stepped ran h = absurd h
does_ran g after C.Drain stepped ran h = absurd h

-- ANY LINE
steps_ran : (waves : List WavIn) (g after : Graph) (command : Command) → HasRan g → Steps waves g command T.Done after → HasRan after
steps_ran waves g after (C.Source n file) ran h = does_ran g after (C.Source n file) T.Done ran h
steps_ran waves g after (C.Square n rate channels period amp) ran h = does_ran g after (C.Square n rate channels period amp) T.Done ran h
steps_ran waves g after (C.Gain n gain) ran h = does_ran g after (C.Gain n gain) T.Done ran h
steps_ran waves g after (C.Mix2 n ga gb) ran h = does_ran g after (C.Mix2 n ga gb) T.Done ran h
steps_ran waves g after (C.Delay n frames) ran h = does_ran g after (C.Delay n frames) T.Done ran h
steps_ran waves g after (C.Map n channels list) ran h = does_ran g after (C.Map n channels list) T.Done ran h
steps_ran waves g after (C.Split n) ran h = does_ran g after (C.Split n) T.Done ran h
steps_ran waves g after (C.Sink n file) ran h = does_ran g after (C.Sink n file) T.Done ran h
steps_ran waves g after (C.Meter n) ran h = does_ran g after (C.Meter n) T.Done ran h
steps_ran waves g after (C.Driver n p) ran h = does_ran g after (C.Driver n p) T.Done ran h
steps_ran waves g after (C.Loop n k) ran h = does_ran g after (C.Loop n k) T.Done ran h
steps_ran waves g after (C.On n) ran h = does_ran g after (C.On n) T.Done ran h
steps_ran waves g after (C.Off n) ran h = does_ran g after (C.Off n) T.Done ran h
steps_ran waves g after (C.Async n) ran h = does_ran g after (C.Async n) T.Done ran h
steps_ran waves g after (C.Buffers port n) ran h = does_ran g after (C.Buffers port n) T.Done ran h
steps_ran waves g after (C.Link from to) ran h = does_ran g after (C.Link from to) T.Done ran h
steps_ran waves g after (C.Unlink from to) ran h = does_ran g after (C.Unlink from to) T.Done ran h
steps_ran waves g after (C.Quantum n) ran h = does_ran g after (C.Quantum n) T.Done ran h
steps_ran waves g after (C.Offer port file) ran h = does_ran g after (C.Offer port file) T.Done ran h
steps_ran waves g after (C.Cycles n) ran h = run_ran g after n ran h
steps_ran waves g after C.Drain ran h = run_ran g after h.0 ran h.2

pub done_ran : (waves : List WavIn) (g after : Graph) (command : Command) (r : Result Stepped Memory) → HasRan g
    → IfOk r (λ stepped. Steps waves g command stepped after) → IfOk r (λ stepped. stepped ≡ T.Done → HasRan after)
done_ran waves g after command (Ok stepped) ran h = λ e. steps_ran waves g after command ran
    (subst (λ (s : Stepped). Steps waves g command s after) e h)
done_ran waves g after command (Err memory) ran h = h

-- BEFORE THE FIRST LINE
none_ran : (count n : ℕ) → (standing (map newcomer (range_with_len 0 count)) n).ran ≡ 0
none_ran count n = elim (cases_lt n count) [
  | inl l ↦ ap (λ (s : Standing). s.ran) (get_or-map-range_with_len newcomer 0 count n n nobody l (omega arith))
  | inr past ↦ ap (λ (s : Standing). s.ran) (get_or_past (map newcomer (range_with_len 0 count)) n nobody
      (omega (arith, past, length-map-range_with_len newcomer 0 count)))
]

start_ran : (script : List Line) (ports : List Node) (g : Graph) → IsStart script ports g → HasRan g
start_ran script ports g h = record {
  within = λ n. let none = ap (λ (ns : List Standing). (standing ns n).ran) h.nodes ∙ none_ran (length (kinds_of script)) n in omega (arith, none);
}

pub started_ran : (script : List Line) (ports : List Node) (r : Result Graph Memory) → IfOk r (IsStart script ports) → IfOk r HasRan
started_ran script ports (Ok g) h = start_ran script ports g h
started_ran script ports (Err m) h = h
