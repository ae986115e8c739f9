-- A rehearsal: past an epoch, and a sound graph after any line.
use Rattle.std.proofs.Common.{◌≡◌, ◌⊎◌, inl, inr, ℕ, zero, suc, ◌+◌, ◌-◌, ◌^◌, ◌<◌, ◌≤◌, ◌||◌, min, Bool, true, false, List, map, length, refl, sym, ap, ◌∙◌, subst, arith}
use Rattle.std.specs.Prelude.{if◌then◌else◌, Result, Ok, Err, IfOk}
use Rattle.std.specs.List.{range_with_len}
use Rattle.std.proofs.lemmas.Bool.{cases_lt}
use Rattle.std.proofs.lemmas.List.{get_or_past}
use Rattle.std.proofs.lemmas.List.FromFn.{length-map-range_with_len, get_or-map-range_with_len}
use Rattle.pw_lists.specs.declared.memory.Memory.{Memory}
use Rattle.pw_graph.specs.declared.plan.Epoch.{Epoch}
use Rattle.wav_files.specs.declared.wav.WavIn.{WavIn}
use Rattle.graph_script.specs.declared.command.Command.{Command}
use Rattle.graph_script.specs.declared.command.Command.TheVariants as C
use Rattle.graph_lines.specs.declared.graph.Graph.{Graph}
use Rattle.graph_lines.specs.declared.graph.Stepped.{Stepped}
use Rattle.graph_lines.specs.declared.graph.Stepped.TheVariants as T
use Rattle.graph_lines.specs.declared.standing.Standing.{Standing}
use Rattle.graph_lines.specs.Activity.{nobody, standing}
use Rattle.graph_lines.specs.Conditions.{MayStep}
use Rattle.graph_lines.specs.Epochs.{has_node, IsEpochOf}
use Rattle.graph_lines.specs.EpochLines.{is_formed_sink}
use Rattle.graph_lines.specs.Gathering.{DrainsUpTo}
use Rattle.graph_lines.specs.Ready.{IsReady}
use Rattle.graph_lines.specs.Rehearsal.{standing_past, gone_past, GoesPast, Rehearses}
use Rattle.graph_lines.proofs.AfterLemmas.{with_cycles, more_cycles}
use Rattle.graph_lines.proofs.StepLemmas.{does_sound}

-- past no epoch, and past one
pub past_none : (g : Graph) (cycles : ℕ) → cycles ≡ 0 → GoesPast g cycles g
past_none g zero e = refl
past_none g (suc n) e = absurd (omega (arith, e))

pub past_some : (g after : Graph) (cycles : ℕ) (e : Epoch) → 0 < cycles → IsEpochOf g cycles e → after ≡ gone_past g e → GoesPast g cycles after
past_some g after zero e some is same = absurd (omega (arith, some))
past_some g after (suc n) e some is same = (e, is, same)

-- cycles above the greatest number leave the same
still_ran : (has : Bool) (ran few many : ℕ) → 2 ^ 32 ≤ few + 1 → few ≤ many
    → min (ran + (if has then few else 0)) (2 ^ 32 - 1) ≡ min (ran + (if has then many else 0)) (2 ^ 32 - 1)
still_ran true ran few many most le = omega (arith, most, le)
still_ran false ran few many most le = refl

same_past : (g : Graph) (e : Epoch) (many n : ℕ) → 2 ^ 32 ≤ e.shape.cycles + 1 → e.shape.cycles ≤ many
    → standing_past g e n ≡ standing_past g (with_cycles many e) n
same_past g e many n most le = ap (λ (k : ℕ). record (standing g.nodes n) {
  kept = (standing g.nodes n).kept || is_formed_sink g e n;
  ran = k;
}) (still_ran (has_node e.shape n) (standing g.nodes n).ran e.shape.cycles many most le)

past_same : (g : Graph) (e : Epoch) (many : ℕ) → 2 ^ 32 ≤ e.shape.cycles + 1 → e.shape.cycles ≤ many
    → gone_past g e ≡ gone_past g (with_cycles many e)
past_same g e many most le = λ i. record g {
  nodes = map (λ (n : ℕ). same_past g e many n most le i) (range_with_len 0 (length g.nodes));
}

past_over : (g after : Graph) (few many : ℕ) → 2 ^ 32 ≤ few + 1 → few ≤ many → GoesPast g few after → GoesPast g many after
past_over g after zero many most le h = absurd (omega (arith, most))
past_over g after (suc n) many most le h =
    let cycles = h.1.cycles in
    past_some g after many (with_cycles many h.0) (omega (arith, le)) (more_cycles g (suc n) many h.0 h.1)
    (h.2 ∙ past_same g h.0 many (omega (arith, most, cycles)) (omega (arith, le, cycles)))

past_cut : (g after : Graph) (cycles : ℕ) → GoesPast g (min cycles 4294967295) after → GoesPast g cycles after
past_cut g after cycles h = elim (cases_lt 4294967295 cycles) [
  | inl over ↦ past_over g after 4294967295 cycles (omega arith) (omega (arith, over))
      (subst (λ (n : ℕ). GoesPast g n after) (let e : min cycles 4294967295 ≡ 4294967295 = omega (arith, over) in e) h)
  | inr few ↦ subst (λ (n : ℕ). GoesPast g n after) (let e : min cycles 4294967295 ≡ cycles = omega (arith, few) in e) h
]

-- so a drain may be cut there
pub drained_past : (waves : List WavIn) (g after : Graph) (cycles : ℕ) (r : Result Stepped Memory) → DrainsUpTo 4294967295 waves g cycles
    → IfOk r (λ stepped. (stepped ≡ T.Done) × GoesPast g cycles after) → IfOk r (λ stepped. Rehearses waves g C.Drain stepped after)
drained_past waves g after cycles (Ok stepped) d h = (h.0, (d.0, d.1, past_cut g after d.0 (subst (λ (n : ℕ). GoesPast g n after) d.2 h.1)))
drained_past waves g after cycles (Err m) d h = h

-- PAST AN EPOCH a graph is ready
past_ready : (g : Graph) (e : Epoch) → IsReady g → IsReady (gone_past g e)
past_ready g e sound = record {
  nodes = record {
    many = length-map-range_with_len (standing_past g e) 0 (length g.nodes) ∙ sound.nodes.many;
    kinds = sound.nodes.kinds;
    ports = sound.nodes.ports;
  };
  wires = record { wired = sound.wires.wired; each = sound.wires.each };
  marks = record { many = sound.marks.many; same = λ n. marked n (cases_lt n (length g.nodes)) ∙ sound.marks.same n };
  counts = sound.counts;
} where
  row : List Standing
  row = map (standing_past g e) (range_with_len 0 (length g.nodes))

  marked : (n : ℕ) → (n < length g.nodes) ⊎ (length g.nodes ≤ n) → (standing row n).marked ≡ (standing g.nodes n).marked
  marked n (inl l) = ap (λ (s : Standing). s.marked) (get_or-map-range_with_len (standing_past g e) 0 (length g.nodes) n n nobody l (omega arith))
  marked n (inr past) = ap (λ (s : Standing). s.marked)
      (get_or_past row n nobody (omega (arith, past, length-map-range_with_len (standing_past g e) 0 (length g.nodes)))
      ∙ sym (get_or_past g.nodes n nobody past))

pub goes_past_ready : (g after : Graph) (cycles : ℕ) → IsReady g → GoesPast g cycles after → IsReady after
goes_past_ready g after zero sound h = subst IsReady (sym h) sound
goes_past_ready g after (suc n) sound h = subst IsReady (sym h.2) (past_ready g h.0 sound)

-- ANY LINE of a rehearsal
rehearses_sound : (waves : List WavIn) (g after : Graph) (command : Command) (stepped : Stepped) → IsReady g → MayStep g command
    → Rehearses waves g command stepped after → IsReady after
rehearses_sound waves g after (C.Source n file) stepped sound may h = does_sound g after (C.Source n file) stepped sound may h
rehearses_sound waves g after (C.Square n rate channels period amp) stepped sound may h =
    does_sound g after (C.Square n rate channels period amp) stepped sound may h
rehearses_sound waves g after (C.Gain n gain) stepped sound may h = does_sound g after (C.Gain n gain) stepped sound may h
rehearses_sound waves g after (C.Mix2 n ga gb) stepped sound may h = does_sound g after (C.Mix2 n ga gb) stepped sound may h
rehearses_sound waves g after (C.Delay n frames) stepped sound may h = does_sound g after (C.Delay n frames) stepped sound may h
rehearses_sound waves g after (C.Map n channels list) stepped sound may h = does_sound g after (C.Map n channels list) stepped sound may h
rehearses_sound waves g after (C.Split n) stepped sound may h = does_sound g after (C.Split n) stepped sound may h
rehearses_sound waves g after (C.Sink n file) stepped sound may h = does_sound g after (C.Sink n file) stepped sound may h
rehearses_sound waves g after (C.Meter n) stepped sound may h = does_sound g after (C.Meter n) stepped sound may h
rehearses_sound waves g after (C.Driver n p) stepped sound may h = does_sound g after (C.Driver n p) stepped sound may h
rehearses_sound waves g after (C.Loop n k) stepped sound may h = does_sound g after (C.Loop n k) stepped sound may h
rehearses_sound waves g after (C.On n) stepped sound may h = does_sound g after (C.On n) stepped sound may h
rehearses_sound waves g after (C.Off n) stepped sound may h = does_sound g after (C.Off n) stepped sound may h
rehearses_sound waves g after (C.Async n) stepped sound may h = does_sound g after (C.Async n) stepped sound may h
rehearses_sound waves g after (C.Buffers port n) stepped sound may h = does_sound g after (C.Buffers port n) stepped sound may h
rehearses_sound waves g after (C.Link from to) stepped sound may h = does_sound g after (C.Link from to) stepped sound may h
rehearses_sound waves g after (C.Unlink from to) stepped sound may h = does_sound g after (C.Unlink from to) stepped sound may h
rehearses_sound waves g after (C.Quantum n) stepped sound may h = does_sound g after (C.Quantum n) stepped sound may h
rehearses_sound waves g after (C.Offer port file) stepped sound may h = does_sound g after (C.Offer port file) stepped sound may h
rehearses_sound waves g after (C.Cycles n) stepped sound may h = goes_past_ready g after n sound h.1
rehearses_sound waves g after C.Drain stepped sound may h = goes_past_ready g after h.1.0 sound h.1.2

pub rehearsed_sound : (waves : List WavIn) (g after : Graph) (command : Command) (r : Result Stepped Memory) → IsReady g → MayStep g command
    → IfOk r (λ stepped. Rehearses waves g command stepped after) → IfOk r (λ stepped. IsReady after)
rehearsed_sound waves g after command (Ok stepped) sound may h = rehearses_sound waves g after command stepped sound may h
rehearsed_sound waves g after command (Err memory) sound may h = h
