-- What a whole script means is sound.
use Rattle.std.proofs.Common.{◌≡◌, inl, inr, ℕ, ◌+◌, ◌≤◌, List, [], ◌∷◌, length, get_or, map, Option, Some, None}
use Rattle.std.proofs.Common.{refl, sym, ap, ◌∙◌, subst, arith}
use Rattle.std.specs.Prelude.{slice_get, Result, Ok, Err, IfOk, option_map}
use Rattle.std.specs.List.{All, enumerate_from}
use Rattle.std.proofs.lemmas.Bool.{cases_lt}
use Rattle.std.proofs.lemmas.Option.{slice_get-get_or, same_Some, none-some}
use Rattle.std.proofs.lemmas.List.{get_or_past, length-map}
use Rattle.std.proofs.lemmas.List.Elements.{All-nil, All-weaker}
use Rattle.pw_graph.specs.declared.kind.Kind.{Kind}
use Rattle.pw_graph.specs.declared.kind.Kind.TheVariants.{Source, Dummy}
use Rattle.pw_graph.specs.declared.plan.Epoch.{Epoch}
use Rattle.pw_graph.specs.declared.plan.Plan.{Plan}
use Rattle.pw_graph.specs.PlanForms.{kind_at}
use Rattle.pw_graph.specs.SoundPlan.{IsSoundPlan}
use Rattle.wav_files.specs.declared.wav.WavIn.{WavIn}
use Rattle.cycle_model.specs.WavesFit.{IsFormOf, IsWaveOfSource, WavesFit}
use Rattle.graph_script.specs.declared.script.Line.{Line}
use Rattle.graph_script.specs.declared.script.Script.{Script}
use Rattle.graph_script.specs.Kinds.{HasKinds, HasPorts}
use Rattle.graph_script.specs.Ranges.{HasRanges, HasNodes}
use Rattle.port_model.specs.declared.port_state.Node.{Node}
use Rattle.port_model.specs.PortState.{kind_of}
use Rattle.graph_lines.specs.declared.graph.Graph.{Graph}
use Rattle.graph_lines.specs.Start.{kinds_of, MayStart, IsStart}
use Rattle.graph_plan.specs.declared.fault.PlanFault.{PlanFault}
use Rattle.graph_plan.specs.declared.fault.PlanFault.TheVariants as F
use Rattle.graph_script.specs.Making.{NamesMade}
use Rattle.graph_plan.specs.Conditions.{AreLinesOf, AreScriptPorts, HaveWaves, IsWaveFor}
use Rattle.graph_plan.specs.Following.{Follows}
use Rattle.graph_plan.specs.Joining.{JoinsKinds}
use Rattle.graph_plan.specs.PlanOf.{IsPlanOf}
use Rattle.graph_plan.specs.Planned.{IsAnswer, IsPlanned}
use Rattle.graph_plan.specs.working.SoundGraph.{IsSoundGraph}
use Rattle.graph_plan.proofs.WavesFitLemmas.{follows_fit}
use Rattle.graph_plan.proofs.sound.FormLemmas.{kind_at_is}
use Rattle.graph_plan.proofs.OwnOfferLemmas.{owns, wave_channels}
use Rattle.graph_plan.proofs.SoundPlanLemmas.{like, plan_sound, plan_joins}
use Rattle.graph_plan.proofs.sound.StartLemmas.{quantum_ok, first_sound}
use Rattle.graph_plan.proofs.sound.StepLemmas.{AreGoodLines, EndsSound, follows_sound}

-- a list without its numbers
numbered : (k : ℕ) (kinds : List Kind) → map (λ (m : ℕ × Kind). m.1) (enumerate_from k kinds) ≡ kinds
numbered k [] = refl
numbered k (x ∷ kinds) = ap (λ (ks : List Kind). x ∷ ks) (numbered (k + 1) kinds)

module _ (script : Script) (ranges : HasRanges script) (has : HasKinds script) where
  pub kinds_are : kinds_of script.lines ≡ has.kinds
  kinds_are = ap (map (λ (m : ℕ × Kind). m.1)) has.made ∙ numbered 0 has.kinds

  pub named_are : length script.names ≡ length (kinds_of script.lines)
  named_are = sym (ap length kinds_are ∙ has.named)

  pub lines_are : AreLinesOf (kinds_of script.lines) script.lines
  lines_are = record {
    ranges = ranges.ranges;
    ports = subst (λ (ks : List Kind). All (λ (l : Line). HasPorts ks l.command) script.lines) (sym kinds_are) has.ports;
    nodes = subst (λ (n : ℕ). All (λ (l : Line). HasNodes n l.command) script.lines) named_are ranges.nodes;
  }

  pub may_start : (ports : List Node) → AreScriptPorts script.lines ports → MayStart script.lines ports
  may_start ports h = record { quantum = quantum_ok script.lines ranges.ranges; kinds = h.kinds; ports = h.sound }

  pub channels_are : (ports : List Node) (waves : List WavIn) → AreScriptPorts script.lines ports → HaveWaves ports waves
      → All (λ w. 1 ≤ w.wav.channels) waves
  channels_are ports waves h w = All-weaker (IsWaveFor ports) (λ (x : WavIn). 1 ≤ x.wav.channels) (λ x is. wave_channels ports x h.sound is) waves w.each

  -- before the first line
  pub started_lines : (ports : List Node) (g : Graph) → IsStart script.lines ports g → AreLinesOf g.kinds script.lines
  started_lines ports g h = subst (λ (ks : List Kind). AreLinesOf ks script.lines) (sym h.kinds) lines_are

  pub started_names : (ports : List Node) (g : Graph) → IsStart script.lines ports g → length script.names ≡ length g.kinds
  started_names ports g h = named_are ∙ ap length (sym h.kinds)

  -- FOLLOWED TO ITS END
  module _ (made : NamesMade 0 script.lines) (ports : List Node) (script_ports : AreScriptPorts script.lines ports) (waves : List WavIn)
      (start end : Graph) (starts : IsStart script.lines ports start) (follows : Follows waves start script.lines (Ok end))
      (plan : Plan) (is : IsPlanOf script.names end plan) where
    pub good : AreGoodLines 0 (kinds_of script.lines) script.lines
    good = record { named = made; lines_of = lines_are }

    pub first : IsSoundGraph 0 start
    first = first_sound script.lines ports start ranges.ranges script_ports starts

    pub ends : EndsSound (kinds_of script.lines) end
    ends = follows_sound waves (kinds_of script.lines) script.lines 0 start end first starts.kinds good follows

    pub is_sound : IsSoundPlan plan
    is_sound = plan_sound ends.count end ends.sound script.names plan is

    pub is_joined : All (JoinsKinds plan) plan.lines
    is_joined = plan_joins ends.count end ends.sound script.names plan is

    -- WAVES
    pub kind_is : (n : ℕ) → kind_at plan n ≡ get_or (kinds_of script.lines) n Dummy
    kind_is n = (like ends.count end ends.sound script.names plan is).kind n ∙ ap (λ (ks : List Kind). get_or ks n Dummy) ends.kinds_are

    source_there : (n : ℕ) → kind_at plan n ≡ Source → kind_of ports n ≡ Some Source
    source_there n k = elim (cases_lt n (length ports)) [
      | inl l ↦
          let d : Node = record { kind = Dummy; ports = [] } in
          let at = slice_get-get_or ports n (record { kind = Dummy; ports = [] }) l in
          ap (option_map (λ (m : Node). m.kind)) at
          ∙ ap (λ (x : Kind). Some x) (kind_at_is ports (kinds_of script.lines) script_ports.kinds n (get_or ports n (record { kind = Dummy; ports = [] })) at
          ∙ (sym (kind_is n) ∙ k))
      | inr past ↦ absurd (no_source (sym k ∙ (kind_is n ∙ get_or_past (kinds_of script.lines) n Dummy
          (let a = ap length script_ports.kinds in let b = length-map ports (λ (m : Node). m.kind) in omega (arith, past, a, b)))))
    ] where
      no_source : Source ≡ Dummy → ⊥
      no_source e = cc

    source_is : (n : ℕ) → kind_of ports n ≡ Some Source → kind_at plan n ≡ Source
    source_is n k = go (slice_get ports n) refl k where
      go : (o : Option Node) → slice_get ports n ≡ o → option_map (λ (m : Node). m.kind) o ≡ Some Source → kind_at plan n ≡ Source
      go (Some m) e d = kind_is n ∙ (sym (kind_at_is ports (kinds_of script.lines) script_ports.kinds n m e) ∙ same_Some m.kind Source d)
      go None e d = absurd (none-some Source d)

    pub is_fit : HaveWaves ports waves → WavesFit plan waves
    is_fit h = record {
      sources = All-weaker (IsWaveFor ports) (IsWaveOfSource plan) (λ wave w. record {
        source = source_is wave.node w.source;
        forms = subst (All (λ (e : Epoch). All (IsFormOf wave) e.forms)) (sym is.epochs)
            (follows_fit ports wave w waves (kinds_of script.lines) script.lines 0 start end first starts.kinds script_ports.kinds good (record {
              own = ap owns starts.ports;
              forms = subst (All (λ (e : Epoch). All (IsFormOf wave) e.forms)) (sym starts.epochs)
                  (All-nil (λ (e : Epoch). All (IsFormOf wave) e.forms));
            }) follows).forms;
      }) waves h.each;
      one = λ node k. h.one node (source_there node k);
    }

-- WHAT IS PLANNED
pub planned_from : (lines : List Line) (names : List (List ℕ)) (waves : List WavIn) (ports : List Node) (start : Graph) (r : Result Plan PlanFault)
    → IsStart lines ports start → IsAnswer names waves start lines r → IsPlanned lines names waves ports r
planned_from lines names waves ports start (Ok plan) is h = (start, is, h)
planned_from lines names waves ports start (Err (F.Limit line which)) is h = (start, is, h)
planned_from lines names waves ports start (Err F.Memory) is h = tt

module _ (script : Script) (ranges : HasRanges script) (has : HasKinds script) (made : NamesMade 0 script.lines) (ports : List Node)
    (script_ports : AreScriptPorts script.lines ports) (waves : List WavIn) where
  pub planned_sound : (r : Result Plan PlanFault) → IsPlanned script.lines script.names waves ports r → IfOk r IsSoundPlan
  planned_sound (Ok plan) h = is_sound script ranges has made ports script_ports waves h.0 h.2.0 h.1 h.2.1 plan h.2.2
  planned_sound (Err fault) h = tt

  pub planned_joined : (r : Result Plan PlanFault) → IsPlanned script.lines script.names waves ports r
      → IfOk r (λ plan. All (JoinsKinds plan) plan.lines)
  planned_joined (Ok plan) h = is_joined script ranges has made ports script_ports waves h.0 h.2.0 h.1 h.2.1 plan h.2.2
  planned_joined (Err fault) h = tt

  pub planned_fit : HaveWaves ports waves → (r : Result Plan PlanFault) → IsPlanned script.lines script.names waves ports r
      → IfOk r (λ plan. WavesFit plan waves)
  planned_fit w (Ok plan) h = is_fit script ranges has made ports script_ports waves h.0 h.2.0 h.1 h.2.1 plan h.2.2 w
  planned_fit w (Err fault) h = tt
