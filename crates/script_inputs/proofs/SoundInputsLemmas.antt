-- Laws of `specs/working/SoundInputs.antt`: inputs stay sound through each line.
use Rattle.std.proofs.Common.{◌≡◌, ℕ, ◌+◌, ◌<◌, ◌≤◌, List, [], ◌∷◌, ◌++◌, length, get_or, map}
use Rattle.std.proofs.Common.{Option, Some, None, refl, sym, ap, ◌∙◌, subst}
use Rattle.std.specs.Prelude.{slice_get, IfSome}
use Rattle.std.specs.List.{All}
use Rattle.std.proofs.lemmas.Option.{slice_get-get_or}
use Rattle.std.proofs.lemmas.List.Elements.{All-push, All-weaker}
use Rattle.pw_graph.specs.declared.ids.PortId.{PortId}
use Rattle.pw_graph.specs.declared.kind.Kind.{Kind}
use Rattle.pw_graph.specs.declared.kind.Kind.TheVariants as K
use Rattle.pw_graph.specs.KindRanges.{IsInRange}
use Rattle.format_filter.specs.declared.format.Format.{Format}
use Rattle.format_filter.specs.declared.common.Filtered.TheVariants.{Common}
use Rattle.format_filter.specs.CommonFormat.{Filters}
use Rattle.wav_files.specs.declared.wav.Wav.{Wav}
use Rattle.wav_files.specs.declared.wav.WavIn.{WavIn}
use Rattle.port_model.specs.declared.port_state.PortState.{PortState}
use Rattle.port_model.specs.declared.port_state.Node.{Node}
use Rattle.port_model.specs.Offers.{new_port, new_node, HasFileNumbers}
use Rattle.port_model.specs.Narrowing.{IsUnformatted, Narrows}
use Rattle.port_model.specs.PortState.{IsPort, changed, with_port, offering}
use Rattle.port_model.proofs.ChangedLemmas.{All-changed}
use Rattle.port_model.specs.declared.narrowing.Narrowed.TheVariants.{Done}
use Rattle.port_model.proofs.NodeLemmas.{at_place, at_port, has_place}
use Rattle.port_model.proofs.NarrowingLemmas.{nodes_narrowed}
use Rattle.port_model.proofs.OfferLemmas.{nodes_added}
use Rattle.graph_plan.specs.Conditions.{IsWaveFor}
use Rattle.graph_plan.proofs.lists.ElementLemmas.{map_changed}
use Rattle.graph_plan.proofs.ConditionsLemmas.{waves_plain, waves_source, unused_new, kinds_more, not_source, source_of, wave_for}
use Rattle.script_inputs.specs.declared.inputs.Inputs.{Inputs}
use Rattle.script_inputs.specs.Inputs.{HasForm, with_wave, with_plain}
use Rattle.script_inputs.specs.working.SoundInputs.{AreSoundInputs, AreInputsAfter}
use Rattle.script_inputs.proofs.NarrowedLemmas.{value_narrowed, kind_narrowed}

-- no format and no count of buffers
abbrev IsUnused : PortState → Type 0
IsUnused s = (s.format ≡ None) × (s.buffers ≡ None)

abbrev HasUnused : Node → Type 0
HasUnused node = All IsUnused node.ports

no_more : {X : Type 0} (xs : List X) → xs ≡ xs ++ []
no_more [] = refl
no_more (x ∷ xs) = ap (λ ys. x ∷ ys) (no_more xs)

pub plain_sound : (inputs : Inputs) (made : Option Kind) → AreSoundInputs inputs
    → IfSome made (λ kind. (length inputs.ports < 63) × IsInRange kind × HasFileNumbers kind 0 0)
    → AreInputsAfter inputs made (with_plain inputs made)
plain_sound inputs None sound may = record { sound = sound; kinds = no_more (map (λ (n : Node). n.kind) inputs.ports) }
plain_sound inputs (Some kind) sound may = record {
  sound = record {
    ports = nodes_added inputs.ports kind 0 0 sound.ports may.0 may.1 may.2;
    unused = All-push HasUnused inputs.ports (new_node kind 0 0) sound.unused (unused_new kind 0 0);
    waves = waves_plain inputs.ports (new_node kind 0 0) inputs.waves (not_source kind may.2) sound.waves;
  };
  kinds = kinds_more inputs.ports (new_node kind 0 0);
}

pub wave_sound : (inputs : Inputs) (node : ℕ) (wav : Wav) → AreSoundInputs inputs → node ≡ length inputs.ports → length inputs.ports < 63
    → HasForm wav → AreInputsAfter inputs (Some K.Source) (with_wave inputs node wav)
wave_sound inputs node wav sound place room form = record {
  sound = record {
    ports = nodes_added inputs.ports K.Source wav.rate wav.channels sound.ports room tt form;
    unused = All-push HasUnused inputs.ports (source_of wav) sound.unused (unused_new K.Source wav.rate wav.channels);
    waves = waves_source inputs.ports (source_of wav) inputs.waves (record { node = node; wav = wav }) place
        (wave_for inputs.ports node wav place) sound.waves;
  };
  kinds = kinds_more inputs.ports (source_of wav);
}

-- a narrowed port
module _ (inputs : Inputs) (port : PortId) (n : Node) (s : PortState) (file c : Format) (at_node : slice_get inputs.ports port.node ≡ Some n)
    (at_state : slice_get n.ports port.port ≡ Some s) (free : IsUnformatted n) (filters : Filters s.own file (Common c))
    (sound : AreSoundInputs inputs) where
  abbrev later : List Node
  later = with_port inputs.ports port (offering c)

  wave_stays : (w : WavIn) → IsWaveFor inputs.ports w → IsWaveFor later w
  wave_stays w h = record {
    source = kind_narrowed inputs.ports port n s file c at_node at_state filters w.node ∙ h.source;
    rate = value_narrowed inputs.ports port n s file c at_node at_state filters (record { node = w.node; port = 0 }) 65539 _ h.rate;
    channels = value_narrowed inputs.ports port n s file c at_node at_state filters (record { node = w.node; port = 0 }) 65540 _ h.channels;
  }

  pub narrowed_sound : AreInputsAfter inputs None (record inputs { ports = later })
  narrowed_sound = record {
    sound = record {
      ports = nodes_narrowed inputs.ports port n s file c sound.ports at_node at_state free filters;
      unused = All-changed HasUnused inputs.ports port.node (λ node. record node { ports = changed node.ports port.port (offering c) }) sound.unused
          (λ node e h. All-changed IsUnused node.ports port.port (offering c) h (λ t d u. u));
      waves = record {
        each = All-weaker (IsWaveFor inputs.ports) (IsWaveFor later) wave_stays inputs.waves sound.waves.each;
        one = λ k is. sound.waves.one k (sym (kind_narrowed inputs.ports port n s file c at_node at_state filters k) ∙ is);
      };
    };
    kinds = map_changed (λ (m : Node). m.kind) inputs.ports port.node (λ node. record node { ports = changed node.ports port.port (offering c) })
        (λ node. refl) ∙ no_more (map (λ (m : Node). m.kind) inputs.ports);
  }

pub nowhere : Node
nowhere = record { kind = K.Source; ports = [] }

pub narrow_done : (inputs : Inputs) (port : PortId) (file : Format) (after : List Node) → AreSoundInputs inputs → IsPort inputs.ports port
    → Narrows inputs.ports port file Done after → AreInputsAfter inputs None (record inputs { ports = after })
narrow_done inputs port file after sound is h =
    let place = has_place inputs.ports port sound.ports is in
    let n = get_or inputs.ports port.node nowhere in
    let at_node = slice_get-get_or inputs.ports port.node nowhere place.0 in
    let s = get_or n.ports port.port (new_port K.Source 0 0 0) in
    let at_state = slice_get-get_or n.ports port.port (new_port K.Source 0 0 0) (place.1 n at_node) in
    let w = at_port (λ node t. (own : Format) × Filters t.own file (Common own) × (after ≡ with_port inputs.ports port (offering own)))
    inputs.ports port n s at_node at_state h in
    let free : IsUnformatted n = All-weaker (λ (t : PortState). (t.format ≡ None) × (t.buffers ≡ None)) (λ (t : PortState). t.format ≡ None)
    (λ t u. u.0) n.ports (at_place (λ (m : Node). All (λ (t : PortState). (t.format ≡ None) × (t.buffers ≡ None)) m.ports) inputs.ports port.node n
    sound.unused at_node) in
    subst (λ (ls : List Node). AreInputsAfter inputs None (record inputs { ports = ls })) (sym w.2)
    (narrowed_sound inputs port n s file w.0 at_node at_state free w.1 sound)
