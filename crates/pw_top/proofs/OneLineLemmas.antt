-- ONE LINE: two answers of what a line loads, neither out of memory, are the same, and it leaves the ports of sound inputs.
use Rattle.std.proofs.Common.{◌≡◌, ℕ, ◌++◌, ◌<◌, List, [], length, map, Option, Some, None, refl, sym, subst, arith}
use Rattle.std.specs.Prelude.{Result, Ok, Err, IfSome, option_map, option_to_list}
use Rattle.std.proofs.Math.Nat.{zero-mod}
use Rattle.pw_graph.specs.declared.ids.PortId.{PortId}
use Rattle.pw_graph.specs.declared.kind.Kind.{Kind}
use Rattle.pw_graph.specs.declared.kind.Kind.TheVariants as K
use Rattle.pw_outside.specs.Files.{Names}
use Rattle.pw_graph.specs.KindRanges.{IsInRange}
use Rattle.format_filter.specs.declared.format.Format.{Format}
use Rattle.wav_files.specs.declared.wav.Wav.{Wav}
use Rattle.wav_files.specs.declared.wav.WavIn.{WavIn}
use Rattle.wav_files.specs.declared.fault.WavFault.{WavFault}
use Rattle.wav_files.specs.declared.fault.WavFault.TheVariants as W
use Rattle.wav_files.specs.WavReading.{wav_of}
use Rattle.graph_script.specs.declared.command.Command.{Command}
use Rattle.graph_script.specs.declared.command.Command.TheVariants as C
use Rattle.graph_script.specs.Kinds.{made_by}
use Rattle.port_model.specs.declared.narrowing.Narrowed.{Narrowed}
use Rattle.port_model.specs.declared.narrowing.Narrowed.TheVariants as N
use Rattle.port_model.specs.declared.port_state.Node.{Node}
use Rattle.port_model.specs.Narrowing.{Narrows}
use Rattle.port_model.specs.Offers.{HasFileNumbers}
use Rattle.port_model.specs.PortState.{IsPort}
use Rattle.run_results.specs.declared.status.Status.{Status}
use Rattle.pw_top.specs.declared.inputs.PlanInputs.{PlanInputs}
use Rattle.pw_top.specs.Answer.{Expected}
use Rattle.pw_top.specs.Allowed.{Reads, IsLoad}
use Rattle.pw_top.specs.FormatFile.{HoldsFormat}
use Rattle.pw_top.specs.Refusals.{wave_outcome}
use Rattle.pw_top.specs.Loads.{wav_limit, wav_which, TakesWave, ReadsSource, LoadsSource, narrowed_outcome, NarrowsTo, ReadsOffer, LoadsOffer, LoadsLine}
use Rattle.script_inputs.specs.working.SoundInputs.{MayMake}
use Rattle.pw_top.specs.PlanInputs.{with_wave, with_plain, AreSoundInputs}
use Rattle.pw_top.proofs.OnePartLemmas.{HasOne, part_one, outcomes_equal, ok_is, binds_one, part_gave, went, load_one, format_one}
use Rattle.pw_top.proofs.PlanInputLemmas.{plain_sound, wave_sound, narrow_done}
use Rattle.pw_top.proofs.WaveFormLemmas.{wave_known}
use Rattle.pw_top.proofs.OneNarrowLemmas.{narrows_one}

-- FRESH: the ports of sound inputs
abbrev pub IsFresh : List Node → Type 0
IsFresh nodes = (waves : List WavIn) × AreSoundInputs (record { ports = nodes; waves = waves; used = 0 })

-- fresh after a line too
abbrev pub IsFreshAfter : PlanInputs → Option Kind → PlanInputs → Type 0
IsFreshAfter inputs made after =
    IsFresh after.ports × (map (λ n. n.kind) after.ports ≡ map (λ n. n.kind) inputs.ports ++ option_to_list made)

-- what is known of a line's answers: there is one, and it leaves fresh ports
pub record IsKnown (inputs : PlanInputs) (made : Option Kind) (P : Expected PlanInputs → Type 0) : Type 0 where
  pub one : HasOne P
  pub after : (e : Expected PlanInputs) (x : PlanInputs) → P e → e.outcome ≡ Ok x → IsFreshAfter inputs made x

-- a line that loads nothing
plain_after : (inputs : PlanInputs) (made : Option Kind) → IsFresh inputs.ports
    → IfSome made (λ kind. (length inputs.ports < 63) × IsInRange kind × HasFileNumbers kind 0 0)
    → IsFreshAfter inputs made (with_plain inputs made)
plain_after inputs None fresh may =
    let a = plain_sound (record { ports = inputs.ports; waves = fresh.0; used = 0 }) None fresh.1 may in
    ((fresh.0, a.sound), a.kinds)
plain_after inputs (Some kind) fresh may =
    let a = plain_sound (record { ports = inputs.ports; waves = fresh.0; used = 0 }) (Some kind) fresh.1 may in
    ((fresh.0, a.sound), a.kinds)

plain_known : (inputs : PlanInputs) (made : Option Kind) → IsFresh inputs.ports
    → IfSome made (λ kind. (length inputs.ports < 63) × IsInRange kind × HasFileNumbers kind 0 0)
    → IsKnown inputs made (Reads (λ outcome. outcome ≡ Ok (with_plain inputs made)))
plain_known inputs made fresh may = record {
  one = part_one [] (λ outcome. outcome ≡ Ok (with_plain inputs made)) (outcomes_equal (Ok (with_plain inputs made)));
  after = λ e x p is.
      let same = ok_is x (with_plain inputs made) (Ok x) refl (part_gave [] (λ outcome. outcome ≡ Ok (with_plain inputs made)) e x p is) in
      subst (IsFreshAfter inputs made) (sym same) (plain_after inputs made fresh may);
}

-- a `source` line
wave_is : (place : ℕ) (r : Result Wav WavFault) (wav : Wav) → Ok wav ≡ wave_outcome place r → r ≡ Ok wav
wave_is place (Ok w) wav e = cc
wave_is place (Err W.NotRiff) wav e = cc
wave_is place (Err W.NoFmt) wav e = cc
wave_is place (Err W.BadFmt) wav e = cc
wave_is place (Err W.NotPcm16) wav e = cc
wave_is place (Err W.NoData) wav e = cc
wave_is place (Err W.Truncated) wav e = cc
wave_is place (Err W.Uneven) wav e = cc
wave_is place (Err W.ChannelsOrRate) wav e = cc
wave_is place (Err W.Memory) wav e = cc

wave_after : (inputs : PlanInputs) (node size : ℕ) (wav : Wav) (bytes : List ℕ) → IsFresh inputs.ports → node ≡ length inputs.ports
    → length inputs.ports < 63 → wav_of bytes ≡ Ok wav → IsFreshAfter inputs (Some K.Source) (with_wave inputs node size wav)
wave_after inputs node size wav bytes fresh next room is =
    let form = wave_known bytes wav is in
    let bare : Wav = record { rate = wav.rate; channels = wav.channels; samples = [] } in
    let a = wave_sound (record { ports = inputs.ports; waves = fresh.0; used = 0 }) node 0 bare fresh.1 next room
    (record { rate = (form.0, form.1); channels = (form.2, form.3); whole = zero-mod wav.channels; small = omega arith }) (omega arith) in
    ((_, a.sound), a.kinds)

module _ (names : Names) (place node : ℕ) (file : List ℕ) (inputs : PlanInputs) (fresh : IsFresh inputs.ports) (next : node ≡ length inputs.ports)
    (room : length inputs.ports < 63) where
  abbrev IsWave : List ℕ → Result Wav Status → Type 0
  IsWave bytes outcome = outcome ≡ wave_outcome place (wav_of bytes)

  abbrev IsTaken : ℕ → Wav → Result PlanInputs Status → Type 0
  IsTaken size wav outcome = outcome ≡ Ok (with_wave inputs node size wav)

  reads_source_one : (bytes : List ℕ) → HasOne (ReadsSource place node inputs bytes)
  reads_source_one bytes = binds_one (Reads (IsWave bytes)) (TakesWave node inputs (length bytes))
      (part_one [] (IsWave bytes) (outcomes_equal (wave_outcome place (wav_of bytes))))
      (λ wav. part_one [] (IsTaken (length bytes) wav) (outcomes_equal (Ok (with_wave inputs node (length bytes) wav))))

  source_known : IsKnown inputs (Some K.Source) (LoadsSource names place node file inputs)
  source_known = record {
    one = binds_one (IsLoad names place file (wav_limit inputs.used) (wav_which inputs.used)) (ReadsSource place node inputs)
        (load_one names place file (wav_limit inputs.used) (wav_which inputs.used)) reads_source_one;
    after = λ e x p is.
        let loaded = went (IsLoad names place file (wav_limit inputs.used) (wav_which inputs.used)) (ReadsSource place node inputs) e x p is in
        let bytes = loaded.given in
        let read = went (Reads (IsWave bytes)) (TakesWave node inputs (length bytes)) loaded.rest x loaded.after loaded.gives in
        let wav = read.given in
        let wave = wave_is place (wav_of bytes) wav (part_gave [] (IsWave bytes) read.first wav read.allowed read.gave) in
        let same = ok_is x (with_wave inputs node (length bytes) wav) (Ok x) refl
        (part_gave [] (IsTaken (length bytes) wav) read.rest x read.after read.gives) in
        subst (IsFreshAfter inputs (Some K.Source)) (sym same) (wave_after inputs node (length bytes) wav bytes fresh next room wave);
  }

-- an `offer` line
narrowed_after : (place : ℕ) (port : PortId) (inputs : PlanInputs) (file : Format) (x : PlanInputs) → IsFresh inputs.ports → IsPort inputs.ports port
    → (n : Narrowed) (later : List Node) → Narrows inputs.ports port file n later → Ok x ≡ narrowed_outcome place inputs n later
    → IsFreshAfter inputs None x
narrowed_after place port inputs file x fresh is N.NotFormat later h e = cc
narrowed_after place port inputs file x fresh is (N.Clash key) later h e = cc
narrowed_after place port inputs file x fresh is N.Done later h e =
    let a = narrow_done (record { ports = inputs.ports; waves = fresh.0; used = 0 }) port file later fresh.1 is h in
    let same = ok_is x (record inputs { ports = later }) (Ok x) refl e in
    subst (IsFreshAfter inputs None) (sym same) ((fresh.0, a.sound), a.kinds)

module _ (names : Names) (place : ℕ) (port : PortId) (file : List ℕ) (inputs : PlanInputs) (fresh : IsFresh inputs.ports)
    (there : IsPort inputs.ports port) where
  reads_offer_one : (bytes : List ℕ) → HasOne (ReadsOffer place port inputs bytes)
  reads_offer_one bytes = binds_one (Reads (HoldsFormat place bytes)) (λ format. Reads (NarrowsTo place port inputs format))
      (part_one [] (HoldsFormat place bytes) (format_one place bytes))
      (λ format. part_one [] (NarrowsTo place port inputs format) (narrows_one place port inputs format fresh.1.ports there))

  offer_known : IsKnown inputs None (LoadsOffer names place port file inputs)
  offer_known = record {
    one = binds_one _ (ReadsOffer place port inputs) (load_one names place file _ _) reads_offer_one;
    after = λ e x p is.
        let loaded = went _ (ReadsOffer place port inputs) e x p is in
        let bytes = loaded.given in
        let read = went (Reads (HoldsFormat place bytes)) (λ format. Reads (NarrowsTo place port inputs format)) loaded.rest x loaded.after loaded.gives in
        let h = part_gave [] (NarrowsTo place port inputs read.given) read.rest x read.after read.gives in
        narrowed_after place port inputs read.given x fresh there h.0 h.1 h.2 h.3;
  }

-- each line
pub line_known : (names : Names) (place : ℕ) (command : Command) (inputs : PlanInputs) → IsFresh inputs.ports → MayMake inputs.ports command
    → IsKnown inputs (option_map (λ m. m.1) (made_by command)) (LoadsLine names place command inputs)
line_known names place (C.Source n file) inputs fresh may = source_known names place n file inputs fresh may.0 may.1
line_known names place (C.Offer port file) inputs fresh may = offer_known names place port file inputs fresh may
line_known names place (C.Square n rate channels period amp) inputs fresh may = plain_known inputs (Some (K.Square rate channels period amp)) fresh may
line_known names place (C.Gain n gain) inputs fresh may = plain_known inputs (Some (K.Gain gain)) fresh may
line_known names place (C.Mix2 n ga gb) inputs fresh may = plain_known inputs (Some (K.Mix2 ga gb)) fresh may
line_known names place (C.Delay n frames) inputs fresh may = plain_known inputs (Some (K.Delay frames)) fresh may
line_known names place (C.Map n channels list) inputs fresh may = plain_known inputs (Some (K.Map channels list)) fresh may
line_known names place (C.Split n) inputs fresh may = plain_known inputs (Some K.Split) fresh may
line_known names place (C.Sink n file) inputs fresh may = plain_known inputs (Some K.Sink) fresh may
line_known names place (C.Meter n) inputs fresh may = plain_known inputs (Some K.Meter) fresh may
line_known names place (C.Driver n priority) inputs fresh may = plain_known inputs None fresh may
line_known names place (C.Loop n k) inputs fresh may = plain_known inputs None fresh may
line_known names place (C.On n) inputs fresh may = plain_known inputs None fresh may
line_known names place (C.Off n) inputs fresh may = plain_known inputs None fresh may
line_known names place (C.Async n) inputs fresh may = plain_known inputs None fresh may
line_known names place (C.Buffers port n) inputs fresh may = plain_known inputs None fresh may
line_known names place (C.Link from to) inputs fresh may = plain_known inputs None fresh may
line_known names place (C.Unlink from to) inputs fresh may = plain_known inputs None fresh may
line_known names place (C.Quantum n) inputs fresh may = plain_known inputs None fresh may
line_known names place (C.Cycles n) inputs fresh may = plain_known inputs None fresh may
line_known names place C.Drain inputs fresh may = plain_known inputs None fresh may
