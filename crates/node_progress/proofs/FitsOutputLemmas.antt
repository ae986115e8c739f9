-- The rows of a node fit its state: its channels are those that the forms of its ports have.
use Rattle.std.proofs.Common.{◌≡◌, ◌≢◌, ℕ, suc, ◌+◌, ◌*◌, ◌<◌, ◌≤◌, ◌==◌, ◌||◌, true, false, not, nat_lt, cond}
use Rattle.std.proofs.Common.{List, [], ◌∷◌, length, find, All, Some, option_map, unwrap_or, count_by, ℤ}
use Rattle.std.proofs.Common.{refl, sym, ap, ◌∙◌, subst, arith, ⊎_elim, inl, inr}
use Rattle.std.specs.Prelude.{Contains}
use Rattle.std.specs.List.{list_any}
use Rattle.std.proofs.lemmas.Bool.{cases_Bool, cases_eq, cond-true, cond-false, eqb-true, eq-eqb, and_parts, true≢false}
use Rattle.std.proofs.lemmas.List.Elements.{All-head, All-tail, All-contains}
use Rattle.std.proofs.lemmas.Option.{slice_get_within, get_or_from_slice_get}
use Rattle.pw_graph.specs.declared.ids.PortId.{PortId}
use Rattle.pw_graph.specs.declared.kind.Kind.{Kind}
use Rattle.pw_graph.specs.declared.kind.Kind.TheVariants.{Source, Square, Gain, Mix2, Delay, Map, Split, Sink, Meter, Dummy}
use Rattle.pw_graph.specs.declared.plan.Epoch.{Epoch}
use Rattle.pw_graph.specs.declared.plan.Plan.{Plan}
use Rattle.pw_graph.specs.declared.plan.PortForm.{PortForm}
use Rattle.pw_graph.specs.KindPorts.{input_count, output_count, port_count}
use Rattle.pw_graph.specs.KindRanges.{MayHaveChannels, IsSinkOrMeter}
use Rattle.pw_graph.specs.PlanForms.{kind_at, HasForm, IsSoundForm}
use Rattle.pw_graph.specs.Pools.{is_same_port}
use Rattle.pw_graph.proofs.PoolLemmas.{same_port}
use Rattle.wav_files.specs.declared.wav.WavIn.{WavIn}
use Rattle.cycle_model.specs.Epochs.{listed, channels_of, channels_at}
use Rattle.cycle_model.specs.Cycle.{outputs, input_of}
use Rattle.cycle_model.specs.working.FullRows.{AgreesIn}
use Rattle.cycle_model.specs.WavesFit.{IsWaveOfSource, IsFormOf}
use Rattle.cycle_model.proofs.FullRowLemmas.{formed_inputs}
use Rattle.cycle_model.proofs.SoundFormLemmas.{takes_in, sound_is_formed}
use Rattle.cycle_model.proofs.SoundPlanLemmas.{channels_are}
use Rattle.node_state.specs.declared.node_state.NodeState.{NodeState}
use Rattle.node_state.specs.Slices.{first_channels, second_channels, left_channels, right_channels, HaveFrames}
use Rattle.node_state.specs.StandsFor.{IsQuantum, node_channels}
use Rattle.node_progress.specs.declared.run_model.RunModel.{RunModel}
use Rattle.node_progress.specs.Standing.{port_at, out_channels, receives, wide_at}
use Rattle.node_progress.specs.NodeCycles.{FitsOutput}
use Rattle.node_progress.specs.NodeStates.{wave_channels_of, IsNodeState, IsWorkedIn, IsOutputRow}
use Rattle.node_progress.proofs.StateLemmas.{here, epoch_sound, renderable, part, quantum_is}

-- an element with a property, as a test of all found it
any_is : (forms : List PortForm) (port : PortId) → list_any (λ f. is_same_port f.port port) forms ≡ true
    → (f : PortForm) × Contains forms f × (f.port ≡ port)
any_is [] port t = absurd (true≢false (sym t))
any_is (f ∷ fs) port t = ⊎_elim
    (λ (yes : is_same_port f.port port ≡ true). (f, (0, omega arith, refl), same_port f.port port yes))
    (λ (no : is_same_port f.port port ≡ false). let more = any_is fs port (rw no at t) in
    let c = more.1 in let low = c.1 in (more.0, (suc c.0, omega (arith, low), c.2), more.2))
    (cases_Bool (is_same_port f.port port))

-- the wave of a source that is there
pub wave_found : (P : WavIn → Type 0) (waves : List WavIn) (n : ℕ) → All P waves → count_by (λ w. w.node == n) waves ≡ 1
    → (w : WavIn) × P w × (w.node ≡ n) × (find (λ w. w.node == n) waves ≡ Some w)
wave_found P [] n all one = absurd (omega (arith, one))
wave_found P (w ∷ ws) n all one = ⊎_elim
    (λ (yes : (w.node == n) ≡ true). (w, All-head P w ws all, eqb-true w.node n yes, rw yes refl))
    (λ (no : (w.node == n) ≡ false). let more = wave_found P ws n (All-tail P w ws all) (rw no at one) in
    (more.0, more.1, more.2, rw no more.3))
    (cases_Bool (w.node == n))

one_port : (kd : Kind) (i : ℕ) → IsSinkOrMeter kd → i < port_count kd → i ≡ 0
one_port Sink i ends low = omega (arith, low)
one_port Meter i ends low = omega (arith, low)
one_port _ i ends low = absurd ends

module _ (run_model : RunModel) (k c n : ℕ) (w : IsWorkedIn run_model k c n) where
  abbrev plan : Plan
  plan = run_model.plan.value

  abbrev e : Epoch
  e = w.epoch

  -- each port of a node that works has a form
  record HasChannels (i : ℕ) : Type 0 where
    rate : ℕ
    channels : ℕ
    form : HasForm e (port_at n i) rate channels
    is : channels_of e.forms (port_at n i) ≡ channels
    may : MayHaveChannels (kind_at plan n) i channels

  formed : (i rate channels : ℕ) → HasForm e (port_at n i) rate channels → HasChannels i
  formed i rate channels form = let h = epoch_sound run_model k c n w in record {
    rate = rate;
    channels = channels;
    form = form;
    is = channels_are e.forms (port_at n i) rate channels h.forms.ascend form;
    may = (All-contains (IsSoundForm plan e) e.forms (record { port = port_at n i; rate = rate; channels = channels }) h.forms.each form).channels;
  }

  has : (i : ℕ) → i < port_count (kind_at plan n) → HasChannels i
  has i low = let h = epoch_sound run_model k c n w in ⊎_elim
      (λ (drives : e.shape.driver ≡ n).
      let test : (e.shape.driver == n) ≡ true = eq-eqb e.shape.driver n drives in
      let parts = (and_parts _ (not (e.shape.driver == n) || list_any (λ f. is_same_port f.port (port_at n 0)) e.forms) w.works).1 in
      let f = any_is e.forms (port_at n 0) (rw test at parts) in
      let ends : IsSinkOrMeter (kind_at plan n) = ⊎_elim
      (λ (dummy : e.shape.driver ≡ 63). let few = w.sound.few in let place = w.place in absurd (omega (arith, dummy, drives, few, place)))
      (λ (is : IsSinkOrMeter (kind_at plan e.shape.driver)). subst (λ m. IsSinkOrMeter (kind_at plan m)) drives is)
      h.places.driver in
      let z : i ≡ 0 = one_port (kind_at plan n) i ends low in
      subst HasChannels (sym z) (formed 0 f.0.rate f.0.channels
      (subst (λ p. Contains e.forms (record { port = p; rate = f.0.rate; channels = f.0.channels })) f.2 f.1)))
      (λ (follows : e.shape.driver ≢ n).
      let x = h.forms.whole (port_at n i) (takes_in e n (part run_model k c n w)) (λ is. follows (sym is)) low in
      formed i x.0 x.1 x.2)
      (cases_eq e.shape.driver n)

  abbrev ch : ℕ → ℕ
  ch i = channels_of e.forms (port_at n i)

  pub now_is : (i : ℕ) → channels_at plan c (port_at n i) ≡ ch i
  now_is i = ap (λ o. channels_of (listed (λ x. x.forms) o) (port_at n i)) (here run_model k c n w)

  -- what is received is as wide as that
  pub came_long : (i : ℕ) (a : List ℤ) → a ≡ receives run_model c n i → length a ≡ wide_at plan c n i
  came_long i a is = ap length is ∙ ⊎_elim
      (λ (t : nat_lt i (input_count (kind_at plan n)) ≡ true).
      ap length (cond-true (nat_lt i (input_count (kind_at plan n))) (input_of plan (outputs plan run_model.waves.value) c (port_at n i)) [] t)
      ∙ formed_inputs plan run_model.waves.value (renderable run_model k c n w) (sound_is_formed plan w.sound) c e (port_at n i) (here run_model k c n w)
      ∙ ap (λ m. plan.quantum * m) (sym (now_is i))
      ∙ sym (cond-true (nat_lt i (input_count (kind_at plan n))) (plan.quantum * channels_at plan c (port_at n i)) 0 t))
      (λ (f : nat_lt i (input_count (kind_at plan n)) ≡ false).
      ap length (cond-false (nat_lt i (input_count (kind_at plan n))) (input_of plan (outputs plan run_model.waves.value) c (port_at n i)) [] f)
      ∙ sym (cond-false (nat_lt i (input_count (kind_at plan n))) (plan.quantum * channels_at plan c (port_at n i)) 0 f))
      (cases_Bool (nat_lt i (input_count (kind_at plan n))))

  -- by the kind, the channels of the inputs and of the outputs
  agrees : (kd : Kind) → kind_at plan n ≡ kd → (o : ℕ) → o < output_count kd → AgreesIn kd (ch 0) (ch 1) (ch (input_count kd + o))
  agrees kd is o low = subst (λ x. AgreesIn x (ch 0) (ch 1) (ch (input_count kd + o))) is
      (sound_is_formed plan w.sound c e (port_at n (input_count kd + o)) (here run_model k c n w) (part run_model k c n w) (
        subst (λ x. input_count x ≤ input_count kd + o) (sym is) (omega arith),
        subst (λ x. input_count kd + o < port_count x) (sym is) (omega (arith, low)),
      ))

  -- a second input has the channels of the first
  pub inputs_alike : (kd : Kind) → kind_at plan n ≡ kd → 1 < input_count kd → ch 1 ≡ ch 0
  inputs_alike Source is some = absurd (omega (arith, some))
  inputs_alike (Square r x p a) is some = absurd (omega (arith, some))
  inputs_alike (Gain g) is some = absurd (omega (arith, some))
  inputs_alike (Mix2 x y) is some = let a = agrees (Mix2 x y) is 0 (omega arith) in a.1 ∙ sym a.0
  inputs_alike (Delay f) is some = absurd (omega (arith, some))
  inputs_alike (Map x l) is some = absurd (omega (arith, some))
  inputs_alike Split is some = absurd (omega (arith, some))
  inputs_alike Sink is some = absurd (omega (arith, some))
  inputs_alike Meter is some = absurd (omega (arith, some))
  inputs_alike Dummy is some = absurd (omega (arith, some))

  first_may : (kd : Kind) → kind_at plan n ≡ kd → (i : ℕ) → i < port_count kd → MayHaveChannels kd i (ch i)
  first_may kd is i low = let h = has i (subst (λ x. i < port_count x) (sym is) low) in
      subst (MayHaveChannels kd i) (sym h.is) (subst (λ x. MayHaveChannels x i h.channels) is h.may)

  module _ (s : NodeState) (st : IsNodeState run_model k c n s) where
    abbrev nc : ℕ
    nc = node_channels s

    -- the state has the channels of its node's first input
    told : 0 < input_count (kind_at plan n) → nc ≡ ch 0
    told some =
        let h = has 0 (omega (arith, some)) in
        let x = w.sound.fresh.told k e n h.rate h.channels w.at some h.form in
        st.channels x.0 h.channels x.1 x.2 x.3 some ∙ sym h.is

    told_of : (kd : Kind) → kind_at plan n ≡ kd → 0 < input_count kd → nc ≡ ch 0
    told_of kd is some = told (subst (λ x. 0 < input_count x) (sym is) some)

    first_is : (kd : Kind) → kind_at plan n ≡ kd → cond (nat_lt 0 (input_count kd)) (plan.quantum * ch 0) 0 ≡ plan.quantum * first_channels kd nc
    first_is Source is = omega arith
    first_is (Square r x p a) is = omega arith
    first_is (Gain g) is = ap (λ m. plan.quantum * m) (sym (told_of (Gain g) is (omega arith)))
    first_is (Mix2 x y) is = ap (λ m. plan.quantum * m) (sym (told_of (Mix2 x y) is (omega arith)))
    first_is (Delay f) is = ap (λ m. plan.quantum * m) (sym (told_of (Delay f) is (omega arith)))
    first_is (Map x l) is = ap (λ m. plan.quantum * m) (first_may (Map x l) is 0 (omega arith))
    first_is Split is = ap (λ m. plan.quantum * m) (first_may Split is 0 (omega arith))
    first_is Sink is = ap (λ m. plan.quantum * m) (sym (told_of Sink is (omega arith)))
    first_is Meter is = ap (λ m. plan.quantum * m) (sym (told_of Meter is (omega arith)))
    first_is Dummy is = omega arith

    second_is : (kd : Kind) → kind_at plan n ≡ kd → cond (nat_lt 1 (input_count kd)) (plan.quantum * ch 1) 0 ≡ plan.quantum * second_channels kd nc
    second_is Source is = omega arith
    second_is (Square r x p a) is = omega arith
    second_is (Gain g) is = omega arith
    second_is (Mix2 x y) is = let a = agrees (Mix2 x y) is 0 (omega arith) in
        ap (λ m. plan.quantum * m) (a.1 ∙ sym a.0 ∙ sym (told_of (Mix2 x y) is (omega arith)))
    second_is (Delay f) is = omega arith
    second_is (Map x l) is = omega arith
    second_is Split is = omega arith
    second_is Sink is = omega arith
    second_is Meter is = omega arith
    second_is Dummy is = omega arith

    -- a source's form is its wave's
    wave_is : kind_at plan n ≡ Source → ch 0 ≡ wave_channels_of run_model.waves.value n
    wave_is is =
        let h = has 0 (subst (λ x. 0 < port_count x) (sym is) (omega arith)) in
        let x = wave_found (IsWaveOfSource plan) run_model.waves.value n w.waves.sources (w.waves.one n is) in
        let low = slice_get_within plan.epochs k e w.at in
        let own : All (IsFormOf x.0) e.forms = subst (λ y. All (IsFormOf x.0) y.forms) (get_or_from_slice_get plan.epochs k e e w.at)
        (x.1.forms k e low) in
        h.is ∙ (All-contains (IsFormOf x.0) e.forms (record { port = port_at n 0; rate = h.rate; channels = h.channels }) own h.form (sym x.2)).1
        ∙ sym (ap (λ o. unwrap_or (option_map (λ (v : WavIn). v.wav.channels) o) 0) x.3)

    left_is : (kd : Kind) → kind_at plan n ≡ kd → 0 < output_count kd → ch (input_count kd + 0) ≡ left_channels kd (wave_channels_of run_model.waves.value n) nc
    left_is Source is some = wave_is is
    left_is (Square r x p a) is some = first_may (Square r x p a) is 0 (omega arith)
    left_is (Gain g) is some = sym (agrees (Gain g) is 0 some) ∙ sym (told_of (Gain g) is (omega arith))
    left_is (Mix2 x y) is some = sym (agrees (Mix2 x y) is 0 some).0 ∙ sym (told_of (Mix2 x y) is (omega arith))
    left_is (Delay f) is some = sym (agrees (Delay f) is 0 some) ∙ sym (told_of (Delay f) is (omega arith))
    left_is (Map x l) is some = (agrees (Map x l) is 0 some).1
    left_is Split is some = (agrees Split is 0 some).1
    left_is Sink is some = absurd (omega (arith, some))
    left_is Meter is some = absurd (omega (arith, some))
    left_is Dummy is some = absurd (omega (arith, some))

    -- a second output has the channels of the first, and one
    right_is : (kd : Kind) → kind_at plan n ≡ kd → 1 < output_count kd
        → (ch (input_count kd + 1) ≡ right_channels kd) × (right_channels kd ≡ left_channels kd (wave_channels_of run_model.waves.value n) nc)
    right_is Split is some = ((agrees Split is 1 some).1, refl)
    right_is Source is some = absurd (omega (arith, some))
    right_is (Square r x p a) is some = absurd (omega (arith, some))
    right_is (Gain g) is some = absurd (omega (arith, some))
    right_is (Mix2 x y) is some = absurd (omega (arith, some))
    right_is (Delay f) is some = absurd (omega (arith, some))
    right_is (Map x l) is some = absurd (omega (arith, some))
    right_is Sink is some = absurd (omega (arith, some))
    right_is Meter is some = absurd (omega (arith, some))
    right_is Dummy is some = absurd (omega (arith, some))

    wide : (i : ℕ) → wide_at plan c n i ≡ cond (nat_lt i (input_count (kind_at plan n))) (plan.quantum * ch i) 0
    wide i = ap (λ m. cond (nat_lt i (input_count (kind_at plan n))) (plan.quantum * m) 0) (now_is i)

    abbrev out_is : ℕ
    out_is = left_channels (kind_at plan n) (wave_channels_of run_model.waves.value n) nc

    same_out : out_channels s ≡ out_is
    same_out i = left_channels (st.kind i) (st.wave i) nc

    module _ (a b left right : List ℤ) (a_long : length a ≡ wide_at plan c n 0) (b_long : length b ≡ wide_at plan c n 1)
        (l : IsOutputRow plan e n 0 left) (r : IsOutputRow plan e n 1 right) where
      frames : HaveFrames plan.quantum (kind_at plan n) (wave_channels_of run_model.waves.value n) nc a b left right
      frames = (
        a_long ∙ wide 0 ∙ first_is (kind_at plan n) refl,
        b_long ∙ wide 1 ∙ second_is (kind_at plan n) refl,
        ⊎_elim (λ none. inl none) (λ some. inr (some.1 ∙ ap (λ m. plan.quantum * m) (left_is (kind_at plan n) refl some.0))) l,
        ⊎_elim (λ none. inl none) (λ some. inr (some.1 ∙ ap (λ m. plan.quantum * m) (right_is (kind_at plan n) refl some.0).0)) r,
      )

      pub slices : IsQuantum s a b left right
      slices = inl (subst (λ (x : ℕ × Kind × ℕ). HaveFrames x.0 x.1 x.2 nc a b left right)
          (λ i. (sym (quantum_is run_model k c n w s st) i, sym st.kind i, sym st.wave i)) frames)

      pub left_fits : FitsOutput plan e n s 0 left
      left_fits = ⊎_elim (λ none. inl none) (λ some. inr (some.1, left_is (kind_at plan n) refl some.0 ∙ sym same_out)) l

      pub right_fits : FitsOutput plan e n s 1 right
      right_fits = ⊎_elim (λ none. inl none)
          (λ some. let x = right_is (kind_at plan n) refl some.0 in inr (some.1, x.0 ∙ x.1 ∙ sym same_out)) r
