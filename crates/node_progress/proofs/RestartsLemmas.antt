-- Nodes between epochs: those that do not work, and those that begin anew.
use Rattle.std.proofs.Common.{◌≡◌, ◌≢◌, ℕ, zero, suc, ◌+◌, ◌-◌, ◌*◌, ◌<◌, ◌≤◌, ◌==◌, ◌&&◌, ◌||◌, Bool, true, false, nat_lt, nat_le, cond}
use Rattle.std.proofs.Common.{List, [], ◌∷◌, ◌++◌, map, filter, find, flat_map, fold, All, Option, Some, None, slice_get, option_map}
use Rattle.std.proofs.Common.{unwrap_or, sum_by, ℤ, refl, sym, ap, ap₂, ◌∙◌, subst, arith, ⊎_elim}
use Rattle.std.specs.Prelude.{Contains}
use Rattle.std.specs.List.{range_with_len}
use Rattle.std.proofs.lemmas.Bool.{cases_Bool, cases_lt, cond-true, cond-false, cond_both, ne_eqb, eq-eqb, leb-true, and_parts}
use Rattle.std.proofs.lemmas.List.Elements.{All-head, All-tail}
use Rattle.std.proofs.lemmas.List.Sums.{sum_by-cons}
use Rattle.std.proofs.lemmas.Option.{same_Some, none-some, slice_get_within, get_or_from_slice_get}
use Rattle.pw_graph.specs.declared.plan.Epoch.{Epoch}
use Rattle.pw_graph.specs.declared.plan.Fresh.{Fresh}
use Rattle.pw_graph.specs.declared.plan.Plan.{Plan}
use Rattle.pw_graph.specs.KindPorts.{input_count}
use Rattle.pw_graph.specs.PlanForms.{kind_at}
use Rattle.pw_graph.specs.PlanFresh.{Names}
use Rattle.pw_graph.specs.SoundPlan.{FollowFrom, IsSoundPlan}
use Rattle.cycle_model.specs.Epochs.{listed, is_fresh, all_cycles}
use Rattle.cycle_model.specs.working.Known.{is_released}
use Rattle.pw_graph.specs.declared.ids.PortId.{PortId}
use Rattle.pw_graph.specs.declared.kind.Kind.{Kind}
use Rattle.pw_graph.specs.declared.kind.Kind.TheVariants.{Source, Square, Gain, Mix2, Delay, Map, Split, Sink, Meter, Dummy}
use Rattle.pw_graph.specs.declared.plan.PortForm.{PortForm}
use Rattle.pw_graph.specs.Pools.{is_same_port}
use Rattle.pw_lists.specs.Samples.{clamped, silence, summed}
use Rattle.pw_graph.proofs.PoolLemmas.{same_port}
use Rattle.cycle_model.specs.declared.received.Received.{Received}
use Rattle.cycle_model.specs.Epochs.{is_within, epoch_at, is_active, channels_of, channels_at, links_into, stream_start}
use Rattle.cycle_model.specs.Cycle.{Outputs, outputs, brought, input_of, stream_of, wave_of}
use Rattle.cycle_model.specs.working.Known.{released}
use Rattle.cycle_model.specs.Progress.{received_until, received_before}
use Rattle.cycle_model.proofs.EpochLemmas.{found}
use Rattle.cycle_model.proofs.ProgressLemmas.{released_is, start_le}
use Rattle.node_state.specs.declared.node_state.NodeState.{NodeState}
use Rattle.node_state.specs.Slices.{AllowsChannels, left_channels}
use Rattle.node_state.specs.StandsFor.{StandsFor, IsRestarted, node_kind, node_wave_channels, node_channels, most_channels, kept_stream}
use Rattle.node_state.specs.Streams.{restarted, stream_kept_by}
use Rattle.node_state.proofs.KeptLemmas.{kept_is_stream}
use Rattle.pw_graph.specs.KindFunction.{KindInputs}
use Rattle.node_progress.specs.declared.run_model.RunModel.{RunModel}
use Rattle.node_progress.specs.Standing.{port_at, out_channels, read_by}
use Rattle.node_progress.specs.NodeStates.{IsNodeState}
use Rattle.node_progress.specs.NodeStates.{first_of}
use Rattle.node_progress.specs.Restarts.{restart_of, IsEndOf}
use Rattle.node_progress.proofs.FreshLemmas.{entry_found, no_entry, named_of, restart_is, named_allowed}
use Rattle.node_progress.proofs.StateLemmas.{none_later, begins_after}

-- each epoch has a cycle
abbrev HaveCycles : List Epoch → Type 0
HaveCycles es = All (λ e. 1 ≤ e.shape.cycles) es

pub have_cycles : (plan : Plan) → IsSoundPlan plan → HaveCycles plan.epochs
have_cycles plan sound k d low = (sound.epochs k d low).shape.sound.cycles.some

-- the next epoch begins where one ends, and after the last one all cycles are done
next_begins : (f : ℕ) (es : List Epoch) (k : ℕ) (e : Epoch) → FollowFrom f es → slice_get es k ≡ Some e
    → unwrap_or (option_map (λ x. x.shape.first) (slice_get es (suc k))) (f + sum_by (λ x. x.shape.cycles) es)
    ≡ e.shape.first + e.shape.cycles
next_begins f [] k e h at = absurd (none-some e at)
next_begins f (x ∷ []) zero e h at =
    let same : x ≡ e = same_Some x e at in
    let begins = h.0 in let sum = sum_by-cons (λ (y : Epoch). y.shape.cycles) x [] in
    let all : f + sum_by (λ (y : Epoch). y.shape.cycles) (x ∷ []) ≡ x.shape.first + x.shape.cycles = omega (arith, begins, sum) in
    all ∙ ap (λ (y : Epoch). y.shape.first + y.shape.cycles) same
next_begins f (x ∷ y ∷ ys) zero e h at =
    let same : x ≡ e = same_Some x e at in let begins = h.0 in let next = h.1.0 in
    let on : y.shape.first ≡ x.shape.first + x.shape.cycles = omega (arith, begins, next) in
    on ∙ ap (λ (z : Epoch). z.shape.first + z.shape.cycles) same
next_begins f (x ∷ xs) (suc k) e h at =
    let sum = sum_by-cons (λ (y : Epoch). y.shape.cycles) x xs in
    let all : f + sum_by (λ (y : Epoch). y.shape.cycles) (x ∷ xs) ≡ f + x.shape.cycles + sum_by (λ (y : Epoch). y.shape.cycles) xs = omega (arith, sum) in
    ap (λ n. unwrap_or (option_map (λ (z : Epoch). z.shape.first) (slice_get xs (suc k))) n) all
    ∙ next_begins (f + x.shape.cycles) xs k e h.1 at

-- only the epoch that begins with a cycle releases in it
released_by : (f : ℕ) (es : List Epoch) (k : ℕ) (e : Epoch) (c n : ℕ) → FollowFrom f es → HaveCycles es → slice_get es k ≡ Some e
    → e.shape.first ≡ c → is_released es c n ≡ is_fresh e n
released_by f [] k e c n h some at first = absurd (none-some e at)
released_by f (x ∷ xs) zero e c n h some at first =
    let same : x ≡ e = same_Some x e at in
    let is = ap (λ (y : Epoch). y.shape.first) same in let begins = h.0 in
    let more = All-head (λ (y : Epoch). 1 ≤ y.shape.cycles) x xs some in
    let here : (x.shape.first == c) ≡ true = eq-eqb x.shape.first c (is ∙ first) in
    let rest = none_later (f + x.shape.cycles) xs c n h.1 (omega (arith, more, begins, is, first)) in
    rw (here, rest) (or_none (is_fresh x n)) ∙ ap (λ (y : Epoch). is_fresh y n) same
  where
    or_none : (b : Bool) → ((true && b) || false) ≡ b
    or_none true = refl
    or_none false = refl
released_by f (x ∷ xs) (suc k) e c n h some at first =
    let after = begins_after (f + x.shape.cycles) xs k e h.1 at in
    let more = All-head (λ (y : Epoch). 1 ≤ y.shape.cycles) x xs some in
    let begins = h.0 in
    let other : (x.shape.first == c) ≡ false = ne_eqb x.shape.first c (λ is. omega (arith, is, begins, after, first, more)) in
    rw other (released_by (f + x.shape.cycles) xs k e c n h.1 (All-tail (λ (y : Epoch). 1 ≤ y.shape.cycles) x xs some) at first)

-- after all epochs nothing is released
pub released_past : (f : ℕ) (es : List Epoch) (c n : ℕ) → FollowFrom f es → HaveCycles es → c ≡ f + sum_by (λ x. x.shape.cycles) es
    → is_released es c n ≡ false
released_past f [] c n h some end = refl
released_past f (x ∷ xs) c n h some end =
    let sum = sum_by-cons (λ (y : Epoch). y.shape.cycles) x xs in
    let more = All-head (λ (y : Epoch). 1 ≤ y.shape.cycles) x xs some in
    let begins = h.0 in
    let other : (x.shape.first == c) ≡ false = ne_eqb x.shape.first c (λ is. omega (arith, is, begins, end, sum, more)) in
    rw other (released_past (f + x.shape.cycles) xs c n h.1 (All-tail (λ (y : Epoch). 1 ≤ y.shape.cycles) x xs some) (omega (arith, end, sum)))

-- a port that no form is of has no channels
formless : (forms : List PortForm) (port : PortId) → ((rate channels : ℕ) → Contains forms (record { port = port; rate = rate; channels = channels }) → ⊥)
    → channels_of forms port ≡ 0
formless [] port none = refl
formless (f ∷ fs) port none = ⊎_elim
    (λ (yes : is_same_port f.port port ≡ true).
    let is : f.port ≡ port = same_port f.port port yes in
    absurd (none f.rate f.channels (0, omega arith, (λ i. record { port = is i; rate = f.rate; channels = f.channels }))))
    (λ (no : is_same_port f.port port ≡ false).
    rw no (formless fs port (λ rate channels c. let low = c.1 in none rate channels (suc c.0, omega (arith, low), c.2))))
    (cases_Bool (is_same_port f.port port))

nothing_summed : (rows : List (List ℤ)) → fold summed [] rows ≡ []
nothing_summed [] = refl
nothing_summed (r ∷ rows) = nothing_summed rows

-- so it receives nothing
pub nothing_in : (plan : Plan) (out : Outputs) (c : ℕ) (port : PortId) → channels_at plan c port ≡ 0 → input_of plan out c port ≡ []
nothing_in plan out c port none =
    let zero_samples : plan.quantum * channels_at plan c port ≡ 0 = ap (λ m. plan.quantum * m) none ∙ none_of plan.quantum in
    ap (λ m. map clamped (fold summed (silence m) (map (λ l. brought plan out c l) (links_into plan c port)))) zero_samples
    ∙ ap (map clamped) (nothing_summed (map (λ l. brought plan out c l) (links_into plan c port)))
  where
    none_of : (q : ℕ) → q * 0 ≡ 0
    none_of q = omega arith

all_empty : (f : ℕ → List ℤ) (p : ℕ → Bool) (a n : ℕ) → ((j : ℕ) → j < a + n → f j ≡ []) → flat_map f (filter p (range_with_len a n)) ≡ []
all_empty f p a zero h = refl
all_empty f p a (suc n) h =
    let rest = all_empty f p (a + 1) n (λ j low. h j (omega (arith, low))) in
    ⊎_elim (λ (t : p a ≡ true). rw t (ap₂ (λ xs ys. xs ++ ys) (h a (omega arith)) rest)) (λ (f : p a ≡ false). rw f rest) (cases_Bool (p a))

-- the epoch that a search finds has a number
numbered : (es : List Epoch) (p : Epoch → Bool) (e : Epoch) → find p es ≡ Some e → (i : ℕ) × (slice_get es i ≡ Some e)
numbered [] p e g = absurd (none-some e g)
numbered (x ∷ xs) p e g = ⊎_elim (λ (t : p x ≡ true). (0, rw t at g))
    (λ (n : p x ≡ false). let more = numbered xs p e (rw n at g) in (suc more.0, more.1)) (cases_Bool (p x))

-- an epoch that begins before another ends is no later one
no_later : (f : ℕ) (es : List Epoch) (k i : ℕ) (e x : Epoch) → FollowFrom f es → slice_get es k ≡ Some e → slice_get es i ≡ Some x
    → x.shape.first < e.shape.first + e.shape.cycles → i ≤ k
no_later f [] k i e x h at is low = absurd (none-some e at)
no_later f (y ∷ ys) k zero e x h at is low = omega arith
no_later f (y ∷ ys) zero (suc i) e x h at is low =
    let after = begins_after (f + y.shape.cycles) ys i x h.1 is in let begins = h.0 in
    let same = ap (λ (z : Epoch). z.shape.first + z.shape.cycles) (same_Some y e at) in absurd (omega (arith, after, begins, same, low))
no_later f (y ∷ ys) (suc k) (suc i) e x h at is low = let less = no_later (f + y.shape.cycles) ys k i e x h.1 at is low in omega (arith, less)

-- the channels of the outputs, by those of the first input
channels_anew : (kd : Kind) (w old new n : ℕ) → (0 < input_count kd → new ≡ n)
    → left_channels kd (left_channels kd w old) n ≡ left_channels kd w new
channels_anew Source w old new n h = refl
channels_anew (Square r c p a) w old new n h = refl
channels_anew (Gain g) w old new n h = sym (h (omega arith))
channels_anew (Mix2 x y) w old new n h = sym (h (omega arith))
channels_anew (Delay f) w old new n h = sym (h (omega arith))
channels_anew (Map c l) w old new n h = refl
channels_anew Split w old new n h = refl
channels_anew Sink w old new n h = refl
channels_anew Meter w old new n h = refl
channels_anew Dummy w old new n h = refl

-- only a sink keeps a stream
keeps_none : (kd : Kind) (h : KindInputs) → (kd ≡ Sink → h.a ≡ []) → stream_kept_by kd h ≡ []
keeps_none Source h none = refl
keeps_none (Square r c p a) h none = refl
keeps_none (Gain g) h none = refl
keeps_none (Mix2 x y) h none = refl
keeps_none (Delay f) h none = refl
keeps_none (Map c l) h none = refl
keeps_none Split h none = refl
keeps_none Sink h none = none refl
keeps_none Meter h none = refl
keeps_none Dummy h none = refl

-- what a state has read, begun anew
pub restarted_read : (run_model : RunModel) (n : ℕ) (s t : NodeState) (r : Received) (channels : ℕ)
    → (0 < input_count (node_kind s) → node_channels t ≡ channels) → IsRestarted s t
    → restarted (node_kind s) channels (read_by run_model n s r) ≡ read_by run_model n t (released r)
restarted_read run_model n s t r channels is same i =
    record { wave = wave_of run_model.waves.value n; frames = sym same.5 i; channels = outs i; a = []; b = [] }
  where
    outs : left_channels (node_kind s) (out_channels s) channels ≡ out_channels t
    outs = channels_anew (node_kind s) (node_wave_channels s) (node_channels s) (node_channels t) channels is
        ∙ (λ i. left_channels (sym same.0 i) (sym same.1 i) (node_channels t))

module _ (run_model : RunModel) (k c n : ℕ) (w : IsEndOf run_model k c n) where
  abbrev plan : Plan
  plan = run_model.plan.value

  abbrev out : Outputs
  out = outputs plan run_model.waves.value

  abbrev e : Epoch
  e = w.epoch

  abbrev next : Option Epoch
  next = slice_get plan.epochs (suc k)

  ends : unwrap_or (option_map (λ x. x.shape.first) next) (0 + all_cycles plan) ≡ c
  ends = next_begins 0 plan.epochs k e w.sound.follow w.at ∙ sym w.end

  pub first_next : first_of plan (suc k) ≡ c
  first_next = let z : all_cycles plan ≡ 0 + all_cycles plan = omega arith in
      ap (λ m. unwrap_or (option_map (λ (x : Epoch). x.shape.first) next) m) z ∙ ends

  later : c ≢ first_of plan k
  later is = let first : first_of plan k ≡ e.shape.first = ap (λ o. unwrap_or (option_map (λ (x : Epoch). x.shape.first) o) (all_cycles plan)) w.at in
      let low = slice_get_within plan.epochs k e w.at in
      let some : 1 ≤ e.shape.cycles = subst (λ (x : Epoch). 1 ≤ x.shape.cycles) (get_or_from_slice_get plan.epochs k e e w.at)
      (have_cycles plan w.sound k e low) in
      let end = w.end in omega (arith, is, first, some, end)

  released_in : (x : Epoch) → next ≡ Some x → is_released plan.epochs c n ≡ is_fresh x n
  released_in x at = released_by 0 plan.epochs (suc k) x c n w.sound.follow (have_cycles plan w.sound) at
      (sym (ap (λ o. unwrap_or (option_map (λ (y : Epoch). y.shape.first) o) (0 + all_cycles plan)) at) ∙ ends)

  -- an epoch that does not name the node leaves it as it is
  module _ (none : restart_of plan (suc k) n ≡ None) where
    pub not_named : (channels : ℕ) → Names plan (suc k) n channels → ⊥
    not_named channels named = (no_entry named.epoch.fresh n
        (sym (ap (λ o. option_map (λ (f : Fresh). f.channels) (find (λ f. f.node == n) (listed (λ x. x.fresh) o))) named.at) ∙ none)).1
        channels named.entry

    stays : is_released plan.epochs c n ≡ false
    stays = by next refl
      where
        by : (o : Option Epoch) → next ≡ o → is_released plan.epochs c n ≡ false
        by None at = released_past 0 plan.epochs c n w.sound.follow (have_cycles plan w.sound)
            (sym (sym (ap (λ o. unwrap_or (option_map (λ (x : Epoch). x.shape.first) o) (0 + all_cycles plan)) at) ∙ ends))
        by (Some x) at = released_in x at ∙ (no_entry x.fresh n
            (sym (ap (λ o. option_map (λ (f : Fresh). f.channels) (find (λ f. f.node == n) (listed (λ y. y.fresh) o))) at) ∙ none)).0

    pub stays_state : (s : NodeState) → IsNodeState run_model k c n s → IsNodeState run_model (suc k) c n s
    stays_state s st = record {
      kind = st.kind;
      wave = st.wave;
      quantum = st.quantum;
      frames = st.frames;
      prepared = st.prepared;
      most = st.most;
      channels = λ j channels low named from some. ⊎_elim
          (λ (early : j < suc k). st.channels j channels (omega (arith, early)) named
          (λ i other less most. from i other less (omega (arith, most))) some)
          (λ (last : suc k ≤ j). let is : j ≡ suc k = omega (arith, last, low) in
          absurd (not_named channels (subst (λ m. Names plan m n channels) is named)))
          (cases_lt j (suc k));
      begun = λ is. subst (λ (r : Received). StandsFor s (read_by run_model n s r))
          (sym (released_is plan out c n w.sound.follow
          ∙ cond-false (is_released plan.epochs c n) (released (received_until plan out c n)) (received_until plan out c n) stays))
          (st.done later);
      done = λ other. absurd (other (sym first_next));
    }

  -- an epoch that names it as fresh begins its streams anew
  module _ (n_channels : ℕ) (is : restart_of plan (suc k) n ≡ Some n_channels) where
    pub named : Names plan (suc k) n n_channels
    named = named_of plan (suc k) n n_channels is

    goes : is_released plan.epochs c n ≡ true
    goes = released_in named.epoch named.at ∙ (entry_found named.epoch.fresh n n_channels
        (sym (ap (λ o. option_map (λ (f : Fresh). f.channels) (find (λ f. f.node == n) (listed (λ y. y.fresh) o))) named.at) ∙ is)).1

    -- an entry of the epoch is the one that it has
    same_entry : (channels : ℕ) → Names plan (suc k) n channels → channels ≡ n_channels
    same_entry channels other = same_Some channels n_channels (sym (restart_is plan w.sound (suc k) n channels other) ∙ is)

    pub allowed : AllowsChannels (kind_at plan n) n_channels
    allowed = named_allowed plan w.sound (suc k) n n_channels named

    -- a sink that is named has had no form, so it received nothing
    no_stream : kind_at plan n ≡ Sink → (received_until plan out c n).a ≡ []
    no_stream sink = by c refl
      where
        quiet : (j : ℕ) → j < c → input_of plan out j (port_at n 0) ≡ []
        quiet j low = nothing_in plan out j (port_at n 0) (by_epoch (epoch_at plan j) refl)
          where
            by_epoch : (o : Option Epoch) → epoch_at plan j ≡ o → channels_at plan j (port_at n 0) ≡ 0
            by_epoch None at = ap (λ o. channels_of (listed (λ x. x.forms) o) (port_at n 0)) at
            by_epoch (Some x) at =
                let i = numbered plan.epochs (λ y. is_within y j) x at in
                let within = (found (λ y. Unit {0}) (λ y. is_within y j) plan.epochs x (λ a d lt. tt) at).1 in
                let first = leb-true x.shape.first j (and_parts (nat_le x.shape.first j) (nat_lt j (x.shape.first + x.shape.cycles)) within).0 in
                let end = w.end in
                let early : i.0 ≤ k = no_later 0 plan.epochs k i.0 e x w.sound.follow w.at i.1 (omega (arith, first, low, end)) in
                ap (λ o. channels_of (listed (λ y. y.forms) o) (port_at n 0)) at
                ∙ formless x.forms (port_at n 0) (λ rate channels form.
                w.sound.fresh.sinks i.0 (suc k) x (port_at n 0) rate channels n_channels (omega (arith, early)) i.1 sink form named)

        by : (m : ℕ) → c ≡ m → (received_until plan out m n).a ≡ []
        by zero is = cond_both (nat_lt 0 (input_count (kind_at plan n))) [] [] (λ l. l ≡ []) (λ t. refl) (λ f. refl)
        by (suc m) is =
            let low = start_le plan m n in
            let empty : stream_of plan out m (port_at n 0) ≡ [] = all_empty (λ j. input_of plan out j (port_at n 0)) (λ j. is_active plan j n)
            (stream_start plan m n) (m + 1 - stream_start plan m n) (λ j less. quiet j (omega (arith, less, low, is))) in
            ap (λ (l : List ℤ). cond (nat_lt 0 (input_count (kind_at plan n))) l []) empty
            ∙ cond_both (nat_lt 0 (input_count (kind_at plan n))) [] [] (λ l. l ≡ []) (λ t. refl) (λ f. refl)

    module _ (s : NodeState) (st : IsNodeState run_model k c n s) where
      abbrev before : KindInputs
      before = read_by run_model n s (received_until plan out c n)

      pub stood : StandsFor s before
      stood = st.done later

      pub may_restart : AllowsChannels (node_kind s) n_channels × (n_channels ≤ most_channels s) × (kept_stream s ≡ [])
      may_restart = (
        subst (λ kd. AllowsChannels kd n_channels) (sym st.kind) allowed,
        st.most (suc k) n_channels named,
        kept_is_stream s.state s.channels s.prepared before stood.1 ∙ keeps_none (node_kind s) before (λ is. no_stream (sym st.kind ∙ is)),
      )

      pub anew : (t : NodeState) → StandsFor t (restarted (node_kind s) n_channels before)
          → (0 < input_count (node_kind s) → node_channels t ≡ n_channels) → IsRestarted s t → IsNodeState run_model (suc k) c n t
      anew t stands channels same = record {
        kind = same.0 ∙ st.kind;
        wave = same.1 ∙ st.wave;
        quantum = λ some. same.3 ∙ st.quantum some;
        frames = same.5 ∙ st.frames;
        prepared = same.6 ∙ st.prepared;
        most = λ j m other. subst (λ x. m ≤ x) (sym same.4) (st.most j m other);
        channels = λ j m low other from some. ⊎_elim
            (λ (early : j < suc k). absurd (from (suc k) n_channels early (omega arith) named))
            (λ (last : suc k ≤ j). let at : j ≡ suc k = omega (arith, last, low) in
            channels (subst (λ kd. 0 < input_count kd) (sym st.kind) some)
            ∙ sym (same_entry m (subst (λ i. Names plan i n m) at other)))
            (cases_lt j (suc k));
        begun = λ at. subst (λ (h : KindInputs). StandsFor t h) read stands;
        done = λ other. absurd (other (sym first_next));
      }
        where
          gone : received_before plan out c n ≡ released (received_until plan out c n)
          gone = released_is plan out c n w.sound.follow
              ∙ cond-true (is_released plan.epochs c n) (released (received_until plan out c n)) (received_until plan out c n) goes

          read : restarted (node_kind s) n_channels before ≡ read_by run_model n t (received_before plan out c n)
          read = restarted_read run_model n s t (received_until plan out c n) n_channels channels same
              ∙ ap (λ r. read_by run_model n t r) (sym gone)
