-- The streams of a plan are those of its script: a node that an epoch names for its channels only
-- has received nothing since it gave up last.
use Rattle.std.proofs.Common.{◌≡◌, ◌⊎◌, inl, inr, ℕ, zero, suc, ◌+◌, ◌<◌, ◌≤◌, ◌==◌, ◌&&◌, ◌||◌, nat_le, Bool, true, false, List, [], ◌∷◌, ◌++◌, length, get_or}
use Rattle.std.proofs.Common.{refl, sym, ap, ◌∙◌, subst, arith, sum_by}
use Rattle.std.specs.Prelude.{Contains, slice_get, Some, Ok, if◌then◌else◌}
use Rattle.std.proofs.lemmas.Bool.{cases_eq, cases_lt, both_ways, and_parts, and_from, and_right, eq-eqb, eqb-true, leb-true, le-leb}
use Rattle.std.proofs.lemmas.Option.{slice_get_within}
use Rattle.std.proofs.lemmas.List.Folds.{Any-from_list_any}
use Rattle.std.proofs.lemmas.List.Sums.{fold-append, sum_by-cons}
use Rattle.pw_graph.specs.declared.kind.Kind.{Kind}
use Rattle.pw_graph.specs.declared.kind.Kind.TheVariants.{Dummy}
use Rattle.pw_graph.specs.declared.plan.Epoch.{Epoch}
use Rattle.pw_graph.specs.declared.plan.Fresh.{Fresh}
use Rattle.pw_graph.specs.declared.plan.Plan.{Plan}
use Rattle.pw_graph.specs.KindPorts.{input_count}
use Rattle.pw_graph.specs.PlanForms.{kind_at, HasForm}
use Rattle.wav_files.specs.declared.wav.WavIn.{WavIn}
use Rattle.cycle_model.specs.Epochs.{is_fresh, stream_start}
use Rattle.graph_script.specs.declared.command.Command.{Command}
use Rattle.graph_script.specs.declared.command.Command.TheVariants as C
use Rattle.graph_script.specs.declared.script.Line.{Line}
use Rattle.graph_script.specs.Making.{grown}
use Rattle.graph_lines.specs.declared.graph.Graph.{Graph}
use Rattle.graph_lines.specs.declared.graph.Stepped.TheVariants as T
use Rattle.graph_lines.specs.declared.standing.Standing.{Standing}
use Rattle.graph_lines.specs.Activity.{standing}
use Rattle.graph_lines.specs.Epochs.{IsEpochOf}
use Rattle.graph_lines.specs.Fresh.{ChannelsIn}
use Rattle.graph_lines.specs.EpochLines.{IsAfter, RunsFor, Steps}
use Rattle.graph_lines.specs.Lines.{Does}
use Rattle.graph_plan.specs.Following.{Follows}
use Rattle.graph_plan.specs.working.NextEpoch.{IsNext}
use Rattle.graph_plan.specs.working.Remembering.{IsLike}
use Rattle.graph_plan.specs.ScriptStreams.{gives_up, begins_after, LeadsTo}
use Rattle.graph_plan.specs.working.SoundGraph.{IsPast, IsSoundGraph}
use Rattle.graph_plan.specs.working.Summing.{FollowTo}
use Rattle.graph_plan.proofs.sound.FormLemmas.{input_count_is}
use Rattle.graph_plan.proofs.streams.GivesUpLemmas.{LeavesOf, line_leaves}
use Rattle.graph_plan.proofs.lists.ElementLemmas.{any_of}
use Rattle.graph_plan.proofs.sound.NextEpochLemmas.{next_ok}
use Rattle.graph_plan.proofs.sound.SoundPartLemmas.{form_made}
use Rattle.graph_plan.proofs.lists.PlaceLemmas.{parted, at_end, left}
use Rattle.graph_plan.proofs.sound.SoundGraphLemmas.{few_nodes, one_channels}
use Rattle.graph_plan.proofs.sound.StepLemmas.{IsGoodLine, AreGoodLines, good_first, good_rest, step_sound, step_kinds, follows_end, no_stop}

-- EPOCHS THAT FOLLOW ONE ANOTHER
pub epoch_ends : (a z : ℕ) (es : List Epoch) → FollowTo a es z → (i : ℕ) (e : Epoch) → slice_get es i ≡ Some e
    → (a ≤ e.shape.first) × (e.shape.first + e.shape.cycles ≤ z)
epoch_ends a z [] h i e at = absurd (cc at)
epoch_ends a z (x ∷ es) h zero e at =
    let same : x ≡ e = cc in
    let first = ap (λ (y : Epoch). y.shape.first) same in
    let many = ap (λ (y : Epoch). y.shape.cycles) same in
    let up = follow_up (a + x.shape.cycles) z es h.1 in
    (omega (arith, first, h.0), omega (arith, first, many, h.0, up))
  where
    follow_up : (a z : ℕ) (es : List Epoch) → FollowTo a es z → a ≤ z
    follow_up a z [] h = omega (arith, h)
    follow_up a z (x ∷ es) h = let up = follow_up (a + x.shape.cycles) z es h.1 in omega (arith, up)
epoch_ends a z (x ∷ es) h (suc i) e at =
    let rest = epoch_ends (a + x.shape.cycles) z es h.1 i e at in (omega (arith, rest.0), rest.1)

pub epoch_order : (a z : ℕ) (es : List Epoch) → FollowTo a es z → (i j : ℕ) (e f : Epoch) → i < j → slice_get es i ≡ Some e
    → slice_get es j ≡ Some f → e.shape.first + e.shape.cycles ≤ f.shape.first
epoch_order a z [] h i j e f l at bt = absurd (cc at)
epoch_order a z (x ∷ es) h i zero e f l at bt = absurd (omega (arith, l))
epoch_order a z (x ∷ es) h zero (suc j) e f l at bt =
    let same : x ≡ e = cc in
    let first = ap (λ (y : Epoch). y.shape.first) same in
    let many = ap (λ (y : Epoch). y.shape.cycles) same in
    let rest = epoch_ends (a + x.shape.cycles) z es h.1 j f bt in
    omega (arith, first, many, h.0, rest.0)
epoch_order a z (x ∷ es) h (suc i) (suc j) e f l at bt = epoch_order (a + x.shape.cycles) z es h.1 i j e f (omega (arith, l)) at bt

pub epoch_total : (a z : ℕ) (es : List Epoch) → FollowTo a es z → z ≡ a + sum_by (λ (e : Epoch). e.shape.cycles) es
epoch_total a z [] h = omega (arith, h)
epoch_total a z (x ∷ es) h =
    let rest = epoch_total (a + x.shape.cycles) z es h.1 in
    let s = sum_by-cons (λ (e : Epoch). e.shape.cycles) x es in omega (arith, rest, s)

-- an epoch names a node just where it is fresh in it
named_fresh : (e : Epoch) (n channels : ℕ) → Contains e.fresh (record { node = n; channels = channels }) → is_fresh e n ≡ true
named_fresh e n channels w = any_of (λ (f : Fresh). f.node == n) e.fresh (record { node = n; channels = channels }) w (eq-eqb n n refl)

fresh_named : (e : Epoch) (n : ℕ) → is_fresh e n ≡ true → (channels : ℕ) × Contains e.fresh (record { node = n; channels = channels })
fresh_named e n h =
    let w = Any-from_list_any (λ (f : Fresh). f.node == n) e.fresh h in
    let same : w.1.node ≡ n = eqb-true w.1.node n w.4 in
    let is : w.1 ≡ record { node = n; channels = w.1.channels } = ap (λ (k : ℕ). record { node = k; channels = w.1.channels }) same in
    (w.1.channels, subst (Contains e.fresh) is (w.0, w.2, w.3))

-- WHAT IS KNOWN of a node, its stream up to a cycle, and the epochs so far
module _ (plan : Plan) (cycle n : ℕ) where
  abbrev pub start_in : List Epoch → ℕ
  start_in epochs = stream_start (record plan { epochs = epochs }) cycle n

  start_more : (epochs : List Epoch) (e : Epoch) → start_in (epochs ++ e ∷ [])
      ≡ (if nat_le e.shape.first cycle && is_fresh e n then e.shape.first else start_in epochs)
  start_more epochs e = fold-append (λ (start : ℕ) (f : Epoch). if nat_le f.shape.first cycle && is_fresh f n then f.shape.first else start) 0 epochs (e ∷ [])

  -- no epoch after this one names the node
  abbrev Quiet : List Epoch → ℕ → Type 0
  Quiet epochs i = (k : ℕ) (f : Epoch) (channels : ℕ) → i < k → slice_get epochs k ≡ Some f
      → Contains f.fresh (record { node = n; channels = channels }) → ⊥

  -- no epoch has a form of its first input in these cycles
  abbrev Silent : List Epoch → ℕ → ℕ → Type 0
  Silent epochs from to = (i : ℕ) (e : Epoch) (rate channels k : ℕ) → slice_get epochs i ≡ Some e → from ≤ k → k < to → e.shape.first ≤ k
      → k < e.shape.first + e.shape.cycles → HasForm e (record { node = n; port = 0 }) rate channels → ⊥

  -- it has given up since the last epoch, before the cycle
  pub record Pends (first : ℕ) (gave : Bool) (begins : ℕ) : Type 0 where
    pub early : first ≤ cycle
    pub given : gave ≡ true
    pub here : begins ≡ first

  -- it has not; between the beginning by the script and that by the epochs, it received nothing
  pub record Settles (epochs : List Epoch) (first : ℕ) (gave : Bool) (begins : ℕ) : Type 0 where
    pub quiet : first ≤ cycle → gave ≡ false
    pub before : begins ≤ start_in epochs
    pub silent : Silent epochs begins (start_in epochs)

  pub record Knows (epochs : List Epoch) (first told : ℕ) (there gave : Bool) (begins : ℕ) : Type 0 where
    pub below : start_in epochs ≤ first
    pub named : (k : ℕ) (f : Epoch) (channels : ℕ) → slice_get epochs k ≡ Some f → Contains f.fresh (record { node = n; channels = channels })
        → f.shape.first ≤ cycle → f.shape.first ≤ start_in epochs
    pub telling : (i : ℕ) (e : Epoch) (rate channels : ℕ) → slice_get epochs i ≡ Some e → HasForm e (record { node = n; port = 0 }) rate channels
        → Quiet epochs i → told ≡ channels
    pub made : (i : ℕ) (e : Epoch) (rate channels : ℕ) → slice_get epochs i ≡ Some e → HasForm e (record { node = n; port = 0 }) rate channels
        → there ≡ true
    pub state : Pends first gave begins ⊎ Settles epochs first gave begins

  -- so it is of a graph
  abbrev pub KnowsOf : Graph → ℕ → Type 0
  KnowsOf g begins = Knows g.epochs g.first (standing g.nodes n).told (standing g.nodes n).there (standing g.nodes n).gave_up begins

  -- A LINE WITHOUT AN EPOCH
  module _ (g after : Graph) (command : Command) (begins : ℕ) (on : LeavesOf g command n after) (known : KnowsOf g begins) where
    -- the node gives up, before the cycle or later, or it does not
    gives : Pends g.first ((standing g.nodes n).gave_up || gives_up g command n) (begins_after g command cycle n begins)
        ⊎ Settles g.epochs g.first ((standing g.nodes n).gave_up || gives_up g command n) (begins_after g command cycle n begins)
    gives = go (gives_up g command n) (nat_le g.first cycle) refl refl known.state where
      late : (f : Bool) → (f || true) ≡ true
      late true = refl
      late false = refl

      more : (f b : Bool) → f ≡ true → (f || b) ≡ true
      more f b e = ap (λ (x : Bool). x || b) e

      none : (f : Bool) → f ≡ false → (f || false) ≡ false
      none f e = ap (λ (x : Bool). x || false) e

      begins_is : (b : Bool) → (gives_up g command n && nat_le g.first cycle) ≡ b → begins_after g command cycle n begins ≡ (if b then g.first else begins)
      begins_is b e = ap (λ (x : Bool). if x then g.first else begins) e

      pends : (b : Bool) → begins_after g command cycle n begins ≡ begins → Pends g.first (standing g.nodes n).gave_up begins
          → Pends g.first ((standing g.nodes n).gave_up || b) (begins_after g command cycle n begins)
      pends b same h = record { early = h.early; given = more (standing g.nodes n).gave_up b h.given; here = same ∙ h.here }

      settles : (b : Bool) → begins_after g command cycle n begins ≡ begins → (g.first ≤ cycle → b ≡ false)
          → Settles g.epochs g.first (standing g.nodes n).gave_up begins
          → Settles g.epochs g.first ((standing g.nodes n).gave_up || b) (begins_after g command cycle n begins)
      settles b same none_early h = record {
        quiet = λ l. ap (λ (x : Bool). (standing g.nodes n).gave_up || x) (none_early l) ∙ none (standing g.nodes n).gave_up (h.quiet l);
        before = subst (λ (k : ℕ). k ≤ start_in g.epochs) (sym same) h.before;
        silent = subst (λ (k : ℕ). Silent g.epochs k (start_in g.epochs)) (sym same) h.silent;
      }

      go : (b l : Bool) → gives_up g command n ≡ b → nat_le g.first cycle ≡ l
          → Pends g.first (standing g.nodes n).gave_up begins ⊎ Settles g.epochs g.first (standing g.nodes n).gave_up begins
          → Pends g.first ((standing g.nodes n).gave_up || gives_up g command n) (begins_after g command cycle n begins)
          ⊎ Settles g.epochs g.first ((standing g.nodes n).gave_up || gives_up g command n) (begins_after g command cycle n begins)
      go true true e d s = inl (record {
        early = leb-true g.first cycle d;
        given = ap (λ (x : Bool). (standing g.nodes n).gave_up || x) e ∙ late (standing g.nodes n).gave_up;
        here = begins_is true (and_from (gives_up g command n) (nat_le g.first cycle) e d);
      })
      go true false e d (inl h) = inl (pends (gives_up g command n)
          (begins_is false (and_right (gives_up g command n) (nat_le g.first cycle) d)) h)
      go true false e d (inr h) = inr (settles (gives_up g command n)
          (begins_is false (and_right (gives_up g command n) (nat_le g.first cycle) d))
          (λ l. absurd (both_ways (nat_le g.first cycle) d (le-leb g.first cycle l))) h)
      go false l e d (inl h) = inl (pends (gives_up g command n) (begins_is false (ap (λ (x : Bool). x && nat_le g.first cycle) e)) h)
      go false l e d (inr h) = inr (settles (gives_up g command n) (begins_is false (ap (λ (x : Bool). x && nat_le g.first cycle) e)) (λ k. e) h)

    known_left : Knows g.epochs g.first (standing after.nodes n).told (standing after.nodes n).there
        ((standing g.nodes n).gave_up || gives_up g command n) (begins_after g command cycle n begins)
    known_left = record {
      below = known.below;
      named = known.named;
      telling = λ i e rate channels at has quiet. on.told ∙ known.telling i e rate channels at has quiet;
      made = λ i e rate channels at has. on.there (known.made i e rate channels at has);
      state = gives;
    }

    pub line_known : KnowsOf after (begins_after g command cycle n begins)
    line_known = subst (λ (b : Bool). Knows after.epochs after.first (standing after.nodes n).told (standing after.nodes n).there b
        (begins_after g command cycle n begins)) (sym on.gave)
        (subst (λ (k : ℕ). Knows after.epochs k (standing after.nodes n).told (standing after.nodes n).there
        ((standing g.nodes n).gave_up || gives_up g command n) (begins_after g command cycle n begins)) (sym on.first)
        (subst (λ (es : List Epoch). Knows es g.first (standing after.nodes n).told (standing after.nodes n).there
        ((standing g.nodes n).gave_up || gives_up g command n) (begins_after g command cycle n begins)) (sym on.epochs) known_left))

  -- ONE EPOCH MORE
  module _ (count : ℕ) (g : Graph) (sound : IsSoundGraph count g) (many : ℕ) (e : Epoch) (is : IsEpochOf g many e) (after : Graph)
      (taken : IsAfter g e after) (there : n < length g.nodes) (inputs : 0 < input_count (kind_at plan n))
      (alike : length plan.nodes ≡ length g.kinds) (kinds : (m : ℕ) → kind_at plan m ≡ get_or g.kinds m Dummy)
      (begins : ℕ) (known : KnowsOf g begins) where
    abbrev so_far : Plan
    so_far = record plan { quantum = g.quantum; epochs = g.epochs }

    like : IsLike g.quantum g.kinds (record plan { quantum = g.quantum; epochs = g.epochs })
    like = record { quantum_is = refl; count = alike; kind = kinds }

    next : IsNext (record plan { quantum = g.quantum; epochs = g.epochs }) g.ports g.nodes after.nodes e
    next = next_ok count g sound many e is after taken (record plan { quantum = g.quantum; epochs = g.epochs }) like

    first_is : e.shape.first ≡ g.first
    first_is = is.first

    -- where the stream begins with the new epoch
    begins_at : ((start_in (g.epochs ++ e ∷ []) ≡ e.shape.first) × (e.shape.first ≤ cycle) × (is_fresh e n ≡ true))
        ⊎ (start_in (g.epochs ++ e ∷ []) ≡ start_in g.epochs)
    begins_at = go (nat_le e.shape.first cycle && is_fresh e n) refl where
      go : (b : Bool) → (nat_le e.shape.first cycle && is_fresh e n) ≡ b
          → ((start_in (g.epochs ++ e ∷ []) ≡ e.shape.first) × (e.shape.first ≤ cycle) × (is_fresh e n ≡ true))
          ⊎ (start_in (g.epochs ++ e ∷ []) ≡ start_in g.epochs)
      go true d =
          let both = and_parts (nat_le e.shape.first cycle) (is_fresh e n) d in
          inl (start_more g.epochs e ∙ ap (λ (x : Bool). if x then e.shape.first else start_in g.epochs) d, leb-true e.shape.first cycle both.0, both.1)
      go false d = inr (start_more g.epochs e ∙ ap (λ (x : Bool). if x then e.shape.first else start_in g.epochs) d)

    begins_fresh : (channels : ℕ) → Contains e.fresh (record { node = n; channels = channels }) → e.shape.first ≤ cycle
        → start_in (g.epochs ++ e ∷ []) ≡ e.shape.first
    begins_fresh channels w l = start_more g.epochs e ∙ ap (λ (x : Bool). if x then e.shape.first else start_in g.epochs)
        (and_from (nat_le e.shape.first cycle) (is_fresh e n) (le-leb e.shape.first cycle l) (named_fresh e n channels w))

    up : start_in g.epochs ≤ start_in (g.epochs ++ e ∷ [])
    up = let low = known.below in elim begins_at [ inl h ↦ omega (arith, h.0, first_is, low) | inr h ↦ omega (arith, h) ]

    low_now : start_in (g.epochs ++ e ∷ []) ≤ g.first
    low_now = let low = known.below in elim begins_at [ inl h ↦ omega (arith, h.0, first_is) | inr h ↦ omega (arith, h, low) ]

    quiet_before : (i : ℕ) → i < length g.epochs → Quiet (g.epochs ++ e ∷ []) i → Quiet g.epochs i
    quiet_before i l q k f channels m at w = q k f channels m (left g.epochs e f k at) w

    -- a node that the epoch does not name has the channels that were noted
    told_same : ((channels : ℕ) → Contains e.fresh (record { node = n; channels = channels }) → ⊥)
        → (standing after.nodes n).told ≡ (standing g.nodes n).told
    told_same none = elim (cases_eq (standing after.nodes n).told (standing g.nodes n).told) [
      | inl same ↦ same
      | inr ne ↦ absurd (none (standing after.nodes n).told (next.named n (inr ne)))
    ]

    telling_now : (i : ℕ) (f : Epoch) (rate channels : ℕ) → slice_get (g.epochs ++ e ∷ []) i ≡ Some f
        → HasForm f (record { node = n; port = 0 }) rate channels → Quiet (g.epochs ++ e ∷ []) i → (standing after.nodes n).told ≡ channels
    telling_now i f rate channels at has quiet = elim (parted g.epochs e f i at) [
      | inl h ↦
          let l = slice_get_within g.epochs i f h in
          told_same (λ more w. quiet (length g.epochs) e more l (at_end g.epochs e) w)
          ∙ known.telling i f rate channels h has (quiet_before i l quiet)
      | inr h ↦ (next.first n rate channels inputs
          (subst (λ (x : Epoch). HasForm x (record { node = n; port = 0 }) rate channels) (sym h.1) has)).0
    ]

    there_stays : (standing g.nodes n).there ≡ true → (standing after.nodes n).there ≡ true
    there_stays h = ap (λ (s : Standing). s.there) (taken.nodes n there).rest ∙ h

    made_now : (i : ℕ) (f : Epoch) (rate channels : ℕ) → slice_get (g.epochs ++ e ∷ []) i ≡ Some f
        → HasForm f (record { node = n; port = 0 }) rate channels → (standing after.nodes n).there ≡ true
    made_now i f rate channels at has = elim (parted g.epochs e f i at) [
      | inl h ↦ there_stays (known.made i f rate channels h has)
      | inr h ↦ there_stays (sound.made.there n (form_made count g sound many e is (record { node = n; port = 0 }) rate channels
          (subst (λ (x : Epoch). HasForm x (record { node = n; port = 0 }) rate channels) (sym h.1) has)))
    ]

    named_now : (k : ℕ) (f : Epoch) (channels : ℕ) → slice_get (g.epochs ++ e ∷ []) k ≡ Some f
        → Contains f.fresh (record { node = n; channels = channels }) → f.shape.first ≤ cycle → f.shape.first ≤ start_in (g.epochs ++ e ∷ [])
    named_now k f channels at w l = elim (parted g.epochs e f k at) [
      | inl h ↦ (let old = known.named k f channels h w l in omega (arith, old, up))
      | inr h ↦
          let w' = subst (λ (x : Epoch). Contains x.fresh (record { node = n; channels = channels })) (sym h.1) w in
          let same = ap (λ (x : Epoch). x.shape.first) h.1 in
          let now = begins_fresh channels w' (omega (arith, l, same)) in omega (arith, now, same)
    ]

    -- a node that did not give up is not named after an epoch in which its first input has a form
    kept_name : (i : ℕ) (f : Epoch) (rate channels more : ℕ) → slice_get g.epochs i ≡ Some f → HasForm f (record { node = n; port = 0 }) rate channels
        → Quiet g.epochs i → (standing g.nodes n).gave_up ≡ false → Contains e.fresh (record { node = n; channels = more }) → ⊥
    kept_name i f rate channels more at has quiet kept w = elim (next.only n more w).1 [
      | inl gave ↦ both_ways (standing g.nodes n).gave_up kept gave
      | inr other ↦ other (one_channels count g sound n (standing after.nodes n).told channels (taken.nodes n there).told form
          ∙ sym (known.telling i f rate channels at has quiet))
    ] where
      past : IsPast (record plan { quantum = g.quantum; epochs = g.epochs }) g.ports g.nodes
      past = sound.past (record plan { quantum = g.quantum; epochs = g.epochs }) like refl

      form : ChannelsIn g n channels
      form = inl (record {
        there = known.made i f rate channels at has;
        input = subst (λ (k : ℕ). 0 < k) (sym (input_count_is g.ports g.kinds sound.kinds n))
            (subst (λ (d : Kind). 0 < input_count d) (kinds n) inputs);
        rate = rate;
        form = (past.forms.kept i f (record { node = n; port = 0 }) rate channels at has (λ k c l v. quiet k v.epoch c l v.at v.entry) kept).form;
      })

    silent_now : Settles g.epochs g.first (standing g.nodes n).gave_up begins → Silent (g.epochs ++ e ∷ []) begins (start_in (g.epochs ++ e ∷ []))
    silent_now s i f rate channels k at low high from to has = elim (parted g.epochs e f i at) [
      | inr h ↦ (let same = ap (λ (x : Epoch). x.shape.first) h.1 in absurd (omega (arith, same, first_is, low_now, from, high)))
      | inl h ↦ elim (cases_lt k (start_in g.epochs)) [
        | inl l ↦ s.silent i f rate channels k h low l from to has
        | inr past ↦ elim begins_at [
          | inr same ↦ absurd (omega (arith, same, past, high))
          | inl new ↦
              let gone = fresh_named e n new.2 in
              let early : g.first ≤ cycle = omega (arith, new.1, first_is) in
              kept_name i f rate channels gone.0 h has (λ j x more after_i there_j w.
              let order = epoch_order 0 g.first g.epochs sound.sums.follow i j f x after_i h there_j in
              let end = epoch_ends 0 g.first g.epochs sound.sums.follow j x there_j in
              let by = known.named j x more there_j w (let b = end.1 in omega (arith, b, early)) in
              omega (arith, order, by, past, to)) (s.quiet early) gone.1
        ]
      ]
    ]

    state_now : Settles (g.epochs ++ e ∷ []) (g.first + e.shape.cycles) false begins
    state_now = elim known.state [
      | inl p ↦
          let w = next.named n (inl p.given) in
          let now = begins_fresh (standing after.nodes n).told w (let l = p.early in omega (arith, l, first_is)) in
          let here = p.here in record {
            quiet = λ l. refl;
            before = omega (arith, now, here, first_is);
            silent = λ i f rate channels k at low high from to has. absurd (omega (arith, now, here, first_is, low, high));
          }
      | inr s ↦ record {
        quiet = λ l. refl;
        before = (let b = s.before in omega (arith, b, up));
        silent = silent_now s;
      }
    ]

    known_now : Knows (g.epochs ++ e ∷ []) (g.first + e.shape.cycles) (standing after.nodes n).told (standing after.nodes n).there false begins
    known_now = record {
      below = omega (arith, low_now);
      named = named_now;
      telling = telling_now;
      made = made_now;
      state = inr state_now;
    }

    pub epoch_known : KnowsOf after begins
    epoch_known = subst (λ (b : Bool). Knows after.epochs after.first (standing after.nodes n).told (standing after.nodes n).there b begins)
        (sym (next.quiet n))
        (subst (λ (k : ℕ). Knows after.epochs k (standing after.nodes n).told (standing after.nodes n).there false begins)
        (sym (ap (λ (x : Graph). x.first) taken.same))
        (subst (λ (es : List Epoch). Knows es (g.first + e.shape.cycles) (standing after.nodes n).told (standing after.nodes n).there false begins)
        (sym (ap (λ (x : Graph). x.epochs) taken.same)) known_now))

  -- ANY LINE
  module _ (waves : List WavIn) (count : ℕ) (g after : Graph) (sound : IsSoundGraph count g) (there : n < length g.kinds)
      (inputs : 0 < input_count (kind_at plan n)) (alike : length plan.nodes ≡ length g.kinds)
      (kinds : (m : ℕ) → kind_at plan m ≡ get_or g.kinds m Dummy) (begins : ℕ) (known : KnowsOf g begins) where
    within : n < length g.nodes
    within = let s = sound.nodes in omega (arith, there, s)

    small : n < 64
    small = let f = few_nodes count g sound in omega (arith, there, f)

    runs : (m : ℕ) → RunsFor g m T.Done after → KnowsOf after begins
    runs zero h = subst (λ (x : Graph). KnowsOf x begins) (sym h.1) known
    runs (suc m) h = epoch_known count g sound (suc m) h.0 h.1 after h.2.1 within inputs alike kinds begins known

    line : (command : Command) → IsGoodLine count g.kinds command → Does g command T.Done after → KnowsOf after (begins_after g command cycle n begins)
    line command good h = line_known g after command begins (line_leaves count g after n small sound command good h) known

    pub step_known : (command : Command) → IsGoodLine count g.kinds command → Steps waves g command T.Done after
        → KnowsOf after (begins_after g command cycle n begins)
    step_known (C.Source m file) good h = line (C.Source m file) good h
    step_known (C.Square m rate channels period amp) good h = line (C.Square m rate channels period amp) good h
    step_known (C.Gain m gain) good h = line (C.Gain m gain) good h
    step_known (C.Mix2 m ga gb) good h = line (C.Mix2 m ga gb) good h
    step_known (C.Delay m frames) good h = line (C.Delay m frames) good h
    step_known (C.Map m channels list) good h = line (C.Map m channels list) good h
    step_known (C.Split m) good h = line (C.Split m) good h
    step_known (C.Sink m file) good h = line (C.Sink m file) good h
    step_known (C.Meter m) good h = line (C.Meter m) good h
    step_known (C.Driver m p) good h = line (C.Driver m p) good h
    step_known (C.Loop m k) good h = line (C.Loop m k) good h
    step_known (C.On m) good h = line (C.On m) good h
    step_known (C.Off m) good h = line (C.Off m) good h
    step_known (C.Async m) good h = line (C.Async m) good h
    step_known (C.Buffers port k) good h = line (C.Buffers port k) good h
    step_known (C.Link from to) good h = line (C.Link from to) good h
    step_known (C.Unlink from to) good h = line (C.Unlink from to) good h
    step_known (C.Quantum k) good h = line (C.Quantum k) good h
    step_known (C.Offer port file) good h = line (C.Offer port file) good h
    step_known (C.Cycles m) good h = runs m h
    step_known C.Drain good h = runs h.0 h.2

  -- ALL LINES
  pub follows_leads : (waves : List WavIn) (lines : List Line) (g end : Graph) (begins : ℕ) → Follows waves g lines (Ok end)
      → (begin : ℕ) × LeadsTo waves g lines cycle n begins end begin
  follows_leads waves [] g end begins h = (begins, (follows_end g end h, refl))
  follows_leads waves (l ∷ ls) g end begins (inl h) =
      let rest = follows_leads waves ls h.0 end (begins_after g l.command cycle n begins) h.2 in (rest.0, (h.0, h.1, rest.1))
  follows_leads waves (l ∷ ls) g end begins (inr h) = absurd (no_stop end l.line h.0 h.3)

  pub record EndsKnown (waves : List WavIn) (g : Graph) (lines : List Line) (begins : ℕ) (end : Graph) : Type 0 where
    pub begin : ℕ
    pub leads : LeadsTo waves g lines cycle n begins end begin
    pub known : KnowsOf end begin

  pub follows_known : (waves : List WavIn) (kinds : List Kind) (lines : List Line) (count : ℕ) (g end : Graph) (begins : ℕ) → IsSoundGraph count g
      → g.kinds ≡ kinds → n < length kinds → 0 < input_count (kind_at plan n) → length plan.nodes ≡ length kinds
      → ((m : ℕ) → kind_at plan m ≡ get_or kinds m Dummy) → AreGoodLines count kinds lines → KnowsOf g begins → Follows waves g lines (Ok end)
      → EndsKnown waves g lines begins end
  follows_known waves kinds [] count g end begins sound same there inputs alike are good known h = record {
    begin = begins;
    leads = (follows_end g end h, refl);
    known = subst (λ (x : Graph). KnowsOf x begins) (sym (follows_end g end h)) known;
  }
  follows_known waves kinds (l ∷ ls) count g end begins sound same there inputs alike are good known (inl h) =
      let first = subst (λ (ks : List Kind). IsGoodLine count ks l.command) (sym same) (good_first count kinds l ls good) in
      let now = step_known waves count g h.0 sound (subst (λ (ks : List Kind). n < length ks) (sym same) there) inputs
      (alike ∙ ap length (sym same)) (λ m. are m ∙ ap (λ (ks : List Kind). get_or ks m Dummy) (sym same)) begins known l.command first h.1 in
      let rest = follows_known waves kinds ls (grown count l.command) h.0 end (begins_after g l.command cycle n begins)
      (step_sound waves count g h.0 l.command sound first h.1) (step_kinds waves g h.0 l.command h.1 ∙ same) there inputs alike are
      (good_rest count kinds l ls good) now h.2 in
      record { begin = rest.begin; leads = (h.0, h.1, rest.leads); known = rest.known }
  follows_known waves kinds (l ∷ ls) count g end begins sound same there inputs alike are good known (inr h) = absurd (no_stop end l.line h.0 h.3)
