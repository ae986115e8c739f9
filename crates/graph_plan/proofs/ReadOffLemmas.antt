-- What is said of each node can be read off the epochs so far, after every line.
use Rattle.std.proofs.Common.{◌≡◌, ◌⊎◌, inl, inr, ℕ, zero, suc, ◌+◌, ◌<◌, ◌==◌, ◌||◌, Bool, true, false, cond, List, [], ◌∷◌, ◌++◌, length, get_or}
use Rattle.std.proofs.Common.{Option, Some, None, refl, sym, ap, ◌∙◌, subst, arith}
use Rattle.std.proofs.Math.ListN.{set, length-set}
use Rattle.std.specs.Int.{bit_at}
use Rattle.std.specs.Prelude.{Contains, Ok, option_map, unwrap_or, find}
use Rattle.std.proofs.lemmas.Bool.{cases_eq, eq-eqb, eqb-true, both_ways}
use Rattle.std.proofs.lemmas.List.{get_or-set_same, get_or-set_other}
use Rattle.std.proofs.lemmas.List.Folds.{list_any-append}
use Rattle.std.proofs.lemmas.List.Sums.{sum_by-append, fold-append}
use Rattle.pw_graph.specs.declared.plan.Epoch.{Epoch}
use Rattle.pw_graph.specs.declared.plan.Fresh.{Fresh}
use Rattle.pw_graph.specs.declared.kind.Kind.{Kind}
use Rattle.wav_files.specs.declared.wav.WavIn.{WavIn}
use Rattle.graph_script.specs.declared.command.Command.{Command}
use Rattle.graph_script.specs.declared.command.Command.TheVariants as C
use Rattle.graph_script.specs.declared.script.Line.{Line}
use Rattle.graph_script.specs.Making.{grown}
use Rattle.graph_lines.specs.declared.graph.Graph.{Graph}
use Rattle.graph_lines.specs.declared.graph.Stepped.TheVariants as T
use Rattle.graph_lines.specs.declared.standing.Standing.{Standing}
use Rattle.graph_lines.specs.Activity.{standing, nobody}
use Rattle.graph_lines.specs.Epochs.{IsEpochOf}
use Rattle.graph_lines.specs.Fresh.{ChannelsIn}
use Rattle.graph_lines.specs.EpochLines.{cycles_in, is_formed_sink, IsAfter, RunsFor, Steps}
use Rattle.graph_lines.specs.Lines.{made, prior, looped, switched_on, switched_off, mark, Marks}
use Rattle.graph_lines.specs.Start.{kinds_of, newcomer, IsStart}
use Rattle.port_model.specs.declared.port_state.Node.{Node}
use Rattle.graph_lines.specs.UnlinkLines.{giving, IsTakenAway, UnlinksLine}
use Rattle.pw_graph.specs.declared.ids.PortId.{PortId}
use Rattle.link_negotiation.specs.declared.unlinking.Unlinked.{Unlinked}
use Rattle.link_negotiation.specs.declared.unlinking.Unlinked.TheVariants as U
use Rattle.graph_plan.specs.Following.{Follows}
use Rattle.graph_plan.specs.working.ReadOff.{ran_in, was_formed_sink, told_by, told_in, IsReadOff}
use Rattle.graph_plan.specs.working.SoundGraph.{IsSoundGraph}
use Rattle.graph_plan.proofs.sound.SoundGraphLemmas.{one_channels}
use Rattle.graph_plan.proofs.sound.StartLemmas.{first_is}
use Rattle.graph_plan.proofs.sound.StepLemmas.{IsGoodLine, AreGoodLines, good_first, good_rest, step_sound, step_kinds, follows_end, no_stop}

-- what a line that makes no epoch leaves of what is said of a node
record IsAlike (s t : Standing) : Type 0 where
  ran : t.ran ≡ s.ran
  kept : t.kept ≡ s.kept
  told : t.told ≡ s.told

alike : (s : Standing) → IsAlike s s
alike s = record { ran = refl; kept = refl; told = refl }

then_alike : (s t u : Standing) → IsAlike s t → IsAlike t u → IsAlike s u
then_alike s t u h k = record { ran = k.ran ∙ h.ran; kept = k.kept ∙ h.kept; told = k.told ∙ h.told }

-- of one node something else is said
alike_set : (said : List Standing) (n : ℕ) (t : Standing) → n < length said → IsAlike (standing said n) t → (m : ℕ)
    → IsAlike (standing said m) (standing (set said n t) m)
alike_set said n t within h m = elim (cases_eq m n) [
  | inl e ↦ subst (λ (k : ℕ). IsAlike (standing said k) (standing (set said n t) k)) (sym e)
      (subst (IsAlike (standing said n)) (sym (get_or-set_same said n t nobody within)) h)
  | inr ne ↦ subst (IsAlike (standing said m)) (sym (get_or-set_other said n m t nobody ne)) (alike (standing said m))
]

-- a line that makes no epoch
record Leaves (g after : Graph) : Type 0 where
  epochs : after.epochs ≡ g.epochs
  kinds : after.kinds ≡ g.kinds
  many : length after.nodes ≡ length g.nodes
  each : (n : ℕ) → IsAlike (standing g.nodes n) (standing after.nodes n)

formed_alike : (g after : Graph) (epochs : List Epoch) (n : ℕ) → after.kinds ≡ g.kinds → was_formed_sink after epochs n ≡ was_formed_sink g epochs n
formed_alike g after epochs n e = ap (λ (ks : List Kind). was_formed_sink (record g { kinds = ks }) epochs n) e

read_left : (g after : Graph) → Leaves g after → IsReadOff g → IsReadOff after
read_left g after l h = record {
  ran = λ n i. (l.each n).ran ∙ (h.ran n (inside n i) ∙ ap (λ (es : List Epoch). ran_in es n) (sym l.epochs));
  kept = λ n i. (l.each n).kept ∙ (h.kept n (inside n i) ∙ (ap (λ (es : List Epoch). was_formed_sink g es n) (sym l.epochs)
      ∙ sym (formed_alike g after after.epochs n l.kinds)));
  told = λ n i. (l.each n).told ∙ (h.told n (inside n i) ∙ ap (λ (es : List Epoch). told_in es n) (sym l.epochs));
} where
  inside : (n : ℕ) → n < length after.nodes → n < length g.nodes
  inside n i = let e = l.many in omega (arith, i, e)

same_left : (g : Graph) → Leaves g g
same_left g = record { epochs = refl; kinds = refl; many = refl; each = λ n. alike (standing g.nodes n) }

node_left : (g after : Graph) (n : ℕ) (t : Standing) → n < length g.nodes → IsAlike (standing g.nodes n) t
    → after ≡ record g { nodes = set g.nodes n t } → Leaves g after
node_left g after n t within h e = subst (Leaves g) (sym e) (record {
  epochs = refl;
  kinds = refl;
  many = length-set g.nodes n t;
  each = alike_set g.nodes n t within h;
})

-- the channels with which an epoch names a node, if it does
abbrev channels_named : List Fresh → ℕ → Option ℕ
channels_named xs n = option_map (λ f. f.channels) (find (λ f. f.node == n) xs)

abbrev IsNamed : List Fresh → ℕ → Option ℕ → Type 0
IsNamed xs n o = ((c : ℕ) × Contains xs (record { node = n; channels = c }) × (o ≡ Some c))
    ⊎ ((o ≡ None) × ((c : ℕ) → Contains xs (record { node = n; channels = c }) → ⊥))

in_front : (f : Fresh) (fs : List Fresh) (x : Fresh) (k : ℕ) → k < length (f ∷ fs) → get_or (f ∷ fs) k x ≡ x → (f ≡ x) ⊎ Contains fs x
in_front f fs x zero l e = inl e
in_front f fs x (suc k) l e = inr (k, omega (arith, l), e)

named_more : (f : Fresh) (fs : List Fresh) (n : ℕ) (b : Bool) → (f.node == n) ≡ b → IsNamed fs n (channels_named fs n)
    → IsNamed (f ∷ fs) n (option_map (λ f. f.channels) (cond b (Some f) (find (λ f. f.node == n) fs)))
named_more f fs n true e rest = inl (f.channels, (0, omega arith, ap (λ (k : ℕ). record f { node = k }) (eqb-true f.node n e)), refl)
named_more f fs n false e rest = elim rest [
  | inl w ↦ inl (w.0, (suc w.1.0, (let l = w.1.1 in omega (arith, l)), w.1.2), w.2)
  | inr w ↦ inr (
    w.0,
    λ c h. elim (in_front f fs (record { node = n; channels = c }) h.0 h.1 h.2) [
      | inl same ↦ both_ways (f.node == n) e (eq-eqb f.node n (ap (λ (x : Fresh). x.node) same))
      | inr later ↦ w.1 c later
    ],
  )
]

named : (xs : List Fresh) (n : ℕ) → IsNamed xs n (channels_named xs n)
named [] n = inr (refl, λ c w. let l = w.1 in omega (arith, l))
named (f ∷ fs) n = named_more f fs n (f.node == n) refl (named fs n)

module _ (count : ℕ) (g after : Graph) (n : ℕ) (e : Epoch) (sound : IsSoundGraph count g) (epoch : IsEpochOf g n e) (taken : IsAfter g e after)
    (h : IsReadOff g) where
  epochs_are : after.epochs ≡ g.epochs ++ e ∷ []
  epochs_are = ap (λ (x : Graph). x.epochs) taken.same

  kinds_are : after.kinds ≡ g.kinds
  kinds_are = ap (λ (x : Graph). x.kinds) taken.same

  inside : (m : ℕ) → m < length after.nodes → m < length g.nodes
  inside m i = let e = taken.many in omega (arith, i, e)

  told_more : (m : ℕ) (t : Standing) → m < length g.nodes → t ≡ standing after.nodes m → t.told ≡ told_by m (standing g.nodes m).told e
  told_more m t i is = elim (named e.fresh m) [
    | inl w ↦
        let mine = (taken.nodes m i).told in
        let its = ((epoch.fresh.each m w.0).0 w.1).0 in
        ap (λ (s : Standing). s.told) is ∙ (one_channels count g sound m (standing after.nodes m).told w.0 mine its
        ∙ sym (ap (λ (o : Option ℕ). unwrap_or o (standing g.nodes m).told) w.2))
    | inr w ↦ elim (cases_eq t.told (standing g.nodes m).told) [
      | inl same ↦ same ∙ sym (ap (λ (o : Option ℕ). unwrap_or o (standing g.nodes m).told) w.0)
      | inr other ↦
          let mine = subst (λ (s : Standing). ChannelsIn g m s.told) (sym is) (taken.nodes m i).told in
          absurd (w.1 t.told ((epoch.fresh.each m t.told).1 (mine, inr other)))
    ]
  ]

  pub epoch_read : IsReadOff after
  epoch_read = record {
    ran = λ m i. ap (λ (s : Standing). s.ran) (taken.nodes m (inside m i)).rest
        ∙ (ap (λ (k : ℕ). k + cycles_in e m) (h.ran m (inside m i))
        ∙ (sym (sum_more m) ∙ ap (λ (es : List Epoch). ran_in es m) (sym epochs_are)));
    kept = λ m i. ap (λ (s : Standing). s.kept) (taken.nodes m (inside m i)).rest
        ∙ (ap (λ (b : Bool). b || is_formed_sink g e m) (h.kept m (inside m i))
        ∙ (sym (formed_more m) ∙ (ap (λ (es : List Epoch). was_formed_sink g es m) (sym epochs_are) ∙ sym (formed_alike g after after.epochs m kinds_are))));
    told = λ m i. told_more m (standing after.nodes m) (inside m i) refl
        ∙ (ap (λ (k : ℕ). told_by m k e) (h.told m (inside m i))
        ∙ (sym (fold-append (told_by m) 0 g.epochs (e ∷ [])) ∙ ap (λ (es : List Epoch). told_in es m) (sym epochs_are)));
  } where
    sum_more : (m : ℕ) → ran_in (g.epochs ++ e ∷ []) m ≡ ran_in g.epochs m + cycles_in e m
    sum_more m =
        let both = sum_by-append (λ (x : Epoch). cycles_in x m) g.epochs (e ∷ []) in
        let one : ran_in (e ∷ []) m ≡ cycles_in e m = omega arith in
        both ∙ ap (λ (k : ℕ). ran_in g.epochs m + k) one

    or_false : (b : Bool) → (b || false) ≡ b
    or_false true = refl
    or_false false = refl

    formed_more : (m : ℕ) → was_formed_sink g (g.epochs ++ e ∷ []) m ≡ (was_formed_sink g g.epochs m || is_formed_sink g e m)
    formed_more m = list_any-append (λ (x : Epoch). is_formed_sink g x m) g.epochs (e ∷ [])
        ∙ ap (λ (b : Bool). was_formed_sink g g.epochs m || b) (or_false (is_formed_sink g e m))

-- a line that runs for some cycles
run_read : (count : ℕ) (g after : Graph) (n : ℕ) → IsSoundGraph count g → RunsFor g n T.Done after → IsReadOff g → IsReadOff after
run_read count g after zero sound r h = subst IsReadOff (sym r.1) h
run_read count g after (suc n) sound r h = epoch_read count g after (suc n) r.0 sound r.1 r.2.1 h

-- LINES THAT MAKE NO EPOCH
none_said : (g after : Graph) → after.epochs ≡ g.epochs → after.kinds ≡ g.kinds → after.nodes ≡ g.nodes → Leaves g after
none_said g after epochs kinds nodes = record {
  epochs = epochs;
  kinds = kinds;
  many = ap length nodes;
  each = λ n. subst (λ (ns : List Standing). IsAlike (standing g.nodes n) (standing ns n)) (sym nodes) (alike (standing g.nodes n));
}

marks_left : (g after : Graph) (n : ℕ) → n < length g.nodes → Marks g n after → Leaves g after
marks_left g after n within (inl h) = subst (Leaves g) (sym h.1) (same_left g)
marks_left g after n within (inr h) = subst (Leaves g) (sym h.1) (record {
  epochs = refl;
  kinds = refl;
  many = length-set g.nodes n (mark (standing g.nodes n));
  each = alike_set g.nodes n (mark (standing g.nodes n)) within (record { ran = refl; kept = refl; told = refl });
})

-- what is said of a node that gives up where its bit is set
abbrev given : ℕ → ℕ → List Standing → Standing
given gave n said = record (standing said n) { gave_up = (standing said n).gave_up || (bit_at gave n == 1) }

given_alike : (gave n : ℕ) (said : List Standing) → n < length said → (m : ℕ) → IsAlike (standing said m) (standing (giving gave n said) m)
given_alike gave n said within m = alike_set said n (given gave n said) within (record { ran = refl; kept = refl; told = refl }) m

given_many : (gave n : ℕ) (said : List Standing) → length (giving gave n said) ≡ length said
given_many gave n said = length-set said n (given gave n said)

unlinks_left : (g after : Graph) (from to : PortId) → from.node < length g.nodes → to.node < length g.nodes → UnlinksLine g from to after
    → Leaves g after
unlinks_left g after from to in_from in_to h = go h.unlinked h.noted where
  epochs_same : after.epochs ≡ g.epochs
  epochs_same = ap (λ (x : Graph). x.epochs) h.same

  kinds_same : after.kinds ≡ g.kinds
  kinds_same = ap (λ (x : Graph). x.kinds) h.same

  go : (u : Unlinked) → IsTakenAway g from to u after → Leaves g after
  go U.NotThere w = none_said g after epochs_same kinds_same w.1
  go (U.Gone gave) w =
      let first = given_many gave from.node g.nodes in
      let there : to.node < length (giving gave from.node g.nodes) = omega (arith, in_to, first) in
      record {
        epochs = epochs_same;
        kinds = kinds_same;
        many = ap length w.1 ∙ (given_many gave to.node (giving gave from.node g.nodes) ∙ first);
        each = λ n. subst (λ (ns : List Standing). IsAlike (standing g.nodes n) (standing ns n)) (sym w.1)
            (then_alike (standing g.nodes n) (standing (giving gave from.node g.nodes) n)
            (standing (giving gave to.node (giving gave from.node g.nodes)) n)
            (given_alike gave from.node g.nodes in_from n) (given_alike gave to.node (giving gave from.node g.nodes) there n));
      }

-- ANY LINE
module _ (waves : List WavIn) (count : ℕ) (g after : Graph) (sound : IsSoundGraph count g) (h : IsReadOff g) where
  within : (n : ℕ) → n < length g.kinds → n < length g.nodes
  within n l = let e = sound.nodes in omega (arith, l, e)

  said : (n : ℕ) (t : Standing) → n < length g.kinds → IsAlike (standing g.nodes n) t → after ≡ record g { nodes = set g.nodes n t }
      → IsReadOff after
  said n t l a e = read_left g after (node_left g after n t (within n l) a e) h

  nothing : after.epochs ≡ g.epochs → after.kinds ≡ g.kinds → after.nodes ≡ g.nodes → IsReadOff after
  nothing a b c = read_left g after (none_said g after a b c) h

  pub step_read : (command : Command) → IsGoodLine count g.kinds command → Steps waves g command T.Done after → IsReadOff after
  step_read (C.Source n file) l s = said n (made (standing g.nodes n)) l.nodes (record { ran = refl; kept = refl; told = refl }) s.1
  step_read (C.Square n rate channels period amp) l s = said n (made (standing g.nodes n)) l.nodes (record { ran = refl; kept = refl; told = refl }) s.1
  step_read (C.Gain n gain) l s = said n (made (standing g.nodes n)) l.nodes (record { ran = refl; kept = refl; told = refl }) s.1
  step_read (C.Mix2 n ga gb) l s = said n (made (standing g.nodes n)) l.nodes (record { ran = refl; kept = refl; told = refl }) s.1
  step_read (C.Delay n frames) l s = said n (made (standing g.nodes n)) l.nodes (record { ran = refl; kept = refl; told = refl }) s.1
  step_read (C.Map n channels list) l s = said n (made (standing g.nodes n)) l.nodes (record { ran = refl; kept = refl; told = refl }) s.1
  step_read (C.Split n) l s = said n (made (standing g.nodes n)) l.nodes (record { ran = refl; kept = refl; told = refl }) s.1
  step_read (C.Sink n file) l s = said n (made (standing g.nodes n)) l.nodes (record { ran = refl; kept = refl; told = refl }) s.1
  step_read (C.Meter n) l s = said n (made (standing g.nodes n)) l.nodes (record { ran = refl; kept = refl; told = refl }) s.1
  step_read (C.Driver n p) l s = said n (prior p (standing g.nodes n)) l.nodes (record { ran = refl; kept = refl; told = refl }) s.1
  step_read (C.Loop n k) l s = said n (looped k (standing g.nodes n)) l.nodes (record { ran = refl; kept = refl; told = refl }) s.1
  step_read (C.On n) l s = said n (switched_on (standing g.nodes n)) l.nodes (record { ran = refl; kept = refl; told = refl }) s.1
  step_read (C.Off n) l s = said n (switched_off (standing g.nodes n)) l.nodes (record { ran = refl; kept = refl; told = refl }) s.1
  step_read (C.Async n) l s = read_left g after (marks_left g after n (within n l.nodes) s.1) h
  step_read (C.Buffers port n) l s = nothing (ap (λ (x : Graph). x.epochs) s.1) (ap (λ (x : Graph). x.kinds) s.1) (ap (λ (x : Graph). x.nodes) s.1)
  step_read (C.Link from to) l s = nothing (ap (λ (x : Graph). x.epochs) s.same) (ap (λ (x : Graph). x.kinds) s.same) (ap (λ (x : Graph). x.nodes) s.same)
  step_read (C.Unlink from to) l s = read_left g after (unlinks_left g after from to (within from.node l.nodes.0) (within to.node l.nodes.1) s.1) h
  step_read (C.Quantum n) l s = subst IsReadOff (sym s.1) h
  step_read (C.Offer port file) l s = subst IsReadOff (sym s.1) h
  step_read (C.Cycles n) l s = run_read count g after n sound s h
  step_read C.Drain l s = run_read count g after s.0 sound s.2 h

-- ALL LINES
pub follows_read : (waves : List WavIn) (kinds : List Kind) (lines : List Line) (count : ℕ) (g end : Graph) → IsSoundGraph count g
    → g.kinds ≡ kinds → AreGoodLines count kinds lines → IsReadOff g → Follows waves g lines (Ok end) → IsReadOff end
follows_read waves kinds [] count g end sound same good r h = subst IsReadOff (sym (follows_end g end h)) r
follows_read waves kinds (l ∷ ls) count g end sound same good r (inl h) =
    let line = subst (λ (ks : List Kind). IsGoodLine count ks l.command) (sym same) (good_first count kinds l ls good) in
    follows_read waves kinds ls (grown count l.command) h.0 end (step_sound waves count g h.0 l.command sound line h.1)
    (step_kinds waves g h.0 l.command h.1 ∙ same) (good_rest count kinds l ls good) (step_read waves count g h.0 sound r l.command line h.1) h.2
follows_read waves kinds (l ∷ ls) count g end sound same good r (inr h) = absurd (no_stop end l.line h.0 h.3)

-- THE FIRST GRAPH
pub start_read : (lines : List Line) (ports : List Node) (g : Graph) → IsStart lines ports g → IsReadOff g
start_read lines ports g start = record {
  ran = λ n i. first (λ (s : Standing). s.ran) 0 (λ k. refl) refl n ∙ ap (λ (es : List Epoch). ran_in es n) (sym start.epochs);
  kept = λ n i. first (λ (s : Standing). s.kept) false (λ k. refl) refl n ∙ ap (λ (es : List Epoch). was_formed_sink g es n) (sym start.epochs);
  told = λ n i. first (λ (s : Standing). s.told) 0 (λ k. refl) refl n ∙ ap (λ (es : List Epoch). told_in es n) (sym start.epochs);
} where
  first : {X : Type 0} (f : Standing → X) (x : X) → ((m : ℕ) → f (newcomer m) ≡ x) → f nobody ≡ x → (m : ℕ) → f (standing g.nodes m) ≡ x
  first f x new none m = ap (λ (ns : List Standing). f (standing ns m)) start.nodes ∙ first_is f x new none (length (kinds_of lines)) m
