-- One node more, after the others, with a wave where it is a source: what a plan asks of ports and
-- waves stays.
use Rattle.std.proofs.Common.{◌≡◌, inl, inr, ℕ, ◌+◌, ◌<◌, ◌==◌, Bool, true, false, cond, List, [], ◌∷◌, ◌++◌, length, map}
use Rattle.std.proofs.Common.{Option, Some, None, refl, sym, ap, ◌∙◌, subst, arith, rules}
use Rattle.std.specs.Prelude.{slice_get, IfSome, option_map, count_by}
use Rattle.std.specs.List.{All}
use Rattle.std.proofs.lemmas.Option.{same_Some, none-some, slice_get_within}
use Rattle.std.proofs.lemmas.List.{map-append}
use Rattle.std.proofs.lemmas.List.Sums.{sum_by-append}
use Rattle.std.proofs.lemmas.List.Elements.{All-push, All-weaker, All-map, All-head, All-tail}
use Rattle.pw_graph.specs.declared.ids.PortId.{PortId}
use Rattle.pw_graph.specs.declared.kind.Kind.{Kind}
use Rattle.pw_graph.specs.declared.kind.Kind.TheVariants as K
use Rattle.wav_files.specs.declared.wav.Wav.{Wav}
use Rattle.wav_files.specs.declared.wav.WavIn.{WavIn}
use Rattle.port_model.specs.declared.port_state.PortState.{PortState}
use Rattle.port_model.specs.declared.port_state.Node.{Node}
use Rattle.port_model.specs.Forms.{value_at}
use Rattle.port_model.specs.Offers.{int_of, new_port, new_node, HasFileNumbers}
use Rattle.port_model.specs.PortState.{kind_of, AtPort}
use Rattle.graph_plan.specs.Conditions.{IsWaveFor, HaveWaves}
use Rattle.graph_plan.proofs.lists.PlaceLemmas.{left, at_end, parted}

-- counts of a list with one thing more, and of an empty one
count_push : {X : Type 0} (p : X → Bool) (xs : List X) (x : X) → count_by p (xs ++ x ∷ []) ≡ count_by p xs + cond (p x) 1 0
count_push p xs x =
    let both = sum_by-append (λ y. cond (p y) 1 0) xs (x ∷ []) in
    let one : count_by p (x ∷ []) ≡ cond (p x) 1 0 = omega arith in
    both ∙ ap (λ k. count_by p xs + k) one

count_none : {X : Type 0} (p : X → Bool) (xs : List X) → All (λ x. p x ≡ false) xs → count_by p xs ≡ 0
count_none p [] h = refl
count_none p (x ∷ xs) h =
    let split : count_by p (x ∷ xs) ≡ count_by p (x ∷ []) + count_by p xs = sum_by-append (λ y. cond (p y) 1 0) (x ∷ []) xs in
    let one : count_by p (x ∷ []) ≡ cond (p x) 1 0 = omega arith in
    let no : cond (p x) 1 0 ≡ 0 = ap (λ (b : Bool). cond b 1 0) (All-head (λ y. p y ≡ false) x xs h) in
    let rest : count_by p xs ≡ 0 = count_none p xs (All-tail (λ y. p y ≡ false) x xs h) in
    let none : 0 + count_by p xs ≡ count_by p xs = omega arith in
    split ∙ (ap (λ (k : ℕ). k + count_by p xs) (one ∙ no) ∙ (none ∙ rest))

-- the node of a kind
there : (nodes : List Node) (n : ℕ) (k : Kind) → kind_of nodes n ≡ Some k → (m : Node) × (slice_get nodes n ≡ Some m) × (m.kind ≡ k)
there nodes n k h = go (slice_get nodes n) refl h where
  go : (o : Option Node) → slice_get nodes n ≡ o → option_map (λ (m : Node). m.kind) o ≡ Some k
      → (m : Node) × (slice_get nodes n ≡ Some m) × (m.kind ≡ k)
  go (Some m) e d = (m, e, same_Some m.kind k d)
  go None e d = absurd (none-some k d)

-- one node more
module _ (nodes : List Node) (node : Node) where
  at_left : (P : Node → PortState → Type 0) (port : PortId) (m : Node) → slice_get nodes port.node ≡ Some m → AtPort nodes port P
      → AtPort (nodes ++ node ∷ []) port P
  at_left P port m e h =
      let Q : Node → Type 0 = λ n. IfSome (slice_get n.ports port.port) (P n) in
      subst (λ (o : Option Node). IfSome o Q) (sym (left nodes node m port.node e)) (subst (λ (o : Option Node). IfSome o Q) e h)

  kind_left : (n : ℕ) (k : Kind) → kind_of nodes n ≡ Some k → kind_of (nodes ++ node ∷ []) n ≡ Some k
  kind_left n k h = let t = there nodes n k h in
      ap (option_map (λ (m : Node). m.kind)) (left nodes node t.0 n t.1) ∙ ap (λ (x : Kind). Some x) t.2

  wave_left : (w : WavIn) → IsWaveFor nodes w → IsWaveFor (nodes ++ node ∷ []) w
  wave_left w h = let t = there nodes w.node K.Source h.source in record {
    source = kind_left w.node K.Source h.source;
    rate = at_left _ (record { node = w.node; port = 0 }) t.0 t.1 h.rate;
    channels = at_left _ (record { node = w.node; port = 0 }) t.0 t.1 h.channels;
  }

  pub waves_plain : (waves : List WavIn) → (node.kind ≡ K.Source → ⊥) → HaveWaves nodes waves → HaveWaves (nodes ++ node ∷ []) waves
  waves_plain waves other h = record {
    each = All-weaker (IsWaveFor nodes) (IsWaveFor (nodes ++ node ∷ [])) wave_left waves h.each;
    one = λ n k. h.one n (old n (there (nodes ++ node ∷ []) n K.Source k));
  } where
    old : (n : ℕ) → ((m : Node) × (slice_get (nodes ++ node ∷ []) n ≡ Some m) × (m.kind ≡ K.Source)) → kind_of nodes n ≡ Some K.Source
    old n t = elim (parted nodes node t.0 n t.1) [
      | inl e ↦ ap (option_map (λ (m : Node). m.kind)) e ∙ ap (λ (x : Kind). Some x) t.2
      | inr w ↦ absurd (other (ap (λ (m : Node). m.kind) w.1 ∙ t.2))
    ]

  pub waves_source : (waves : List WavIn) (w : WavIn) → w.node ≡ length nodes → IsWaveFor (nodes ++ node ∷ []) w → HaveWaves nodes waves
      → HaveWaves (nodes ++ node ∷ []) (waves ++ w ∷ [])
  waves_source waves w place new h = record {
    each = All-push (IsWaveFor (nodes ++ node ∷ [])) waves w (All-weaker (IsWaveFor nodes) (IsWaveFor (nodes ++ node ∷ [])) wave_left waves h.each) new;
    one = λ n k. count n (there (nodes ++ node ∷ []) n K.Source k);
  } where
    before : (x : WavIn) → IsWaveFor nodes x → x.node < length nodes
    before x is = let t = there nodes x.node K.Source is.source in slice_get_within nodes x.node t.0 t.1

    count : (n : ℕ) → ((m : Node) × (slice_get (nodes ++ node ∷ []) n ≡ Some m) × (m.kind ≡ K.Source))
        → count_by (λ x. x.node == n) (waves ++ w ∷ []) ≡ 1
    count n t = elim (parted nodes node t.0 n t.1) [
      | inl e ↦
          let l = slice_get_within nodes n t.0 e in
          let other : (w.node == n) ≡ false = search (rules, place, l) in
          count_push (λ x. x.node == n) waves w ∙ (ap (λ b. count_by (λ x. x.node == n) waves + cond b 1 0) other
          ∙ (omega arith ∙ h.one n (ap (option_map (λ (m : Node). m.kind)) e ∙ ap (λ (x : Kind). Some x) t.2)))
      | inr e ↦
          let same : (w.node == n) ≡ true = search (rules, place, e.0) in
          count_push (λ x. x.node == n) waves w ∙ (ap (λ b. count_by (λ x. x.node == n) waves + cond b 1 0) same
          ∙ ap (λ k. k + 1) (count_none (λ x. x.node == n) waves (All-weaker (IsWaveFor nodes) (λ x. (x.node == n) ≡ false)
          (λ x is. let l = before x is in let at = e.0 in search (rules, l, at)) waves h.each)))
    ]

pub unused_new : (kind : Kind) (rate channels : ℕ) → All (λ s. (s.format ≡ None) × (s.buffers ≡ None)) (new_node kind rate channels).ports
unused_new kind rate channels = All-map (λ (s : PortState). (s.format ≡ None) × (s.buffers ≡ None)) (new_port kind rate channels) _
    (λ i d l. (refl, refl))

pub kinds_more : (nodes : List Node) (node : Node) → map (λ (n : Node). n.kind) (nodes ++ node ∷ []) ≡ map (λ (n : Node). n.kind) nodes ++ node.kind ∷ []
kinds_more nodes node = map-append (λ (n : Node). n.kind) nodes (node ∷ [])

-- a node that needs no file
pub not_source : (kind : Kind) → HasFileNumbers kind 0 0 → kind ≡ K.Source → ⊥
not_source kind h e = let f = subst (λ (k : Kind). HasFileNumbers k 0 0) e h in let low = f.0.0 in omega (arith, low)

-- the node of a wave
abbrev pub source_of : Wav → Node
source_of wav = new_node K.Source wav.rate wav.channels

pub wave_for : (nodes : List Node) (node : ℕ) (wav : Wav) → node ≡ length nodes
    → IsWaveFor (nodes ++ (source_of wav) ∷ []) (record { node = node; wav = wav })
wave_for nodes node wav place = record {
  source = ap (option_map (λ (m : Node). m.kind)) here;
  rate = at (λ (m : Node) s. value_at s.own.fields 65539 ≡ Some (int_of wav.rate)) refl;
  channels = at (λ (m : Node) s. value_at s.own.fields 65540 ≡ Some (int_of wav.channels)) refl;
} where
  here : slice_get (nodes ++ (source_of wav) ∷ []) node ≡ Some (source_of wav)
  here = ap (slice_get (nodes ++ (source_of wav) ∷ [])) place ∙ at_end nodes (source_of wav)

  at : (P : Node → PortState → Type 0) → P (source_of wav) (new_port K.Source wav.rate wav.channels 0)
      → AtPort (nodes ++ (source_of wav) ∷ []) (record { node = node; port = 0 }) P
  at P h = subst (λ (o : Option Node). IfSome o (λ (n : Node). IfSome (slice_get n.ports 0) (P n))) (sym here) h
