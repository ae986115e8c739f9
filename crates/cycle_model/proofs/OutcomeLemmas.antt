-- What is kept of all nodes, and the peaks: one node more, and by what the nodes have received.
use Rattle.std.proofs.Common.{◌≡◌, ℕ, zero, suc, ◌+◌, ◌-◌, ◌<◌, ◌==◌, ◌&&◌, true, false, nat_lt, cond, List, [], ◌∷◌}
use Rattle.std.proofs.Common.{◌++◌, length, take, get_or, filter_map, Option, Some, None, option_to_list, refl, ap, sym, ◌∙◌, arith, ⊎_elim}
use Rattle.std.specs.List.{enumerate_from, cons_option}
use Rattle.std.proofs.lemmas.List.{take_more}
use Rattle.std.proofs.lemmas.List.Elements.{filter_map-append}
use Rattle.std.proofs.lemmas.List.FromFn.{length-enumerate_from, get_or-enumerate_from}
use Rattle.std.proofs.lemmas.Bool.{cases_Bool, false≢true, cond-false, ne_eqb}
use Rattle.pw_graph.specs.declared.ids.PortId.{PortId}
use Rattle.pw_graph.specs.declared.kind.Kind.{Kind}
use Rattle.pw_graph.specs.declared.kind.Kind.TheVariants.{Sink, Meter}
use Rattle.pw_graph.specs.declared.plan.Plan.{Plan}
use Rattle.pw_graph.specs.declared.plan.PlanNode.{PlanNode}
use Rattle.pw_lists.specs.Samples.{peak_of}
use Rattle.pw_graph.specs.KindPorts.{input_count}
use Rattle.pw_graph.specs.PlanSums.{is_sink}
use Rattle.pw_graph.specs.PlanForms.{kind_at}
use Rattle.wav_files.specs.declared.wav.WavIn.{WavIn}
use Rattle.wav_files.specs.declared.outcome.Kept.{Kept}
use Rattle.wav_files.specs.declared.outcome.Peak.{Peak}
use Rattle.cycle_model.specs.declared.received.Received.{Received}
use Rattle.cycle_model.specs.Epochs.{all_cycles}
use Rattle.cycle_model.specs.Cycle.{Outputs, stream_of, outputs}
use Rattle.cycle_model.specs.Rendering.{is_meter, end_stream, kept_of, peak_at}
use Rattle.cycle_model.specs.working.Known.{kept_by, peak_by}
use Rattle.cycle_model.specs.Progress.{streamed, received_until, nothing, AreReceived}
use Rattle.cycle_model.proofs.CycleLemmas.{kind_there}

one_kept : {Y : Type 0} (o : Option Y) → cons_option o [] ≡ option_to_list o
one_kept None = refl
one_kept (Some y) = refl

pub kept_more : {X Y : Type 0} (h : ℕ × X → Option Y) (xs : List X) (i : ℕ) (x : X) → i < length xs → x ≡ get_or xs i x
    → filter_map h (take (i + 1) (enumerate_from 0 xs)) ≡ filter_map h (take i (enumerate_from 0 xs)) ++ option_to_list (h (i, x))
kept_more {X} h xs i x lt read =
    let all : List (ℕ × X) = enumerate_from 0 xs in
    let n : i < length all = omega (arith, length-enumerate_from 0 xs) in
    let z : 0 + i ≡ i = omega arith in
    let here : get_or all i (0, x) ≡ (i, x) = get_or-enumerate_from 0 xs i (0, x) lt ∙ ap (λ k. (k, get_or xs i x)) z
    ∙ ap (λ y. (i, y)) (sym read) in
    ap (filter_map h) (take_more all i (0, x) n ∙ ap (λ p. take i all ++ p ∷ []) here)
    ∙ filter_map-append h (take i all) ((i, x) ∷ [])
    ∙ ap (λ t. filter_map h (take i all) ++ t) (one_kept (h (i, x)))

-- the stream up to the last cycle is the one after all cycles
end_of : (plan : Plan) (out : Outputs) (port : PortId) (n : ℕ)
    → cond (n == 0) [] (stream_of plan out (n - 1) port) ≡ streamed plan out n port
end_of plan out port zero = refl
end_of plan out port (suc n) =
    let less : suc n - 1 ≡ n = omega arith in
    cond-false (suc n == 0) [] (stream_of plan out (suc n - 1) port) (ne_eqb (suc n) 0 (λ e. omega (arith, e)))
    ∙ ap (λ c. stream_of plan out c port) less

-- sinks and meters have an input
sink_hears : (k : Kind) → is_sink k ≡ true → nat_lt 0 (input_count k) ≡ true
sink_hears Sink h = refl
sink_hears _ h = absurd (false≢true h)

meter_hears : (k : Kind) → is_meter k ≡ true → nat_lt 0 (input_count k) ≡ true
meter_hears Meter h = refl
meter_hears _ h = absurd (false≢true h)

module _ (plan : Plan) (waves : List WavIn) (received : List Received)
    (h : AreReceived (length plan.nodes) (received_until plan (outputs plan waves) (all_cycles plan)) received)
    (i : ℕ) (node : PlanNode) (lt : i < length plan.nodes) (read : node ≡ get_or plan.nodes i node) where
  kind : kind_at plan i ≡ node.kind
  kind = kind_there plan.nodes i node lt ∙ ap (λ n. n.kind) (sym read)

  row : nat_lt 0 (input_count node.kind) ≡ true → (get_or received i nothing).a ≡ end_stream plan waves i
  row hears =
      let some : nat_lt 0 (input_count (kind_at plan i)) ≡ true = ap (λ k. nat_lt 0 (input_count k)) kind ∙ hears in
      let port : PortId = record { node = i; port = 0 } in
      ap (λ r. r.a) (h.each i lt)
      ∙ ap (λ b. cond b (streamed plan (outputs plan waves) (all_cycles plan) port) []) some
      ∙ sym (end_of plan (outputs plan waves) port (all_cycles plan))

  pub kept_is : kept_by i node (get_or received i nothing) ≡ kept_of plan waves (i, node)
  kept_is = ⊎_elim
      (λ (t : is_sink node.kind ≡ true). ap (λ s. cond (is_sink node.kind && nat_lt 0 node.rate)
      (Some (let k : Kept = record { node = i; wav = record { rate = node.rate; channels = node.channels; samples = s } } in k)) None)
      (row (sink_hears node.kind t)))
      (λ (f : is_sink node.kind ≡ false). rw f refl)
      (cases_Bool (is_sink node.kind))

  pub peak_is : peak_by i node (get_or received i nothing) ≡ peak_at plan waves (i, node)
  peak_is = ⊎_elim
      (λ (t : is_meter node.kind ≡ true). ap (λ s. cond (is_meter node.kind && nat_lt 0 node.rate)
      (Some (let p : Peak = record { node = i; value = peak_of s } in p)) None) (row (meter_hears node.kind t)))
      (λ (f : is_meter node.kind ≡ false). rw f refl)
      (cases_Bool (is_meter node.kind))
