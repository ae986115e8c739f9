-- A sink's whole stream in a plan of sources and sinks: the mixed row of the one epoch's links, or nothing without an epoch.
use Rattle.std.proofs.Common.{◌≡◌, ℕ, ◌+◌, ◌-◌, ◌*◌, ◌<◌, ◌≤◌, true, false, cond, ◌==◌, List, [], ◌∷◌, map, length}
use Rattle.std.proofs.Common.{get_or, filter, fold, pos, ◌+ℤ◌, All, Some, None, slice_get, option_map, unwrap_or, sum_by, refl, ap, sym}
use Rattle.std.proofs.Common.{◌∙◌, subst, arith, ⊎_elim}
use Rattle.std.specs.List.{range_with_len}
use Rattle.std.proofs.Math.Path.{fun_ext}
use Rattle.std.proofs.lemmas.List.Elements.{All-head}
use Rattle.std.proofs.lemmas.List.Folds.{find_at, fold-map}
use Rattle.std.proofs.lemmas.Bool.{cond-true, cond-false, eq-eqb, ne_eqb, cases_eq, cases_Bool}
use Rattle.pw_graph.specs.declared.ids.PortId.{PortId}
use Rattle.pw_graph.specs.declared.shape.ShapeLink.{ShapeLink}
use Rattle.pw_graph.specs.declared.plan.Epoch.{Epoch}
use Rattle.pw_graph.specs.declared.plan.Plan.{Plan}
use Rattle.pw_lists.specs.Samples.{clamped}
use Rattle.wav_files.specs.declared.wav.WavIn.{WavIn}
use Rattle.pw_graph.specs.Pools.{is_same_port}
use Rattle.cycle_model.specs.Epochs.{channels_of, all_cycles}
use Rattle.cycle_model.specs.Cycle.{stream_of, outputs}
use Rattle.cycle_model.specs.Rendering.{end_stream}
use Rattle.cycle_model.specs.Mixing.{place_of, sample_at_place, sum_at, mixed_row, takes_part, epoch_row, IsPlainMix}
use Rattle.cycle_model.specs.Renderable.{FollowFrom, IsRenderableEpoch, IsRenderable}
use Rattle.cycle_model.proofs.SingleEpochLemmas.{IsSingle, wave_at, mixed_at, stream_row, no_stream}

-- a sample by the wave's node and by the wave's place
sample_is : (waves : List WavIn) (j node : ℕ) → wave_at waves j node ≡ sample_at_place waves j (place_of waves node)
sample_is waves j node = ap (λ o. get_or (unwrap_or (option_map (λ w. w.wav.samples) o) []) j (pos 0)) (find_at (λ w. w.node == node) waves)

mixed_is : (waves : List WavIn) (links : List ShapeLink) (j : ℕ)
    → mixed_at waves links j ≡ clamped (sum_at waves (map (λ l. place_of waves l.from.node) links) j)
mixed_is waves links j =
    let same : (λ (l : ShapeLink). wave_at waves j l.from.node)
    ≡ (λ (l : ShapeLink). sample_at_place waves j (place_of waves l.from.node)) = fun_ext (λ l. sample_is waves j l.from.node) in
    ap (λ at. clamped (fold (λ s l. s +ℤ at l) (pos 0) links)) same
    ∙ ap clamped (sym (fold-map (λ s place. s +ℤ sample_at_place waves j place) (λ l. place_of waves l.from.node) (pos 0) links))

row_is : (waves : List WavIn) (links : List ShapeLink) (n : ℕ)
    → map (mixed_at waves links) (range_with_len 0 n) ≡ mixed_row waves (map (λ l. place_of waves l.from.node) links) n
row_is waves links n =
    let same : mixed_at waves links ≡ (λ j. clamped (sum_at waves (map (λ l. place_of waves l.from.node) links) j)) =
    fun_ext (λ j. mixed_is waves links j) in
    ap (λ f. map f (range_with_len 0 n)) same

single : (plan : Plan) (waves : List WavIn) (e : Epoch) → IsRenderable plan waves → IsPlainMix plan → plan.epochs ≡ e ∷ [] → IsSingle plan e
single plan waves e r c one =
    let numbered : FollowFrom 0 (e ∷ []) = subst (λ es. FollowFrom 0 es) one r.numbered in
    let all : All (IsRenderableEpoch plan) (e ∷ []) = subst (λ es. All (IsRenderableEpoch plan) es) one r.epochs in
    let here : IsRenderableEpoch plan e = All-head (IsRenderableEpoch plan) e [] all in
    let prompt : All (λ e. All (λ l. l.delayed ≡ false) e.shape.links) (e ∷ []) =
    subst (λ es. All (λ e. All (λ l. l.delayed ≡ false) e.shape.links) es) one c.prompt in
    record {
      one = one;
      first = numbered.0;
      quantum = here.quantum;
      links = here.links;
      prompt = All-head (λ e. All (λ l. l.delayed ≡ false) e.shape.links) e [] prompt;
      kinds = c.kinds;
    }

cycles_are : (plan : Plan) (e : Epoch) → plan.epochs ≡ e ∷ [] → all_cycles plan ≡ e.shape.cycles
cycles_are plan e one = ap (λ es. sum_by (λ e. e.shape.cycles) es) one ∙ omega arith

-- the row of an epoch, by whether the port's node takes part
row_with : (e : Epoch) (waves : List WavIn) (port : PortId) → takes_part e port.node ≡ true
    → epoch_row e waves port ≡ map (mixed_at waves (filter (λ l. is_same_port l.to port) e.shape.links))
    (range_with_len 0 (e.shape.cycles * (e.shape.quantum * channels_of e.forms port)))
row_with e waves port t = rw t (sym (row_is waves (filter (λ l. is_same_port l.to port) e.shape.links)
    (e.shape.cycles * (e.shape.quantum * channels_of e.forms port))))

row_without : (e : Epoch) (waves : List WavIn) (port : PortId) → takes_part e port.node ≡ false → epoch_row e waves port ≡ []
row_without e waves port t = rw t refl

no_cycles : (e : Epoch) (waves : List WavIn) (port : PortId) → e.shape.cycles ≡ 0 → epoch_row e waves port ≡ []
no_cycles e waves port z = ⊎_elim
    (λ t. let n : e.shape.cycles * (e.shape.quantum * channels_of e.forms port) ≡ 0 =
    ap (λ k. k * (e.shape.quantum * channels_of e.forms port)) z ∙ omega arith in
    row_with e waves port t ∙ ap (λ k. map (mixed_at waves (filter (λ l. is_same_port l.to port) e.shape.links)) (range_with_len 0 k)) n)
    (λ f. row_without e waves port f)
    (cases_Bool (takes_part e port.node))

some_cycles : (plan : Plan) (e : Epoch) → IsSingle plan e → (waves : List WavIn) (c : ℕ) (port : PortId) → c + 1 ≡ e.shape.cycles
    → stream_of plan (outputs plan waves) c port ≡ epoch_row e waves port
some_cycles plan e s waves c port h =
    let lt : c < e.shape.cycles = omega arith in
    ⊎_elim
    (λ t. stream_row plan e s waves c port lt t
    ∙ ap (λ n. map (mixed_at waves (filter (λ l. is_same_port l.to port) e.shape.links))
    (range_with_len 0 (n * (plan.quantum * channels_of e.forms port)))) h
    ∙ ap (λ q. map (mixed_at waves (filter (λ l. is_same_port l.to port) e.shape.links))
    (range_with_len 0 (e.shape.cycles * (q * channels_of e.forms port)))) (sym s.quantum)
    ∙ sym (row_with e waves port t))
    (λ f. no_stream plan e s waves c port lt f ∙ sym (row_without e waves port f))
    (cases_Bool (takes_part e port.node))

end_at : (plan : Plan) (waves : List WavIn) (node n : ℕ) → all_cycles plan ≡ n
    → end_stream plan waves node ≡ cond (n == 0) [] (stream_of plan (outputs plan waves) (n - 1) (record { node = node; port = 0 }))
end_at plan waves node n h = ap (λ m. cond (m == 0) [] (stream_of plan (outputs plan waves) (m - 1) (record { node = node; port = 0 }))) h

pub end_single : (plan : Plan) (waves : List WavIn) (node : ℕ) (e : Epoch) → IsRenderable plan waves → IsPlainMix plan
    → plan.epochs ≡ e ∷ []
    → end_stream plan waves node ≡ epoch_row e waves (record { node = node; port = 0 })
end_single plan waves node e r c one =
    let n = e.shape.cycles in
    let port : PortId = record { node = node; port = 0 } in
    let s : IsSingle plan e = single plan waves e r c one in
    end_at plan waves node n (cycles_are plan e one)
    ∙ ⊎_elim
    (λ (z : n ≡ 0). cond-true (n == 0) [] (stream_of plan (outputs plan waves) (n - 1) port) (eq-eqb n 0 z)
    ∙ sym (no_cycles e waves port z))
    (λ (nz : n ≡ 0 → ⊥). let h : (n - 1) + 1 ≡ n = omega arith in
    cond-false (n == 0) [] (stream_of plan (outputs plan waves) (n - 1) port) (ne_eqb n 0 nz) ∙ some_cycles plan e s waves (n - 1) port h)
    (cases_eq n 0)

pub end_none : (plan : Plan) (waves : List WavIn) (node : ℕ) → plan.epochs ≡ [] → end_stream plan waves node ≡ []
end_none plan waves node none = end_at plan waves node 0 (ap (λ es. sum_by (λ e. e.shape.cycles) es) none)

-- the one epoch, if there is one
pub only_epoch : (es : List Epoch) (e : Epoch) → length es ≤ 1 → slice_get es 0 ≡ Some e → es ≡ e ∷ []
only_epoch [] e h g = absurd (cc)
only_epoch (x ∷ []) e h g = let same : x ≡ e = cc in ap (λ y. y ∷ []) same
only_epoch (x ∷ y ∷ es) e h g = absurd (omega arith)

pub no_epoch : (es : List Epoch) → slice_get es 0 ≡ None → es ≡ []
no_epoch [] g = refl
no_epoch (x ∷ es) g = absurd (cc)
