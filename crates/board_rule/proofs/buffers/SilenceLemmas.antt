-- Silence is a table of samples.
use Rattle.std.proofs.Common.{◌≡◌, ℕ, suc, ◌+◌, ◌-◌, ◌*◌, ◌<◌, List, [], ℤ, pos, neg_ℤ, ◌≤ℤ◌, All, length, map, replicate}
use Rattle.std.proofs.Common.{get_or, sym, ap, ◌∙◌, subst, arith}
use mathlib.Core.Logic.{dite}
use native.Mathlib.Decide.{dec_le}
use Rattle.std.proofs.lemmas.Option.{slice_get_within, get_or_from_slice_get}
use Rattle.std.proofs.lemmas.List.{get_or-map, get_or-replicate, get_or_past, length-map, length-replicate}
use Rattle.std.proofs.lemmas.List.Elements.{All-replicate}
use Rattle.pw_graph.specs.declared.pools.PoolShape.{PoolShape}
use Rattle.pw_graph.specs.Pools.{pools_of}
use Rattle.board_rule.specs.Layout.{BoardLayout, first}
use Rattle.board_rule.specs.buffers.SampleWords.{IsTable, silence}

abbrev is_sample : ℤ → Type 0
is_sample s = (neg_ℤ (pos 32768) ≤ℤ s) × (s ≤ℤ pos 32767)

none : All is_sample []
none = λ k d lt. absurd (omega arith)

module _ (p : BoardLayout) where
  abbrev quiet : PoolShape → List ℤ
  quiet x = replicate (p.shape.quantum * x.channels) (pos 0)

  abbrev row : List (List ℤ)
  row = map quiet (pools_of p.shape)

  in_row : (q : ℕ) (x : PoolShape) → q < length (pools_of p.shape) → get_or row q [] ≡ quiet (get_or (pools_of p.shape) q x)
  in_row q x lt = get_or-map quiet (pools_of p.shape) q x [] lt

  quiet_row : (q : ℕ) → All is_sample (get_or row q [])
  quiet_row q = dite (dec_le (suc q) (length (pools_of p.shape)))
      (λ lt. let x : PoolShape = record { port = record { node = 0; port = 0 }; channels = 0; blocks = 0; words = 0; links = [] } in
      subst (All is_sample) (sym (in_row q x lt)) (All-replicate is_sample (p.shape.quantum * (get_or (pools_of p.shape) q x).channels)
      (pos 0) (record { le = tt }, record { le = tt })))
      (λ o. let long = length-map (pools_of p.shape) quiet in subst (All is_sample) (sym (get_or_past row q [] (omega arith))) none)

  pub silence_is_table : IsTable p (silence p.shape)
  silence_is_table = record {
    long = λ c q x low at. let i : first p + c - first p ≡ c = omega arith in let lt = slice_get_within (pools_of p.shape) q x at in
        ap (λ k. length (get_or (get_or (silence p.shape) k []) q [])) i
        ∙ ap (λ (l : List (List ℤ)). length (get_or l q [])) (get_or-replicate p.shape.cycles c row [] low)
        ∙ ap (λ (l : List ℤ). length l) (in_row q x lt)
        ∙ length-replicate (p.shape.quantum * (get_or (pools_of p.shape) q x).channels) (pos 0)
        ∙ ap (λ (z : PoolShape). p.shape.quantum * z.channels) (get_or_from_slice_get (pools_of p.shape) q x x at);
    fits = λ c q. dite (dec_le (suc (c - first p)) p.shape.cycles)
        (λ lt. subst (λ (l : List (List ℤ)). All is_sample (get_or l q [])) (sym (get_or-replicate p.shape.cycles (c - first p) row [] lt))
        (quiet_row q))
        (λ o. let long = length-replicate p.shape.cycles row in
        subst (λ (l : List (List ℤ)). All is_sample (get_or l q []))
        (sym (get_or_past (silence p.shape) (c - first p) [] (omega arith)))
        (subst (All is_sample) (sym (get_or_past {X = List ℤ} [] q [] (omega arith))) none));
  }
