-- A run of a plan from its parts: boards, drivers' seats before and after it, and the closed boards.
use Rattle.std.proofs.Common.{◌≡◌, ℕ, suc, cond, Bool, ◌+◌, ◌<◌, ◌≤◌, List, [], ◌∷◌, length, map, get_or, refl, sym, ap, ◌∙◌, subst, arith, Some, slice_get}
use Rattle.std.specs.List.{AllZip, enumerate_from, range_with_len}
use Rattle.std.proofs.lemmas.Bool.{ne_eqb}
use Rattle.std.proofs.lemmas.Simd.{map-map}
use Rattle.std.proofs.lemmas.List.{ext_get_or, get_or-map, length-map}
use Rattle.std.proofs.lemmas.List.FromFn.{length-range_with_len, get_or-range_with_len, length-enumerate_from}
use Rattle.std.proofs.lemmas.List.Sums.{sum_by-cons}
use Rattle.std.proofs.lemmas.Option.{slice_get_within, get_or_from_slice_get}
use Rattle.pw_graph.specs.declared.shape.Shape.{Shape}
use Rattle.pw_graph.specs.declared.plan.Epoch.{Epoch}
use Rattle.pw_graph.specs.declared.plan.Plan.{Plan}
use Rattle.wav_files.specs.declared.wav.WavIn.{WavIn}
use Rattle.cycle_model.specs.Expected.{expected_samples}
use Rattle.board_rule.specs.declared.board.Board.{Board}
use Rattle.board_rule.specs.declared.board_shape.BoardShape.{BoardShape}
use Rattle.board_rule.specs.Known.{Known}
use Rattle.data_loop.specs.declared.loop_state.LoopState.{LoopState}
use Rattle.graph_run.specs.declared.preparing.Prepared.{Prepared}
use Rattle.pw_lists.specs.Listed.{Listed}
use Rattle.graph_run.specs.Seating.{epoch_board}
use Rattle.graph_run.specs.Boards.{driver_of}
use Rattle.graph_run.specs.Closing.{HasEnded}
use Rattle.graph_run.specs.Leads.{HaveLed, checks_of}
use Rattle.graph_run.specs.working.Crew.{CanLead}
use Rattle.graph_run.specs.Outcomes.{AreDone}
use Rattle.graph_run.specs.working.Prepared.{IsPrepared}
use Rattle.graph_run.proofs.EpochLemmas.{there}
use Rattle.graph_run.proofs.ReadyLemmas.{driver_at}

-- two lists place by place
zip_from : {A B : Type 0} (R : A → B → Type 0) (xs : List A) (ys : List B) → length ys ≡ length xs
    → ((i : ℕ) (x : A) (y : B) → slice_get xs i ≡ Some x → slice_get ys i ≡ Some y → R x y) → AllZip R xs ys
zip_from R [] [] same each = tt
zip_from R [] (y ∷ ys) same each = absurd (omega (arith, same))
zip_from R (x ∷ xs) [] same each = absurd (omega (arith, same))
zip_from R (x ∷ xs) (y ∷ ys) same each = (
  each 0 x y refl refl,
  zip_from R xs ys (omega (arith, same)) (λ i a b here there. each (suc i) a b here there),
)

-- the boards of a seating have the shapes of the epochs
pub shapes_are : (plan : Plan) (f : ℕ → ℕ) (loops : ℕ) (boards : List Board)
    → map (λ (b : Board). b.board_shape) boards ≡ map (epoch_board f loops) plan.epochs
    → map (λ (b : Board). b.board_shape.shape) boards ≡ map (λ (e : Epoch). e.shape) plan.epochs
shapes_are plan f loops boards by = sym (map-map (λ (x : BoardShape). x.shape) (λ (b : Board). b.board_shape) boards)
    ∙ (ap (map (λ (x : BoardShape). x.shape)) by
    ∙ map-map (λ (x : BoardShape). x.shape) (epoch_board f loops) plan.epochs)

module _ (plan : Plan) (waves : List WavIn) (loops : ℕ) where
  -- what a driver's seat knows as its board gave it
  driver_expects : (k : ℕ) (b : Board) → (driver_of plan waves loops (k, b)).knows.expect ≡ expected_samples plan waves k
  driver_expects k b = ap (λ (z : Bool). cond z [] (expected_samples plan waves k)) (ne_eqb (loops + 1) 0 (λ (is : loops + 1 ≡ 0). omega (arith, is)))

  none_checked : (bs : List (ℕ × Board)) → checks_of (map (driver_of plan waves loops) bs) ≡ 0
  none_checked [] = refl
  none_checked (b ∷ bs) =
      let first = sum_by-cons (λ (s : Known). s.knows.lead.checks) (driver_of plan waves loops b) (map (driver_of plan waves loops) bs) in
      let others = none_checked bs in omega (arith, first, others)

  pub no_checks : (boards : List Board) (old : List Known) → old ≡ map (driver_of plan waves loops) (enumerate_from 0 boards) → checks_of old ≡ 0
  no_checks boards old are = ap checks_of are ∙ none_checked (enumerate_from 0 boards)

  module _ (boards : List Board) (shapes : map (λ (b : Board). b.board_shape.shape) boards ≡ map (λ (e : Epoch). e.shape) plan.epochs) where
    -- there is a board an epoch
    pub board_count : length boards ≡ length plan.epochs
    board_count = sym (length-map boards (λ (b : Board). b.board_shape.shape)) ∙ (ap (λ (l : List Shape). length l) shapes
        ∙ length-map plan.epochs (λ (e : Epoch). e.shape))

    module _ (old new : List Known) (are : old ≡ map (driver_of plan waves loops) (enumerate_from 0 boards))
        (led : HaveLed (length boards) boards old new) where
      driver_count : length new ≡ length boards
      driver_count = led.count ∙ (ap (λ (l : List Known). length l) are
          ∙ (length-map (enumerate_from 0 boards) (driver_of plan waves loops) ∙ length-enumerate_from 0 boards))

      was : (k : ℕ) (b : Board) (d : Known) → slice_get boards k ≡ Some b → get_or old k d ≡ driver_of plan waves loops (k, b)
      was k b d here = ap (λ (l : List Known). get_or l k d) are ∙ driver_at plan waves loops boards k b d here

      -- the drivers' seats have ended their boards
      pub have_ended : AllZip HasEnded boards new
      have_ended = zip_from HasEnded boards new driver_count (λ k b s here now.
          let h = led.each k b s (slice_get_within boards k b here) here in
          subst (HasEnded b) (get_or_from_slice_get new k s s now)
          (h.table ∙ ap (λ (x : Known). x.table) (was k b s here), h.ended))

      expect_at : (k : ℕ) → k < length new → get_or (map (λ (s : Known). s.knows.expect) new) k [] ≡ expected_samples plan waves k
      expect_at k low = let n = driver_count in let inside : k < length boards = omega (arith, low, n) in
          let b : Board = (there boards k inside).0 in let here = (there boards k inside).1 in
          let d : Known = (there new k low).0 in
          get_or-map (λ (s : Known). s.knows.expect) new k d [] low
          ∙ ((led.each k b d inside here).expect ∙ (ap (λ (s : Known). s.knows.expect) (was k b d here)
          ∙ driver_expects k b))

      pub expects : map (λ (s : Known). s.knows.expect) new ≡ map (expected_samples plan waves) (range_with_len 0 (length plan.epochs))
      expects = let n = driver_count in let m = board_count in
          let a = length-map new (λ (s : Known). s.knows.expect) in
          let r = length-range_with_len 0 (length plan.epochs) in
          let b = length-map (range_with_len 0 (length plan.epochs)) (expected_samples plan waves) in
          ext_get_or [] (map (λ (s : Known). s.knows.expect) new) (map (expected_samples plan waves) (range_with_len 0 (length plan.epochs)))
          (omega (arith, n, m, a, b, r)) (λ k low.
          let inside : k < length new = omega (arith, low, a) in let within : k < length plan.epochs = omega (arith, inside, n, m) in
          expect_at k inside
          ∙ (ap (expected_samples plan waves) (sym (get_or-range_with_len 0 (length plan.epochs) k 0 within ∙ zero_plus k))
          ∙ sym (get_or-map (expected_samples plan waves) (range_with_len 0 (length plan.epochs)) k 0 [] (omega (arith, within, r)))))
        where
          zero_plus : (k : ℕ) → 0 + k ≡ k
          zero_plus k = omega arith

-- what the threads begin with, and all loops in the end, from what was prepared
module _ (plan : Plan) (waves : List WavIn) (loops : ℕ) (p : Prepared) (is : IsPrepared plan waves loops p) where
  pub can_lead : (adopted done : Listed LoopState) → adopted.list ≡ [] → done.list ≡ [] → loops ≤ adopted.spare → loops < done.spare
      → CanLead p.shared (record { driving = p.driving; adopted = adopted; done = done }) p.loops
  can_lead adopted done none bare room more = let count = is.count in record {
    can_start = is.can_start;
    can_drive = is.can_drive;
    nodes = λ n low. is.nodes n (subst (λ (x : Plan). n < length x.nodes) is.plan_is low);
    bare = (none, bare);
    adopted = omega (arith, room, count);
    done = omega (arith, more, count);
  }

  pub done_of : (done : List LoopState) → AreDone p.shared.run_model.plan.value p.shared.run_model.waves.value done → AreDone plan waves done
  done_of done h = subst (λ (x : Plan × List WavIn). AreDone x.0 x.1 done) (λ j. (is.plan_is j, is.waves_are j)) h
