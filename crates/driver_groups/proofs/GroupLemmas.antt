-- Lists of runs, each beside its part.
use Rattle.std.proofs.Common.{◌≡◌, ℕ, zero, suc, ◌+◌, ◌<◌, ◌≤◌, Bool, true, ⊎_elim, List, [], ◌∷◌, ◌++◌, length, map, take, drop, get_or, refl, sym, ap, ◌∙◌, subst, arith, append-nil}
use Rattle.std.specs.Prelude.{All}
use Rattle.std.specs.List.{AllZip, range_with_len}
use Rattle.std.proofs.lemmas.List.{append_assoc, length-map, map-append, drop_more}
use Rattle.std.proofs.lemmas.Simd.{map-map}
use Rattle.pw_graph.specs.declared.shape.Shape.{Shape}
use Rattle.pw_graph.specs.declared.plan.Epoch.{Epoch}
use Rattle.pw_graph.specs.declared.plan.Plan.{Plan}
use Rattle.wav_files.specs.declared.wav.WavIn.{WavIn}
use Rattle.wav_files.specs.declared.outcome.Kept.{Kept}
use Rattle.wav_files.specs.declared.outcome.Outcome.{Outcome}
use Rattle.wav_files.specs.WavWriting.{IsWave}
use Rattle.cycle_model.specs.Rendering.{rendered_sinks, rendered_peaks}
use Rattle.cycle_model.proofs.KeptLemmas.{range_split}
use Rattle.board_rule.specs.declared.board_shape.BoardShape.{BoardShape}
use Rattle.board_rule.specs.declared.closed.Closed.{Closed}
use Rattle.crew_run.specs.Dealt.{AreDealt}
use Rattle.graph_run.specs.declared.alone.AloneRun.{AloneRun}
use Rattle.graph_run.specs.declared.ended.EndedRun.{EndedRun}
use Rattle.graph_run.specs.Assignment.{loop_of}
use Rattle.graph_run.specs.Seating.{epoch_board}
use Rattle.graph_run.specs.PlanRun.{IsRunOf}
use Rattle.graph_run.specs.RunStates.{CanRunAlone, HasRunAlone}
use Rattle.graph_run.proofs.RunStatesLemmas.{can_run, ended_of, boards_by}
use Rattle.pw_graph.specs.declared.parts.Part.{Part}
use Rattle.driver_groups.specs.declared.crew.PlacedRun.{PlacedRun}
use Rattle.driver_groups.specs.GroupRun.{IsPartRun, AreRunsOf}
use Rattle.driver_groups.specs.working.Crew.{runs_of, merged}
use Rattle.driver_groups.specs.working.Groups.{IsRunOfPart, IsEndedPart}

-- one more pair
pub zip_push : {A B : Type 0} (R : A → B → Type 0) (xs : List A) (ys : List B) (x : A) (y : B) → AllZip R xs ys → R x y
    → AllZip R (xs ++ x ∷ []) (ys ++ y ∷ [])
zip_push R [] [] x y t r = (r, tt)
zip_push R [] (b ∷ ys) x y t r = absurd t
zip_push R (a ∷ xs) [] x y t r = absurd t
zip_push R (a ∷ xs) (b ∷ ys) x y t r = (t.0, zip_push R xs ys x y t.1 r)

-- more pairs after
pub zip_append : {A B : Type 0} (R : A → B → Type 0) (xs : List A) (ys : List B) (vs : List A) (ws : List B) → AllZip R xs ys → AllZip R vs ws
    → AllZip R (xs ++ vs) (ys ++ ws)
zip_append R [] [] vs ws t u = u
zip_append R [] (b ∷ ys) vs ws t u = absurd t
zip_append R (a ∷ xs) [] vs ws t u = absurd t
zip_append R (a ∷ xs) (b ∷ ys) vs ws t u = (t.0, zip_append R xs ys vs ws t.1 u)

pub zip_long : {A B : Type 0} (R : A → B → Type 0) (xs : List A) (ys : List B) → AllZip R xs ys → length ys ≡ length xs
zip_long R [] [] t = refl
zip_long R [] (y ∷ ys) t = absurd t
zip_long R (x ∷ xs) [] t = absurd t
zip_long R (x ∷ xs) (y ∷ ys) t = ap suc (zip_long R xs ys t.1)

-- what holds of the second of each pair
pub zip_all : {A B : Type 0} (R : A → B → Type 0) (P : B → Type 0) → ((x : A) (y : B) → R x y → P y) → (xs : List A) (ys : List B)
    → AllZip R xs ys → All P ys
zip_all R P gives xs [] t k d low = absurd (omega (arith, low))
zip_all R P gives [] (y ∷ ys) t k d low = absurd t
zip_all R P gives (x ∷ xs) (y ∷ ys) t zero d low = gives x y t.0
zip_all R P gives (x ∷ xs) (y ∷ ys) t (suc k) d low = zip_all R P gives xs ys t.1 k d (omega (arith, low))

-- a run that is the part's is one that may run
pub part_can_run : (waves : List WavIn) (p : Part) (r : AloneRun) → IsRunOfPart waves p r → CanRunAlone r
part_can_run waves p r is = can_run p.plan waves r is

-- MERGED are the runs of all members, of those that were held and of those that came back
pub merged_zip : (ps : List PlacedRun) (kept : List Bool) (held : List PlacedRun) (waited backs : List EndedRun)
    → AreDealt (λ (p : PlacedRun) (e : EndedRun). HasRunAlone p.run e) ps kept held backs
    → AllZip (λ (p : PlacedRun) (e : EndedRun). HasRunAlone p.run e) held waited → AllZip HasRunAlone (runs_of ps) (merged kept waited backs)
merged_zip [] kept held waited backs all zip = subst (λ (k : List Bool). AllZip HasRunAlone [] (merged k waited backs)) (sym all.0) tt
merged_zip (p ∷ ps) kept held waited backs all zip = ⊎_elim
    (λ a. let z = subst (λ (l : List PlacedRun). AllZip (λ (x : PlacedRun) (e : EndedRun). HasRunAlone x.run e) l waited) a.3 zip in
    subst (λ (k : List Bool). AllZip HasRunAlone (runs_of (p ∷ ps)) (merged k waited backs)) (sym a.2)
    (first a.0 a.1 waited (λ es r. merged_zip ps a.0 a.1 es backs a.4 r) z))
    (λ a. subst (λ (x : List Bool × List EndedRun). AllZip HasRunAlone (runs_of (p ∷ ps)) (merged x.0 waited x.1))
    (λ i. (sym a.3 i, sym a.4 i)) (a.5, merged_zip ps a.0 held waited a.2 a.6 zip))
    all
  where
    first : (flags : List Bool) (rest : List PlacedRun) (w : List EndedRun)
        → ((es : List EndedRun) → AllZip (λ (x : PlacedRun) (e : EndedRun). HasRunAlone x.run e) rest es
        → AllZip HasRunAlone (runs_of ps) (merged flags es backs))
        → AllZip (λ (x : PlacedRun) (e : EndedRun). HasRunAlone x.run e) (p ∷ rest) w
        → AllZip HasRunAlone (runs_of (p ∷ ps)) (merged (true ∷ flags) w backs)
    first flags rest [] next z = absurd z
    first flags rest (e ∷ es) next z = (z.0, next es z.1)

-- as many flags as members
pub dealt_flags : (ps : List PlacedRun) (kept : List Bool) (held : List PlacedRun) (backs : List EndedRun)
    → AreDealt (λ (p : PlacedRun) (e : EndedRun). HasRunAlone p.run e) ps kept held backs → length kept ≡ length ps
dealt_flags [] kept held backs all = ap (λ (l : List Bool). length l) all.0
dealt_flags (p ∷ ps) kept held backs all = ⊎_elim
    (λ a. ap (λ (l : List Bool). length l) a.2 ∙ ap suc (dealt_flags ps a.0 a.1 backs a.4))
    (λ a. ap (λ (l : List Bool). length l) a.3 ∙ ap suc (dealt_flags ps a.0 held a.2 a.6))
    all

-- the ends of all runs are those of the parts
pub ended_parts : (waves : List WavIn) (ps : List Part) (rs : List AloneRun) (es : List EndedRun) → AllZip (IsRunOfPart waves) ps rs
    → AllZip HasRunAlone rs es → AllZip (λ p e. IsEndedPart waves p.plan e) ps es
ended_parts waves [] [] [] t u = tt
ended_parts waves [] [] (e ∷ es) t u = absurd u
ended_parts waves [] (r ∷ rs) es t u = absurd t
ended_parts waves (p ∷ ps) [] es t u = absurd t
ended_parts waves (p ∷ ps) (r ∷ rs) [] t u = absurd u
ended_parts waves (p ∷ ps) (r ∷ rs) (e ∷ es) t u = (
  record {
    ended = ended_of p.plan waves r t.0 e u.0;
    boards = boards_by p.plan waves r t.0 e u.0;
    quiet = u.0.quiet;
  },
  ended_parts waves ps rs es t.1 u.1,
)

-- one more place
pub place_more : (rs : List PlacedRun) (r : PlacedRun) (k : ℕ) → map (λ (x : PlacedRun). x.place) rs ≡ range_with_len 1 k → r.place ≡ k + 1
    → map (λ (x : PlacedRun). x.place) (rs ++ r ∷ []) ≡ range_with_len 1 (k + 1)
place_more rs r k are is = map-append (λ (x : PlacedRun). x.place) rs (r ∷ []) ∙ ap (λ (l : List ℕ). l ++ r.place ∷ []) are
    ∙ ap (λ n. range_with_len 1 k ++ n ∷ []) (is ∙ omega arith) ∙ sym (range_split 1 k 1)

-- runs without their places
pub unplaced : (waves : List WavIn) (ps : List Part) (rs : List PlacedRun) → AllZip (λ (p : Part) (r : PlacedRun). IsRunOfPart waves p r.run) ps rs
    → AllZip (IsRunOfPart waves) ps (runs_of rs)
unplaced waves [] [] t = tt
unplaced waves [] (r ∷ rs) t = absurd t
unplaced waves (p ∷ ps) [] t = absurd t
unplaced waves (p ∷ ps) (r ∷ rs) t = (t.0, unplaced waves ps rs t.1)

-- THE RUN of a part from that of its plan
pub part_run : (plan : Plan) (waves : List WavIn) (o : Outcome) (closed : List Closed) (checks : ℕ) → o.sinks ≡ rendered_sinks plan waves
    → o.peaks ≡ rendered_peaks plan waves → All (λ (k : Kept). IsWave k.wav) o.sinks → IsRunOf plan waves (loop_of plan 0) 0 o.history closed 0 checks
    → checks ≡ 0 → IsPartRun plan waves o closed
part_run plan waves o closed checks sinks peaks kept is none = record {
  sinks = sinks;
  peaks = peaks;
  waves_are = kept;
  shapes = sym (map-map (λ (x : BoardShape). x.shape) (λ (x : Closed). x.board_shape) closed)
      ∙ (ap (map (λ (x : BoardShape). x.shape)) is.boards ∙ map-map (λ (x : BoardShape). x.shape) (epoch_board (loop_of plan 0) 0) plan.epochs);
  tables = is.tables;
  events = is.events;
  legal = is.legal;
  quiet = (let most = is.most in omega (arith, most, none));
}

-- as many closed boards as epochs
pub closed_count : (plan : Plan) (waves : List WavIn) (o : Outcome) (closed : List Closed) → IsPartRun plan waves o closed
    → length closed ≡ length plan.epochs
closed_count plan waves o closed is = sym (length-map closed (λ (x : Closed). x.board_shape.shape))
    ∙ (ap (λ (l : List Shape). length l) is.shapes ∙ length-map plan.epochs (λ (e : Epoch). e.shape))

-- the runs so far, one more
pub runs_more : (waves : List WavIn) (ps : List Part) (os : List Outcome) (closed : List Closed) (p : Part) (o : Outcome) (own : List Closed)
    → AreRunsOf waves ps os closed → IsPartRun p.plan waves o own → AreRunsOf waves (ps ++ p ∷ []) (os ++ o ∷ []) (closed ++ own)
runs_more waves [] [] closed p o own t is = (own, [], ap (λ (l : List Closed). l ++ own) t ∙ sym (append-nil own), is, refl)
runs_more waves [] (u ∷ os) closed p o own t is = absurd t
runs_more waves (q ∷ ps) [] closed p o own t is = absurd t
runs_more waves (q ∷ ps) (u ∷ os) closed p o own t is = (
  t.0,
  t.1 ++ own,
  ap (λ (l : List Closed). l ++ own) t.2 ∙ append_assoc t.0 t.1 own,
  t.3,
  runs_more waves ps os t.1 p o own t.4 is,
)

-- of lists beside each other the first is as long as the second, so nothing is left of it
pub all_taken : {A : Type 0} (xs : List A) (k : ℕ) → drop k xs ≡ [] → k ≤ length xs → take k xs ≡ xs
all_taken xs zero none low = sym none
all_taken [] (suc k) none low = refl
all_taken (x ∷ xs) (suc k) none low = ap (λ l. x ∷ l) (all_taken xs k none (omega (arith, low)))

-- the next part with its run
pub next_low : {A B : Type 0} (R : A → B → Type 0) (xs : List A) (k : ℕ) (y : B) (ys : List B) → AllZip R (drop k xs) (y ∷ ys) → k < length xs
next_low R [] zero y ys t = absurd t
next_low R [] (suc k) y ys t = absurd t
next_low R (x ∷ xs) zero y ys t = omega arith
next_low R (x ∷ xs) (suc k) y ys t = let low = next_low R xs k y ys t in omega (arith, low)

pub next_zip : {A B : Type 0} (R : A → B → Type 0) (xs : List A) (k : ℕ) (d : A) (y : B) (ys : List B) → AllZip R (drop k xs) (y ∷ ys)
    → R (get_or xs k d) y × AllZip R (drop (k + 1) xs) ys
next_zip R xs k d y ys t = subst (λ l. AllZip R l (y ∷ ys)) (drop_more xs k d (next_low R xs k y ys t)) t

pub none_left : {A B : Type 0} (R : A → B → Type 0) (xs : List A) (k : ℕ) → AllZip R (drop k xs) [] → drop k xs ≡ []
none_left R xs k t = go (drop k xs) t where
  go : (l : List _) → AllZip R l [] → l ≡ []
  go [] t = refl
  go (x ∷ l) t = absurd t
