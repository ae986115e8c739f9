-- What is opened by the list of a function is opened by the function.
use Rattle.std.proofs.Common.{◌≡◌, ℕ, List, [], ◌∷◌, ◌++◌, map, ap, ◌∙◌, subst}
use Rattle.std.specs.List.{enumerate_from}
use Rattle.pw_graph.specs.declared.plan.Plan.{Plan}
use Rattle.pw_graph.specs.SoundPlan.{IsSoundPlan}
use Rattle.wav_files.specs.declared.wav.WavIn.{WavIn}
use Rattle.graph_run.specs.declared.opening.OpenedRun.{OpenedRun}
use Rattle.graph_run.specs.declared.seating.Seating.{Seating}
use Rattle.graph_run.specs.Boards.{driver_of}
use Rattle.graph_run.specs.LoopsOnPlan.{AreReady}
use Rattle.graph_run.specs.OpenedRun.{IsOpenedBy, IsOpenedRun}
use Rattle.graph_run.specs.Seating.{IsSeating, seated_by}
use Rattle.graph_run.proofs.SeatingLemmas.{loops_are, same_boards, same_loops}

pub opened_by : (f : ℕ → ℕ) (plan : Plan) (loops : ℕ) (s : Seating) → s ≡ seated_by f plan loops → IsSoundPlan plan → IsSeating plan f loops
    → (waves : List WavIn) (o : OpenedRun) → IsOpenedRun plan waves s o → IsOpenedBy plan waves f loops o
opened_by f plan loops s is sound seating waves o opened = let many = loops_are f plan loops s is in record {
  shapes = opened.shapes ∙ same_boards f plan loops s is sound seating;
  drivers = opened.drivers ∙ ap (λ n. map (driver_of plan waves n) (enumerate_from 0 o.boards)) many;
  leads = opened.leads;
  ready = subst (λ n. AreReady o.boards n (o.loops ++ o.own ∷ [])) many opened.ready;
  rows = opened.rows;
  are = same_loops f plan loops s is waves opened.rows (o.loops ++ o.own ∷ []) opened.are;
}
