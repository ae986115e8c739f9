-- Runs of parts by threads of their own, before and after.
-- Source: this project's own.
use Rattle.std.specs.Prelude.{◌≡◌, ℕ, ◌≤◌, false, List, [], ◌∷◌, length, map, replicate, sum_by}
use Rattle.std.specs.List.{AllZip, range_with_len}
use Rattle.pw_graph.specs.declared.parts.Part.{Part}
use Rattle.pw_graph.specs.declared.plan.Plan.{Plan}
use Rattle.wav_files.specs.declared.wav.WavIn.{WavIn}
use Rattle.crew_run.specs.Places.{HavePlaces}
use Rattle.graph_run.specs.declared.alone.AloneRun.{AloneRun}
use Rattle.graph_run.specs.declared.ended.EndedRun.{EndedRun}
use Rattle.graph_run.specs.Assignment.{loop_of}
use Rattle.graph_run.specs.Leads.{checks_of}
use Rattle.graph_run.specs.RunStates.{IsAloneRun, IsEndedRun, HasBoardsBy}
use Rattle.driver_groups.specs.declared.crew.PlacedRun.{PlacedRun}
use Rattle.driver_groups.specs.declared.group_run.Crew.{Crew}
use Rattle.driver_groups.specs.working.Crew.{CanLead}

-- a prepared run of a part
abbrev pub IsRunOfPart : List WavIn → Part → AloneRun → Type 0
IsRunOfPart waves p r = IsAloneRun p.plan waves r

-- what may run, in the order of the parts, with their places, from 1 on
pub record ArePrepared (waves : List WavIn) (parts : List Part) (runs : List PlacedRun)
    : Type 0 where
  pub each : AllZip (λ p r. IsRunOfPart waves p r.run) parts runs
  pub places : map (λ r. r.place) runs ≡ range_with_len 1 (length parts)

-- the run of a part's plan that has ended, by one thread and without a check
pub record IsEndedPart (waves : List WavIn) (plan : Plan) (e : EndedRun) : Type 0 where
  pub ended : IsEndedRun plan waves e
  pub boards : HasBoardsBy plan (loop_of plan 0) 0 e
  pub quiet : checks_of e.drivers ≡ 0

-- the epochs of all parts
abbrev pub epochs_of : List Part → ℕ
epochs_of parts = sum_by (λ p. length p.plan.epochs) parts

-- THE CREW of parts, of which one is the first: the runs of all, in their order, of which none is
-- named, and room for all that is answered
pub record IsCrewOf (waves : List WavIn) (parts : List Part) (c : Crew) : Type 0 where
  pub head : Part
  pub tail : List Part
  pub parts_are : parts ≡ head ∷ tail
  pub first : IsRunOfPart waves head c.lead.first
  pub others : ArePrepared waves tail c.others
  pub lead : CanLead c.lead c.others
  pub named : c.named ≡ replicate (length c.others) false
  pub places : HavePlaces (length c.others) c.places
  pub bare : (c.outcomes.list ≡ []) × (c.closed.list ≡ [])
  pub outcomes : length parts ≤ c.outcomes.spare
  pub closed : epochs_of parts ≤ c.closed.spare
