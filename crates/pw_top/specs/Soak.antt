-- The expected answer of `soak NUMBER`: the graph of the number is planned, and run by four loops.
-- Nothing is loaded or stored; the line of its run is put. Source: this project's.
use Rattle.std.specs.Prelude.{◌≡◌, ℕ, false, [], Result, Ok}
use Rattle.soak_graph.specs.SoakChains.{soak_waves}
use Rattle.soak_graph.specs.SoakLine.{soak_line}
use Rattle.soak_graph.specs.SoakPorts.{soak_ports}
use Rattle.soak_graph.specs.SoakScript.{soak_script}
use Rattle.pw_top.specs.declared.planned.Planned.{Planned}
use Rattle.pw_top.specs.declared.playing.Crew.{Crew}
use Rattle.run_results.specs.declared.status.Status.{Status}
use Rattle.command_frame.specs.declared.work.Work.{Work}
use Rattle.pw_top.specs.Answer.{Answer, Expected}
use Rattle.pw_top.specs.Allowed.{Binds, Reads}
use Rattle.pw_top.specs.PlannedWork.{PlansPorts, rendered}
use Rattle.pw_top.specs.Playing.{Happened, HasRun}

abbrev pub soak_crew : Crew
soak_crew = record { loops = 4; steal = false }

-- the plan of the number's script
abbrev pub PlansNumber : ℕ → Expected Planned → Type 0
PlansNumber number = PlansPorts (soak_script number) (soak_ports number) (soak_waves number)

-- the line of what its plan gives
abbrev pub soak_work : ℕ → Planned → Work
soak_work number p = record {
  stores = [];
  text = soak_line number p.plan (rendered p.plan p.waves);
}

-- a run of it was made, and gives the line
abbrev pub SoaksTo : ℕ → Happened → Planned → Result Work Status → Type 0
SoaksTo number h p outcome = HasRun p.plan p.waves soak_crew h
    × (outcome ≡ Ok (soak_work number p))

abbrev pub SoaksPlan : ℕ → Happened → Planned → Answer → Type 0
SoaksPlan number h p = Reads (SoaksTo number h p)

-- THE ANSWER
abbrev pub IsSoakAnswer : ℕ → Happened → Answer → Type 0
IsSoakAnswer number h = Binds (PlansNumber number) (SoaksPlan number h)
