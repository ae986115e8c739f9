-- What a run of all parts of a script stores and prints, and what happened in it.
-- Source: PipeWire's documentation, "Graph Scheduling" (several drivers); boards are this
-- project's.
use Rattle.std.specs.Prelude.{◌≡◌, List, length, map, flat_map, None, Result, Ok}
use Rattle.pw_outside.specs.Files.{Names}
use Rattle.wav_files.specs.declared.outcome.Outcome.{Outcome}
use Rattle.cycle_trace.specs.RunText.{run_text_of}
use Rattle.driver_groups.specs.GroupRun.{AreRunsOf}
use Rattle.pw_top.specs.declared.commands.groups.Grouping.{Grouping}
use Rattle.pw_top.specs.declared.parted.Parted.{Parted}
use Rattle.run_results.specs.declared.status.Status.{Status}
use Rattle.command_frame.specs.declared.work.Work.{Work}
use Rattle.pw_top.specs.Answer.{Answer}
use Rattle.pw_top.specs.Allowed.{Binds, Reads}
use Rattle.pw_top.specs.Groups.{PartsFile, parts_outcome}
use Rattle.pw_top.specs.Joined.{joined_plan}
use Rattle.pw_top.specs.Playing.{Happened}
use Rattle.pw_top.specs.SinkStores.{sink_store}

-- THE WORK: the files of all sinks, and the text of `run` without events, ascending over all parts
abbrev pub groups_work : Parted → Work
groups_work p = record {
  stores = map (sink_store p.script.lines) (parts_outcome p).sinks;
  text = run_text_of (joined_plan (length p.script.names) p.parts) None (parts_outcome p);
}

-- RUNS OF ALL PARTS were made: the history is theirs, one after the other, and so are the closed
-- boards; the ticker was not asked
pub record HasGroupsRun (p : Parted) (h : Happened) : Type 0 where
  pub outcomes : List Outcome
  pub runs : AreRunsOf p.waves p.parts.parts outcomes h.closed
  pub history : h.history ≡ flat_map (λ o. o.history) outcomes
  pub quiet : h.now ≡ h.before

-- they give the work
abbrev pub GroupsTo : Happened → Parted → Result Work Status → Type 0
GroupsTo h p outcome = HasGroupsRun p h × (outcome ≡ Ok (groups_work p))

abbrev pub GroupsPlan : Happened → Parted → Answer → Type 0
GroupsPlan h p = Reads (GroupsTo h p)

-- THE ANSWER
abbrev pub IsGroupsAnswer : Grouping → Happened → Names → Answer → Type 0
IsGroupsAnswer c h names = Binds (PartsFile names c.script) (GroupsPlan h)
