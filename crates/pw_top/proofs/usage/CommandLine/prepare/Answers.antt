-- Commands other than `run`, `soak` and `groups` run nothing, `dump`, `automate` and `soak` find nothing, and those other than
-- `run`, `check` and `groups` read no script.
use Rattle.std.proofs.Common.{◌≡◌, ℕ}
use Rattle.std.specs.Prelude.{Result, Ok, Err}
use Rattle.pw_outside.specs.Files.{names_in}
use Rattle.run_results.specs.declared.found.What.TheVariants.{Nothing}
use Rattle.run_results.specs.declared.status.Status.{Status}
use Rattle.command_frame.specs.declared.work.Work.{Work}
use Rattle.pw_top.specs.working.Ending.{CommandCause, IsDeliverable}
use Rattle.pw_top.specs.Playing.{happened}
use Rattle.pw_top.specs.Dump.{IsDumpAnswer}
use Rattle.pw_top.specs.Filter.{IsFilterAnswer}
use Rattle.pw_top.specs.Automate.{IsAutomateAnswer}
use Rattle.pw_top.specs.Check.{IsCheckAnswer}
use Rattle.pw_top.proofs.AllowedLemmas.{quiet_cause}
use Rattle.pw_top.proofs.FoundLemmas.{ok_always}
use Rattle.pw_top.proofs.PlayingLemmas.{plays_idly}
use Rattle.pw_top.proofs.usage.CommandLine.prepare.Goals as goal

pub returns-in-Dump-clause-told : goal.returns-in-Dump-clause-told
returns-in-Dump-clause-told g c = λ h. rw c.in-Dump.is (plays_idly (IsDumpAnswer (names_in (g.F.Files.held c.args.files.now)) c.in-Dump.command.file)
    (happened c.args.played.now (g.K.Ticker.ticks c.args.ticker.now) (g.K.Ticker.ticks c.args.ticker.now)) c.prepare.result
    (c.prepare.ensures.told h) c.requires.none)

pub returns-in-Filter-clause-told : goal.returns-in-Filter-clause-told
returns-in-Filter-clause-told g c = λ h. rw c.in-Filter.is (plays_idly (IsFilterAnswer (names_in (g.F.Files.held c.args.files.now)) c.in-Filter.command.a c.in-Filter.command.b c.in-Filter.command.out)
    (happened c.args.played.now (g.K.Ticker.ticks c.args.ticker.now) (g.K.Ticker.ticks c.args.ticker.now)) c.find.result
    (c.find.ensures.told h) c.requires.none)

pub returns-in-Automate-clause-told : goal.returns-in-Automate-clause-told
returns-in-Automate-clause-told g c = λ h. rw c.in-Automate.is (plays_idly (IsAutomateAnswer (names_in (g.F.Files.held c.args.files.now)) c.in-Automate.command.input c.in-Automate.command.seq c.in-Automate.command.out)
    (happened c.args.played.now (g.K.Ticker.ticks c.args.ticker.now) (g.K.Ticker.ticks c.args.ticker.now)) c.prepare-in-Automate.result
    (c.prepare-in-Automate.ensures.told h) c.requires.none)

pub returns-in-Check-clause-told : goal.returns-in-Check-clause-told
returns-in-Check-clause-told g c = λ h. rw c.in-Check.is (plays_idly (IsCheckAnswer (names_in (g.F.Files.held c.args.files.now)) c.in-Check.command.script c.in-Check.command.trace)
    (happened c.args.played.now (g.K.Ticker.ticks c.args.ticker.now) (g.K.Ticker.ticks c.args.ticker.now)) c.find-in-Check.result
    (c.find-in-Check.ensures.told h) c.requires.none)

-- a soak loads nothing
quiet : (n : ℕ) (r : Result Work Status) → CommandCause IsDeliverable 0 0 r → CommandCause IsDeliverable n n r
quiet n (Ok work) h = h
quiet n (Err status) h = quiet_cause IsDeliverable IsDeliverable n status h

pub returns-in-Soak-clause-cause : goal.returns-in-Soak-clause-cause
returns-in-Soak-clause-cause g c = quiet _ c.play-in-Soak.result c.play-in-Soak.ensures.cause

pub returns-in-Run-clause-what : goal.returns-in-Run-clause-what
returns-in-Run-clause-what g c = rw c.in-Run.is c.play.ensures.what

pub returns-in-Dump-clause-what : goal.returns-in-Dump-clause-what
returns-in-Dump-clause-what g c = rw c.in-Dump.is (ok_always c.prepare.result (c.args.found.now.what ≡ Nothing) c.requires.unfound.2)

pub returns-in-Filter-clause-what : goal.returns-in-Filter-clause-what
returns-in-Filter-clause-what g c = rw c.in-Filter.is c.find.ensures.what

pub returns-in-Automate-clause-what : goal.returns-in-Automate-clause-what
returns-in-Automate-clause-what g c = rw c.in-Automate.is (ok_always c.prepare-in-Automate.result (c.args.found.now.what ≡ Nothing) c.requires.unfound.2)

pub returns-in-Soak-clause-what : goal.returns-in-Soak-clause-what
returns-in-Soak-clause-what g c = rw c.in-Soak.is (ok_always c.play-in-Soak.result (c.args.found.now.what ≡ Nothing) c.requires.unfound.2)

pub returns-in-Groups-clause-what : goal.returns-in-Groups-clause-what
returns-in-Groups-clause-what g c = rw c.in-Groups.is c.play-in-Groups.ensures.what

pub returns-in-Dump-clause-script : goal.returns-in-Dump-clause-script
returns-in-Dump-clause-script g c = rw c.in-Dump.is c.requires.unfound.0

pub returns-in-Filter-clause-script : goal.returns-in-Filter-clause-script
returns-in-Filter-clause-script g c = rw c.in-Filter.is c.requires.unfound.0

pub returns-in-Automate-clause-script : goal.returns-in-Automate-clause-script
returns-in-Automate-clause-script g c = rw c.in-Automate.is c.requires.unfound.0

pub returns-in-Soak-clause-script : goal.returns-in-Soak-clause-script
returns-in-Soak-clause-script g c = rw c.in-Soak.is c.requires.unfound.0

pub returns-in-Run-clause-script : goal.returns-in-Run-clause-script
returns-in-Run-clause-script g c = rw c.in-Run.is c.play.ensures.source

pub returns-in-Check-clause-script : goal.returns-in-Check-clause-script
returns-in-Check-clause-script g c = rw c.in-Check.is c.find-in-Check.ensures.source

pub returns-in-Groups-clause-script : goal.returns-in-Groups-clause-script
returns-in-Groups-clause-script g c = rw c.in-Groups.is c.play-in-Groups.ensures.source
