-- A request is answered.
use Rattle.std.proofs.Common.{[], subst, sym}
use Rattle.pw_outside.specs.Files.{names_in}
use Rattle.command_frame.specs.Ending.{Ends, IsDeliverable}
use Rattle.command_frame.proofs.AllowedLemmas.{part_quiet}
use Rattle.pod_text.specs.declared.words.Request.{Request}
use Rattle.pod_text.specs.Answers.{IsAnswerTo, IsHelpWork, IsVersionWork, IsFormatWork}
use Rattle.pod_text.specs.Statuses.{statuses}
use Rattle.pod_text.proofs.requests.PodsProgramStatusRequest.prepare.Goals as goal

pub returns-in-Help-clause-told : goal.returns-in-Help-clause-told
returns-in-Help-clause-told g c = λ h. subst
    (λ (q : Request). Ends statuses (IsAnswerTo c.args.self.now.line q (names_in (g.F.Files.held c.args.files.now))) c.help_work.result)
    (sym c.in-Help.is)
    (part_quiet statuses [] IsHelpWork (IsDeliverable statuses) c.help_work.result c.help_work.ensures.work c.help_work.ensures.cause)

pub returns-in-Version-clause-told : goal.returns-in-Version-clause-told
returns-in-Version-clause-told g c = λ h. subst
    (λ (q : Request). Ends statuses (IsAnswerTo c.args.self.now.line q (names_in (g.F.Files.held c.args.files.now))) c.version_work.result)
    (sym c.in-Version.is)
    (part_quiet statuses [] IsVersionWork (IsDeliverable statuses) c.version_work.result c.version_work.ensures.work
    c.version_work.ensures.cause)

pub returns-in-Format-clause-told : goal.returns-in-Format-clause-told
returns-in-Format-clause-told g c = λ h. subst
    (λ (q : Request). Ends statuses (IsAnswerTo c.args.self.now.line q (names_in (g.F.Files.held c.args.files.now))) c.format_work.result)
    (sym c.in-Format.is)
    (part_quiet statuses [] (IsFormatWork c.in-Format.format c.in-Format.to) (IsDeliverable statuses) c.format_work.result
    c.format_work.ensures.work c.format_work.ensures.cause)

pub returns-in-Make-clause-told : goal.returns-in-Make-clause-told
returns-in-Make-clause-told g c = λ h. subst
    (λ (q : Request). Ends statuses (IsAnswerTo c.make.new.self.line q (names_in (g.F.Files.held c.args.files.now))) c.make.result)
    (sym c.in-Make.is) (c.make.ensures.told h)
