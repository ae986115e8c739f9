use Rattle.std.proofs.Common.{subst}
use Rattle.std.specs.Prelude.{Ok}
use Rattle.pw_outside.specs.declared.files.Loaded.{Loaded}
use Rattle.pw_outside.specs.Files.{names_in, IsLoaded, IsWithin}
use Rattle.command_frame.proofs.LoadLemmas.{load_whole, load_absent, load_long, load_failed, load_memory}
use Rattle.command_frame.proofs.loading.load_step.Goals as goal

pub returns-in-Ok-Whole-clause-told : goal.returns-in-Ok-Whole-clause-told
returns-in-Ok-Whole-clause-told g c = λ h. let names = names_in (g.F.Files.held c.args.files.now) in
    load_whole g.S.Ending.statuses names c.args.place c.args.name.now c.args.limit c.args.long c.in-Ok-Whole.bytes
    (subst (λ (x : Loaded). IsLoaded (names c.args.name.now) c.args.limit (Ok x)) c.in-Ok-Whole.field-0-is (c.in-Ok-Whole.ensures.told h))
    (subst (λ (x : Loaded). IsWithin c.args.limit (Ok x)) c.in-Ok-Whole.field-0-is c.in-Ok-Whole.ensures.within)

pub returns-in-Ok-Absent-clause-told : goal.returns-in-Ok-Absent-clause-told
returns-in-Ok-Absent-clause-told g c = λ h. let names = names_in (g.F.Files.held c.args.files.now) in
    load_absent g.S.Ending.statuses names c.args.place c.args.name.now c.args.limit c.args.long c.absent.result c.absent.ensures.end
    c.absent.ensures.value
    (subst (λ (x : Loaded). IsLoaded (names c.args.name.now) c.args.limit (Ok x)) c.in-Ok-Absent.field-0-is (c.in-Ok-Absent.ensures.told h))

pub returns-in-Ok-TooLong-clause-told : goal.returns-in-Ok-TooLong-clause-told
returns-in-Ok-TooLong-clause-told g c = λ h. let names = names_in (g.F.Files.held c.args.files.now) in
    let long = subst (λ (x : Loaded). IsLoaded (names c.args.name.now) c.args.limit (Ok x)) c.in-Ok-TooLong.field-0-is
    (c.in-Ok-TooLong.ensures.told h) in
    load_long g.S.Ending.statuses names c.args.place c.args.name.now c.args.limit c.args.long long.0 c.requires.refusal long.1 long.2

pub returns-in-Err-Failed-clause-told : goal.returns-in-Err-Failed-clause-told
returns-in-Err-Failed-clause-told g c = λ h.
    load_failed g.S.Ending.statuses (names_in (g.F.Files.held c.args.files.now)) c.args.place c.args.name.now c.args.limit c.args.long
    c.read_fault.result c.read_fault.ensures.end

pub returns-in-Err-Memory-clause-told : goal.returns-in-Err-Memory-clause-told
returns-in-Err-Memory-clause-told g c = λ h.
    load_memory g.S.Ending.statuses (names_in (g.F.Files.held c.args.files.now)) c.args.place c.args.name.now c.args.limit c.args.long
    c.memory.result c.memory.ensures.end
