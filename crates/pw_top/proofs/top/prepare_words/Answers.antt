use Rattle.std.proofs.Common.{ℕ, ap, map, subst}
use Rattle.std.specs.Prelude.{Err, string_bytes}
use Rattle.command_frame.specs.declared.program.Misread.{Misread}
use Rattle.command_frame.specs.Words.{IsAsked}
use Rattle.run_results.specs.declared.status.Status.TheVariants as S
use Rattle.pw_top.specs.Usage.{command_of}
use Rattle.pw_top.proofs.CommandLineLemmas.{answer_read, word_stops, short_stops}
use Rattle.pw_top.proofs.FoundLemmas.{what_read, script_read, script_refused, script_short}
use Rattle.pw_top.proofs.top.prepare_words.Goals as goal

pub returns-in-Err-Word-clause-told : goal.returns-in-Err-Word-clause-told
returns-in-Err-Word-clause-told g c = λ h. word_stops _ _ _ c.in-Err-Word.word _ (ap (λ (w : ℕ). S.Usage w) c.in-Err-Word.word-is) c.requires.none
    (subst (λ (e : Misread). IsAsked (command_of (map string_bytes c.args.words.now)) (Err e)) c.in-Err-Word.field-0-is c.in-Err-Word.ensures.read)

pub returns-in-Err-Memory-clause-told : goal.returns-in-Err-Memory-clause-told
returns-in-Err-Memory-clause-told g c = λ h. short_stops _ _ _ c.requires.none

pub returns-in-Ok-clause-told : goal.returns-in-Ok-clause-told
returns-in-Ok-clause-told g c = λ h. answer_read _ _ _ c.in-Ok.command _ c.in-Ok.ensures.read (c.prepare.ensures.told h)

pub returns-in-Ok-clause-what : goal.returns-in-Ok-clause-what
returns-in-Ok-clause-what g c = what_read (command_of (map string_bytes c.args.words.now)) (g.F.Files.held c.args.files.now) c.in-Ok.command
    c.prepare.new.found.what c.prepare.result c.in-Ok.ensures.read c.prepare.ensures.what

pub returns-in-Ok-clause-script : goal.returns-in-Ok-clause-script
returns-in-Ok-clause-script g c = script_read (command_of (map string_bytes c.args.words.now)) (g.F.Files.held c.args.files.now) c.in-Ok.command
    _ c.prepare.new.found.script c.in-Ok.ensures.read c.prepare.ensures.script

pub returns-in-Err-Word-clause-script : goal.returns-in-Err-Word-clause-script
returns-in-Err-Word-clause-script g c = script_refused (command_of (map string_bytes c.args.words.now)) (g.F.Files.held c.args.files.now) c.in-Err-Word.word _
    c.args.found.now.script
    (subst (λ (e : Misread). IsAsked (command_of (map string_bytes c.args.words.now)) (Err e)) c.in-Err-Word.field-0-is c.in-Err-Word.ensures.read)
    c.requires.unfound.0

pub returns-in-Err-Memory-clause-script : goal.returns-in-Err-Memory-clause-script
returns-in-Err-Memory-clause-script g c = script_short (command_of (map string_bytes c.args.words.now)) (g.F.Files.held c.args.files.now)
    c.args.found.now.script c.requires.unfound.0
