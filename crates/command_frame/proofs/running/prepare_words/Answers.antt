use Rattle.std.proofs.Common.{◌≡◌, ℕ, subst}
use Rattle.std.specs.Prelude.{Err, map, string_bytes}
use Rattle.pw_outside.specs.Files.{names_in}
use Rattle.command_frame.specs.declared.ending.End.TheVariants as E
use Rattle.command_frame.specs.declared.program.Misread.{Misread}
use Rattle.command_frame.specs.Words.{IsAsked}
use Rattle.command_frame.proofs.ReadLemmas.{word_answer, short_answer, asked_answer}
use Rattle.command_frame.proofs.running.prepare_words.Goals as goal

pub returns-in-Err-Word-clause-told : goal.returns-in-Err-Word-clause-told
returns-in-Err-Word-clause-told g c = λ h.
    let asked = g.P.Program.asks (map string_bytes c.args.words.now) in
    word_answer g.S.Ending.statuses asked (g.P.Program.answers c.args.program.now c.args.program.now) (names_in (g.F.Files.held c.args.files.now)) c.in-Err-Word.word c.usage.result
    (subst (λ (e : Misread). IsAsked asked (Err e)) c.in-Err-Word.field-0-is c.in-Err-Word.ensures.read)
    (subst (λ (w : ℕ). c.usage.result ≡ g.S.Ending.statuses.usage w) c.in-Err-Word.word-is c.usage.ensures.value)
    (subst (λ (w : ℕ). g.S.Ending.statuses.means c.usage.result ≡ E.Usage w) c.in-Err-Word.word-is c.usage.ensures.end)

pub returns-in-Err-Memory-clause-told : goal.returns-in-Err-Memory-clause-told
returns-in-Err-Memory-clause-told g c = λ h.
    short_answer g.S.Ending.statuses (g.P.Program.asks (map string_bytes c.args.words.now))
    (g.P.Program.answers c.args.program.now c.args.program.now)
    (names_in (g.F.Files.held c.args.files.now)) c.memory.result c.memory.ensures.end

pub returns-in-Ok-clause-told : goal.returns-in-Ok-clause-told
returns-in-Ok-clause-told g c = λ h.
    asked_answer g.S.Ending.statuses (g.P.Program.asks (map string_bytes c.args.words.now))
    (g.P.Program.answers c.args.program.now c.prepare.new.self)
    (names_in (g.F.Files.held c.args.files.now)) c.in-Ok.request c.prepare.result c.in-Ok.ensures.read (c.prepare.ensures.told h)
