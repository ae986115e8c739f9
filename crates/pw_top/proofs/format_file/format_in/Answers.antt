use Rattle.pw_top.specs.FormatFile.{IsFormatIn}
use Rattle.std.proofs.Common.{[]}
use Rattle.pw_top.proofs.AllowedLemmas.{part_gives}
use Rattle.pw_top.proofs.FormatFileLemmas.{refused}
use Rattle.pw_top.proofs.format_file.format_in.Goals as goal

pub returns-in-Ok-clause-told : goal.returns-in-Ok-clause-told
returns-in-Ok-clause-told c = part_gives [] (IsFormatIn c.args.place c.args.pod.now) c.in-Ok.format c.in-Ok.ensures.found

pub returns-in-Err-clause-told : goal.returns-in-Err-clause-told
returns-in-Err-clause-told c =
    refused c.args.place c.args.pod.now c.in-Err.fault c.refusal_of.result c.refusal_of.ensures c.in-Err.ensures.fault
