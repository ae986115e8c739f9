-- What the one value gives, the file gives; and it gives nothing where it holds no value.
use Rattle.pw_top.specs.FormatFile.{IsFormatIn}
use Rattle.pw_top.proofs.PodFileLemmas.{holds, holds_none}
use Rattle.pw_top.proofs.format_file.format_step.Goals as goal

pub returns-in-Ok-clause-told : goal.returns-in-Ok-clause-told
returns-in-Ok-clause-told c = holds (IsFormatIn c.args.place) c.args.place c.args.bytes.now c.in-Ok.pod c.format_in.result
    c.in-Ok.ensures.told c.format_in.ensures.told

pub returns-in-Err-clause-told : goal.returns-in-Err-clause-told
returns-in-Err-clause-told c =
    holds_none (IsFormatIn c.args.place) c.args.place c.args.bytes.now c.in-Err.status c.in-Err.ensures.told
