use Rattle.command_frame.specs.Outside.{outside}
use Rattle.command_frame.proofs.FinishLemmas.{stop_made, text_made}
use Rattle.command_frame.proofs.delivering.finish.Goals as goal

pub returns-in-Err-store_all-clause-finished : goal.returns-in-Err-store_all-clause-finished
returns-in-Err-store_all-clause-finished g c =
    stop_made g.S.Ending.statuses c.args.made.now c.in-Ok.work c.as_slice.result.now
    (outside g.F.Files g.O.Sink c.args.files.now c.args.out.now)
    (outside g.F.Files g.O.Sink c.store_all.new.files c.put_line-in-Err-store_all.new.out)
    c.in-Err-store_all.status c.put_line-in-Err-store_all.result c.in-Ok.is c.as_slice.ensures c.in-Err-store_all.ensures.done
    c.put_line-in-Err-store_all.ensures.ends

pub returns-in-Ok-store_all-clause-finished : goal.returns-in-Ok-store_all-clause-finished
returns-in-Ok-store_all-clause-finished g c =
    text_made g.S.Ending.statuses c.args.made.now c.in-Ok.work c.as_slice.result.now c.as_slice-in-Ok-store_all.result.now
    (outside g.F.Files g.O.Sink c.args.files.now c.args.out.now)
    (outside g.F.Files g.O.Sink c.store_all.new.files c.end_text.new.out)
    c.end_text.result c.in-Ok.is c.as_slice.ensures c.as_slice-in-Ok-store_all.ensures c.in-Ok-store_all.ensures.done c.end_text.ensures.ends
