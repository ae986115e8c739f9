-- The points, or the refusal of the first fault.
use Rattle.pw_top.proofs.AutomateLemmas.{given, refused}
use Rattle.pw_top.proofs.points_file.points_of.Goals as goal

pub returns-in-Ok-clause-told : goal.returns-in-Ok-clause-told
returns-in-Ok-clause-told c = given c.args.place c.args.pod.now c.in-Ok.points c.in-Ok.ensures.points

pub returns-in-Err-clause-told : goal.returns-in-Err-clause-told
returns-in-Err-clause-told c =
    refused c.args.place c.args.pod.now c.in-Err.fault c.refusal_of.result c.refusal_of.ensures c.in-Err.ensures.points
