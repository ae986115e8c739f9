-- The object is read only as the format, and is the only one that spells it.
use Rattle.format_filter.proofs.FormatWritingLemmas.{format_sound}
use Rattle.format_filter.proofs.OneFormatLemmas.{written_law, written_one}
use Rattle.format_filter.proofs.to_pod.pod_of.Goals as goal

pub returns-clause-law : goal.returns-clause-law
returns-clause-law c = written_law c.args.format.now c.object_of.result c.requires c.object_of.ensures

pub returns-clause-sound : goal.returns-clause-sound
returns-clause-sound c = format_sound c.args.format.now c.object_of.result c.requires c.object_of.ensures

pub returns-clause-only : goal.returns-clause-only
returns-clause-only c = λ other h. written_one c.args.format.now c.object_of.result other c.object_of.ensures h
