-- The parts are kept with their script, and can be run.
use Rattle.std.proofs.Common.{◌<◌, [], length, refl}
use Rattle.wav_files.specs.declared.outcome.Kept.{Kept}
use Rattle.pw_top.specs.Allowed.{Reads}
use Rattle.pw_top.specs.Groups.{PartsTo, KeepsParts}
use Rattle.pw_top.proofs.AllowedLemmas.{binds_goes, part_gives}
use Rattle.pw_top.proofs.GroupsLemmas.{in_order_meets, parts_placed, parts_joined}
use Rattle.pw_top.specs.SinkStores.{place_of, sink_line_of}
use Rattle.pw_top.proofs.parted.parts_inputs.Goals as goal

pub returns-clause-done : goal.returns-clause-done
returns-clause-done c = binds_goes (Reads (PartsTo c.args.script c.args.inputs.ports c.args.inputs.waves))
    (KeepsParts c.args.script c.args.inputs.waves) c.in-Ok.parts _
    (part_gives [] (PartsTo c.args.script c.args.inputs.ports c.args.inputs.waves) c.in-Ok.parts c.in-Ok.ensures.parted)
    (part_gives [] _ _ refl)

pub returns-clause-cause : goal.returns-clause-cause
returns-clause-cause c = let r = c.requires in let known = c.in-Ok.ensures in record {
  few = r.ranges.count;
  sound = known.sound;
  fit = known.fit;
  joins = parts_joined c.args.script r.ranges r.kinds r.made c.args.inputs.ports r.inputs.ports c.args.inputs.waves c.in-Ok.parts known.parted known.each
      known.nodes;
  placed = in_order_meets c.args.inputs.waves (λ (kept : Kept). 0 < place_of (sink_line_of c.args.script.lines kept.node)) (length c.args.script.names) c.in-Ok.parts.parts
      (parts_placed c.args.script r.ranges r.kinds r.made c.args.inputs.ports r.inputs.ports c.args.inputs.waves c.in-Ok.parts.parts known.each);
}
