use Rattle.std.proofs.Common.{refl}
use Rattle.data_loop.proofs.RunningLemmas.{way_on}
use Rattle.data_loop.proofs.running.try_given.Goals as goal

pub pass_on-requires : goal.pass_on-requires
pass_on-requires g c = record {
  way = way_on c.args.ways.now c.args.state.now c.turn_at-did.new.self c.args.way.now c.args.way.now c.turn_at-did.ensures.same.nodes
      refl c.requires.way.answered c.requires.way;
  started = c.requires.started;
}
