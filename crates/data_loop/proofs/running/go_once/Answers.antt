use Rattle.std.proofs.Common.{refl, inl, inr}
use Rattle.data_loop.proofs.RunningLemmas.{way_on, started_on}
use Rattle.data_loop.proofs.running.go_once.Goals as goal

pub try_given-did-requires-clause-way : goal.try_given-did-requires-clause-way
try_given-did-requires-clause-way g c = way_on c.args.ways.now c.args.state.now c.args.state.now c.args.way.now c.receive.new.way refl
    c.receive.ensures.thread.number c.receive.ensures.answered c.requires.way

pub try_all-requires-clause-way : goal.try_all-requires-clause-way
try_all-requires-clause-way g c = way_on c.args.ways.now c.args.state.now c.args.state.now c.args.way.now c.receive.new.way refl
    c.receive.ensures.thread.number c.receive.ensures.answered c.requires.way

pub try_given-did-requires-clause-started : goal.try_given-did-requires-clause-started
try_given-did-requires-clause-started g c = started_on c.args.way.now c.receive.new.way c.receive.ensures.thread.begins c.requires.started

pub try_all-requires-clause-started : goal.try_all-requires-clause-started
try_all-requires-clause-started g c = started_on c.args.way.now c.receive.new.way c.receive.ensures.thread.begins c.requires.started

-- a number was received, and tried
pub returns-in-Some-clause-round : goal.returns-in-Some-clause-round
returns-in-Some-clause-round g c = inl (
  refl,
  record {
    node = c.in-Some.node;
    did = c.try_given-did.result;
    way = c.receive.new.way;
    received = record {
      thread = c.receive.ensures.thread;
      own = c.in-Some.ensures.node;
      received = c.in-Some.ensures.some;
    };
    turned = c.try_given-did.ensures.did;
    woken = c.try_given-did.ensures.woken;
    passed = c.try_given-did.ensures.passed;
  },
)

-- nothing was received, and all were tried
pub returns-in-None-clause-round : goal.returns-in-None-clause-round
returns-in-None-clause-round g c = inr record {
  way = c.receive.new.way;
  received = record {
    thread = c.receive.ensures.thread;
    same = c.in-None.ensures.none;
  };
  tried = c.try_all.ensures.tried;
}
