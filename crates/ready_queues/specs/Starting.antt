-- Starting: a way whose thread runs its loop, or does not run it yet.
-- Source: this project's own.
use Rattle.std.specs.Prelude.{◌≡◌, true, false}
use Rattle.ready_queues.specs.declared.way.Way.{Way}
use Rattle.ready_queues.specs.StartRule.{running}

-- the way was not started, or it was
abbrev pub IsIdle : Way → Type 0
IsIdle way = way.begins.me.0.runs ≡ false

abbrev pub IsStarted : Way → Type 0
IsStarted way = way.begins.me.0.runs ≡ true

-- the way was started, and nothing else was done with it
pub record HasStarted (a b : Way) : Type 0 where
  pub number : b.number ≡ a.number
  pub ends : b.ends ≡ a.ends
  pub own : b.own ≡ a.own
  pub driver : b.driver ≡ a.driver
  pub begins : b.begins.me.0 ≡ running a.begins.me.0
