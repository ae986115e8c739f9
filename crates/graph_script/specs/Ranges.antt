-- Ranges: what holds of the numbers, the names and the nodes of every script that is read. Source:
-- this project's own.
use Rattle.std.specs.Prelude.{ℕ, ◌<◌, ◌≤◌, length, All, IsTrue}
use Rattle.pw_graph.specs.SoundShape.{IsBetween}
use Rattle.pw_lists.specs.Limits.{dummy_node, quantum_limit, buffers_limit}
use Rattle.pw_graph.specs.declared.kind.Kind.TheVariants as K
use Rattle.pw_graph.specs.KindRanges as kinds
use Rattle.graph_script.specs.declared.command.Command.{Command}
use Rattle.graph_script.specs.declared.command.Command.TheVariants as C
use Rattle.graph_script.specs.declared.script.Script.{Script}
use Rattle.graph_script.specs.Arguments.{is_node_name}
use Rattle.graph_script.specs.Limits.{priority_limit, loop_limit, cycles_limit}

-- the numbers of a command: those of a new node are in the ranges of its kind
abbrev pub IsInRange : Command → Type 0
IsInRange (C.Quantum n) = IsBetween 1 quantum_limit n
IsInRange (C.Square node rate channels period amp) =
    kinds.IsInRange (K.Square rate channels period amp)
IsInRange (C.Gain node g) = kinds.IsInRange (K.Gain g)
IsInRange (C.Mix2 node ga gb) = kinds.IsInRange (K.Mix2 ga gb)
IsInRange (C.Delay node frames) = kinds.IsInRange (K.Delay frames)
IsInRange (C.Map node channels list) = kinds.IsInRange (K.Map channels list)
IsInRange (C.Driver node priority) = priority ≤ priority_limit
IsInRange (C.Loop node k) = k ≤ loop_limit
IsInRange (C.Buffers port n) = IsBetween 1 buffers_limit n
IsInRange (C.Cycles n) = IsBetween 1 cycles_limit n
IsInRange _ = Unit {0}

-- the nodes of a command are among the first `count`
abbrev pub HasNodes : ℕ → Command → Type 0
HasNodes count (C.Source node file) = node < count
HasNodes count (C.Square node rate channels period amp) = node < count
HasNodes count (C.Gain node g) = node < count
HasNodes count (C.Mix2 node ga gb) = node < count
HasNodes count (C.Delay node frames) = node < count
HasNodes count (C.Map node channels list) = node < count
HasNodes count (C.Split node) = node < count
HasNodes count (C.Sink node file) = node < count
HasNodes count (C.Meter node) = node < count
HasNodes count (C.Driver node priority) = node < count
HasNodes count (C.Loop node k) = node < count
HasNodes count (C.Offer port file) = port.node < count
HasNodes count (C.Buffers port n) = port.node < count
HasNodes count (C.Link from to) = (from.node < count) × (to.node < count)
HasNodes count (C.Unlink from to) = (from.node < count) × (to.node < count)
HasNodes count (C.On node) = node < count
HasNodes count (C.Off node) = node < count
HasNodes count (C.Async node) = node < count
HasNodes count _ = Unit {0}

-- lines are numbered from 1, their numbers are in range and their nodes are there;
-- at most 63 names, each well formed
pub record HasRanges (script : Script) : Type 0 where
  pub numbered : All (λ l. 1 ≤ l.line) script.lines
  pub ranges : All (λ l. IsInRange l.command) script.lines
  pub nodes : All (λ l. HasNodes (length script.names) l.command) script.lines
  pub count : length script.names ≤ dummy_node
  pub names : All (λ name. IsTrue (is_node_name name)) script.names
