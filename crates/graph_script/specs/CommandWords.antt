-- The words that name commands. They are this project's; `driver`, `link` and `node` are
-- PipeWire's. Source: this project's own.
use Rattle.std.specs.Prelude.{ℕ, List, [], ◌∷◌, codes, bytes_eq, Option, Some, None, if◌then◌else◌}
use Rattle.graph_script.specs.declared.name.Name.{Name}
use Rattle.graph_script.specs.declared.name.Name.TheVariants as N
use Rattle.graph_script.specs.declared.command.Command.{Command}
use Rattle.graph_script.specs.declared.command.Command.TheVariants as C

-- all commands: those that make a node, those for nodes, ports and links that are there, and those
-- for cycles
unfoldable pub names : List Name
names = N.Source ∷ N.Square ∷ N.Gain ∷ N.Mix2 ∷ N.Delay ∷ N.Map ∷ N.Split ∷ N.Sink ∷ N.Meter
    ∷ N.Link ∷ N.Unlink ∷ N.Offer ∷ N.Buffers ∷ N.Driver ∷ N.Loop ∷ N.On ∷ N.Off ∷ N.Async
    ∷ N.Quantum ∷ N.Cycles ∷ N.Drain ∷ []

abbrev pub word_of : Name → List ℕ
word_of N.Source = codes "source"
word_of N.Square = codes "square"
word_of N.Gain = codes "gain"
word_of N.Mix2 = codes "mix2"
word_of N.Delay = codes "delay"
word_of N.Map = codes "map"
word_of N.Split = codes "split"
word_of N.Sink = codes "sink"
word_of N.Meter = codes "meter"
word_of N.Link = codes "link"
word_of N.Unlink = codes "unlink"
word_of N.Offer = codes "offer"
word_of N.Buffers = codes "buffers"
word_of N.Driver = codes "driver"
word_of N.Loop = codes "loop"
word_of N.On = codes "on"
word_of N.Off = codes "off"
word_of N.Async = codes "async"
word_of N.Quantum = codes "quantum"
word_of N.Cycles = codes "cycles"
word_of N.Drain = codes "drain"

-- the first of some commands that is called by a word, and the command that is called by it
abbrev pub name_among : List Name → List ℕ → Option Name
name_among [] word = None
name_among (name ∷ more) word =
    if bytes_eq word (word_of name) then Some name else name_among more word

abbrev pub name_called : List ℕ → Option Name
name_called word = name_among names word

-- what a command does, and its word
abbrev pub name_of : Command → Name
name_of (C.Quantum n) = N.Quantum
name_of (C.Source node file) = N.Source
name_of (C.Square node rate channels period amp) = N.Square
name_of (C.Gain node g) = N.Gain
name_of (C.Mix2 node ga gb) = N.Mix2
name_of (C.Delay node frames) = N.Delay
name_of (C.Map node channels list) = N.Map
name_of (C.Split node) = N.Split
name_of (C.Sink node file) = N.Sink
name_of (C.Meter node) = N.Meter
name_of (C.Driver node priority) = N.Driver
name_of (C.Loop node k) = N.Loop
name_of (C.Offer port file) = N.Offer
name_of (C.Buffers port n) = N.Buffers
name_of (C.Link from to) = N.Link
name_of (C.Unlink from to) = N.Unlink
name_of (C.On node) = N.On
name_of (C.Off node) = N.Off
name_of (C.Cycles n) = N.Cycles
name_of C.Drain = N.Drain
name_of (C.Async node) = N.Async

abbrev pub command_word : Command → List ℕ
command_word command = word_of (name_of command)
