-- What a line says fits the lines before it: its numbers are in range, and its nodes and ports are there.
use Rattle.std.proofs.Common.{◌≡◌, ℕ, ◌+◌, ◌<◌, ◌≤◌, true, false, List, [], ◌∷◌, ◌++◌, length, refl, subst, arith, append-nil}
use Rattle.std.specs.Prelude.{Option, Some, None, option_map, option_to_list, IfSome, nat_lt, ok_or, Ok, pos}
use Rattle.std.proofs.lemmas.Bool.{ltb-true}
use Rattle.std.proofs.lemmas.Int.{ints}
use Rattle.pw_graph.specs.declared.ids.PortId.{PortId}
use Rattle.pw_graph.specs.declared.kind.Kind.{Kind}
use Rattle.pw_graph.specs.declared.kind.Kind.TheVariants as K
use Rattle.pw_lists.specs.declared.limit.Which.TheVariants as L
use Rattle.pw_lists.specs.Limits.{rate_limit, channels_limit, quantum_limit, buffers_limit}
use Rattle.graph_script.specs.declared.fault.ScriptWhy.TheVariants as W
use Rattle.graph_script.specs.declared.command.Command.{Command}
use Rattle.graph_script.specs.declared.command.Command.TheVariants as C
use Rattle.graph_script.specs.declared.name.Name.{Name}
use Rattle.graph_script.specs.declared.name.Name.TheVariants as N
use Rattle.graph_script.specs.declared.script.Line.{Line}
use Rattle.graph_script.specs.declared.reading.Made.{Made}
use Rattle.graph_script.specs.declared.reading.ParsedLine.{ParsedLine}
use Rattle.graph_script.specs.declared.reading.Reading.{Reading}
use Rattle.graph_script.specs.Limits.{nodes_limit, epochs_limit, period_limit, amp_limit, gain_limit, delay_limit, priority_limit, loop_limit}
use Rattle.graph_script.specs.Limits.{cycles_limit}
use Rattle.graph_script.specs.Checked.{no_args, one_arg, two_args, three_args, five_args, number_arg, integer_arg, list_arg, file_arg}
use Rattle.graph_script.specs.Nodes.{new_arg, node_arg, port_arg, kind_at, port_called, output_called, input_called, endpoint_arg, may_drive}
use Rattle.graph_script.specs.Earlier.{is_linked, is_epoch, epochs_so_far, saying, making_epoch, making}
use Rattle.graph_script.specs.FileNodes as files
use Rattle.graph_script.specs.NodeCommands as nodes
use Rattle.graph_script.specs.PortCommands as ports
use Rattle.graph_script.specs.GraphCommands as graph
use Rattle.graph_script.specs.CommandWords.{name_called}
use Rattle.graph_script.specs.Commands.{meaning_of_command, meaning_of_words}
use Rattle.graph_script.specs.Ranges.{IsInRange, HasNodes}
use Rattle.graph_script.specs.Kinds.{made_by, HasPorts}
use Rattle.graph_script.proofs.CheckedLemmas.{from_bind, from_test, from_refusal}
use Rattle.graph_script.proofs.RangeLemmas.{number-within, integer-within, list-within}
use Rattle.graph_script.proofs.NodeLemmas.{IsNew, new_arg-IsNew, node_arg-there, IsPortOf, endpoint_arg-IsPortOf, port_arg-IsPortOf}
use Rattle.graph_script.proofs.NodeLemmas.{output-found, input-found, port-found}

-- how many nodes a line adds
abbrev pub added : Option Made → ℕ
added None = 0
added (Some m) = 1

-- what a line says fits the lines before it
pub record IsFit (reading : Reading) (parsed : ParsedLine) : Type 0 where
  pub range : IsInRange parsed.command
  pub nodes : HasNodes (length reading.script.names + added parsed.made) parsed.command
  pub form : IfSome parsed.made (λ m. IsNew reading m.name (length reading.script.names) × (length reading.script.names < nodes_limit))
  pub made : made_by parsed.command ≡ option_map (λ m. (length reading.script.names, m.kind)) parsed.made
  pub ports : HasPorts (reading.kinds ++ option_to_list (option_map (λ m. m.kind) parsed.made)) parsed.command
  pub epochs : is_epoch parsed.command ≡ true → epochs_so_far reading < epochs_limit

-- a command that makes a node
making-fits : (reading : Reading) (command : Command) (name : List ℕ) (kind : Kind) (parsed : ParsedLine) (node : ℕ)
    → new_arg reading name ≡ Ok node → making reading command name kind ≡ Ok parsed
    → IsInRange command → made_by command ≡ Some (node, kind) → HasNodes (node + 1) command
    → ((kinds : List Kind) → HasPorts kinds command) → is_epoch command ≡ false → IsFit reading parsed
making-fits reading command name kind parsed node new e range made there ports none =
    let is_new = new_arg-IsNew reading name node new in
    let room = from_test (nat_lt (length reading.script.names) nodes_limit) (W.TooMany L.Nodes) _ parsed e in
    let same : record { command = command; made = Some (record { name = name; kind = kind }) } ≡ parsed = cc (room.1) in
    let number : node ≡ length reading.script.names = is_new.number in
    subst (IsFit reading) same (record {
      range = range;
      nodes = subst (λ n. HasNodes (n + 1) command) number there;
      form = (subst (IsNew reading name) number is_new, ltb-true _ _ room.0);
      made = subst (λ n. made_by command ≡ Some (n, kind)) number made;
      ports = ports _;
      epochs = λ yes. cc;
    })

-- a command that makes no node
saying-fits : (reading : Reading) (command : Command) (parsed : ParsedLine) → saying command ≡ Ok parsed
    → IsInRange command → HasNodes (length reading.script.names) command → made_by command ≡ None
    → HasPorts reading.kinds command → (is_epoch command ≡ true → epochs_so_far reading < epochs_limit) → IsFit reading parsed
saying-fits reading command parsed e range there none ports epochs =
    let same : record { command = command; made = None } ≡ parsed = cc in
    let count : length reading.script.names ≡ length reading.script.names + 0 = omega arith in
    subst (IsFit reading) same (record {
      range = range;
      nodes = subst (λ n. HasNodes n command) count there;
      form = tt;
      made = none;
      ports = rw append-nil ports;
      epochs = epochs;
    })

making_epoch-fits : (reading : Reading) (command : Command) (parsed : ParsedLine) → making_epoch reading command ≡ Ok parsed
    → IsInRange command → HasNodes (length reading.script.names) command → made_by command ≡ None → HasPorts reading.kinds command
    → IsFit reading parsed
making_epoch-fits reading command parsed e range there none ports =
    let room = from_test (nat_lt (epochs_so_far reading) epochs_limit) (W.TooMany L.Epochs) (saying command) parsed e in
    saying-fits reading command parsed room.1 range there none ports (λ yes. ltb-true _ _ room.0)

-- each command that makes a node
source-fits : (reading : Reading) (words : List (List ℕ)) (parsed : ParsedLine) → files.source_of reading words ≡ Ok parsed → IsFit reading parsed
source-fits reading words parsed e =
    let new = from_bind (files.node_and_file reading words) _ parsed e in
    let args = from_bind (two_args words) _ new.0 new.1 in
    let node = from_bind (new_arg reading args.0.0) _ new.0 args.2 in
    let file = from_bind (file_arg args.0.1) _ new.0 node.2 in
    let same : (node.0, args.0.0, file.0) ≡ new.0 = cc (file.2) in
    let is_new : new_arg reading new.0.1 ≡ Ok new.0.0 =
    subst (λ (n : ℕ × List ℕ × List ℕ). new_arg reading n.1 ≡ Ok n.0) same node.1 in
    making-fits reading (C.Source new.0.0 new.0.2) new.0.1 K.Source parsed new.0.0 is_new new.2 tt refl (omega arith) (λ ks. tt) refl

sink-fits : (reading : Reading) (words : List (List ℕ)) (parsed : ParsedLine) → files.sink_of reading words ≡ Ok parsed → IsFit reading parsed
sink-fits reading words parsed e =
    let new = from_bind (files.node_and_file reading words) _ parsed e in
    let args = from_bind (two_args words) _ new.0 new.1 in
    let node = from_bind (new_arg reading args.0.0) _ new.0 args.2 in
    let file = from_bind (file_arg args.0.1) _ new.0 node.2 in
    let same : (node.0, args.0.0, file.0) ≡ new.0 = cc (file.2) in
    let is_new : new_arg reading new.0.1 ≡ Ok new.0.0 =
    subst (λ (n : ℕ × List ℕ × List ℕ). new_arg reading n.1 ≡ Ok n.0) same node.1 in
    making-fits reading (C.Sink new.0.0 new.0.2) new.0.1 K.Sink parsed new.0.0 is_new new.2 tt refl (omega arith) (λ ks. tt) refl

square-fits : (reading : Reading) (words : List (List ℕ)) (parsed : ParsedLine) → nodes.square_of reading words ≡ Ok parsed → IsFit reading parsed
square-fits reading words parsed e =
    let args = from_bind (five_args words) _ parsed e in
    let node = from_bind (new_arg reading args.0.0) _ parsed args.2 in
    let rate = from_bind (number_arg 1 rate_limit args.0.1) _ parsed node.2 in
    let channels = from_bind (number_arg 1 channels_limit args.0.2) _ parsed rate.2 in
    let period = from_bind (number_arg 1 period_limit args.0.3) _ parsed channels.2 in
    let amp = from_bind (number_arg 0 amp_limit args.0.4) _ parsed period.2 in
    let within = number-within 0 amp_limit amp.0 args.0.4 amp.1 in
    making-fits reading (C.Square node.0 rate.0 channels.0 period.0 (pos amp.0)) args.0.0
    (K.Square rate.0 channels.0 period.0 (pos amp.0)) parsed node.0 node.1 amp.2 (
      number-within 1 rate_limit rate.0 args.0.1 rate.1,
      number-within 1 channels_limit channels.0 args.0.2 channels.1,
      number-within 1 period_limit period.0 args.0.3 period.1,
      omega (arith, ints),
      omega (arith, ints, within.1),
    )
    refl (omega arith) (λ ks. tt) refl

gain-fits : (reading : Reading) (words : List (List ℕ)) (parsed : ParsedLine) → nodes.gain_of reading words ≡ Ok parsed → IsFit reading parsed
gain-fits reading words parsed e =
    let args = from_bind (two_args words) _ parsed e in
    let node = from_bind (new_arg reading args.0.0) _ parsed args.2 in
    let g = from_bind (integer_arg gain_limit args.0.1) _ parsed node.2 in
    making-fits reading (C.Gain node.0 g.0) args.0.0 (K.Gain g.0) parsed node.0 node.1 g.2
    (integer-within gain_limit g.0 args.0.1 g.1) refl (omega arith) (λ ks. tt) refl

mix2-fits : (reading : Reading) (words : List (List ℕ)) (parsed : ParsedLine) → nodes.mix2_of reading words ≡ Ok parsed → IsFit reading parsed
mix2-fits reading words parsed e =
    let args = from_bind (three_args words) _ parsed e in
    let node = from_bind (new_arg reading args.0.0) _ parsed args.2 in
    let ga = from_bind (integer_arg gain_limit args.0.1) _ parsed node.2 in
    let gb = from_bind (integer_arg gain_limit args.0.2) _ parsed ga.2 in
    making-fits reading (C.Mix2 node.0 ga.0 gb.0) args.0.0 (K.Mix2 ga.0 gb.0) parsed node.0 node.1 gb.2
    (integer-within gain_limit ga.0 args.0.1 ga.1, integer-within gain_limit gb.0 args.0.2 gb.1)
    refl (omega arith) (λ ks. tt) refl

delay-fits : (reading : Reading) (words : List (List ℕ)) (parsed : ParsedLine) → nodes.delay_of reading words ≡ Ok parsed → IsFit reading parsed
delay-fits reading words parsed e =
    let args = from_bind (two_args words) _ parsed e in
    let node = from_bind (new_arg reading args.0.0) _ parsed args.2 in
    let frames = from_bind (number_arg 0 delay_limit args.0.1) _ parsed node.2 in
    making-fits reading (C.Delay node.0 frames.0) args.0.0 (K.Delay frames.0) parsed node.0 node.1 frames.2
    (number-within 0 delay_limit frames.0 args.0.1 frames.1).1 refl (omega arith) (λ ks. tt) refl

map-fits : (reading : Reading) (words : List (List ℕ)) (parsed : ParsedLine) → nodes.map_of reading words ≡ Ok parsed → IsFit reading parsed
map-fits reading words parsed e =
    let new = from_bind (nodes.node_and_channels reading words) _ parsed e in
    let args = from_bind (three_args words) _ new.0 new.1 in
    let node = from_bind (new_arg reading args.0.0) _ new.0 args.2 in
    let channels = from_bind (number_arg 1 channels_limit args.0.1) _ new.0 node.2 in
    let list = from_bind (list_arg new.0.2 new.0.3) _ parsed new.2 in
    let same : (node.0, args.0.0, channels.0, args.0.2) ≡ new.0 = cc (channels.2) in
    let is_new : new_arg reading new.0.1 ≡ Ok new.0.0 =
    subst (λ (n : ℕ × List ℕ × ℕ × List ℕ). new_arg reading n.1 ≡ Ok n.0) same node.1 in
    let within : (1 ≤ new.0.2) × (new.0.2 ≤ channels_limit) =
    subst (λ (n : ℕ × List ℕ × ℕ × List ℕ). (1 ≤ n.2) × (n.2 ≤ channels_limit)) same
    (number-within 1 channels_limit channels.0 args.0.1 channels.1) in
    let listed = list-within new.0.2 list.0 new.0.3 within.0 list.1 in
    making-fits reading (C.Map new.0.0 new.0.2 list.0) new.0.1 (K.Map new.0.2 list.0) parsed new.0.0 is_new list.2
    (within, listed.0, listed.1) refl (omega arith) (λ ks. tt) refl

split-fits : (reading : Reading) (words : List (List ℕ)) (parsed : ParsedLine) → nodes.split_of reading words ≡ Ok parsed → IsFit reading parsed
split-fits reading words parsed e =
    let name = from_bind (one_arg words) _ parsed e in
    let node = from_bind (new_arg reading name.0) _ parsed name.2 in
    making-fits reading (C.Split node.0) name.0 K.Split parsed node.0 node.1 node.2 tt refl (omega arith) (λ ks. tt) refl

meter-fits : (reading : Reading) (words : List (List ℕ)) (parsed : ParsedLine) → nodes.meter_of reading words ≡ Ok parsed → IsFit reading parsed
meter-fits reading words parsed e =
    let name = from_bind (one_arg words) _ parsed e in
    let node = from_bind (new_arg reading name.0) _ parsed name.2 in
    making-fits reading (C.Meter node.0) name.0 K.Meter parsed node.0 node.1 node.2 tt refl (omega arith) (λ ks. tt) refl

-- each command for a port or a link
offer-fits : (reading : Reading) (words : List (List ℕ)) (parsed : ParsedLine) → ports.offer_of reading words ≡ Ok parsed → IsFit reading parsed
offer-fits reading words parsed e =
    let offer = from_bind (ports.port_and_file reading words) _ parsed e in
    let args = from_bind (three_args words) _ offer.0 offer.1 in
    let port = from_bind (port_arg reading args.0.0 args.0.1) _ offer.0 args.2 in
    let file = from_bind (file_arg args.0.2) _ offer.0 port.2 in
    let late = from_refusal (is_linked reading port.0.node) W.OfferLate _ offer.0 file.2 in
    let same : (port.0, file.0) ≡ offer.0 = cc (late.1) in
    let is_port = port_arg-IsPortOf reading args.0.0 args.0.1 port.0 port.1 in
    let there : IsPortOf port_called reading offer.0.0 =
    subst (λ (o : PortId × List ℕ). IsPortOf port_called reading o.0) same is_port in
    saying-fits reading (C.Offer offer.0.0 offer.0.1) parsed offer.2 tt (omega (arith, there.there)) refl
    (port-found (kind_at reading offer.0.0.node) there.name offer.0.0.port there.found) (λ yes. cc)

buffers-fits : (reading : Reading) (words : List (List ℕ)) (parsed : ParsedLine) → ports.buffers_of reading words ≡ Ok parsed → IsFit reading parsed
buffers-fits reading words parsed e =
    let args = from_bind (three_args words) _ parsed e in
    let port = from_bind (port_arg reading args.0.0 args.0.1) _ parsed args.2 in
    let n = from_bind (number_arg 1 buffers_limit args.0.2) _ parsed port.2 in
    let there = port_arg-IsPortOf reading args.0.0 args.0.1 port.0 port.1 in
    saying-fits reading (C.Buffers port.0 n.0) parsed n.2 (number-within 1 buffers_limit n.0 args.0.2 n.1) (omega (arith, there.there)) refl
    (port-found (kind_at reading port.0.node) there.name port.0.port there.found) (λ yes. cc)

-- the ends of a link are ports that are there
pub record AreEnds (reading : Reading) (ends : PortId × PortId) : Type 0 where
  pub from : IsPortOf output_called reading ends.0
  pub to : IsPortOf input_called reading ends.1

ends_of-AreEnds : (reading : Reading) (words : List (List ℕ)) (ends : PortId × PortId) → ports.ends_of reading words ≡ Ok ends
    → AreEnds reading ends
ends_of-AreEnds reading words ends e =
    let args = from_bind (two_args words) _ ends e in
    let from = from_bind (endpoint_arg output_called reading args.0.0) _ ends args.2 in
    let to = from_bind (endpoint_arg input_called reading args.0.1) _ ends from.2 in
    let same : (from.0, to.0) ≡ ends = cc (to.2) in
    subst (AreEnds reading) same (record {
      from = endpoint_arg-IsPortOf output_called reading args.0.0 from.0 from.1;
      to = endpoint_arg-IsPortOf input_called reading args.0.1 to.0 to.1;
    })

link-fits : (reading : Reading) (words : List (List ℕ)) (parsed : ParsedLine) → ports.link_of reading words ≡ Ok parsed → IsFit reading parsed
link-fits reading words parsed e =
    let ends = from_bind (ports.ends_of reading words) _ parsed e in
    let are = ends_of-AreEnds reading words ends.0 ends.1 in
    saying-fits reading (C.Link ends.0.0 ends.0.1) parsed ends.2 tt
    (omega (arith, are.from.there), omega (arith, are.to.there)) refl (
      output-found (kind_at reading ends.0.0.node) are.from.name ends.0.0.port are.from.found,
      input-found (kind_at reading ends.0.1.node) are.to.name ends.0.1.port are.to.found,
    ) (λ yes. cc)

unlink-fits : (reading : Reading) (words : List (List ℕ)) (parsed : ParsedLine) → ports.unlink_of reading words ≡ Ok parsed → IsFit reading parsed
unlink-fits reading words parsed e =
    let ends = from_bind (ports.ends_of reading words) _ parsed e in
    let are = ends_of-AreEnds reading words ends.0 ends.1 in
    saying-fits reading (C.Unlink ends.0.0 ends.0.1) parsed ends.2 tt
    (omega (arith, are.from.there), omega (arith, are.to.there)) refl (
      output-found (kind_at reading ends.0.0.node) are.from.name ends.0.0.port are.from.found,
      input-found (kind_at reading ends.0.1.node) are.to.name ends.0.1.port are.to.found,
    ) (λ yes. cc)

-- each other command
pub first_only-saying : (lines : List Line) (command : Command) (parsed : ParsedLine) → graph.first_only lines command ≡ Ok parsed
    → saying command ≡ Ok parsed
first_only-saying [] command parsed e = e
first_only-saying (line ∷ lines) command parsed e = cc

quantum-fits : (reading : Reading) (words : List (List ℕ)) (parsed : ParsedLine) → graph.quantum_of reading words ≡ Ok parsed → IsFit reading parsed
quantum-fits reading words parsed e =
    let word = from_bind (one_arg words) _ parsed e in
    let n = from_bind (number_arg 1 quantum_limit word.0) _ parsed word.2 in
    saying-fits reading (C.Quantum n.0) parsed (first_only-saying reading.script.lines (C.Quantum n.0) parsed n.2)
    (number-within 1 quantum_limit n.0 word.0 n.1) tt refl tt (λ yes. cc)

driver-fits : (reading : Reading) (words : List (List ℕ)) (parsed : ParsedLine) → graph.driver_of reading words ≡ Ok parsed → IsFit reading parsed
driver-fits reading words parsed e =
    let args = from_bind (two_args words) _ parsed e in
    let node = from_bind (node_arg reading args.0.0) _ parsed args.2 in
    let priority = from_bind (number_arg 0 priority_limit args.0.1) _ parsed node.2 in
    let may = from_test (may_drive (kind_at reading node.0)) W.NotDriverKind (saying (C.Driver node.0 priority.0)) parsed priority.2 in
    saying-fits reading (C.Driver node.0 priority.0) parsed may.1
    (number-within 0 priority_limit priority.0 args.0.1 priority.1).1 (node_arg-there reading args.0.0 node.0 node.1) refl tt (λ yes. cc)

loop-fits : (reading : Reading) (words : List (List ℕ)) (parsed : ParsedLine) → graph.loop_of reading words ≡ Ok parsed → IsFit reading parsed
loop-fits reading words parsed e =
    let args = from_bind (two_args words) _ parsed e in
    let node = from_bind (node_arg reading args.0.0) _ parsed args.2 in
    let k = from_bind (number_arg 0 loop_limit args.0.1) _ parsed node.2 in
    saying-fits reading (C.Loop node.0 k.0) parsed k.2
    (number-within 0 loop_limit k.0 args.0.1 k.1).1 (node_arg-there reading args.0.0 node.0 node.1) refl tt (λ yes. cc)

node_of-there : (reading : Reading) (words : List (List ℕ)) (node : ℕ) → graph.node_of reading words ≡ Ok node
    → node < length reading.script.names
node_of-there reading words node e =
    let name = from_bind (one_arg words) _ node e in
    node_arg-there reading name.0 node name.2

on-fits : (reading : Reading) (words : List (List ℕ)) (parsed : ParsedLine) → graph.on_of reading words ≡ Ok parsed → IsFit reading parsed
on-fits reading words parsed e =
    let node = from_bind (graph.node_of reading words) _ parsed e in
    saying-fits reading (C.On node.0) parsed node.2 tt (node_of-there reading words node.0 node.1) refl tt (λ yes. cc)

off-fits : (reading : Reading) (words : List (List ℕ)) (parsed : ParsedLine) → graph.off_of reading words ≡ Ok parsed → IsFit reading parsed
off-fits reading words parsed e =
    let node = from_bind (graph.node_of reading words) _ parsed e in
    saying-fits reading (C.Off node.0) parsed node.2 tt (node_of-there reading words node.0 node.1) refl tt (λ yes. cc)

async-fits : (reading : Reading) (words : List (List ℕ)) (parsed : ParsedLine) → graph.async_of reading words ≡ Ok parsed → IsFit reading parsed
async-fits reading words parsed e =
    let node = from_bind (graph.node_of reading words) _ parsed e in
    let late = from_refusal (is_linked reading node.0) W.AsyncLate (saying (C.Async node.0)) parsed node.2 in
    saying-fits reading (C.Async node.0) parsed late.1 tt (node_of-there reading words node.0 node.1) refl tt (λ yes. cc)

cycles-fits : (reading : Reading) (words : List (List ℕ)) (parsed : ParsedLine) → graph.cycles_of reading words ≡ Ok parsed → IsFit reading parsed
cycles-fits reading words parsed e =
    let word = from_bind (one_arg words) _ parsed e in
    let n = from_bind (number_arg 1 cycles_limit word.0) _ parsed word.2 in
    making_epoch-fits reading (C.Cycles n.0) parsed n.2 (number-within 1 cycles_limit n.0 word.0 n.1) tt refl tt

drain-fits : (reading : Reading) (words : List (List ℕ)) (parsed : ParsedLine) → graph.drain_of reading words ≡ Ok parsed → IsFit reading parsed
drain-fits reading words parsed e =
    let none = from_bind (no_args words) _ parsed e in
    making_epoch-fits reading C.Drain parsed none.2 tt tt refl tt

meaning_of_command-fits : (reading : Reading) (name : Name) (words : List (List ℕ)) (parsed : ParsedLine)
    → meaning_of_command reading name words ≡ Ok parsed → IsFit reading parsed
unfolding meaning_of_command
meaning_of_command-fits reading N.Quantum words parsed e = quantum-fits reading words parsed e
meaning_of_command-fits reading N.Source words parsed e = source-fits reading words parsed e
meaning_of_command-fits reading N.Square words parsed e = square-fits reading words parsed e
meaning_of_command-fits reading N.Gain words parsed e = gain-fits reading words parsed e
meaning_of_command-fits reading N.Mix2 words parsed e = mix2-fits reading words parsed e
meaning_of_command-fits reading N.Delay words parsed e = delay-fits reading words parsed e
meaning_of_command-fits reading N.Map words parsed e = map-fits reading words parsed e
meaning_of_command-fits reading N.Split words parsed e = split-fits reading words parsed e
meaning_of_command-fits reading N.Sink words parsed e = sink-fits reading words parsed e
meaning_of_command-fits reading N.Meter words parsed e = meter-fits reading words parsed e
meaning_of_command-fits reading N.Driver words parsed e = driver-fits reading words parsed e
meaning_of_command-fits reading N.Loop words parsed e = loop-fits reading words parsed e
meaning_of_command-fits reading N.Offer words parsed e = offer-fits reading words parsed e
meaning_of_command-fits reading N.Buffers words parsed e = buffers-fits reading words parsed e
meaning_of_command-fits reading N.Link words parsed e = link-fits reading words parsed e
meaning_of_command-fits reading N.Unlink words parsed e = unlink-fits reading words parsed e
meaning_of_command-fits reading N.On words parsed e = on-fits reading words parsed e
meaning_of_command-fits reading N.Off words parsed e = off-fits reading words parsed e
meaning_of_command-fits reading N.Async words parsed e = async-fits reading words parsed e
meaning_of_command-fits reading N.Cycles words parsed e = cycles-fits reading words parsed e
meaning_of_command-fits reading N.Drain words parsed e = drain-fits reading words parsed e

pub meaning_of_words-fits : (reading : Reading) (words : List (List ℕ)) (parsed : ParsedLine) → meaning_of_words reading words ≡ Ok parsed
    → IsFit reading parsed
meaning_of_words-fits reading [] parsed e = cc
meaning_of_words-fits reading (name ∷ words) parsed e =
    let command = from_bind (ok_or (name_called name) W.Command) _ parsed e in
    meaning_of_command-fits reading command.0 words parsed command.2
