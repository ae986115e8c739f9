-- The commands for ports and links, each by its arguments and what earlier lines forbid. Source:
-- the range of the number is this project's own.
use Rattle.std.specs.Prelude.{ℕ, List, Ok, Err, if◌then◌else◌}
use Rattle.pw_graph.specs.declared.ids.PortId.{PortId}
use Rattle.pw_lists.specs.Limits.{buffers_limit}
use Rattle.graph_script.specs.declared.fault.ScriptWhy.TheVariants as W
use Rattle.graph_script.specs.declared.command.Command.TheVariants as C
use Rattle.graph_script.specs.declared.reading.ParsedLine.{ParsedLine}
use Rattle.graph_script.specs.declared.reading.Reading.{Reading}
use Rattle.graph_script.specs.Checked.{Checked, ◌>>=◌, two_args, three_args, number_arg, file_arg}
use Rattle.graph_script.specs.Nodes.{port_arg, output_called, input_called, endpoint_arg}
use Rattle.graph_script.specs.Earlier.{is_linked, saying}

-- a port and a file: an offer is before the links of its node
abbrev pub port_and_file : Reading → List (List ℕ) → Checked (PortId × List ℕ)
port_and_file reading words = do
  args ← three_args words
  port ← port_arg reading args.0 args.1
  file ← file_arg args.2
  if is_linked reading port.node then Err W.OfferLate else Ok (port, file)

abbrev pub offer_of : Reading → List (List ℕ) → Checked ParsedLine
offer_of reading words = do
  offer ← port_and_file reading words
  saying (C.Offer offer.0 offer.1)

abbrev pub buffers_of : Reading → List (List ℕ) → Checked ParsedLine
buffers_of reading words = do
  args ← three_args words
  port ← port_arg reading args.0 args.1
  n ← number_arg 1 buffers_limit args.2
  saying (C.Buffers port n)

-- an output and an input
abbrev pub ends_of : Reading → List (List ℕ) → Checked (PortId × PortId)
ends_of reading words = do
  args ← two_args words
  from ← endpoint_arg output_called reading args.0
  to ← endpoint_arg input_called reading args.1
  Ok (from, to)

abbrev pub link_of : Reading → List (List ℕ) → Checked ParsedLine
link_of reading words = do
  ends ← ends_of reading words
  saying (C.Link ends.0 ends.1)

abbrev pub unlink_of : Reading → List (List ℕ) → Checked ParsedLine
unlink_of reading words = do
  ends ← ends_of reading words
  saying (C.Unlink ends.0 ends.1)
