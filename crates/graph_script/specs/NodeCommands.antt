-- The commands that make a node, each by its arguments. Source: the ranges of the numbers are this
-- project's own.
use Rattle.std.specs.Prelude.{ℕ, List, Ok, pos}
use Rattle.pw_lists.specs.Limits.{rate_limit, channels_limit}
use Rattle.pw_graph.specs.declared.kind.Kind.TheVariants as K
use Rattle.graph_script.specs.declared.command.Command.TheVariants as C
use Rattle.graph_script.specs.declared.reading.ParsedLine.{ParsedLine}
use Rattle.graph_script.specs.declared.reading.Reading.{Reading}
use Rattle.graph_script.specs.Limits.{period_limit, amp_limit, gain_limit, delay_limit}
use Rattle.graph_script.specs.Checked.{Checked, ◌>>=◌, one_arg, two_args, three_args, five_args, number_arg, integer_arg, list_arg}
use Rattle.graph_script.specs.Nodes.{new_arg}
use Rattle.graph_script.specs.Earlier.{making}

abbrev pub square_of : Reading → List (List ℕ) → Checked ParsedLine
square_of reading words = do
  args ← five_args words
  node ← new_arg reading args.0
  rate ← number_arg 1 rate_limit args.1
  channels ← number_arg 1 channels_limit args.2
  period ← number_arg 1 period_limit args.3
  amp ← number_arg 0 amp_limit args.4
  making reading (C.Square node rate channels period (pos amp)) args.0
      (K.Square rate channels period (pos amp))

abbrev pub gain_of : Reading → List (List ℕ) → Checked ParsedLine
gain_of reading words = do
  args ← two_args words
  node ← new_arg reading args.0
  g ← integer_arg gain_limit args.1
  making reading (C.Gain node g) args.0 (K.Gain g)

abbrev pub mix2_of : Reading → List (List ℕ) → Checked ParsedLine
mix2_of reading words = do
  args ← three_args words
  node ← new_arg reading args.0
  ga ← integer_arg gain_limit args.1
  gb ← integer_arg gain_limit args.2
  making reading (C.Mix2 node ga gb) args.0 (K.Mix2 ga gb)

abbrev pub delay_of : Reading → List (List ℕ) → Checked ParsedLine
delay_of reading words = do
  args ← two_args words
  node ← new_arg reading args.0
  frames ← number_arg 0 delay_limit args.1
  making reading (C.Delay node frames) args.0 (K.Delay frames)

-- a new map before its list: its number, its name, the channels and the word of the list
abbrev pub node_and_channels : Reading → List (List ℕ)
    → Checked (ℕ × List ℕ × ℕ × List ℕ)
node_and_channels reading words = do
  args ← three_args words
  node ← new_arg reading args.0
  channels ← number_arg 1 channels_limit args.1
  Ok (node, args.0, channels, args.2)

abbrev pub map_of : Reading → List (List ℕ) → Checked ParsedLine
map_of reading words = do
  new ← node_and_channels reading words
  list ← list_arg new.2 new.3
  making reading (C.Map new.0 new.2 list) new.1 (K.Map new.2 list)

abbrev pub split_of : Reading → List (List ℕ) → Checked ParsedLine
split_of reading words = do
  name ← one_arg words
  node ← new_arg reading name
  making reading (C.Split node) name K.Split

abbrev pub meter_of : Reading → List (List ℕ) → Checked ParsedLine
meter_of reading words = do
  name ← one_arg words
  node ← new_arg reading name
  making reading (C.Meter node) name K.Meter
