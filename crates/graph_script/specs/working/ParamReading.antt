-- What a word is read as by its parameter: by the grammar's own reading of an argument, where the
-- parameter has the form of it. Source: this project's own.
use Rattle.std.specs.Prelude.{ℕ, List, Err, ℤ, slice_index_or}
use Rattle.pw_graph.specs.declared.ids.PortId.{PortId}
use Rattle.graph_script.specs.declared.fault.ScriptWhy.TheVariants as W
use Rattle.graph_script.specs.declared.name.Name.{Name}
use Rattle.graph_script.specs.declared.param.Label.TheVariants as L
use Rattle.graph_script.specs.declared.param.Form.{Form}
use Rattle.graph_script.specs.declared.param.Form.TheVariants as F
use Rattle.graph_script.specs.declared.reading.Reading.{Reading}
use Rattle.graph_script.specs.Checked.{Checked, number_arg, integer_arg, list_arg, file_arg}
use Rattle.graph_script.specs.Nodes.{new_arg, node_arg, port_arg, output_called, input_called, endpoint_arg}
use Rattle.graph_script.specs.Table.{param, params_of}

-- the form of the parameter at a place of a command
abbrev pub form_at : Name → ℕ → Form
form_at name place = (slice_index_or (params_of name) place (param L.Name F.New)).form

-- a name, a number, a gain, a list of channels, a file
abbrev pub name_by : Form → Reading → List ℕ → Checked ℕ
name_by F.New reading word = new_arg reading word
name_by F.Node reading word = node_arg reading word
name_by _ reading word = Err W.NameForm

abbrev pub number_by : Form → List ℕ → Checked ℕ
number_by (F.Number low high counted) word = number_arg low high word
number_by _ word = Err W.Number

abbrev pub gain_by : Form → List ℕ → Checked ℤ
gain_by (F.Gain high) word = integer_arg high word
gain_by _ word = Err W.Number

abbrev pub list_by : Form → ℕ → List ℕ → Checked (List ℕ)
list_by F.Channels channels word = list_arg channels word
list_by _ channels word = Err W.Number

abbrev pub file_by : Form → List ℕ → Checked (List ℕ)
file_by F.File word = file_arg word
file_by _ word = Err W.NameForm

-- a port, by the words of a node and of the port, and an end of a link
abbrev pub port_by : Form → Form → Reading → List ℕ → List ℕ → Checked PortId
port_by F.Node F.Port reading name port = port_arg reading name port
port_by _ _ reading name port = Err W.PortUnknown

abbrev pub end_by : Form → Reading → List ℕ → Checked PortId
end_by F.Output reading word = endpoint_arg output_called reading word
end_by F.Input reading word = endpoint_arg input_called reading word
end_by _ reading word = Err W.NameForm
