-- Ports of a kind: numbered within the node from 0, inputs first. Source: this project's own.
use Rattle.std.specs.Prelude.{ℕ, ◌+◌, List, [], ◌∷◌, ◌++◌, length, codes, slice_index_or}
use Rattle.pw_graph.specs.declared.kind.Kind.{Kind}
use Rattle.pw_graph.specs.declared.kind.Kind.TheVariants.{Source, Square, Gain, Mix2, Delay, Map, Split, Sink, Meter, Dummy}

abbrev pub input_names : Kind → List (List ℕ)
input_names Source = []
input_names (Square rate channels period amp) = []
input_names (Gain g) = codes "in" ∷ []
input_names (Mix2 ga gb) = codes "a" ∷ codes "b" ∷ []
input_names (Delay frames) = codes "in" ∷ []
input_names (Map channels list) = codes "in" ∷ []
input_names Split = codes "in" ∷ []
input_names Sink = codes "in" ∷ []
input_names Meter = codes "in" ∷ []
input_names Dummy = []

abbrev pub output_names : Kind → List (List ℕ)
output_names Source = codes "out" ∷ []
output_names (Square rate channels period amp) = codes "out" ∷ []
output_names (Gain g) = codes "out" ∷ []
output_names (Mix2 ga gb) = codes "out" ∷ []
output_names (Delay frames) = codes "out" ∷ []
output_names (Map channels list) = codes "out" ∷ []
output_names Split = codes "left" ∷ codes "right" ∷ []
output_names Sink = []
output_names Meter = []
output_names Dummy = []

abbrev pub input_count : Kind → ℕ
input_count kind = length (input_names kind)

abbrev pub output_count : Kind → ℕ
output_count kind = length (output_names kind)

abbrev pub port_count : Kind → ℕ
port_count kind = input_count kind + output_count kind

abbrev pub port_name : Kind → ℕ → List ℕ
port_name kind port = slice_index_or (input_names kind ++ output_names kind) port []
