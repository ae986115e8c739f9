-- What is wrong with the port of a node, by its kind, which is the command that makes it. The names
-- of ports are this project's; PipeWire links an output to an input. Source: this project's own.
use Rattle.std.specs.Prelude.{ℕ, ◌&&◌, ◌||◌, not, Bool, if◌then◌else◌, List, [], ◌++◌, codes, bytes_eq}
use Rattle.fault_messages.specs.NameRules.{end_name, end_port}
use Rattle.fault_messages.specs.Places.{quoted}

-- a kind without outputs, and one without inputs
abbrev pub is_last : List ℕ → Bool
is_last kind = bytes_eq kind (codes "sink") || bytes_eq kind (codes "meter")

abbrev pub is_first : List ℕ → Bool
is_first kind = bytes_eq kind (codes "source") || bytes_eq kind (codes "square")

-- whether a kind has an output of this name
abbrev pub has_output : List ℕ → List ℕ → Bool
has_output kind port =
    if bytes_eq kind (codes "split")
    then bytes_eq port (codes "left") || bytes_eq port (codes "right")
    else bytes_eq port (codes "out") && not (is_last kind)

abbrev pub is_input_name : List ℕ → Bool
is_input_name port = bytes_eq port (codes "in")
    || (bytes_eq port (codes "a") || bytes_eq port (codes "b"))

-- the outputs of a kind, its inputs, and all its ports
unfoldable pub outputs_of : List ℕ → List ℕ
outputs_of kind =
    if bytes_eq kind (codes "split") then codes ", whose outputs are left and right"
    else (if is_last kind then codes ", which has none" else codes ", whose output is out")

unfoldable pub inputs_of : List ℕ → List ℕ
inputs_of kind =
    if bytes_eq kind (codes "mix2") then codes ", whose inputs are a and b"
    else (if is_first kind then codes ", which has none" else codes ", whose input is in")

unfoldable pub ports_of : List ℕ → List ℕ
ports_of kind =
    if bytes_eq kind (codes "split") then codes ", whose ports are in, left and right"
    else (if bytes_eq kind (codes "mix2") then codes ", whose ports are a, b and out"
    else (if is_first kind then codes ", whose port is out"
    else (if is_last kind then codes ", whose port is in"
    else codes ", whose ports are in and out")))

-- an end with no such port: the node's name, its kind, and the ports that it has
unfoldable pub end_said : List ℕ → List ℕ → List ℕ → List ℕ → List ℕ
end_said w what kind ports =
    quoted w ++ (what ++ (quoted (end_name w) ++ (codes " is a " ++ (kind ++ ports))))

-- of an input where an output is wanted: each end may be in the other's place
unfoldable pub way_part : List ℕ → List ℕ
way_part port =
    if is_input_name port then codes "; a link goes from an output to an input" else []

-- what is wrong, where no line that makes the node is at hand
abbrev pub no_such : List ℕ
no_such = codes "the node has no such port"

unfoldable pub no_output : List ℕ → List ℕ → List ℕ
no_output w kind =
    if bytes_eq kind [] then no_such
    else end_said w (codes " is no output: ") kind (outputs_of kind) ++ way_part (end_port w)

unfoldable pub no_input : List ℕ → List ℕ → List ℕ
no_input w kind =
    if bytes_eq kind [] then no_such
    else end_said w (codes " is no input: ") kind (inputs_of kind)

-- THE END at fault, of two with their kinds: the first is looked at first
unfoldable pub ends_said : List ℕ → List ℕ → List ℕ → List ℕ → List ℕ
ends_said from from_kind to to_kind =
    if has_output from_kind (end_port from) then no_input to to_kind else no_output from from_kind

unfoldable pub port_line : List ℕ → List ℕ → List ℕ → List ℕ → List ℕ
port_line name kind port ports = quoted name ++ (codes " has no port " ++ (quoted port
    ++ (codes ": it is a " ++ (kind ++ ports))))

-- THE PORT at fault, of a node with its kind
unfoldable pub port_said : List ℕ → List ℕ → List ℕ → List ℕ
port_said name kind port =
    if bytes_eq kind [] then no_such else port_line name kind port (ports_of kind)
