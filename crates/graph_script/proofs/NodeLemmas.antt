-- Laws of `specs/Nodes.antt`: nodes and ports that are named are there, and a new name is nobody's.
use Rattle.std.proofs.Common.{◌≡◌, ◌≢◌, ℕ, zero, suc, ◌+◌, ◌<◌, ◌≤◌, Bool, true, false, cond, not, List, [], ◌∷◌, ◌++◌, length, get_or}
use Rattle.std.proofs.Common.{refl, sym, subst, arith, length-append}
use Rattle.std.specs.Prelude.{Option, Some, None, is_some, ok_or, Ok, IsTrue, bytes_eq, position, nat_lt, codes}
use Rattle.std.specs.List.{position_or_len}
use Rattle.std.proofs.lemmas.Bool.{iff_false, ltb-false}
use Rattle.std.proofs.lemmas.List.Quantifiers.{position-Some}
use Rattle.std.proofs.lemmas.Slice.Eq.{bytes_eq-Decides}
use Rattle.pw_graph.specs.declared.ids.PortId.{PortId}
use Rattle.pw_graph.specs.declared.kind.Kind.{Kind}
use Rattle.pw_graph.specs.KindPorts.{input_names, output_names, input_count, port_count}
use Rattle.graph_script.specs.declared.fault.ScriptWhy.TheVariants as W
use Rattle.graph_script.specs.declared.reading.Reading.{Reading}
use Rattle.graph_script.specs.Arguments.{is_node_name, endpoint_parts}
use Rattle.graph_script.specs.Nodes.{node_called, kind_at, is_taken, new_arg, node_arg, port_called, output_called, input_called, port_arg}
use Rattle.graph_script.specs.Nodes.{endpoint_arg}
use Rattle.graph_script.proofs.CheckedLemmas.{from_bind, from_some, from_refusal, from_map, is_none, or_parts}

different : (xs ys : List ℕ) → bytes_eq xs ys ≡ false → xs ≢ ys
different xs ys e = iff_false (bytes_eq-Decides xs ys) e

not-false-true : (b : Bool) → not b ≡ false → b ≡ true
not-false-true true e = refl
not-false-true false e = cc

-- where no place passes, each fails
missed : {X : Type 0} (p : X → Bool) (xs : List X) (k : ℕ) (d : X) → length xs ≤ position_or_len p xs → k < length xs
    → p (get_or xs k d) ≡ false
missed p [] k d all lt = absurd (omega arith)
missed p (x ∷ xs) k d all lt = at (p x) refl (λ m h below. missed p xs m d h below) all k lt
  where
    at : (b : Bool) → p x ≡ b
        → ((m : ℕ) → length xs ≤ position_or_len p xs → m < length xs → p (get_or xs m d) ≡ false)
        → length (x ∷ xs) ≤ cond (not b) (1 + position_or_len p xs) 0 → (k : ℕ) → k < length (x ∷ xs)
        → p (get_or (x ∷ xs) k d) ≡ false
    at true is rest all k lt = absurd (omega arith)
    at false is rest all zero lt = is
    at false is rest all (suc k) lt = rest k (omega arith) (omega arith)

position-None : {X : Type 0} (p : X → Bool) (xs : List X) → position p xs ≡ None → length xs ≤ position_or_len p xs
position-None p xs = at (nat_lt (position_or_len p xs) (length xs)) refl
  where
    at : (b : Bool) → nat_lt (position_or_len p xs) (length xs) ≡ b → cond b (Some (position_or_len p xs)) None ≡ None
        → length xs ≤ position_or_len p xs
    at true is e = cc
    at false is e = ltb-false _ _ is

-- a new node's name is well formed, and neither the built-in driver's nor another node's; it has the next number
pub record IsNew (reading : Reading) (name : List ℕ) (node : ℕ) : Type 0 where
  pub form : IsTrue (is_node_name name)
  pub other : name ≢ codes "dummy"
  pub alone : (k : ℕ) (d : List ℕ) → k < length reading.script.names → get_or reading.script.names k d ≢ name
  pub number : node ≡ length reading.script.names

pub new_arg-IsNew : (reading : Reading) (name : List ℕ) (node : ℕ) → new_arg reading name ≡ Ok node → IsNew reading name node
new_arg-IsNew reading name node e =
    let form = from_refusal (not (is_node_name name)) W.NameForm _ node e in
    let free = from_refusal (is_taken reading name) W.NameTaken _ node form.1 in
    let parts = or_parts (bytes_eq name (codes "dummy")) (is_some (node_called reading name)) free.0 in
    let none = position-None (bytes_eq name) reading.script.names (is_none (node_called reading name) parts.1) in
    record {
      form = not-false-true (is_node_name name) form.0;
      other = different name (codes "dummy") parts.0;
      alone = λ k d lt same. different name (get_or reading.script.names k d)
          (missed (bytes_eq name) reading.script.names k d none lt) (sym same);
      number = cc (free.1);
    }

pub node_arg-there : (reading : Reading) (name : List ℕ) (node : ℕ) → node_arg reading name ≡ Ok node → node < length reading.script.names
node_arg-there reading name node e =
    let form = from_refusal (not (is_node_name name)) W.NameForm _ node e in
    let found = from_some (node_called reading name) W.NameUnknown node form.1 in
    (position-Some (bytes_eq name) reading.script.names node [] found).0

-- a port's node is there, and the port was looked up in the node's kind
pub record IsPortOf (called : Kind → List ℕ → Option ℕ) (reading : Reading) (port : PortId) : Type 0 where
  pub there : port.node < length reading.script.names
  pub name : List ℕ
  pub found : called (kind_at reading port.node) name ≡ Some port.port

pub endpoint_arg-IsPortOf : (called : Kind → List ℕ → Option ℕ) (reading : Reading) (word : List ℕ) (port : PortId)
    → endpoint_arg called reading word ≡ Ok port → IsPortOf called reading port
endpoint_arg-IsPortOf called reading word port e =
    let parts = from_bind (ok_or (endpoint_parts word) W.NameForm) _ port e in
    let node = from_bind (node_arg reading parts.0.0) _ port parts.2 in
    let place = from_bind (ok_or (called (kind_at reading node.0) parts.0.1) W.PortUnknown) _ port node.2 in
    let same : record { node = node.0; port = place.0 } ≡ port = cc in
    subst (IsPortOf called reading) same (record {
      there = node_arg-there reading parts.0.0 node.0 node.1;
      name = parts.0.1;
      found = from_some (called (kind_at reading node.0) parts.0.1) W.PortUnknown place.0 place.1;
    })

pub port_arg-IsPortOf : (reading : Reading) (name port_name : List ℕ) (port : PortId) → port_arg reading name port_name ≡ Ok port
    → IsPortOf port_called reading port
port_arg-IsPortOf reading name port_name port e =
    let node = from_bind (node_arg reading name) _ port e in
    let place = from_bind (ok_or (port_called (kind_at reading node.0) port_name) W.PortUnknown) _ port node.2 in
    let same : record { node = node.0; port = place.0 } ≡ port = cc in
    subst (IsPortOf port_called reading) same (record {
      there = node_arg-there reading name node.0 node.1;
      name = port_name;
      found = from_some (port_called (kind_at reading node.0) port_name) W.PortUnknown place.0 place.1;
    })

pub output-found : (kind : Kind) (name : List ℕ) (port : ℕ) → output_called kind name ≡ Some port → (input_count kind ≤ port)
    × (port < port_count kind)
output-found kind name port e =
    let place = from_map (λ place. input_count kind + place) (position (bytes_eq name) (output_names kind)) port e in
    let within = position-Some (bytes_eq name) (output_names kind) place.0 [] place.1 in
    (omega (arith, place.2), omega (arith, place.2, within.0))

pub input-found : (kind : Kind) (name : List ℕ) (port : ℕ) → input_called kind name ≡ Some port → port < input_count kind
input-found kind name port e = (position-Some (bytes_eq name) (input_names kind) port [] e).0

pub port-found : (kind : Kind) (name : List ℕ) (port : ℕ) → port_called kind name ≡ Some port → port < port_count kind
port-found kind name port e =
    let within = position-Some (bytes_eq name) (input_names kind ++ output_names kind) port [] e in
    omega (arith, within.0, length-append (input_names kind) (output_names kind))
