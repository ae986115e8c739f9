-- The written forms of the values that hold others. Source: SPA POD, "Types"; spa/pod/pod.h.
-- Numbers are little-endian.
use Rattle.std.specs.Prelude.{ℕ, suc, List, ◌++◌}
use Rattle.std.specs.List.{flat_map, list_all}
use Rattle.pod_codec.specs.Framing.{Form, Keyed, u32_bytes, framed, keyed_bytes, deepest, deepest_keyed, child_bytes}
use Rattle.pod_codec.specs.Framing.{are_children}

abbrev pub array_form : ℕ → List Form → Form
array_form child values = record {
  number = 13;
  body = child_bytes child values;
  depth = 1;
  sound = are_children child values;
}

abbrev pub struct_form : List Form → Form
struct_form fields = record {
  number = 14;
  body = flat_map framed fields;
  depth = suc (deepest fields);
  sound = list_all (λ f. f.sound) fields;
}

abbrev pub object_form : ℕ → ℕ → List Keyed → Form
object_form object id props = record {
  number = 15;
  body = (u32_bytes object ++ u32_bytes id) ++ flat_map keyed_bytes props;
  depth = suc (deepest_keyed props);
  sound = list_all (λ k. k.value.sound) props;
}

abbrev pub choice_form : ℕ → ℕ → ℕ → List Form → Form
choice_form kind flags child values = record {
  number = 19;
  body = (u32_bytes kind ++ u32_bytes flags) ++ child_bytes child values;
  depth = 1;
  sound = are_children child values;
}

abbrev pub sequence_form : ℕ → List Keyed → Form
sequence_form unit controls = record {
  number = 16;
  body = (u32_bytes unit ++ u32_bytes 0) ++ flat_map keyed_bytes controls;
  depth = suc (deepest_keyed controls);
  sound = list_all (λ k. k.value.sound) controls;
}
