-- How the two objects of a filter clash, in words. Source: this project's own.
use Rattle.std.specs.Prelude.{ℕ, Bool, true, false, List, ◌++◌, codes, decimal, None}
use Rattle.run_results.specs.declared.clash.Clash.{Clash}
use Rattle.run_results.specs.declared.clash.Clash.TheVariants as C
use Rattle.fault_messages.specs.KeyNames.{key_name, clash_said, named_key}

-- both have a key: of two formats, or of other objects, whose keys have no names
abbrev pub values_said : Bool → ℕ → List ℕ
values_said true key = clash_said key
values_said false key = codes "no common value under key " ++ decimal key

-- a key that one of them lacks
abbrev pub lacked_key : Bool → ℕ → List ℕ
lacked_key true key = named_key (key_name key) key
lacked_key false key = named_key None key

-- HOW THEY CLASH
abbrev pub clash_text : Clash → List ℕ
clash_text C.Types = codes "objects of different types"
clash_text (C.Values key formats) = values_said formats key
clash_text (C.FirstLacks key formats) = codes "the first has no "
    ++ (lacked_key formats key ++ codes ", which the second makes mandatory")
clash_text (C.SecondLacks key formats) = codes "the second has no "
    ++ (lacked_key formats key ++ codes ", which the first makes mandatory")
