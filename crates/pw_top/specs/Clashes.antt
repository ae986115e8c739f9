-- How two objects of one type clash at a key. Source: PipeWire's documentation, "SPA POD";
-- spa/pod/filter.h. What a key that one side lacks does is this project's.
use Rattle.std.specs.Prelude.{ℕ, ◌==◌, Bool, true, false, List}
use Rattle.std.specs.List.{list_any}
use Rattle.port_model.specs.Keys.{format_object}
use Rattle.format_filter.specs.declared.format.Field.{Field}
use Rattle.format_filter.specs.declared.format.Format.{Format}
use Rattle.run_results.specs.declared.clash.Clash.{Clash}
use Rattle.run_results.specs.declared.clash.Clash.TheVariants.{Values, FirstLacks, SecondLacks}

-- whether one of the fields is of a key
abbrev pub has_key : List Field → ℕ → Bool
has_key fields key = list_any (λ f. f.key == key) fields

-- by whether they are formats, and by which of them has the key: the other then makes it mandatory
abbrev pub clash_by : ℕ → Bool → Bool → Bool → Clash
clash_by key formats false second = FirstLacks key formats
clash_by key formats true false = SecondLacks key formats
clash_by key formats true true = Values key formats

abbrev pub clash_of : Format → Format → ℕ → Clash
clash_of first second key = clash_by key (first.object == format_object)
    (has_key first.fields key) (has_key second.fields key)
