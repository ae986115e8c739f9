-- Where bytes go: to standard output, or to a file of this name. Source: this project's own.
use Rattle.std.specs.Prelude.{ℕ, List, [], ◌∷◌, if◌then◌else◌}
use Rattle.command_frame.specs.declared.work.Content.TheVariants.{Bytes}
use Rattle.command_frame.specs.declared.work.Work.{Work}
use Rattle.pod_text.specs.FileWords.{is_dash}

-- the bytes are put, and nothing is stored
abbrev pub put_work : List ℕ → Work
put_work bytes = record { stores = []; text = bytes }

-- the bytes are stored under a name, which is the word at this place, and nothing is put
abbrev pub store_work : List ℕ → ℕ → List ℕ → Work
store_work name at bytes = record {
  stores = record { place = at; name = name; content = Bytes bytes } ∷ [];
  text = [];
}

-- DELIVERED: where the word is `-` put, else stored
abbrev pub goes_to : List ℕ → ℕ → List ℕ → Work
goes_to word at bytes = if is_dash word then put_work bytes else store_work word at bytes
