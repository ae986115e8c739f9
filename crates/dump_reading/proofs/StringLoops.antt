-- A string that stops.
use Rattle.std.proofs.Common.{◌≡◌, ℕ, ◌+◌, ◌<◌, List, ap, ◌∙◌, length, get_or, drop, refl}
use Rattle.std.specs.Prelude.{Option, Some, None, option_map, fold}
use Rattle.std.proofs.lemmas.List.{at_drop_more}
use Rattle.std.proofs.lemmas.List.Folds.{fold_stays}
use Rattle.dump_reading.specs.working.Strings.{step, pushed, read_byte}
use Rattle.dump_reading.specs.declared.strings.Escape.{Escape}

pub string_stops : (state : Escape) (bytes text : List ℕ) (i : ℕ) → i < length text → step state (get_or text i 0) ≡ None
    → fold read_byte (Some (state, bytes)) (drop i text) ≡ None
string_stops state bytes text i l h =
    at_drop_more (λ (xs : List ℕ). fold read_byte (Some (state, bytes)) xs) text i 0 l
    ∙ ap (λ (s : Option (Escape × List ℕ)). fold read_byte s (drop (i + 1) text))
    (ap (option_map (λ (n : Escape × Option ℕ). (n.0, pushed bytes n.1))) h)
    ∙ fold_stays read_byte None (λ x. refl) (drop (i + 1) text)
