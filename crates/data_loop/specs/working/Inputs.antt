-- The links that a node reads, by input, and what they bring.
-- Source: PipeWire's documentation, "Graph Scheduling" and "SPA Buffers"; mixing is this project's
-- own.
use Rattle.std.specs.Prelude.{◌≡◌, ℕ, ℤ, pos, Bool, true, not, List, [], ◌∷◌, All, map, filter}
use Rattle.std.specs.Prelude.{Option, Some, None, if◌then◌else◌}
use Rattle.board_rule.specs.declared.view.View.{View}
use Rattle.board_rule.specs.Layout.{BoardLayout}
use Rattle.board_rule.specs.buffers.EndViews.{pool_of}
use Rattle.io_areas.specs.Reading as reading
use Rattle.io_areas.specs.Quanta.{quantum_of}
use Rattle.data_loop.specs.declared.inputs.Input.{Input}

abbrev pub IsZero : ℤ → Type 0
IsZero s = s ≡ pos 0

abbrev pub links_of : List Input → List ℕ
links_of inputs = map (λ i. i.link) inputs

-- the link of a node that reads only this one, at its first input
abbrev pub only_link : List Input → Option ℕ
only_link [] = None
only_link (i ∷ []) = if not i.second then Some i.link else None
only_link (i ∷ j ∷ inputs) = None

-- what the link brings in its reader's cycle
abbrev pub row_of : Bool → BoardLayout → View → ℕ → List ℤ
row_of is_driver p v l = reading.brought is_driver p v l

-- what the first input receives, and the second
abbrev pub first_rows : Bool → BoardLayout → View → List Input → List (List ℤ)
first_rows is_driver p v inputs = map (λ i. row_of is_driver p v i.link)
    (filter (λ i. not i.second) inputs)

abbrev pub second_rows : Bool → BoardLayout → View → List Input → List (List ℤ)
second_rows is_driver p v inputs = map (λ i. row_of is_driver p v i.link)
    (filter (λ i. i.second) inputs)

-- a quantum of each link has n samples; the second input is as wide, if a link leads to it
abbrev pub AreLong : BoardLayout → ℕ → List Input → Type 0
AreLong p n inputs = All (λ i. n ≡ quantum_of p (pool_of p i.link)) inputs

abbrev pub IsWide : ℕ → ℕ → List Input → Type 0
IsWide n second inputs = All (λ i. i.second ≡ true → second ≡ n) inputs
