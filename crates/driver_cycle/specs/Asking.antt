-- Who asks the ticker, and how often: each claim that came too early asks it once, unless the cycle
-- has had its check. What an answer tells of the ticker before and after it is the ticker's own
-- relation, which only a call of it gives where nothing else is known of the ticker.
-- Source: this project's own.
use Rattle.std.specs.Prelude.{◌≡◌, Bool, true, false}

-- ONE ASK of a ticker with these answers, unless the cycle has had its check
abbrev pub AsksOnce : {K : Type 0} → (K → Bool → K → Type 0) → Bool → K → K → Type 0
AsksOnce answers true a b = b ≡ a
AsksOnce answers false a b = (due : Bool) × answers a due b

-- A CLAIM, by whether the node was awake: only one that came too early asks
abbrev pub IsAskedBy : {K : Type 0} → (K → Bool → K → Type 0) → Bool → Bool → K → K → Type 0
IsAskedBy answers true checked a b = b ≡ a
IsAskedBy answers false checked a b = AsksOnce answers checked a b
