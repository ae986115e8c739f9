-- Sets of node numbers below 64 as the bits of a word.
-- Source: this project's own.
use Rattle.std.specs.Prelude.{ℕ, ◌^◌, ◌≤◌, List, [], ◌∷◌, cond, eqb, All}
use Rattle.std.specs.Int.Bits.{bit_or}
use Rattle.pw_lists.specs.Limits.{dummy_node}
use Rattle.board_rule.specs.declared.view.Found.{Found}

-- what is found is of nodes: their numbers have bits in such a set
abbrev pub AreOfNodes : List Found → Type 0
AreOfNodes fs = All (λ f. f.node ≤ dummy_node) fs

abbrev pub with_bit : ℕ → ℕ → ℕ
with_bit set n = bit_or set (2 ^ n)

-- WOKE: the nodes whose pending word was found at 1, so that it became 0
abbrev pub woke_of : List Found → ℕ
woke_of [] = 0
woke_of (f ∷ fs) = cond (eqb f.word 1) (with_bit (woke_of fs) f.node) (woke_of fs)
