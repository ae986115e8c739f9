-- Laws of `specs/Grammar.antt`: one line taken off the front of those that are left.
use Rattle.std.proofs.Common.{◌≡◌, ℕ, ◌+◌, List, [], ◌∷◌, refl}
use Rattle.std.specs.Prelude.{Result, Ok, Err}
use Rattle.graph_script.specs.declared.fault.ScriptFault.{ScriptFault}
use Rattle.graph_script.specs.declared.fault.ScriptFault.TheVariants as F
use Rattle.graph_script.specs.declared.reading.Reading.{Reading}
use Rattle.graph_script.specs.Grammar.{meaning_of_line, reading_with, script_from, IsRead}

-- where the first line is read, the others follow
pub goes_on : (number : ℕ) (reading next : Reading) (line : List ℕ) (lines more : List (List ℕ)) → lines ≡ line ∷ more
    → reading_with number reading (meaning_of_line reading line) ≡ Ok next
    → script_from number reading lines ≡ script_from (number + 1) next more
unfolding script_from
goes_on number reading next line lines more e h = rw e (rw h refl)

-- where it is not, its fault stays
pub stops : (number : ℕ) (reading : Reading) (line : List ℕ) (lines more : List (List ℕ)) (fault : ScriptFault) → lines ≡ line ∷ more
    → reading_with number reading (meaning_of_line reading line) ≡ Err fault → script_from number reading lines ≡ Err fault
unfolding script_from
stops number reading line lines more fault e h = rw e (rw h refl)

pub ends : (number : ℕ) (reading : Reading) → script_from number reading [] ≡ Ok reading.script
unfolding script_from
ends number reading = refl

-- a fault of one meaning is that of another, where the meanings share their faults
pub same_fault : {A B : Type 0} (m : Result A ScriptFault) (n : Result B ScriptFault) (fault : ScriptFault) → IsRead m (Err fault)
    → (m ≡ Err fault → n ≡ Err fault) → IsRead n (Err fault)
same_fault m n F.Memory h to = tt
same_fault m n (F.At line why) h to = to h
