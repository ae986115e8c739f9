-- Laws of `specs/ScriptInputs.antt`: one line more of all, and a line that is refused.
use Rattle.std.proofs.Common.{◌≡◌, ℕ, zero, suc, ◌+◌, ◌≤◌, List, [], ◌∷◌, length, drop, Option, Some, None, Bor, refl, sym, subst, lit≤}
use Rattle.std.specs.Prelude.{slice_get, option_copied, Result, Ok, Err, IfSome}
use Rattle.std.specs.Slice.{IsItemAt}
use Rattle.std.proofs.lemmas.Option.{slice_get_past, slice_get_read}
use Rattle.std.specs.List.{All}
use Rattle.std.proofs.lemmas.List.{drop-drop}
use Rattle.std.proofs.lemmas.List.Elements.{All-head, All-tail, All-drop}
use Rattle.format_filter.specs.declared.format.Format.{Format}
use Rattle.wav_files.specs.declared.wav.Wav.{Wav}
use Rattle.graph_script.specs.declared.command.Command.{Command}
use Rattle.graph_script.specs.declared.command.Command.TheVariants as C
use Rattle.graph_script.specs.declared.script.Line.{Line}
use Rattle.script_inputs.specs.declared.fault.InputFault.{InputFault}
use Rattle.script_inputs.specs.declared.fault.InputFault.TheVariants as F
use Rattle.script_inputs.specs.declared.inputs.Inputs.{Inputs}
use Rattle.script_inputs.specs.ScriptInputs.{MakesLine, waves_taken, formats_taken, MakesAll, UnlessMemory}
use Rattle.script_inputs.specs.working.Turns.{TakesWave}

-- the thing at a place
pub each_at : {X : Type 0} (P : X → Type 0) (xs : List X) → All P xs → (i : ℕ) → IfSome (slice_get xs i) P
each_at P [] h i = tt
each_at P (x ∷ xs) h zero = All-head P x xs h
each_at P (x ∷ xs) h (suc i) = each_at P xs (All-tail P x xs h) i

-- what a slice gives at a place
pub item_read : (xs : List Format) (i : ℕ) (r : Option (Bor Format)) → IsItemAt xs i r → option_copied r ≡ slice_get xs i
item_read xs i None h = sym (slice_get_past xs i h.3)
item_read xs i (Some x) h = sym (slice_get_read xs (length xs) i x.now refl h.3.0 h.1)

first_left : {X : Type 0} (xs : List X) (n : ℕ) → slice_get (drop n xs) 0 ≡ slice_get xs n
first_left [] zero = refl
first_left [] (suc n) = refl
first_left (x ∷ xs) zero = refl
first_left (x ∷ xs) (suc n) = first_left xs n

-- the wave of a line comes next, or the line looks at none
next_wave : (line : ℕ) (command : Command) (waves left : List Wav) (wave : Option Wav) (format : Option Format) (inputs : Inputs)
    (r : Result Inputs InputFault) → TakesWave command waves wave left → MakesLine line command wave format inputs r
    → MakesLine line command (slice_get waves 0) format inputs r
next_wave line (C.Source n file) waves left wave format inputs r t h =
    subst (λ (w : Option Wav). MakesLine line (C.Source n file) w format inputs r) t.0 h
next_wave line _ waves left wave format inputs r t h = h

waves_left : (command : Command) (waves left : List Wav) (wave : Option Wav) → TakesWave command waves wave left → left ≡ drop (waves_taken command) waves
waves_left (C.Source n file) waves left wave t = t.1
waves_left _ waves left wave t = t.1

pub taken_few : (command : Command) → formats_taken command ≤ 1
taken_few (C.Offer port file) = lit≤ tt
taken_few _ = lit≤ tt

pub wave_formed : (P : Wav → Type 0) (command : Command) (waves left : List Wav) (wave : Option Wav) → TakesWave command waves wave left → All P waves
    → IfSome wave P
wave_formed P (C.Source n file) waves left wave t h = subst (λ (w : Option Wav). IfSome w P) (sym t.0) (each_at P waves h 0)
wave_formed P _ waves left wave t h = subst (λ (w : Option Wav). IfSome w P) (sym t.0) tt

pub waves_formed : (P : Wav → Type 0) (command : Command) (waves left : List Wav) (wave : Option Wav) → TakesWave command waves wave left → All P waves
    → All P left
waves_formed P command waves left wave t h =
    subst (All P) (sym (waves_left command waves left wave t)) (All-drop P (waves_taken command) waves h)

-- one line, with the waves that are left and the formats after those that were used
module _ (l : Line) (ls : List Line) (waves left : List Wav) (wave : Option Wav) (formats : List Format) (used : ℕ) (inputs : Inputs)
    (takes : TakesWave l.command waves wave left) where
  line_here : (r : Result Inputs InputFault) → MakesLine l.line l.command wave (slice_get formats used) inputs r
      → MakesLine l.line l.command (slice_get waves 0) (slice_get (drop used formats) 0) inputs r
  line_here r h = subst (λ (f : Option Format). MakesLine l.line l.command (slice_get waves 0) f inputs r) (sym (first_left formats used))
      (next_wave l.line l.command waves left wave (slice_get formats used) inputs r takes h)

  pub stops_here : (fault : InputFault) → MakesLine l.line l.command wave (slice_get formats used) inputs (Err fault)
      → MakesAll (l ∷ ls) waves (drop used formats) inputs (Err fault)
  stops_here fault h = (Err fault, line_here (Err fault) h, refl)

  pub goes_here : (after : Inputs) (r : Result Inputs InputFault) → MakesLine l.line l.command wave (slice_get formats used) inputs (Ok after)
      → MakesAll ls left (drop (used + formats_taken l.command) formats) after r
      → MakesAll (l ∷ ls) waves (drop used formats) inputs r
  goes_here after r h rest = (
    Ok after,
    line_here (Ok after) h,
    subst (λ (fs : List Format). MakesAll ls (drop (waves_taken l.command) waves) fs after r) (sym (drop-drop (formats_taken l.command) used formats))
        (subst (λ (ws : List Wav). MakesAll ls ws (drop (used + formats_taken l.command) formats) after r)
        (waves_left l.command waves left wave takes) rest),
  )

-- an answer that is not out of memory
pub told : (P Q : Result Inputs InputFault → Type 0) (fault : InputFault) → (P (Err fault) → Q (Err fault)) → UnlessMemory P (Err fault)
    → UnlessMemory Q (Err fault)
told P Q (F.NoWave line) f h = f h
told P Q (F.NoFormat line) f h = f h
told P Q (F.NotFormat line) f h = f h
told P Q (F.Clash line key) f h = f h
told P Q F.Memory f h = tt

pub ends_here : (left : List Line) (waves : List Wav) (formats : List Format) (inputs : Inputs) → left ≡ []
    → MakesAll left waves formats inputs (Ok inputs)
ends_here left waves formats inputs e = subst (λ (ls : List Line). MakesAll ls waves formats inputs (Ok inputs)) (sym e) refl
