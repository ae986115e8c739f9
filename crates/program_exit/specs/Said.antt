-- What the put of a sentence on the error output has answered, and left there.
-- Source: this project's own.
use Rattle.std.specs.Prelude.{◌≡◌, ℕ, List, Result, Ok, Err}
use Rattle.pw_lists.specs.declared.memory.Memory.{Memory}
use Rattle.pw_outside.specs.declared.files.FileFail.{FileFail}
use Rattle.pw_outside.specs.declared.files.FileFail.TheVariants as F
use Rattle.pw_outside.specs.declared.output.Sink as sink
use Rattle.pw_outside.specs.Causes.{HasCause}
use Rattle.pw_outside.specs.Output.{Given, IsPut}

-- the error output at one moment: what it was given, and how many puts have failed
pub record ErrorOutput : Type 0 where
  pub given : Given
  pub faults : ℕ

abbrev pub shown : {E : Type 0} → sink.Ghosts E → E → ErrorOutput
shown of_output output = record { given = of_output.given output; faults = of_output.faults output }

-- a text was put: all of it was given; or a part, where the count of faults rose; or nothing, where
-- memory was short
pub record IsSaid (text : List ℕ) (before now : ErrorOutput) (said : Result (Unit {0}) FileFail)
    : Type 0 where
  pub put : IsPut text before.given now.given said
  pub cause : HasCause before.faults now.faults said

-- A SENTENCE that was made is put so; one that memory was short for changes nothing
abbrev pub IsSentencePut : Result (List ℕ) Memory → ErrorOutput → ErrorOutput
    → Result (Unit {0}) FileFail → Type 0
IsSentencePut (Ok text) before now said = IsSaid text before now said
IsSentencePut (Err memory) before now said = (said ≡ Err F.Memory) × (now ≡ before)
