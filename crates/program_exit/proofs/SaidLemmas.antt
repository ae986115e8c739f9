-- Laws of `specs/Said.antt`: what is said of a sentence, whether there was memory for it or not.
use Rattle.std.proofs.Common.{◌≡◌, ℕ, List, refl, subst, sym}
use Rattle.std.specs.Prelude.{Result, Ok, Err, IfOk}
use Rattle.pw_lists.specs.declared.memory.Memory.{Memory}
use Rattle.pw_outside.specs.declared.files.FileFail.{FileFail}
use Rattle.pw_outside.specs.declared.files.FileFail.TheVariants as F
use Rattle.program_exit.specs.Exit.{HasEnded}
use Rattle.program_exit.specs.Said.{ErrorOutput, IsSaid, IsSentencePut}
use Rattle.program_exit.specs.Sentence.{IsMade}

-- where memory was short for it, any text is said so
nothing_said : (text : List ℕ) (now : ErrorOutput) → IsSaid text now now (Err F.Memory)
nothing_said text now = record { put = refl; cause = refl }

pub said_of : (made : Result (List ℕ) Memory) (text : List ℕ) (before now : ErrorOutput) (said : Result (Unit {0}) FileFail)
    → IfOk made (λ sentence. sentence ≡ text) → IsSentencePut made before now said → IsSaid text before now said
said_of (Ok sentence) text before now said is_text put = subst (λ (t : List ℕ). IsSaid t before now said) is_text put
said_of (Err memory) text before now said is_text none =
    subst (λ (n : ErrorOutput). IsSaid text before n said) (sym none.1)
    (subst (λ (s : Result (Unit {0}) FileFail). IsSaid text before before s) (sym none.0) (nothing_said text before))

pub ended_of : (Says : List ℕ → Type 0) (made : Result (List ℕ) Memory) (before now : ErrorOutput)
    (said : Result (Unit {0}) FileFail) → IsMade Says made → IsSentencePut made before now said → HasEnded Says before now said
ended_of Says made before now said is_made put = record {
  sentence = is_made.sentence;
  says = is_made.says;
  said_of = said_of made is_made.sentence before now said is_made.whole put;
}
