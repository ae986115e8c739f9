-- THE READING of bytes as a POD, by `specs/working/PodReading.antt`: there is one for all bytes, and no other.
use Rattle.std.proofs.Common.{◌≡◌, ℕ, ◌≤◌, List, length, inl, inr, sym, ◌∙◌, Result, Ok, Err, arith}
use Rattle.pod_codec.specs.declared.pod.Pod.{Pod}
use Rattle.pod_codec.specs.declared.fault.PodFault.{PodFault}
use Rattle.pod_codec.specs.Spelling.{SpellsAt, FrontSpells}
use Rattle.pod_codec.specs.working.PodReading.{IsReading}
use Rattle.pod_codec.proofs.Decoder.{decoded_front}
use Rattle.pod_codec.proofs.SpellingLemmas.{front_decoded, first_decoded}
use Rattle.pod_codec.specs.ReadAnswer.{HasAnswer}
use Rattle.pod_codec.proofs.HasAnswerLemmas.{has_answer}

of_both : (bytes : List ℕ) → HasAnswer bytes → (reading : Result (Pod × ℕ) PodFault) × IsReading bytes reading
of_both bytes (inl x) = (Ok (x.0, x.1), x.2)
of_both bytes (inr bad) = (Err bad.0, bad.1)

-- the reading of these bytes
pub reading_of : List ℕ → Result (Pod × ℕ) PodFault
reading_of bytes = (of_both bytes (has_answer bytes)).0

pub is_reading : (bytes : List ℕ) → IsReading bytes (reading_of bytes)
unfolding reading_of
is_reading bytes = (of_both bytes (has_answer bytes)).1

-- a spelling is within the bytes, and is not long
pub front_fits : (bytes : List ℕ) (pod : Pod) (size : ℕ) → FrontSpells bytes pod size → (size ≤ length bytes) × (size ≤ 1048584)
unfolding SpellsAt
front_fits bytes pod size h = (h.front.0, omega (arith, h.front.1, h.limit))

decoded : (bytes : List ℕ) (reading : Result (Pod × ℕ) PodFault) → IsReading bytes reading → decoded_front bytes ≡ reading
decoded bytes (Ok x) h = front_decoded bytes x.0 x.1 h
decoded bytes (Err fault) h = first_decoded bytes fault h

-- and no other
pub only_reading : (bytes : List ℕ) (reading : Result (Pod × ℕ) PodFault) → IsReading bytes reading → reading ≡ reading_of bytes
only_reading bytes reading h = sym (decoded bytes reading h) ∙ decoded bytes (reading_of bytes) (is_reading bytes)
