-- The samples that a sink stored, and how many of them are at a limit. Source: PCM of 16 bits,
-- whose samples are from -32768 to 32767.
use Rattle.std.specs.Prelude.{ℕ, ◌==◌, ◌||◌, Bool, List, find, count_by, Option, Some, None}
use Rattle.std.specs.Prelude.{ℤ, pos, neg_ℤ, int_le}
use Rattle.command_frame.specs.declared.work.Content.{Content}
use Rattle.command_frame.specs.declared.work.Content.TheVariants.{Bytes, Wave}
use Rattle.command_frame.specs.declared.work.Store.{Store}

-- the store of a line
abbrev pub store_at : List Store → ℕ → Option Store
store_at stores n = find (λ store. store.place == n) stores

-- the samples of what was stored, where it is a wave
abbrev pub samples_in : Content → Option (List ℤ)
samples_in (Bytes bytes) = None
samples_in (Wave wav) = Some wav.samples

abbrev pub samples_of : Option Store → Option (List ℤ)
samples_of None = None
samples_of (Some store) = samples_in store.content

-- THE SAMPLES that the sink of a line stored; none where it had no format
abbrev pub samples_at : List Store → ℕ → Option (List ℤ)
samples_at stores n = samples_of (store_at stores n)

-- HOW MANY are at a limit
abbrev pub is_at_limit : ℤ → Bool
is_at_limit sample = int_le (pos 32767) sample || int_le sample (neg_ℤ (pos 32768))

abbrev pub at_limit : List ℤ → ℕ
at_limit samples = count_by is_at_limit samples
