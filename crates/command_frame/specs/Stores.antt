-- Stores in order: all of them, and those up to one that failed or that memory was short for.
-- Source: this project's own.
use Rattle.std.specs.Prelude.{◌≡◌, ◌≢◌, ◌⊎◌, ℕ, ◌<◌, List, [], length, take, fold, slice_get, Some, option_map}
use Rattle.pw_outside.specs.Files.{Names, Held, stored}
use Rattle.pw_outside.specs.Causes.{Rose}
use Rattle.wav_files.specs.WavWriting.{wav_bytes}
use Rattle.command_frame.specs.declared.work.Content.{Content}
use Rattle.command_frame.specs.declared.work.Content.TheVariants.{Bytes, Wave}
use Rattle.command_frame.specs.declared.work.Store.{Store}

abbrev pub bytes_of : Content → List ℕ
bytes_of (Bytes bytes) = bytes
bytes_of (Wave wav) = wav_bytes wav

abbrev pub stored_one : Names → Store → Names
stored_one names store = stored store.name (bytes_of store.content) names

-- all stores, in order
abbrev pub stored_all : List Store → Names → Names
stored_all stores names = fold stored_one names stores

abbrev pub AllStored : List Store → Held → Held → Type 0
AllStored stores old new = new ≡ option_map (stored_all stores) old

-- the stores before one are whole, it has this place and a prefix of its bytes, no store is later
pub record CutAt (stores : List Store) (place : ℕ) (old new : Held) : Type 0 where
  pub before : ℕ
  pub store : Store
  pub kept : ℕ
  pub there : slice_get stores before ≡ Some store
  pub here : store.place ≡ place
  pub held : new ≡ option_map (λ names. stored store.name (take kept (bytes_of store.content))
      (stored_all (take before stores) names)) old

-- memory was short for a store, with those before it whole, or for a text that is put after them
pub record ShortAt (stores : List Store) (text : List ℕ) (old new : Held) : Type 0 where
  pub before : ℕ
  pub more : (before < length stores) ⊎ (text ≢ [])
  pub held : AllStored (take before stores) old new

-- a store failed, and memory was short for the line of that
pub record ShortLine (line : ℕ → List ℕ) (stores : List Store) (before now : ℕ)
    (old new : Held) : Type 0 where
  pub place : ℕ
  pub cut : CutAt stores place old new
  pub rose : Rose before now
  pub lined : line place ≢ []
