-- FailingCalls: which calls of the objects in memory fail, and what each call counts and leaves.
-- Source: this project's.
use Rattle.std.specs.Prelude.{◌≡◌, ℕ, ◌+◌, ◌-◌, ◌^◌, ◌==◌, min, List, ◌++◌, take, Contains}
use Rattle.std.specs.Prelude.{Option, Some, None, option_map, Result, Ok, Err}
use Rattle.std.specs.List.{find}
use Rattle.pw_outside.specs.declared.files.Loaded.{Loaded}
use Rattle.pw_outside.specs.declared.files.FileFail.{FileFail}
use Rattle.pw_outside.specs.declared.files.FileFail.TheVariants.{Failed, Memory}
use Rattle.pw_outside.specs.declared.in_memory.mem_files.MemFiles.{MemFiles}
use Rattle.pw_outside.specs.declared.in_memory.mem_sink.MemSink.{MemSink}
use Rattle.pw_outside.specs.Files.{stored}
use Rattle.pw_outside.specs.InMemory.{mem_names, SameFiles, SameFaults, SameSink}

-- a count of 64 bits after one more; it stays at its end
abbrev pub one_more : ℕ → ℕ
one_more count = min (count + 1) (2 ^ 64 - 1)

-- how many bytes the call of this number keeps, where it is to fail
abbrev pub kept_by : List (ℕ × ℕ) → ℕ → Option ℕ
kept_by failing number = option_map (λ f. f.1) (find (λ f. f.0 == number) failing)

-- A LOAD fails exactly where its number is one of those that are to fail; out of memory it is no
-- call
abbrev pub HasLoaded : MemFiles → MemFiles → Result Loaded FileFail → Type 0
HasLoaded old new (Ok loaded) = (¬ (Contains old.failing_loads (one_more old.loads)))
    × SameFiles (record old { loads = one_more old.loads }) new
HasLoaded old new (Err Failed) = Contains old.failing_loads (one_more old.loads)
    × SameFiles (record old {
      loads = one_more old.loads;
      load_faults = one_more old.load_faults;
    }) new
HasLoaded old new (Err Memory) = SameFiles old new

-- A STORE that is to fail leaves as many first bytes as the object was set to leave
abbrev pub HasStored : List ℕ → List ℕ → MemFiles → MemFiles
    → Result (Unit {0}) FileFail → Type 0
HasStored name bytes old new (Ok done) = (kept_by old.failing_stores (one_more old.stores) ≡ None)
    × (mem_names new ≡ stored name bytes (mem_names old))
    × SameFaults (record old { stores = one_more old.stores }) new
HasStored name bytes old new (Err Failed) = (kept : ℕ)
    × (kept_by old.failing_stores (one_more old.stores) ≡ Some kept)
    × (mem_names new ≡ stored name (take kept bytes) (mem_names old))
    × SameFaults (record old {
      stores = one_more old.stores;
      store_faults = one_more old.store_faults;
    }) new
HasStored name bytes old new (Err Memory) = SameFiles old new

-- A PUT likewise
abbrev pub HasPut : List ℕ → MemSink → MemSink → Result (Unit {0}) FileFail → Type 0
HasPut bytes old new (Ok done) = (kept_by old.failing_puts (one_more old.puts) ≡ None)
    × SameSink (record old { bytes = old.bytes ++ bytes; puts = one_more old.puts }) new
HasPut bytes old new (Err Failed) = (kept : ℕ)
    × (kept_by old.failing_puts (one_more old.puts) ≡ Some kept)
    × SameSink (record old {
      bytes = old.bytes ++ take kept bytes;
      puts = one_more old.puts;
      faults = one_more old.faults;
    }) new
HasPut bytes old new (Err Memory) = SameSink old new
