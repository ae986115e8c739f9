-- What the objects in memory hold, and which of their calls are to fail. Source: this project's
-- own.
use Rattle.std.specs.Prelude.{◌≡◌, ℕ, List, [], ◌∷◌, ◌++◌}
use Rattle.std.specs.Ordering.{nat_cmp}
use Rattle.std.specs.Cmp.Lexicographic.{slice_cmp}
use Rattle.std.specs.BTreeMap.{BTreeMap, get_by}
use Rattle.std.specs.declared.vec.Vec.{Vec}
use Rattle.std.specs.declared.alloc.Global.{Global}
use Rattle.pw_outside.specs.declared.in_memory.mem_files.MemFiles.{MemFiles}
use Rattle.pw_outside.specs.declared.in_memory.mem_sink.MemSink.{MemSink}
use Rattle.pw_outside.specs.declared.in_memory.sure_files.SureFiles.{SureFiles}
use Rattle.pw_outside.specs.declared.in_memory.sure_sink.SureSink.{SureSink}
use Rattle.pw_outside.specs.Files.{Names, nothing}

-- what is stored under each name of a map
abbrev pub names_of : BTreeMap (Vec ℕ Global) (List ℕ) → Names
names_of map name = get_by (λ key. slice_cmp nat_cmp name key.items) map

abbrev pub mem_names : MemFiles → Names
mem_names files = names_of files.map

abbrev pub sure_names : SureFiles → Names
sure_names files = names_of files.map

abbrev pub mem_given : MemSink → List ℕ
mem_given sink = sink.bytes

abbrev pub sure_given : SureSink → List ℕ
sure_given sink = sink.bytes

-- nothing is held, no call has failed, and no call is to fail
pub record IsNewFiles (files : MemFiles) : Type 0 where
  pub holds : mem_names files ≡ nothing
  pub faults : (files.load_faults ≡ 0) × (files.store_faults ≡ 0)
  pub calls : (files.loads ≡ 0) × (files.stores ≡ 0)
  pub failing : (files.failing_loads ≡ []) × (files.failing_stores ≡ [])

-- the counts of faults and of calls, and the calls that are to fail, are as before
pub record SameFaults (old new : MemFiles) : Type 0 where
  pub faults : (new.load_faults ≡ old.load_faults) × (new.store_faults ≡ old.store_faults)
  pub calls : (new.loads ≡ old.loads) × (new.stores ≡ old.stores)
  pub failing : (new.failing_loads ≡ old.failing_loads)
      × (new.failing_stores ≡ old.failing_stores)

abbrev pub SameFiles : MemFiles → MemFiles → Type 0
SameFiles old new = (mem_names new ≡ mem_names old) × SameFaults old new

-- one more load, or store, is to fail; all else is as before
abbrev pub WithLoadFault : MemFiles → MemFiles → ℕ → Type 0
WithLoadFault old new number = SameFiles
    (record old { failing_loads = old.failing_loads ++ number ∷ [] }) new

abbrev pub WithStoreFault : MemFiles → MemFiles → ℕ → ℕ → Type 0
WithStoreFault old new number kept = SameFiles
    (record old { failing_stores = old.failing_stores ++ (number, kept) ∷ [] }) new

pub record IsNewSink (sink : MemSink) : Type 0 where
  pub given : mem_given sink ≡ []
  pub counts : (sink.faults ≡ 0) × (sink.puts ≡ 0)
  pub failing : sink.failing_puts ≡ []

-- the same bytes, counts and calls that are to fail
pub record SameSink (old new : MemSink) : Type 0 where
  pub given : mem_given new ≡ mem_given old
  pub counts : (new.faults ≡ old.faults) × (new.puts ≡ old.puts)
  pub failing : new.failing_puts ≡ old.failing_puts

abbrev pub WithPutFault : MemSink → MemSink → ℕ → ℕ → Type 0
WithPutFault old new number kept = SameSink
    (record old { failing_puts = old.failing_puts ++ (number, kept) ∷ [] }) new
