use Rattle.std.proofs.Common.{◌≡◌, ◌≤◌, take}
use Rattle.command_frame.specs.Stores.{AllStored}
use Rattle.command_frame.proofs.delivering.store_all.Given as goal

abbrev pub invariant-loop-i : goal.invariant-loop-i
invariant-loop-i g l = AllStored (take l.i l.stores) (g.F.Files.held l.fn.files) (g.F.Files.held l.files)
    × (g.F.Files.store_faults l.fn.files ≤ g.F.Files.store_faults l.files)
    × (g.F.Files.load_faults l.files ≡ g.F.Files.load_faults l.fn.files) × (l.i ≡ 0 → l.files ≡ l.fn.files)
