use Rattle.std.proofs.Common.{◌≡◌, ◌++◌, take}
use Rattle.run_results.proofs.status_line.put_text.Given as goal

abbrev pub invariant-loop-i : goal.invariant-loop-i
invariant-loop-i l = l.line ≡ l.fn.line ++ take l.i l.text
