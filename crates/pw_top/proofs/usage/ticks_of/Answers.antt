use Rattle.std.proofs.Common.{◌≡◌, get_or, false, rules, codes}
use Rattle.std.specs.Prelude.{bytes_eq, string_bytes}
use Rattle.pw_top.proofs.TicksLemmas.{else_ticks}
use Rattle.pw_top.proofs.usage.ticks_of.Goals as goal

pub returns-else-eq : goal.returns-else-eq
returns-else-eq c =
    let other : bytes_eq (string_bytes (get_or c.args.words.now 0 c.name-item.result)) (codes "run") ≡ false = search rules in
    else_ticks string_bytes c.args.words.now c.name-item.result c.in-len1-up.len_at_least other
