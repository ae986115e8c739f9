-- The bytes of the script are left, where its load has given them.
use Rattle.std.proofs.Common.{ℕ, List, sym, subst}
use Rattle.std.specs.Prelude.{Option}
use Rattle.pw_lists.specs.declared.limit.Which.TheVariants as W
use Rattle.pw_lists.specs.Limits.{script_bytes_limit}
use Rattle.pw_outside.specs.Files.{names_in}
use Rattle.pw_top.specs.ScriptFound.{IsScriptUnder}
use Rattle.pw_top.proofs.AllowedLemmas.{load_gave}
use Rattle.pw_top.proofs.FoundLemmas.{load_stops}
use Rattle.pw_top.proofs.loaded_script.load_script.Goals as goal

pub returns-in-Err-clause-source : goal.returns-in-Err-clause-source
returns-in-Err-clause-source g c =
    subst (λ (s : Option (List ℕ)). IsScriptUnder (g.F.Files.held c.args.files.now) c.args.script.now c.in-Err.status s) (sym c.requires.none)
    (load_stops 0 W.ScriptBytes c.in-Err.status c.in-Err.ensures.stops)

pub returns-in-Ok-clause-source : goal.returns-in-Ok-clause-source
returns-in-Ok-clause-source g c = λ h. load_gave (names_in (g.F.Files.held c.args.files.now)) 0 c.args.script.now script_bytes_limit W.ScriptBytes
    c.in-Ok.bytes (c.in-Ok.ensures.told h)
