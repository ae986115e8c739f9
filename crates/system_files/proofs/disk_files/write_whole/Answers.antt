use Rattle.std.proofs.Common.{take, List, ℕ, subst, arith, length-drop}
use Rattle.std.proofs.lemmas.List.{take_rest}
use Rattle.std.specs.Io.KnownBytes.{Appends}
use Rattle.system_files.proofs.KnownFilesLemmas.{written_more}
use Rattle.system_files.proofs.disk_files.write_whole.Goals as goal

pub loop-done-preserved : goal.loop-done-preserved
loop-done-preserved g c =
    let bytes = c.args.bytes.now in
    let now = g.W.Write.contents c.loop-done.to in
    let second = subst (λ (rest : List ℕ). Appends now (g.W.Write.contents c.write.new.self) (take c.in-Ok.n rest))
    (take_rest bytes c.loop-done.done) c.in-Ok.ensures.bytes in (
      grind (arith, c.in-Ok.ensures.bound, length-drop),
      written_more (g.W.Write.contents c.args.to.now) now (g.W.Write.contents c.write.new.self) bytes c.loop-done.done c.in-Ok.n
          c.loop-done.invariant.1 second,
    )
