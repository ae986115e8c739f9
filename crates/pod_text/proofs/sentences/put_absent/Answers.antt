use Rattle.std.proofs.Common.{◌++◌, map, string_bytes}
use Rattle.std.specs.Prelude.{codes}
use Rattle.word_hints.specs.ShellSigns.{shell_hint}
use Rattle.pod_text.specs.Showing.{shown}
use Rattle.pod_text.specs.UsageFaults.{word}
use Rattle.pod_text.proofs.Grown.{grown_within}
use Rattle.pod_text.proofs.sentences.put_absent.Goals as goal

pub returns : goal.returns
returns c =
    let file = word (map string_bytes c.args.words.now) c.args.place in
    grown_within c.args.text.now c.put_at.new.text c.put_hint.new.text (shown file ++ codes ": ") (codes "there is no such file")
    (shell_hint file) c.in_ok-put_at.ensures c.in_ok-put_hint.ensures
