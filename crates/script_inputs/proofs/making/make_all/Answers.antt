-- Each line may be made, and one more of them is.
use Rattle.std.proofs.Common.{◌≡◌, ◌+◌, ◌≤◌, ℕ, List, ◌∷◌, Option, drop, sym, subst, arith}
use Rattle.std.specs.Prelude.{Ok, Err, Result, IfSome, option_copied, slice_get}
use Rattle.format_filter.specs.declared.format.Format.{Format}
use Rattle.format_filter.specs.CommonFormat.{IsSoundFormat}
use Rattle.graph_script.specs.declared.script.Line.{Line}
use Rattle.graph_lines.specs.Start.{kinds_of}
use Rattle.script_inputs.specs.Inputs.{HasForm, nothing_made}
use Rattle.script_inputs.specs.ScriptInputs.{MakesLine, MakesAll}
use Rattle.script_inputs.proofs.LineLemmas.{IsUnderWay, next_line, past, may_make, one_more, ports_of}
use Rattle.script_inputs.proofs.ScriptInputsLemmas.{each_at, item_read, taken_few, waves_formed, stops_here, goes_here, told, ends_here}
use Rattle.script_inputs.proofs.making.make_all.Goals as goal

pub after_line-requires-clause-line : goal.after_line-requires-clause-line
after_line-requires-clause-line c =
    let lines = c.args.lines.now in
    let l = c.line-item.result in
    may_make (kinds_of lines) c.requires.few l (drop (c.loop-line.line-index + 1) lines) c.loop-line.inputs.ports
    (subst (λ (ls : List Line). IsUnderWay (kinds_of lines) ls c.loop-line.inputs.ports)
    (next_line lines c.loop-line.line-index l c.loop-line-test.true c.line-item.is) c.loop-line.invariant.way)

pub after_line-requires-clause-format : goal.after_line-requires-clause-format
after_line-requires-clause-format c =
    let formats = c.args.formats.now in
    subst (λ (o : Option Format). IfSome o IsSoundFormat) (sym (item_read formats c.loop-line.used c.get.result c.get.ensures.lookup))
    (each_at IsSoundFormat formats c.requires.formats c.loop-line.used)

pub returns-in-Err-clause-made : goal.returns-in-Err-clause-made
returns-in-Err-clause-made c =
    let lines = c.args.lines.now in
    let formats = c.args.formats.now in
    let l = c.line-item.result in
    let inputs = c.loop-line.inputs in
    let used = c.loop-line.used in
    let fault = c.in-Err.fault in
    let before = c.loop-line.left.rest.items in
    let wave = c.next_wave-wave.result in
    let ls = drop (c.loop-line.line-index + 1) lines in
    let next = next_line lines c.loop-line.line-index l c.loop-line-test.true c.line-item.is in
    told (MakesLine l.line l.command wave (option_copied c.get.result) inputs) (MakesAll lines c.args.waves formats nothing_made) fault
    (λ m. c.loop-line.invariant.rest (Err fault)
    (subst (λ (xs : List Line). MakesAll xs before (drop used formats) inputs (Err fault)) (sym next)
    (stops_here l ls before c.next_wave-wave.new.waves.rest.items wave formats used inputs c.next_wave-wave.ensures fault
    (subst (λ (o : Option Format). MakesLine l.line l.command wave o inputs (Err fault))
    (item_read formats used c.get.result c.get.ensures.lookup) m))))
    c.in-Err.ensures.made

pub loop-line-preserved : goal.loop-line-preserved
loop-line-preserved c =
    let lines = c.args.lines.now in
    let formats = c.args.formats.now in
    let l = c.line-item.result in
    let inputs = c.loop-line.inputs in
    let used = c.loop-line.used in
    let after = c.in-Ok.after in
    let before = c.loop-line.left.rest.items in
    let left = c.next_wave-wave.new.waves.rest.items in
    let wave = c.next_wave-wave.result in
    let ls = drop (c.loop-line.line-index + 1) lines in
    let next = next_line lines c.loop-line.line-index l c.loop-line-test.true c.line-item.is in
    let told_used = c.loop-line.invariant.used in
    let few = taken_few l.command in
    let taken = c.formats_taken-used.ensures in
    record {
      sound = c.in-Ok.ensures.sound.sound;
      way = one_more (kinds_of lines) c.requires.few l ls inputs.ports
          (subst (λ (xs : List Line). IsUnderWay (kinds_of lines) xs inputs.ports) next c.loop-line.invariant.way)
          after.ports c.in-Ok.ensures.sound.kinds;
      forms = waves_formed HasForm l.command before left wave c.next_wave-wave.ensures c.loop-line.invariant.forms;
      used = omega (arith, told_used, few, taken);
      rest = λ r rest. c.loop-line.invariant.rest r
          (subst (λ (xs : List Line). MakesAll xs before (drop used formats) inputs r) (sym next)
          (goes_here l ls before left wave formats used inputs c.next_wave-wave.ensures after r
          (subst (λ (o : Option Format). MakesLine l.line l.command wave o inputs (Ok after))
          (item_read formats used c.get.result c.get.ensures.lookup) c.in-Ok.ensures.made)
          (subst (λ (n : ℕ). MakesAll ls left (drop (used + n) formats) after r) taken rest)));
    }

pub returns-clause-ports : goal.returns-clause-ports
returns-clause-ports c = ports_of c.args.lines.now (drop c.loop-line.line-index c.args.lines.now) c.loop-line.inputs
    c.loop-line.invariant.sound c.loop-line.invariant.way (past c.args.lines.now c.loop-line.line-index c.loop-line-test.false)

pub returns-clause-made : goal.returns-clause-made
returns-clause-made c = c.loop-line.invariant.rest (Ok c.loop-line.inputs)
    (ends_here (drop c.loop-line.line-index c.args.lines.now) c.loop-line.left.rest.items (drop c.loop-line.used c.args.formats.now)
    c.loop-line.inputs (past c.args.lines.now c.loop-line.line-index c.loop-line-test.false))
