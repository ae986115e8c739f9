use Rattle.std.proofs.Common.{◌≡◌, ◌≤◌, ◌++◌, length, sym, ap, ◌∙◌, subst}
use Rattle.graph_script.specs.Grammar.{script_of}
use Rattle.graph_script.specs.Printing.{text_from, text_of_script, kinds_of}
use Rattle.graph_script.specs.Printable.{AreFrom, AreWritable}
use Rattle.graph_script.proofs.ItsTextLemmas.{its_text}
use Rattle.graph_script.proofs.printing.text_of.Goals as goal

pub put_lines-requires-clause-same : goal.put_lines-requires-clause-same
put_lines-requires-clause-same c =
    let its = its_text c.requires.bytes c.args.script.now c.requires.reads in
    let kinds : c.as_slice.result.now ≡ kinds_of c.args.script.now.lines =
    c.as_slice.ensures ∙ c.in_ok-kinds.ensures ∙ ap kinds_of c.as_slice-lines.ensures in
    ap length kinds ∙ its.same ∙ ap length (sym c.as_slice-names.ensures)

pub put_lines-requires-clause-numbered : goal.put_lines-requires-clause-numbered
put_lines-requires-clause-numbered c =
    let its = its_text c.requires.bytes c.args.script.now c.requires.reads in
    subst (AreFrom 1) (sym c.as_slice-lines.ensures) its.numbered

pub put_lines-requires-clause-writable : goal.put_lines-requires-clause-writable
put_lines-requires-clause-writable c =
    let its = its_text c.requires.bytes c.args.script.now c.requires.reads in
    let kinds : c.as_slice.result.now ≡ kinds_of c.args.script.now.lines =
    c.as_slice.ensures ∙ c.in_ok-kinds.ensures ∙ ap kinds_of c.as_slice-lines.ensures in
    subst (λ ns. AreWritable ns c.as_slice.result.now c.as_slice-lines.result.now) (sym c.as_slice-names.ensures)
    (subst (λ ks. AreWritable c.args.script.now.names ks c.as_slice-lines.result.now) (sym kinds)
    (subst (λ ls. AreWritable c.args.script.now.names (kinds_of c.args.script.now.lines) ls) (sym c.as_slice-lines.ensures) its.writable))

pub returns-clause-again : goal.returns-clause-again
returns-clause-again c =
    let its = its_text c.requires.bytes c.args.script.now c.requires.reads in
    let kinds : c.as_slice.result.now ≡ kinds_of c.args.script.now.lines =
    c.as_slice.ensures ∙ c.in_ok-kinds.ensures ∙ ap kinds_of c.as_slice-lines.ensures in
    let text : c.put_lines.new.text ≡ text_of_script c.args.script.now =
    c.in_ok-put_lines.ensures
    ∙ (λ i. c.new-text.ensures i ++ text_from (c.as_slice-names.ensures i) (kinds i) 1 (c.as_slice-lines.ensures i)) in
    ap script_of text ∙ its.again

pub returns-clause-shortest : goal.returns-clause-shortest
returns-clause-shortest c = λ bytes reads.
    let its = its_text bytes c.args.script.now reads in
    let kinds : c.as_slice.result.now ≡ kinds_of c.args.script.now.lines =
    c.as_slice.ensures ∙ c.in_ok-kinds.ensures ∙ ap kinds_of c.as_slice-lines.ensures in
    let text : c.put_lines.new.text ≡ text_of_script c.args.script.now =
    c.in_ok-put_lines.ensures
    ∙ (λ i. c.new-text.ensures i ++ text_from (c.as_slice-names.ensures i) (kinds i) 1 (c.as_slice-lines.ensures i)) in
    subst (λ t. length t ≤ length bytes) (sym text) its.shorter
