use Rattle.std.proofs.Common.{◌+◌, ◌++◌, ◌∷◌, []}
use Rattle.graph_lines.specs.Gathering.{HasFormsBefore}
use Rattle.graph_lines.proofs.GatheringLemmas.{form_of, form_more, form_none, on_ok}
use Rattle.graph_lines.proofs.graph.Graph.add_form.Goals as goal

pub returns-in-Some : goal.returns-in-Some
returns-in-Some c =
    let ports = c.args.self.now.ports in let here = c.args.here.now in let port = c.args.port in let forms = c.args.forms.now in
    on_ok (HasFormsBefore ports here (record { node = port.node; port = port.port + 1 })) c.push.result c.push.new.self
    (forms ++ form_of port c.in-Some.rate c.in-Some.channels ∷ []) c.push.ensures.ok
    (form_more ports here c.requires.sound.ports port forms c.requires.forms c.requires.active c.in-Some.rate c.in-Some.channels
    c.in-Some.ensures)

pub returns-in-None : goal.returns-in-None
returns-in-None c = form_none c.args.self.now.ports c.args.here.now c.requires.sound.ports c.args.port c.args.forms.now c.requires.forms
    c.in-None.ensures
