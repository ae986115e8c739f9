use Rattle.port_model.specs.Forms.{HasForm}
use Rattle.graph_lines.specs.Forms.{IsFormOfPort}
use Rattle.graph_lines.proofs.LinkingLemmas.{has_told}
use Rattle.graph_lines.proofs.PortLemmas.{formed}
use Rattle.graph_lines.proofs.linking.form_at.Goals as goal

pub returns-in-None-clause-form : goal.returns-in-None-clause-form
returns-in-None-clause-form c = has_told c.args.ports.now c.args.port c.sound.result (λ node s. HasForm node s 0 0) c.sound.ensures.nodes
    c.requires.port c.requires.format c.in-None.is c.sound.ensures.has

pub returns-in-None-clause-here : goal.returns-in-None-clause-here
returns-in-None-clause-here c = (
  c.requires.port,
  has_told c.args.ports.now c.args.port c.sound.result (IsFormOfPort 0 0) c.sound.ensures.nodes
      c.requires.port c.requires.format c.in-None.is c.sound.ensures.has,
)

pub returns-in-Some-clause-here : goal.returns-in-Some-clause-here
returns-in-Some-clause-here c = formed c.args.ports.now c.args.port c.in-Some.form.0 c.in-Some.form.1 c.requires.port c.requires.format
    c.in-Some.ensures.form
