-- What `run` finds of the links that its plan refuses for want of a common format.
-- Source: PipeWire's documentation, "Objects Design", Link; spa/pod/filter.h; that both sides are
-- told is this project's.
use Rattle.std.specs.Prelude.{◌≡◌, Bool, true, false, List, []}
use Rattle.std.specs.List.{list_any}
use Rattle.pw_graph.specs.declared.plan.LineOutcome.{LineOutcome}
use Rattle.pw_graph.specs.declared.plan.LineOutcome.TheVariants.{NoFormat}
use Rattle.pw_graph.specs.declared.plan.LinkLine.{LinkLine}
use Rattle.wav_files.specs.declared.wav.WavIn.{WavIn}
use Rattle.graph_script.specs.declared.script.Line.{Line}
use Rattle.port_model.specs.declared.port_state.Node.{Node}
use Rattle.refused_links.specs.declared.refused_link.RefusedLink.{RefusedLink}
use Rattle.refused_links.specs.Refused.{AreRefusedLinks}
use Rattle.pw_top.specs.declared.planned.Planned.{Planned}

-- an outcome without a common format
abbrev pub lacks_format : LineOutcome → Bool
lacks_format (NoFormat key) = true
lacks_format other = false

-- a line of a plan has such an outcome
abbrev pub any_refused : List LinkLine → Bool
any_refused lines = list_any (λ l. lacks_format l.outcome) lines

-- where one has, the refused links of the script are found; else there is none, and none is sought
abbrev pub AreRefusedIf : Bool → List Line → List WavIn → List Node → List RefusedLink → Type 0
AreRefusedIf true lines waves ports refused = AreRefusedLinks lines waves ports refused
AreRefusedIf false lines waves ports refused = refused ≡ []

-- REFUSED LINKS of what is planned: those of its script, with its ports before the first line
abbrev pub AreRefusedIn : Planned → List RefusedLink → Type 0
AreRefusedIn p refused =
    AreRefusedIf (any_refused p.plan.lines) p.script.lines p.waves p.ports refused
