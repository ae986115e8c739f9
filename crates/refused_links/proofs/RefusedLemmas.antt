-- A `link` line that is noted as without a common format left the ports as they were, and they
-- negotiate no format.
use Rattle.std.proofs.Common.{◌≡◌, ℕ, List, [], ◌∷◌, length, Option, Some, None, refl, sym, ap, ◌∙◌, subst}
use Rattle.std.specs.Prelude.{slice_get, option_and_then}
use Rattle.std.proofs.lemmas.Option.{same_Some, none-some}
use Rattle.pw_graph.specs.declared.ids.PortId.{PortId}
use Rattle.pw_graph.specs.declared.plan.LineOutcome.{LineOutcome}
use Rattle.pw_graph.specs.declared.plan.LineOutcome.TheVariants as O
use Rattle.pw_graph.specs.declared.plan.LinkLine.{LinkLine}
use Rattle.wav_files.specs.declared.wav.WavIn.{WavIn}
use Rattle.graph_script.specs.declared.command.Command.{Command}
use Rattle.graph_script.specs.declared.command.Command.TheVariants as C
use Rattle.port_model.specs.declared.port_state.Node.{Node}
use Rattle.port_model.specs.PortState.{IsInput, IsOutput}
use Rattle.link_negotiation.specs.declared.common_formats.Negotiated.TheVariants as negotiated
use Rattle.link_negotiation.specs.declared.negotiation.Linked.{Linked}
use Rattle.link_negotiation.specs.declared.negotiation.Linked.TheVariants as L
use Rattle.link_negotiation.specs.LinkOutcome.{IsLinkOutcome, LeavesLink}
use Rattle.link_negotiation.specs.Negotiation.{Negotiates}
use Rattle.link_negotiation.proofs.MayBeGivenLemmas.{there}
use Rattle.link_negotiation.proofs.UnlinkLemmas.{input_there}
use Rattle.graph_lines.specs.declared.graph.Graph.{Graph}
use Rattle.graph_lines.specs.declared.graph.Stepped.{Stepped}
use Rattle.graph_lines.specs.Conditions.{MayStep}
use Rattle.graph_lines.specs.LinkLines.{Notes, IsRecorded, LinksLine}
use Rattle.graph_lines.specs.Ready.{IsReady}
use Rattle.graph_lines.specs.Rehearsal.{Rehearses}
use Rattle.graph_plan.proofs.lists.PlaceLemmas.{at_end}
use Rattle.refused_links.specs.declared.refused_link.RefusedLink.{RefusedLink}
use Rattle.refused_links.specs.Refused.{key_in, noted_key, LinkAdds, Adds}
use Rattle.refused_links.specs.working.Finding.{ShowsSides, FindsLink, Finds}
use Rattle.refused_links.proofs.PartingLemmas.{sides_part}

-- behind a list there is nothing
behind : {X : Type 0} (xs : List X) → slice_get xs (length xs) ≡ None
behind [] = refl
behind (x ∷ xs) = behind xs

module _ (g after : Graph) (from to : PortId) where
  -- what a line is noted as
  key_noted : (outcome : LineOutcome) → Notes g from to outcome after → noted_key after.lines (length g.lines) ≡ key_in outcome
  key_noted outcome e =
      let line : LinkLine = record { from = from; to = to; outcome = outcome } in
      ap (λ (ls : List LinkLine). noted_key ls (length g.lines)) e
      ∙ ap (λ (o : Option LinkLine). option_and_then (λ (l : LinkLine). key_in l.outcome) o) (at_end g.lines line)

  no_key : after.lines ≡ g.lines → noted_key after.lines (length g.lines) ≡ None
  no_key e = ap (λ (ls : List LinkLine). noted_key ls (length g.lines)) e
      ∙ ap (λ (o : Option LinkLine). option_and_then (λ (l : LinkLine). key_in l.outcome) o) (behind g.lines)

  -- an outcome without a key is not noted with one
  other_outcome : (outcome : LineOutcome) (key : ℕ) → key_in outcome ≡ None → Notes g from to outcome after
      → noted_key after.lines (length g.lines) ≡ Some key → ⊥
  other_outcome outcome key none e is = none-some key (sym (key_noted outcome e ∙ none) ∙ is)

  by_outcome : (linked : Linked) (stepped : Stepped) (key : ℕ) → IsLinkOutcome g.links g.ports from to linked
      → LeavesLink g.links g.ports from to linked after.links after.ports → IsRecorded g from to linked stepped after
      → noted_key after.lines (length g.lines) ≡ Some key → (after.ports ≡ g.ports) × Negotiates g.ports from to (negotiated.NoFormat key)
  by_outcome (L.Made format buffers) stepped key o l r is =
      absurd (other_outcome (O.Linked r.2.0 r.2.1 buffers) key refl r.2.3 is)
  by_outcome (L.NoFormat k) stepped key o l r is =
      let same : k ≡ key = same_Some k key (sym (key_noted (O.NoFormat k) r.2) ∙ is) in
      (l.1, subst (λ (n : ℕ). Negotiates g.ports from to (negotiated.NoFormat n)) same o.1)
  by_outcome L.NoBuffers stepped key o l r is = absurd (other_outcome O.NoBuffers key refl r.2 is)
  by_outcome L.Twice stepped key o l r is = absurd (other_outcome O.Twice key refl r.2 is)
  by_outcome L.Loop stepped key o l r is = absurd (other_outcome O.Looped key refl r.2 is)
  by_outcome L.Many stepped key o l r is = absurd (none-some key (sym (no_key r.2) ∙ is))

  -- WHAT IS FOUND after a `link` line is what it adds
  module _ (stepped : Stepped) (number : ℕ) (ready : IsReady g) (output : IsOutput g.ports from) (input : IsInput g.ports to)
      (h : LinksLine g from to stepped after) where
    pub link_adds : (found : Option RefusedLink) → FindsLink after number (length g.lines) from to found → LinkAdds g number from to after found
    link_adds None f = f
    link_adds (Some r) f =
        let w = by_outcome h.linked stepped r.key h.outcome h.leaves h.noted f.noted in
        record {
          line = f.line;
          place = f.place;
          from = f.from;
          to = f.to;
          noted = f.noted;
          sides = sides_part g.ports from to (there g.ports from ready.nodes.ports output.1)
              (there g.ports to ready.nodes.ports (input_there g.ports to input)) r.key r.sides w.1
              (subst (λ (nodes : List Node). ShowsSides nodes from to r.key r.sides) w.0 f.sides);
        }

module _ (waves : List WavIn) (g after : Graph) (stepped : Stepped) (number : ℕ) (found : Option RefusedLink) (ready : IsReady g) where
  pub line_adds : (command : Command) → MayStep g command → Rehearses waves g command stepped after
      → Finds after number (length g.lines) command found → Adds g number command after found
  line_adds (C.Link from to) may h f = link_adds g after from to stepped number ready may.0 may.1 h found f
  line_adds (C.Source n file) may h f = f
  line_adds (C.Square n rate channels period amp) may h f = f
  line_adds (C.Gain n gain) may h f = f
  line_adds (C.Mix2 n ga gb) may h f = f
  line_adds (C.Delay n frames) may h f = f
  line_adds (C.Map n channels list) may h f = f
  line_adds (C.Split n) may h f = f
  line_adds (C.Sink n file) may h f = f
  line_adds (C.Meter n) may h f = f
  line_adds (C.Driver n p) may h f = f
  line_adds (C.Loop n k) may h f = f
  line_adds (C.On n) may h f = f
  line_adds (C.Off n) may h f = f
  line_adds (C.Async n) may h f = f
  line_adds (C.Buffers port n) may h f = f
  line_adds (C.Unlink from to) may h f = f
  line_adds (C.Quantum n) may h f = f
  line_adds (C.Offer port file) may h f = f
  line_adds (C.Cycles n) may h f = f
  line_adds C.Drain may h f = f
