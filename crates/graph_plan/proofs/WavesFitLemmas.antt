-- In each epoch the form of a source is that of its wave.
use Rattle.std.proofs.Common.{◌≡◌, inl, inr, ℕ, zero, suc, List, [], ◌∷◌, refl, sym, ap, ◌∙◌, subst}
use Rattle.std.specs.Prelude.{Ok}
use Rattle.std.specs.List.{All}
use Rattle.std.proofs.lemmas.List.Elements.{All-push}
use Rattle.pw_graph.specs.declared.ids.PortId.{PortId}
use Rattle.pw_graph.specs.declared.kind.Kind.{Kind}
use Rattle.pw_graph.specs.declared.plan.Epoch.{Epoch}
use Rattle.wav_files.specs.declared.wav.WavIn.{WavIn}
use Rattle.cycle_model.specs.WavesFit.{IsFormOf}
use Rattle.graph_script.specs.declared.command.Command.{Command}
use Rattle.graph_script.specs.declared.command.Command.TheVariants as C
use Rattle.graph_script.specs.declared.script.Line.{Line}
use Rattle.port_model.specs.declared.port_state.Node.{Node}
use Rattle.port_model.specs.PortState.{buffered, with_port}
use Rattle.link_negotiation.specs.declared.negotiation.Linked.{Linked}
use Rattle.link_negotiation.specs.declared.negotiation.Linked.TheVariants as L
use Rattle.link_negotiation.specs.declared.unlinking.Unlinked.{Unlinked}
use Rattle.link_negotiation.specs.declared.unlinking.Unlinked.TheVariants as U
use Rattle.link_negotiation.specs.LinkOutcome.{given, LeavesLink}
use Rattle.link_negotiation.specs.Unlinking.{without, releasing, HasUnlinked}
use Rattle.graph_lines.specs.declared.graph.Graph.{Graph}
use Rattle.graph_lines.specs.declared.graph.Stepped.TheVariants as T
use Rattle.graph_lines.specs.Epochs.{IsEpochOf}
use Rattle.graph_lines.specs.EpochLines.{RunsFor, Steps}
use Rattle.graph_lines.specs.Forms.{HasKinds}
use Rattle.graph_lines.specs.Lines.{Marks}
use Rattle.graph_script.specs.Making.{grown}
use Rattle.graph_plan.specs.Conditions.{IsWaveFor}
use Rattle.graph_plan.specs.Following.{Follows}
use Rattle.graph_plan.specs.working.SoundGraph.{IsSoundGraph}
use Rattle.graph_plan.proofs.lists.ElementLemmas.{all_of}
use Rattle.graph_plan.proofs.OwnOfferLemmas.{owns, owns_port, owns_releasing, form_fits}
use Rattle.graph_plan.proofs.sound.SoundPartLemmas.{stands}
use Rattle.graph_plan.proofs.sound.StepLemmas.{AreGoodLines, IsGoodLine, good_first, good_rest, step_sound, step_kinds, follows_end, no_stop}

-- the own offers are those of the start, and so far the forms of the wave's node are the wave's
pub record Fits (before : List Node) (wave : WavIn) (g : Graph) : Type 0 where
  pub own : owns g.ports ≡ owns before
  pub forms : All (λ e. All (IsFormOf wave) e.forms) g.epochs

-- a line that makes no epoch
same_fits : (before : List Node) (wave : WavIn) (g after : Graph) → Fits before wave g → owns after.ports ≡ owns g.ports → after.epochs ≡ g.epochs
    → Fits before wave after
same_fits before wave g after fits own epochs = record {
  own = own ∙ fits.own;
  forms = subst (All (λ (e : Epoch). All (IsFormOf wave) e.forms)) (sym epochs) fits.forms;
}

rest_fits : (before : List Node) (wave : WavIn) (g after next : Graph) → Fits before wave g → after ≡ next → owns next.ports ≡ owns g.ports
    → next.epochs ≡ g.epochs → Fits before wave after
rest_fits before wave g after next fits same own epochs = same_fits before wave g after fits (ap (λ (x : Graph). owns x.ports) same ∙ own)
    (ap (λ (x : Graph). x.epochs) same ∙ epochs)

marks_fit : (before : List Node) (wave : WavIn) (g after : Graph) (n : ℕ) → Fits before wave g → Marks g n after → Fits before wave after
marks_fit before wave g after n fits (inl h) = rest_fits before wave g after _ fits h.1 refl refl
marks_fit before wave g after n fits (inr h) = rest_fits before wave g after _ fits h.1 refl refl

link_owns : (g after : Graph) (from to : PortId) (linked : Linked) → LeavesLink g.links g.ports from to linked after.links after.ports
    → owns after.ports ≡ owns g.ports
link_owns g after from to (L.Made format buffers) k = ap owns k.1
    ∙ (owns_port (with_port g.ports from (given format)) to (given format) (λ s. refl) ∙ owns_port g.ports from (given format) (λ s. refl))
link_owns g after from to (L.NoFormat key) k = ap owns k.1
link_owns g after from to L.NoBuffers k = ap owns k.1
link_owns g after from to L.Twice k = ap owns k.1
link_owns g after from to L.Loop k = ap owns k.1
link_owns g after from to L.Many k = ap owns k.1

unlink_owns : (g after : Graph) (from to : PortId) (keep : ℕ) (u : Unlinked) → HasUnlinked g.links g.ports from to keep u after.links after.ports
    → owns after.ports ≡ owns g.ports
unlink_owns g after from to keep U.NotThere o = ap owns o.2
unlink_owns g after from to keep (U.Gone gave) o = ap owns o.3
    ∙ (owns_releasing (without from to g.links.made) keep to.node (releasing (without from to g.links.made) keep from.node g.ports)
    ∙ owns_releasing (without from to g.links.made) keep from.node g.ports)

-- A LINE THAT MAKES AN EPOCH
module _ (before : List Node) (wave : WavIn) (is : IsWaveFor before wave) (count : ℕ) (g : Graph) (sound : IsSoundGraph count g)
    (kinds : HasKinds before g.kinds) (fits : Fits before wave g) where
  epoch_fits : (n : ℕ) (e : Epoch) → IsEpochOf g n e → All (IsFormOf wave) e.forms
  epoch_fits n e made = all_of (IsFormOf wave) e.forms (λ f c same.
      form_fits g.ports before g.kinds wave sound.ports sound.kinds kinds fits.own is f.port f.rate f.channels
      (stands count g sound n e made f.port f.rate f.channels c).form same)

  run_fits : (after : Graph) (n : ℕ) → RunsFor g n T.Done after → Fits before wave after
  run_fits after zero h = rest_fits before wave g after g fits h.1 refl refl
  run_fits after (suc n) h = record {
    own = ap (λ (x : Graph). owns x.ports) h.2.1.same ∙ fits.own;
    forms = subst (All (λ (e : Epoch). All (IsFormOf wave) e.forms)) (sym (ap (λ (x : Graph). x.epochs) h.2.1.same))
        (All-push (λ (e : Epoch). All (IsFormOf wave) e.forms) g.epochs h.0 fits.forms (epoch_fits (suc n) h.0 h.1));
  }

  -- ANY LINE
  pub step_fits : (waves : List WavIn) (after : Graph) (command : Command) → Steps waves g command T.Done after → Fits before wave after
  step_fits waves after (C.Source n file) h = rest_fits before wave g after _ fits h.1 refl refl
  step_fits waves after (C.Square n rate channels period amp) h = rest_fits before wave g after _ fits h.1 refl refl
  step_fits waves after (C.Gain n gain) h = rest_fits before wave g after _ fits h.1 refl refl
  step_fits waves after (C.Mix2 n ga gb) h = rest_fits before wave g after _ fits h.1 refl refl
  step_fits waves after (C.Delay n frames) h = rest_fits before wave g after _ fits h.1 refl refl
  step_fits waves after (C.Map n channels list) h = rest_fits before wave g after _ fits h.1 refl refl
  step_fits waves after (C.Split n) h = rest_fits before wave g after _ fits h.1 refl refl
  step_fits waves after (C.Sink n file) h = rest_fits before wave g after _ fits h.1 refl refl
  step_fits waves after (C.Meter n) h = rest_fits before wave g after _ fits h.1 refl refl
  step_fits waves after (C.Driver n p) h = rest_fits before wave g after _ fits h.1 refl refl
  step_fits waves after (C.Loop n k) h = rest_fits before wave g after _ fits h.1 refl refl
  step_fits waves after (C.On n) h = rest_fits before wave g after _ fits h.1 refl refl
  step_fits waves after (C.Off n) h = rest_fits before wave g after _ fits h.1 refl refl
  step_fits waves after (C.Async n) h = marks_fit before wave g after n fits h.1
  step_fits waves after (C.Buffers port n) h = rest_fits before wave g after _ fits h.1 (owns_port g.ports port (buffered n) (λ s. refl)) refl
  step_fits waves after (C.Link from to) h = same_fits before wave g after fits (link_owns g after from to h.linked h.leaves)
      (ap (λ (x : Graph). x.epochs) h.same)
  step_fits waves after (C.Unlink from to) h = same_fits before wave g after fits (unlink_owns g after from to h.1.keep h.1.unlinked h.1.outcome)
      (ap (λ (x : Graph). x.epochs) h.1.same)
  step_fits waves after (C.Quantum n) h = rest_fits before wave g after g fits h.1 refl refl
  step_fits waves after (C.Offer port file) h = rest_fits before wave g after g fits h.1 refl refl
  step_fits waves after (C.Cycles n) h = run_fits after n h
  step_fits waves after C.Drain h = run_fits after h.0 h.2

-- ALL LINES
pub follows_fit : (before : List Node) (wave : WavIn) → IsWaveFor before wave → (waves : List WavIn) (kinds : List Kind) (lines : List Line)
    (count : ℕ) (g end : Graph) → IsSoundGraph count g → g.kinds ≡ kinds → HasKinds before kinds → AreGoodLines count kinds lines
    → Fits before wave g → Follows waves g lines (Ok end) → Fits before wave end
follows_fit before wave is waves kinds [] count g end sound same own good fits h =
    subst (Fits before wave) (sym (follows_end g end h)) fits
follows_fit before wave is waves kinds (l ∷ ls) count g end sound same own good fits (inl h) =
    follows_fit before wave is waves kinds ls (grown count l.command) h.0 end (step_sound waves count g h.0 l.command sound
    (subst (λ (ks : List Kind). IsGoodLine count ks l.command) (sym same) (good_first count kinds l ls good)) h.1)
    (step_kinds waves g h.0 l.command h.1 ∙ same) own (good_rest count kinds l ls good)
    (step_fits before wave is count g sound (own ∙ sym same) fits waves h.0 l.command h.1) h.2
follows_fit before wave is waves kinds (l ∷ ls) count g end sound same own good fits (inr h) = absurd (no_stop end l.line h.0 h.3)
