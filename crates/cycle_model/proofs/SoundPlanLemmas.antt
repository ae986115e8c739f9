-- A sound plan whose waves fit can be rendered.
use Rattle.std.proofs.Common.{◌≡◌, ℕ, zero, suc, ◌<◌, ◌==◌, true, false, nat_lt, List, [], ◌∷◌, length, get_or, refl, ap, subst, arith}
use Rattle.std.proofs.Common.{inl, inr}
use mathlib.Core.Logic.{dite}
use native.Mathlib.Decide.{ℕ_discrete}
use Rattle.std.specs.Prelude.{AllPairs, Contains, IsTrue}
use Rattle.std.proofs.lemmas.Bool.{false_from_ne_true, le-ltb}
use Rattle.std.proofs.lemmas.Bool.Decides.{Decides-eqb}
use Rattle.pw_graph.specs.declared.ids.PortId.{PortId}
use Rattle.pw_graph.specs.declared.plan.Epoch.{Epoch}
use Rattle.pw_graph.specs.declared.plan.Plan.{Plan}
use Rattle.pw_graph.specs.declared.plan.PortForm.{PortForm}
use Rattle.pw_graph.specs.declared.shape.ShapeLink.{ShapeLink}
use Rattle.pw_graph.specs.Pools.{is_same_port, is_before}
use Rattle.pw_graph.specs.PlanForms.{IsFormed}
use Rattle.pw_graph.specs.SoundShape.{IsSoundLink}
use Rattle.pw_graph.specs.SoundPlan.{IsSoundEpoch, IsSoundPlan}
use Rattle.pw_graph.proofs.PoolLemmas.{same_port, port_same}
use Rattle.pw_graph.proofs.ShapeLemmas.{contains_mapped}
use Rattle.wav_files.specs.declared.wav.WavIn.{WavIn}
use Rattle.cycle_model.specs.Epochs.{channels_of}
use Rattle.cycle_model.specs.WavesFit.{WavesFit}
use Rattle.cycle_model.specs.Renderable.{IsFitting, IsRenderableEpoch, IsRenderable}

not_before_itself : (p : PortId) → ¬ IsTrue (is_before p p)
not_before_itself p t =
    let n : nat_lt p.node p.node ≡ false = le-ltb p.node p.node (omega arith) in
    let m : nat_lt p.port p.port ≡ false = le-ltb p.port p.port (omega arith) in
    let e : (p.node == p.node) ≡ true = (Decides-eqb p.node p.node).1 refl in
    let f : is_before p p ≡ false = rw (n, e, m) refl in
    cc

-- where ports ascend, the form of a port is the first one of that port
found_at : (forms : List PortForm) (a : PortForm) (k : ℕ) → AllPairs (λ f g. IsTrue (is_before f.port g.port)) forms → k < length forms
    → get_or forms k a ≡ a → channels_of forms a.port ≡ a.channels
found_at [] a k ascend lt e = absurd (omega arith)
found_at (f ∷ fs) a zero ascend lt e =
    let t : is_same_port f.port a.port ≡ true = port_same f.port a.port (ap (λ g. g.port) e) in
    rw t (ap (λ g. g.channels) e)
found_at (f ∷ fs) a (suc k) ascend lt e =
    let here : IsTrue (is_before f.port a.port) = subst (λ g. IsTrue (is_before f.port g.port)) e (ascend 0 (suc k) a (omega arith) lt) in
    let other : is_same_port f.port a.port ≡ false = false_from_ne_true (is_same_port f.port a.port)
    (λ t. not_before_itself a.port (subst (λ p. IsTrue (is_before p a.port)) (same_port f.port a.port t) here)) in
    rw other (found_at fs a k (λ i j d ij jl. ascend (suc i) (suc j) d (omega arith) (omega arith)) (omega arith) e)

pub channels_are : (forms : List PortForm) (port : PortId) (rate channels : ℕ) → AllPairs (λ f g. IsTrue (is_before f.port g.port)) forms
    → Contains forms (record { port = port; rate = rate; channels = channels })
    → channels_of forms port ≡ channels
channels_are forms port rate channels ascend c = found_at forms
    (record { port = port; rate = rate; channels = channels }) c.0 ascend c.1 c.2

module _ (plan : Plan) (e : Epoch) (h : IsSoundEpoch plan e) where
  link_fits : (l : ShapeLink) → IsSoundLink e.shape l → IsFormed plan e l → IsFitting plan e l
  link_fits l s f = record {
    from_active = s.from_active;
    to_active = s.to_active;
    from_output = f.output;
    to_input = f.input;
    from_form = channels_are e.forms l.from f.rate l.channels h.forms.ascend f.from;
    to_form = channels_are e.forms l.to f.rate l.channels h.forms.ascend f.to;
  }

  epoch_is_renderable : IsRenderableEpoch plan e
  epoch_is_renderable = record {
    quantum = h.quantum;
    nodes = λ k d lt. dite (ℕ_discrete (get_or e.shape.nodes k d).node 63) (λ dummy. inr dummy)
        (λ other. inl (h.places.places (get_or e.shape.nodes k d).node (contains_mapped (λ n. n.node) e.shape.nodes k d lt) other));
    links = λ k d lt. link_fits (get_or e.shape.links k d) (h.shape.sound.links.each k d lt) (h.forms.links k d lt);
    order = h.shape.sound.links.order;
  }

pub sound_is_renderable : (plan : Plan) (waves : List WavIn) → IsSoundPlan plan → WavesFit plan waves → IsRenderable plan waves
sound_is_renderable plan waves h fit = record {
  few = h.few;
  ranges = λ k d lt. (h.nodes k d lt).kind;
  numbered = h.follow;
  epochs = λ k d lt. epoch_is_renderable plan (get_or plan.epochs k d) (h.epochs k d lt);
  sources = fit;
}
