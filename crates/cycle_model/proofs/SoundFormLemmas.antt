-- In a sound plan the channels of each node's ports agree as its kind needs them, so all rows are full.
use Rattle.std.proofs.Common.{◌≡◌, ℕ, zero, suc, ◌<◌, ◌≤◌, true, List, [], length, get_or, All, Some, refl, ap, sym}
use Rattle.std.proofs.Common.{◌∙◌, subst, arith, ⊎_elim}
use Rattle.std.specs.Prelude.{AllPairs, Contains}
use Rattle.std.proofs.lemmas.Bool.{cases_eq, cases_lt}
use Rattle.std.proofs.lemmas.List.{get_or_default}
use Rattle.pw_graph.specs.declared.ids.PortId.{PortId}
use Rattle.pw_graph.specs.declared.kind.Kind.{Kind}
use Rattle.pw_graph.specs.declared.kind.Kind.TheVariants.{Source, Square, Gain, Mix2, Delay, Map, Split, Sink, Meter, Dummy}
use Rattle.pw_graph.specs.declared.plan.Epoch.{Epoch}
use Rattle.pw_graph.specs.declared.plan.Plan.{Plan}
use Rattle.pw_graph.specs.declared.plan.PlanNode.{PlanNode}
use Rattle.pw_graph.specs.declared.plan.PortForm.{PortForm}
use Rattle.pw_graph.specs.Dependencies.{nodes_of}
use Rattle.pw_graph.specs.KindPorts.{input_count, port_count}
use Rattle.pw_graph.specs.KindRanges.{IsInRange, MayHaveChannels, SharesChannels, IsSinkOrMeter}
use Rattle.pw_graph.specs.PlanForms.{kind_at, HasForm, IsSoundForm, AreShared}
use Rattle.pw_graph.specs.SoundPlan.{IsSoundEpoch, IsSoundPlan}
use Rattle.pw_graph.proofs.ShapeLemmas.{Decides-contains_mapped}
use Rattle.wav_files.specs.declared.wav.WavIn.{WavIn}
use Rattle.cycle_model.specs.Epochs.{epoch_at, is_within, channels_of}
use Rattle.cycle_model.specs.Mixing.{takes_part}
use Rattle.cycle_model.specs.Progress.{IsOutputOf}
use Rattle.cycle_model.specs.WavesFit.{WavesFit}
use Rattle.cycle_model.specs.working.FullRows.{AgreesIn, AreFormed, AreFull}
use Rattle.cycle_model.proofs.CycleLemmas.{is_node, kind_there}
use Rattle.cycle_model.proofs.EpochLemmas.{found}
use Rattle.cycle_model.proofs.FullRowLemmas.{formed_rows}
use Rattle.cycle_model.proofs.SoundPlanLemmas.{channels_are, sound_is_renderable}

-- a node that takes part is among the numbers of the shape
pub takes_in : (e : Epoch) (node : ℕ) → takes_part e node ≡ true → Contains (nodes_of e.shape) node
takes_in e node part = (Decides-contains_mapped (λ n. n.node) e.shape.nodes node).0 part

-- what holds of all forms holds of one that is there
form_has : (P : PortForm → Type 0) (forms : List PortForm) (f : PortForm) → All P forms → Contains forms f → P f
form_has P forms f all w = subst P w.2 (all w.0 f w.1)

-- two forms of one node share their channels, where its kind says so
shared_forms : (plan : Plan) (forms : List PortForm) (f g : PortForm) → AllPairs (AreShared plan) forms → Contains forms f
    → Contains forms g → f.port.node ≡ g.port.node → SharesChannels (kind_at plan f.port.node) → f.channels ≡ g.channels
shared_forms plan forms f g shared at bt same kind = ⊎_elim
    (λ (is : at.0 ≡ bt.0).
    let one : f ≡ g = sym at.2 ∙ ap (λ k. get_or forms k f) is ∙ get_or_default forms bt.0 f g bt.1 ∙ bt.2 in
    ap (λ (x : PortForm). x.channels) one)
    (λ ne. ⊎_elim
    (λ (low : at.0 < bt.0).
    let pair : AreShared plan f g = subst (λ x. AreShared plan x g) at.2
    (subst (AreShared plan (get_or forms at.0 f)) (get_or_default forms bt.0 f g bt.1 ∙ bt.2) (shared at.0 bt.0 f low bt.1)) in
    (pair same).1 kind)
    (λ (high : bt.0 ≤ at.0).
    let pair : AreShared plan g f = subst (λ x. AreShared plan x f) (get_or_default forms bt.0 f g bt.1 ∙ bt.2)
    (subst (AreShared plan (get_or forms bt.0 f)) at.2 (shared bt.0 at.0 f (omega (arith, high, ne)) at.1)) in
    sym ((pair (sym same)).1 (subst (λ n. SharesChannels (kind_at plan n)) same kind)))
    (cases_lt at.0 bt.0))
    (cases_eq at.0 bt.0)

-- an output's kind is in range, and sinks and meters have none
no_output : (k : Kind) (port : ℕ) → IsSinkOrMeter k → input_count k ≤ port → port < port_count k → ⊥
no_output Sink port h low high = omega (arith, low, high)
no_output Meter port h low high = omega (arith, low, high)
no_output _ port h low high = h

module _ (plan : Plan) (sound : IsSoundPlan plan) (e : Epoch) (h : IsSoundEpoch plan e) (port : PortId)
    (part : takes_part e port.node ≡ true) (is_out : IsOutputOf plan port) where
  abbrev kind : Kind
  kind = kind_at plan port.node

  -- a port with an output is no driver
  follows : port.node ≡ e.shape.driver → ⊥
  follows is = ⊎_elim
      (λ (dummy : e.shape.driver ≡ 63). is_node plan port is_out (let few = sound.few in omega (arith, is, dummy, few)))
      (λ (ends : IsSinkOrMeter (kind_at plan e.shape.driver)).
      no_output kind port.port (subst (λ n. IsSinkOrMeter (kind_at plan n)) (sym is) ends) is_out.0 is_out.1)
      h.places.driver

  there : port.node < length plan.nodes
  there = ⊎_elim (λ (low : port.node < length plan.nodes). low) (λ (high : length plan.nodes ≤ port.node). absurd (is_node plan port is_out high))
      (cases_lt port.node (length plan.nodes))

  in_range : IsInRange kind
  in_range =
      let d : PlanNode = record { name = []; kind = Dummy; k = 0; rate = 0; channels = 0 } in
      subst IsInRange (sym (kind_there plan.nodes port.node d there)) (sound.nodes port.node d there).kind

  -- each port of it has a form
  record HasChannels (i : ℕ) : Type 0 where
    rate : ℕ
    channels : ℕ
    form : HasForm e (record { node = port.node; port = i }) rate channels
    is : channels_of e.forms (record { node = port.node; port = i }) ≡ channels
    may : MayHaveChannels kind i channels

  has : (i : ℕ) → i < port_count kind → HasChannels i
  has i lt =
      let w = h.forms.whole (record { node = port.node; port = i }) (takes_in e port.node part) follows lt in
      record {
        rate = w.0;
        channels = w.1;
        form = w.2;
        is = channels_are e.forms (record { node = port.node; port = i }) w.0 w.1 h.forms.ascend w.2;
        may = (form_has (IsSoundForm plan e) e.forms (record { port = record { node = port.node; port = i }; rate = w.0; channels = w.1 })
            h.forms.each w.2).channels;
      }

  abbrev channels : ℕ → ℕ
  channels i = channels_of e.forms (record { node = port.node; port = i })

  -- two ports of a kind that shares channels have the same
  same : SharesChannels kind → (i j : ℕ) → i < port_count kind → j < port_count kind → channels i ≡ channels j
  same shares i j li lj =
      let a = has i li in
      let b = has j lj in
      a.is ∙ shared_forms plan e.forms (record { port = record { node = port.node; port = i }; rate = a.rate; channels = a.channels })
      (record { port = record { node = port.node; port = j }; rate = b.rate; channels = b.channels }) h.forms.shared a.form b.form refl shares
      ∙ sym b.is

  agrees_as : (k : Kind) → kind ≡ k → AgreesIn k (channels 0) (channels 1) (channels port.port)
  agrees_as Source is = tt
  agrees_as (Square x y z w) is = tt
  agrees_as (Gain g) is =
      same (subst SharesChannels (sym is) tt) 0 port.port (subst (λ k. 0 < port_count k) (sym is) (omega arith)) is_out.1
  agrees_as (Mix2 x y) is = (
    same (subst SharesChannels (sym is) tt) 0 port.port (subst (λ k. 0 < port_count k) (sym is) (omega arith)) is_out.1,
    same (subst SharesChannels (sym is) tt) 1 port.port (subst (λ k. 1 < port_count k) (sym is) (omega arith)) is_out.1,
  )
  agrees_as (Delay x) is =
      same (subst SharesChannels (sym is) tt) 0 port.port (subst (λ k. 0 < port_count k) (sym is) (omega arith)) is_out.1
  agrees_as (Map own list) is =
      let a = has 0 (subst (λ k. 0 < port_count k) (sym is) (omega arith)) in
      let b = has port.port is_out.1 in
      let low : input_count (Map own list) ≤ port.port = subst (λ k. input_count k ≤ port.port) is is_out.0 in
      let range : IsInRange (Map own list) = subst IsInRange is in_range in (
        a.is ∙ subst (λ k. MayHaveChannels k 0 a.channels) is a.may,
        b.is ∙ map_output port.port b.channels low (subst (λ k. MayHaveChannels k port.port b.channels) is b.may),
        range.0.0,
      )
    where
      map_output : (i n : ℕ) → 1 ≤ i → MayHaveChannels (Map own list) i n → n ≡ length list
      map_output zero n low may = absurd (omega (arith, low))
      map_output (suc i) n low may = may
  agrees_as Split is =
      let a = has 0 (subst (λ k. 0 < port_count k) (sym is) (omega arith)) in
      let b = has port.port is_out.1 in
      let low : input_count Split ≤ port.port = subst (λ k. input_count k ≤ port.port) is is_out.0 in (
        a.is ∙ subst (λ k. MayHaveChannels k 0 a.channels) is a.may,
        b.is ∙ split_output port.port b.channels low (subst (λ k. MayHaveChannels k port.port b.channels) is b.may),
      )
    where
      split_output : (i n : ℕ) → 1 ≤ i → MayHaveChannels Split i n → n ≡ 1
      split_output zero n low may = absurd (omega (arith, low))
      split_output (suc i) n low may = may
  agrees_as Sink is = tt
  agrees_as Meter is = tt
  agrees_as Dummy is = tt

-- the epoch of a cycle of a sound plan
pub sound_at : (plan : Plan) → IsSoundPlan plan → (c : ℕ) (e : Epoch) → epoch_at plan c ≡ Some e → IsSoundEpoch plan e
sound_at plan sound c e at = (found (IsSoundEpoch plan) (λ e. is_within e c) plan.epochs e sound.epochs at).0

pub sound_is_formed : (plan : Plan) → IsSoundPlan plan → AreFormed plan
sound_is_formed plan sound c e port at part is_out =
    agrees_as plan sound e (sound_at plan sound c e at) port part is_out (kind_at plan port.node) refl

-- FULL ROWS of a sound plan
pub rows_are_full : (plan : Plan) (waves : List WavIn) → IsSoundPlan plan → WavesFit plan waves → AreFull plan waves
rows_are_full plan waves sound fit = formed_rows plan waves (sound_is_renderable plan waves sound fit) (sound_is_formed plan sound)
