-- What a seat knows from step to step of a call.
use Rattle.std.proofs.Common.{◌≡◌, ◌≢◌, ℕ, ◌+◌, ◌<◌, Bool, true, false, true≢false, cond, List, [], ◌∷◌, map, take, reverse}
use Rattle.std.proofs.Common.{length, refl, sym, ap, ◌∙◌, subst, arith, eq-eqb, ne_eqb}
use Rattle.board_rule.specs.declared.view.Phase.TheVariants.{Idle, Awake, StartDrawn, Done, FinishDrawn, Telling}
use Rattle.board_rule.specs.declared.view.DriverPhase.TheVariants as drives
use Rattle.board_rule.specs.declared.view.NodeView.{NodeView}
use Rattle.board_rule.specs.declared.view.Trail.{Trail}
use Rattle.board_rule.specs.declared.view.View.{View}
use Rattle.pw_graph.specs.Layout.{event_count}
use Rattle.board_rule.specs.declared.board_shape.BoardShape.{BoardShape}
use Rattle.board_rule.specs.Layout.{BoardLayout, layout_of, IsSound, nodes}
use Rattle.board_rule.specs.View.{node_of, view_node, view_lead}
use Rattle.board_rule.specs.Steps.{HasNode, finished, settled, untold, driven, StoresPending, reset_to}
use Rattle.board_rule.specs.events.EventSteps.{Draws, draws, CanDraw, CanDrawLead, StoresEvent, event_stored, CanStore, held, stored_phase}
use Rattle.board_rule.specs.events.EventSteps.{node_draws, lead_draws, draw_trail}
use Rattle.activation_words.specs.Told.{IsTelling, HasTold}
use Rattle.activation_words.specs.Calls.{IsAwake, started, worked, HasRested, HasFinished}
use Rattle.activation_words.specs.CycleCalls.{begin_stored, reset_one, all_reset, HasBegun}
use Rattle.activation_words.proofs.ViewLemmas.{again, twice, has_again}
use Rattle.activation_words.proofs.TellLemmas.{all_kicked, all_settled}

all_of : (ts : List ℕ) → take (length ts) ts ≡ ts
all_of [] = refl
all_of (k ∷ ks) = ap (λ l. k ∷ l) (all_of ks)

module _ (p : BoardLayout) (v : View) (m : ℕ) where
  abbrev x : NodeView
  x = node_of v m

  -- the start
  pub start_draws : (b : Bool) → HasNode b p v m → IsAwake b v m → Draws b p v m
  start_draws true has awake = (has, subst (CanDrawLead v.lead.checked) (sym awake) tt)
  start_draws false has awake = (has, subst CanDraw (sym awake) tt)

  lead_start : (t : ℕ) → v.lead.drive ≡ drives.Awake
      → draws true v m t ≡ view_lead v (record v.lead { drive = drives.StartDrawn; start = t }) v.trail
  lead_start t awake = λ j. view_lead v (lead_draws v.lead t (awake j)) (draw_trail v.trail (awake j))

  node_start : (t : ℕ) → x.phase ≡ Awake → draws false v m t ≡ view_node v m (record x { phase = StartDrawn; start = t }) v.trail
  node_start t awake = ap (λ f. view_node v m (node_draws x t f) v.trail) awake

  -- a follower that holds a ticket can store its event
  node_stores : (y : NodeView) (s : Trail) → HasNode false p v m → y.next ≡ x.next → CanStore y.phase → held y y.phase < event_count p.shape
      → StoresEvent false p (view_node v m y s) m
  node_stores y s has next can low = (
    has_again p v m y s has next,
    (subst (λ (z : NodeView). CanStore z.phase) (sym (again p v m y s has.0.there)) can),
    (subst (λ (z : NodeView). held z z.phase < event_count p.shape) (sym (again p v m y s has.0.there)) low),
  )

  node_stored : (y : NodeView) (s : Trail) → HasNode false p v m
      → event_stored false (view_node v m y s) m ≡ view_node v m (record y { phase = stored_phase y.phase }) s
  node_stored y s has = ap (λ (z : NodeView). view_node (view_node v m y s) m (record z { phase = stored_phase z.phase }) s)
      (again p v m y s has.0.there) ∙ twice p v m y (record y { phase = stored_phase y.phase }) s s

  pub start_stores : (b : Bool) (t : ℕ) → HasNode b p v m → IsAwake b v m → t < event_count p.shape → StoresEvent b p (draws b v m t) m
  start_stores true t has awake low = subst (λ (w : View). StoresEvent true p w m) (sym (lead_start t awake)) (has, tt, low)
  start_stores false t has awake low = subst (λ (w : View). StoresEvent false p w m) (sym (node_start t awake))
      (node_stores (record x { phase = StartDrawn; start = t }) v.trail has refl tt low)

  pub start_stored : (b : Bool) (t : ℕ) → HasNode b p v m → IsAwake b v m → event_stored b (draws b v m t) m ≡ started b v m t
  start_stored true t has awake = ap (λ (w : View). event_stored true w m) (lead_start t awake)
  start_stored false t has awake = ap (λ (w : View). event_stored false w m) (node_start t awake)
      ∙ node_stored (record x { phase = StartDrawn; start = t }) v.trail has

  -- the end of the work: FINISHED, the ticket, the event
  done_node : (t : ℕ) → HasNode false p v m → draws false (finished false v m) m t
      ≡ view_node v m (record x { phase = FinishDrawn; finish = t }) (untold v.trail)
  done_node t has = ap (λ (z : NodeView). view_node (finished false v m) m (node_draws z t z.phase) (untold v.trail))
      (again p v m (record x { phase = Done }) (untold v.trail) has.0.there)
      ∙ twice p v m (record x { phase = Done }) (record x { phase = FinishDrawn; finish = t }) (untold v.trail) (untold v.trail)

  pub work_draws : (b : Bool) → HasNode b p v m → Draws b p (finished b v m) m
  work_draws true has = (has, tt)
  work_draws false has = let y : NodeView = record x { phase = Done } in (
    has_again p v m y (untold v.trail) has refl,
    subst (λ (z : NodeView). CanDraw z.phase)
        (sym (again p v m y (untold v.trail) has.0.there)) tt,
  )

  pub work_stores : (b : Bool) (t : ℕ) → HasNode b p v m → t < event_count p.shape → StoresEvent b p (draws b (finished b v m) m t) m
  work_stores true t has low = (has, tt, low)
  work_stores false t has low = subst (λ (w : View). StoresEvent false p w m) (sym (done_node t has))
      (node_stores (record x { phase = FinishDrawn; finish = t }) (untold v.trail) has refl tt low)

  pub work_stored : (b : Bool) (t : ℕ) → HasNode b p v m → event_stored b (draws b (finished b v m) m t) m ≡ worked b v m t
  work_stored true t has = refl
  work_stored false t has = ap (λ (w : View). event_stored false w m) (done_node t has)
      ∙ node_stored (record x { phase = FinishDrawn; finish = t }) (untold v.trail) has

  -- a follower that has ended its work tells its targets
  pub worked_has : (t : ℕ) → HasNode false p v m → HasNode false p (worked false v m t) m
  worked_has t has = has_again p v m (record x { phase = Telling 0 false; finish = t }) (untold v.trail) has refl

  pub worked_tells : (t : ℕ) → 0 < length (p.targets m) → HasNode false p v m
      → IsTelling false p (worked false v m t) m 0 (worked false v m t)
  worked_tells t many has = let y : NodeView = record x { phase = Telling 0 false; finish = t } in let w : View = worked false v m t in
      let at : settled (length (p.targets m)) (node_of w m) 0 false ≡ y =
      ap (λ (z : NodeView). settled (length (p.targets m)) z 0 false) (again p v m y (untold v.trail) has.0.there)
      ∙ ap (λ b. cond b (record y { next = y.next + 1; phase = Idle }) (record y { phase = Telling 0 false }))
      (ne_eqb 0 (length (p.targets m)) (λ e. omega arith)) in record {
        told = refl;
        is = sym (twice p v m y y (untold v.trail) (untold v.trail)) ∙ ap (λ (z : NodeView). view_node w m z (untold v.trail)) (sym at);
      }

  pub told_rests : (t : ℕ) (w : View) → t < event_count p.shape → HasNode false p v m → HasTold false p (worked false v m t) m w
      → HasRested p v m w
  told_rests t w low has r = let y : NodeView = record x { phase = Telling 0 false; finish = t } in let n : ℕ = length (p.targets m) in
      let s : Trail = record v.trail { told = w.trail.told } in record {
        ticket = t;
        drawn = low;
        told = r.told ∙ ap (λ l. reverse (map p.number l)) (all_of (p.targets m));
        is = r.is ∙ ap (λ (z : NodeView). view_node (worked false v m t) m (settled n z n false) s)
            (again p v m y (untold v.trail) has.0.there)
            ∙ twice p v m y (settled n y n false) (untold v.trail) s
            ∙ ap (λ (z : NodeView). view_node v m z s) (all_settled p v m y);
      }

-- the driver's seat begins a cycle
module _ (p : BoardLayout) (v : View) where
  pub begin_draws : HasNode true p v p.driver → v.lead.drive ≡ drives.Between → Draws true p v p.driver
  begin_draws has between = (has, subst (CanDrawLead v.lead.checked) (sym between) tt)

  begin_drawn : (t : ℕ) → v.lead.drive ≡ drives.Between
      → draws true v p.driver t ≡ view_lead v (record v.lead { drive = drives.BeginDrawn; ticket = t }) (untold v.trail)
  begin_drawn t between = λ j. view_lead v (lead_draws v.lead t (between j)) (draw_trail v.trail (between j))

  pub begin_stores : (t : ℕ) → HasNode true p v p.driver → v.lead.drive ≡ drives.Between → t < event_count p.shape
      → StoresEvent true p (draws true v p.driver t) p.driver
  begin_stores t has between low = subst (λ (w : View). StoresEvent true p w p.driver) (sym (begin_drawn t between)) (has, tt, low)

  pub begin_is : (t : ℕ) → v.lead.drive ≡ drives.Between → event_stored true (draws true v p.driver t) p.driver ≡ begin_stored v t
  begin_is t between = ap (λ (w : View). event_stored true w p.driver) (begin_drawn t between)

  pub begun_tells : 0 < length (p.targets p.driver) → v.lead.drive ≡ drives.Kick 0 false → map (λ f. f.node) v.trail.told ≡ []
      → IsTelling true p v p.driver 0 v
  begun_tells many kick none = record {
    told = none;
    is = ap (λ d. driven v d v.trail) (kick ∙ sym (ap (λ b. cond b drives.Waiting (drives.Kick 0 false))
        (ne_eqb 0 (length (p.targets p.driver)) (λ e. omega arith))));
  }

  -- the reset, node by node
  pub resetting : (i : ℕ) → i < nodes p → reset_to (nodes p) i ≡ drives.Reset i
  resetting i h = ap (λ b. cond b (drives.Kick 0 false) (drives.Reset i)) (ne_eqb i (nodes p) (λ e. omega arith))

  pub reset_start : 0 < nodes p → v.lead.drive ≡ drives.Reset 0 → v ≡ driven v (reset_to (nodes p) 0) v.trail
  reset_start many e = ap (λ d. driven v d v.trail) (e ∙ sym (resetting 0 many))

  pub reset_can : (i : ℕ) (w : View) → i < nodes p → HasNode true p v p.driver → w ≡ driven v (reset_to (nodes p) i) v.trail
      → StoresPending p w
  reset_can i w h has is = subst (StoresPending p) (sym (is ∙ ap (λ d. driven v d v.trail) (resetting i h))) (has, refl, h)

  pub reset_more : (i : ℕ) (w u : View) → i < nodes p → w ≡ driven v (reset_to (nodes p) i) v.trail → u ≡ reset_one p w
      → u ≡ driven v (reset_to (nodes p) (i + 1)) v.trail
  reset_more i w u h is next = next ∙ ap (reset_one p) (is ∙ ap (λ d. driven v d v.trail) (resetting i h))

  pub reset_end : (w : View) → w ≡ driven v (reset_to (nodes p) (nodes p)) v.trail → w ≡ all_reset v
  reset_end w is = is ∙ ap (λ b. driven v (cond b (drives.Kick 0 false) (drives.Reset (nodes p))) v.trail) (eq-eqb (nodes p) (nodes p) refl)

  -- all targets are lowered
  pub begun : (t : ℕ) (w : View) → t < event_count p.shape → HasTold true p (all_reset (begin_stored v t)) p.driver w → HasBegun p v w
  begun t w low r = record {
    ticket = t;
    drawn = low;
    told = r.told ∙ ap (λ l. reverse (map p.number l)) (all_of (p.targets p.driver));
    is = r.is ∙ ap (λ d. driven (all_reset (begin_stored v t)) d (record v.trail { told = w.trail.told })) (all_kicked p v p.driver);
  }

-- a follower has another index than the driver
pub other_place : (board_shape : BoardShape) (n : ℕ) → IsSound (layout_of board_shape) → (layout_of board_shape).index n < nodes (layout_of board_shape) → n ≢ board_shape.shape.driver
    → (layout_of board_shape).index n ≢ (layout_of board_shape).driver
other_place board_shape n sound inside other e = let p = layout_of board_shape in
    other (sym (sound.known n inside) ∙ ap p.number e ∙ sound.known board_shape.shape.driver sound.driver_in)

-- the driver's node is done with its work
pub driver_finish : (p : BoardLayout) (v : View) (m t : ℕ) (b : Bool) (w : View) → b ≡ true → t < event_count p.shape → w ≡ worked b v m t
    → HasFinished b p v m w
driver_finish p v m t true w e low is = (t, low, is)
driver_finish p v m t false w e low is = absurd (true≢false (sym e))
