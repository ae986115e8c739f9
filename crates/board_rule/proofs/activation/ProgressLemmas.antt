-- Laws of `specs/Progress.antt`: what a seat keeps goes along with its view.
use Rattle.std.proofs.Common.{◌≡◌, ℕ, ◌+◌, ◌<◌, Bool, true, false, cond, eqb, List, map, length, set, get_or, refl, sym, ap, ◌∙◌, subst, arith}
use Rattle.std.proofs.lemmas.List.{map-set, length-map}
use Rattle.std.proofs.Math.Seq.{map-set_same}
use Rattle.board_rule.specs.declared.view.Phase.{Phase}
use Rattle.board_rule.specs.declared.view.Phase.TheVariants.{Idle, Awake, StartDrawn, Running, Done, FinishDrawn, Telling}
use Rattle.board_rule.specs.declared.view.NodeView.{NodeView}
use Rattle.board_rule.specs.declared.progress.NodeProgress.{NodeProgress}
use Rattle.board_rule.specs.declared.view.WriteView.{WriteView}
use Rattle.board_rule.specs.declared.view.ReadView.{ReadView}
use Rattle.board_rule.specs.declared.view.BlockView.{BlockView}
use Rattle.board_rule.specs.declared.view.Trail.{Trail}
use Rattle.board_rule.specs.declared.view.View.{View}
use Rattle.pw_graph.specs.Words.{triggered_word}
use Rattle.board_rule.specs.Layout.{BoardLayout}
use Rattle.board_rule.specs.View.{node_of, view_node, idle}
use Rattle.board_rule.specs.events.Bits.{with_bit, woke_of}
use Rattle.board_rule.specs.Steps.{settled, lowered_of, told_trail, target_of, lowered, triggered, claimed, woken, tried, finished, untold}
use Rattle.board_rule.specs.events.EventSteps.{CanDraw, node_draws, draws, CanStore, stored_phase, event_stored}
use Rattle.board_rule.specs.working.Progress.{ends_of, progress_of, progress_settled}
use Rattle.board_rule.specs.start.Owners.{own}
use Rattle.board_rule.specs.Known.{IsLoopSeat}
use Rattle.board_rule.proofs.start.OwnerLemmas.{SitsAt, sits_set}
use Rattle.board_rule.proofs.start.EntryLemmas.{node_kept}

settled_by : (b : Bool) (x : NodeView) (i : ℕ) → progress_of
    (cond b (record x { next = x.next + 1; phase = Idle }) (record x { phase = Telling i false }))
    ≡ cond b (record (progress_of x) { next = x.next + 1; told = 0; ends = false }) (record (progress_of x) { told = i; ends = true })
settled_by true x i = refl
settled_by false x i = refl

pub settled_progress : (n : ℕ) (x : NodeView) (i : ℕ) (owes : Bool)
    → progress_of (settled n x i owes) ≡ progress_settled n (progress_of x) i owes
settled_progress n x i true = refl
settled_progress n x i false = settled_by (eqb i n) x i

module _ (v w : View) (m : ℕ) (y : NodeView) (t : Trail) (ns : List NodeProgress) (ws : List WriteView) (rs : List ReadView)
    (bs : List BlockView) (o o' : ℕ) (is : w ≡ view_node v m y t) (s : IsLoopSeat v ns ws rs bs o) (woke : woke_of t.told ≡ o') where
  -- the seat after a step of one of its followers
  pub seat_set : (at : ℕ) → SitsAt v.number v.owners.nodes m at → m < length v.nodes → (k : NodeProgress) → progress_of y ≡ k
      → IsLoopSeat w (set ns at k) ws rs bs o'
  seat_set at sits low k e = subst (λ (u : View). IsLoopSeat u (set ns at k) ws rs bs o') (sym is) record {
    nodes_are = let l = length-map v.nodes progress_of in ap (own v.number v.owners.nodes) (map-set progress_of v.nodes m y)
        ∙ sits_set v.number v.owners.nodes (map progress_of v.nodes) m at (progress_of y) sits (omega arith)
        ∙ (λ j. set (s.nodes_are j) at (e j));
    writes_are = s.writes_are;
    reads_are = s.reads_are;
    blocks_are = s.blocks_are;
    woke_is = woke;
  }

  -- the same where it keeps what it had of that follower
  pub seat_stays : progress_of y ≡ progress_of (node_of v m) → IsLoopSeat w ns ws rs bs o'
  seat_stays e = subst (λ (u : View). IsLoopSeat u ns ws rs bs o') (sym is) record {
    nodes_are = ap (own v.number v.owners.nodes) (map-set_same progress_of v.nodes m y (idle 0) e) ∙ s.nodes_are;
    writes_are = s.writes_are;
    reads_are = s.reads_are;
    blocks_are = s.blocks_are;
    woke_is = woke;
  }

-- a claim changes nothing that is kept
pub seat_claims : (p : BoardLayout) (v w : View) (m found : ℕ) (ns : List NodeProgress) (ws : List WriteView) (rs : List ReadView)
    (bs : List BlockView) (o : ℕ) → w ≡ claimed false p v m found → (node_of v m).phase ≡ Idle → IsLoopSeat v ns ws rs bs o
    → IsLoopSeat w ns ws rs bs o
seat_claims p v w m found ns ws rs bs o is idle s =
    subst (λ (u : View). IsLoopSeat u ns ws rs bs o) (sym is) (by (eqb found (triggered_word (node_of v m).next)))
  where
    by : (b : Bool) → IsLoopSeat (cond b (woken false v m) (tried p v m found)) ns ws rs bs o
    by true = seat_stays v (woken false v m) m (record (node_of v m) { phase = Awake }) v.trail ns ws rs bs o o refl s s.woke_is
        (λ i. record (progress_of (node_of v m)) { told = lowered_of (sym idle i); ends = ends_of (sym idle i) })
    by false = record {
      nodes_are = s.nodes_are;
      writes_are = s.writes_are;
      reads_are = s.reads_are;
      blocks_are = s.blocks_are;
      woke_is = s.woke_is;
    }

module _ (p : BoardLayout) (v w : View) (m : ℕ) (ns : List NodeProgress) (ws : List WriteView) (rs : List ReadView) (bs : List BlockView) (o : ℕ)
    (d k : NodeProgress) (s : IsLoopSeat v ns ws rs bs o) (there : m < length v.nodes) (at : ℕ)
    (sits : SitsAt v.number v.owners.nodes m at) (here : d ≡ get_or ns at d) where
  -- what was kept of the follower
  kept_is : d ≡ progress_of (node_of v m)
  kept_is = here ∙ node_kept v ns ws rs bs o s m at sits there d

  -- a target is lowered
  pub seat_lowers : (found n i o' : ℕ) → w ≡ lowered false p v m found → n ≡ length (p.targets m) → i ≡ lowered_of (node_of v m).phase
      → k ≡ progress_settled n d (i + 1) (eqb found 1) → o' ≡ cond (eqb found 1) (with_bit o (p.number (get_or (p.targets m) i 0))) o
      → IsLoopSeat w (set ns at k) ws rs bs o'
  seat_lowers found n i o' is n_is i_is k_is woke =
      seat_set v w m (settled (length (p.targets m)) (node_of v m) (lowered_of (node_of v m).phase + 1) (eqb found 1))
      (told_trail v.trail (target_of false p v m) found) ns ws rs bs o o' is s
      ((λ j. cond (eqb found 1) (with_bit (s.woke_is j) (p.number (get_or (p.targets m) (sym i_is j) 0))) (s.woke_is j)) ∙ sym woke) at sits there k
      (settled_progress (length (p.targets m)) (node_of v m) (lowered_of (node_of v m).phase + 1) (eqb found 1)
      ∙ (λ j. progress_settled (sym n_is j) (sym kept_is j) (sym i_is j + 1) (eqb found 1)) ∙ sym k_is)

  -- the target that is owed is triggered
  pub seat_triggers : (n i : ℕ) → w ≡ triggered false p v m → n ≡ length (p.targets m) → i ≡ lowered_of (node_of v m).phase
      → k ≡ progress_settled n d i false → IsLoopSeat w (set ns at k) ws rs bs o
  seat_triggers n i is n_is i_is k_is =
      seat_set v w m (settled (length (p.targets m)) (node_of v m) (lowered_of (node_of v m).phase) false)
      v.trail ns ws rs bs o o is s s.woke_is at sits there k
      (settled_progress (length (p.targets m)) (node_of v m) (lowered_of (node_of v m).phase) false
      ∙ (λ j. progress_settled (sym n_is j) (sym kept_is j) (sym i_is j) false) ∙ sym k_is)

  -- FINISHED is stored
  pub seat_finishes : w ≡ finished false v m → (node_of v m).phase ≡ Running → k ≡ record d { ends = true }
      → IsLoopSeat w (set ns at k) ws rs bs 0
  seat_finishes is runs k_is = seat_set v w m (record (node_of v m) { phase = Done }) (untold v.trail) ns ws rs bs o 0 is s refl at sits there k
      ((λ j. record (progress_of (node_of v m)) { told = lowered_of (sym runs j); ends = true })
      ∙ (λ j. record (sym kept_is j) { ends = true }) ∙ sym k_is)

  -- a ticket is drawn
  pub seat_draws : (ticket : ℕ) → w ≡ draws false v m ticket → CanDraw (node_of v m).phase
      → k ≡ cond d.ends (record d { finish = ticket }) (record d { start = ticket }) → IsLoopSeat w (set ns at k) ws rs bs o
  seat_draws ticket is can k_is = seat_set v w m (node_draws (node_of v m) ticket (node_of v m).phase)
      v.trail ns ws rs bs o o is s s.woke_is at sits there k
      (by (node_of v m).phase refl can ∙ (λ j. let x = sym kept_is j in
      cond x.ends (record x { finish = ticket }) (record x { start = ticket })) ∙ sym k_is)
    where
      by : (f : Phase) → (node_of v m).phase ≡ f → CanDraw f
          → progress_of (node_draws (node_of v m) ticket f)
          ≡ cond (ends_of (node_of v m).phase) (record (progress_of (node_of v m)) { finish = ticket })
          (record (progress_of (node_of v m)) { start = ticket })
      by Idle e can = absurd can
      by Awake e can = λ j. cond (ends_of (sym e j)) (record (progress_of (node_of v m))
          { told = lowered_of (sym e j); ends = ends_of (sym e j); finish = ticket })
          (record (progress_of (node_of v m)) { told = lowered_of (sym e j); ends = ends_of (sym e j); start = ticket })
      by StartDrawn e can = absurd can
      by Running e can = absurd can
      by Done e can = λ j. cond (ends_of (sym e j)) (record (progress_of (node_of v m))
          { told = lowered_of (sym e j); ends = ends_of (sym e j); finish = ticket })
          (record (progress_of (node_of v m)) { told = lowered_of (sym e j); ends = ends_of (sym e j); start = ticket })
      by FinishDrawn e can = absurd can
      by (Telling i owes) e can = absurd can

-- an event is stored
pub seat_stores : (v w : View) (m : ℕ) (ns : List NodeProgress) (ws : List WriteView) (rs : List ReadView) (bs : List BlockView) (o : ℕ)
    → w ≡ event_stored false v m → CanStore (node_of v m).phase → IsLoopSeat v ns ws rs bs o → IsLoopSeat w ns ws rs bs o
seat_stores v w m ns ws rs bs o is can s = seat_stays v w m
    (record (node_of v m) { phase = stored_phase (node_of v m).phase }) v.trail ns ws rs bs o o is s s.woke_is
    (by (node_of v m).phase refl can)
  where
    by : (f : Phase) → (node_of v m).phase ≡ f → CanStore f
        → progress_of (record (node_of v m) { phase = stored_phase f }) ≡ progress_of (node_of v m)
    by Idle e can = absurd can
    by Awake e can = absurd can
    by StartDrawn e can = λ j. record (progress_of (node_of v m)) { told = lowered_of (sym e j); ends = ends_of (sym e j) }
    by Running e can = absurd can
    by Done e can = absurd can
    by FinishDrawn e can = λ j. record (progress_of (node_of v m)) { told = lowered_of (sym e j); ends = ends_of (sym e j) }
    by (Telling i owes) e can = absurd can
