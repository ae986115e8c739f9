-- A loop at the end of an epoch, and its states in the next one.
use Rattle.std.proofs.Common.{◌≡◌, ◌≢◌, ℕ, suc, ◌+◌, ◌<◌, ◌==◌, ◌&&◌, ◌||◌, Bool, true, false, true≢false, not, cond, List, [], length, get_or, refl, sym, ap, ◌∙◌, subst, arith, ⊎_elim}
use Rattle.std.proofs.Common.{Option, Some, None, slice_get, option_map, unwrap_or, find}
use Rattle.std.specs.Prelude.{Vec}
use Rattle.pw_graph.specs.declared.plan.Fresh.{Fresh}
use Rattle.cycle_model.specs.Epochs.{listed}
use Rattle.std.specs.Prelude.{Contains}
use Rattle.std.specs.List.{list_any}
use Rattle.std.proofs.lemmas.Bool.{cases_Bool}
use Rattle.std.proofs.lemmas.List.{get_or-map}
use Rattle.std.proofs.lemmas.List.Elements.{All-contains}
use Rattle.std.proofs.lemmas.Option.{none-some, slice_get_within, slice_get-get_or, unwrap_or-slice_get}
use Rattle.atomic_table.specs.Seated.{TableId}
use Rattle.pw_graph.specs.declared.plan.Epoch.{Epoch}
use Rattle.pw_graph.specs.declared.plan.Plan.{Plan}
use Rattle.pw_graph.specs.declared.shape.Shape.{Shape}
use Rattle.cycle_model.specs.Mixing.{takes_part}
use Rattle.board_rule.specs.Layout.{BoardLayout, last}
use Rattle.node_state.specs.declared.node_state.NodeState.{NodeState}
use Rattle.node_progress.specs.Standing.{works_in}
use Rattle.node_progress.specs.NodeStates.{IsNodeState, first_of}
use Rattle.node_progress.specs.Restarts.{restart_of, next_first, IsEndOf}
use Rattle.node_progress.proofs.IdleLemmas.{idle_through}
use Rattle.node_progress.proofs.RestartsLemmas.{first_next}
use Rattle.data_loop.specs.declared.loop_state.LoopState.{LoopState}
use Rattle.data_loop.specs.declared.member.Member.{Member}
use Rattle.data_loop.specs.declared.epoch_state.EpochState.{EpochState}
use Rattle.data_loop.specs.LoopTurn.{next_in}
use Rattle.data_loop.specs.Members.{member_of, follows, leads}
use Rattle.data_loop.specs.EpochStateParts.{restarts_in, restart_at}
use Rattle.data_loop.specs.EpochStates.{StandsAt}
use Rattle.data_loop.specs.Loops.{plan_of, node_at, StateIs, IsBetweenEpochs}
use Rattle.data_loop.specs.LoopsOnBoards.{stands_at, IsOnBoard, IsAtEnd}
use Rattle.data_loop.proofs.MemberLemmas.{has_it}
use Rattle.data_loop.proofs.LoopLemmas.{parts}

-- a node that neither follows nor leads does not work
off_duty : (e : Epoch) (n : ℕ) → follows e n ≡ false → leads e n ≡ false → works_in e n ≡ false
off_duty e n not_follows not_leads = by (e.shape.driver == n) (takes_part e n) (list_any _ e.forms) not_follows not_leads
  where
    by : (d t f : Bool) → not d && t ≡ false → d && (t && (not d || f)) ≡ false → t && (not d || f) ≡ false
    by true true true a b = b
    by true true false a b = refl
    by true false f a b = refl
    by false true f a b = absurd (true≢false a)
    by false false f a b = refl

module _ (p : BoardLayout) (t : TableId) (s : LoopState) (end : IsAtEnd p t s) where
  abbrev on : IsOnBoard p t s
  on = end.on

  abbrev plan : Plan
  plan = plan_of s

  abbrev e : Epoch
  e = on.stands.epoch

  -- the cycle after its last
  abbrev after : ℕ
  after = e.shape.first + e.shape.cycles

  last_is : last p ≡ after
  last_is = ap (λ (x : Shape). x.first + x.cycles) on.stands.shape

  place : (j : ℕ) → j < length s.nodes → node_at s j < length plan.nodes
  place j less = on.loop.places j 0 less

  follower_done : (j : ℕ) → j < length s.nodes → follows e (node_at s j) ≡ true → StateIs s after j
  follower_done j less role =
      let m : Member = member_of plan e (node_at s j) j in
      let own : Contains on.epoch_state.members m = subst (λ (l : List Member). Contains l m) (sym (parts p t s on).members)
      (has_it plan s.nodes e false j less role) in
      let stands : StandsAt s.run_model s.epoch p on.epoch_state.seat.knows s.states.items m =
      All-contains (StandsAt s.run_model s.epoch p on.epoch_state.seat.knows s.states.items) on.epoch_state.members m on.stands.each own in
      let ended : next_in p on.epoch_state.seat.knows (node_at s j) ≡ last p =
      All-contains (λ (x : Member). next_in p on.epoch_state.seat.knows x.node ≡ last p) on.epoch_state.members m end.ended own in
      λ d. subst (λ c. IsNodeState s.run_model s.epoch c (node_at s j) (get_or s.states.items j d)) (ended ∙ last_is) (stands.1 d)

  driver_done : (j : ℕ) → j < length s.nodes → follows e (node_at s j) ≡ false → leads e (node_at s j) ≡ true → StateIs s after j
  driver_done j less none role =
      let m : Member = member_of plan e (node_at s j) j in
      let own : Contains on.epoch_state.driver m = subst (λ (l : List Member). Contains l m) (sym (parts p t s on).driver)
      (has_it plan s.nodes e true j less role) in
      let some : on.epoch_state.driver ≢ [] = λ is. let low = own.1 in let zero = ap (λ (l : List Member). length l) is in omega (arith, low, zero) in
      let led = end.led some ∙ ap (λ (x : Shape). x.cycles) on.stands.shape in
      λ d. subst (λ c. IsNodeState s.run_model s.epoch c (node_at s j) (get_or s.states.items j d))
      (ap (λ b. e.shape.first + cond b s.led 0) role ∙ ap (λ n. e.shape.first + n) led) (on.others j less none d)

  idle_done : (j : ℕ) → j < length s.nodes → follows e (node_at s j) ≡ false → leads e (node_at s j) ≡ false → StateIs s after j
  idle_done j less none off =
      let first : stands_at s e j ≡ e.shape.first = ap (λ b. e.shape.first + cond b s.led 0) off ∙ (let z : e.shape.first + 0 ≡ e.shape.first = omega arith in z) in
      λ d. idle_through s.run_model s.epoch e (node_at s j) on.loop.sound on.loop.waves (place j less) on.stands.at
      (off_duty e (node_at s j) none off) (get_or s.states.items j d)
      (subst (λ c. IsNodeState s.run_model s.epoch c (node_at s j) (get_or s.states.items j d)) first (on.others j less none d))

  pub all_done : (j : ℕ) → j < length s.nodes → StateIs s after j
  all_done j less = ⊎_elim
      (λ (yes : follows e (node_at s j) ≡ true). follower_done j less yes)
      (λ (none : follows e (node_at s j) ≡ false). ⊎_elim
      (λ (yes : leads e (node_at s j) ≡ true). driver_done j less none yes)
      (λ (off : leads e (node_at s j) ≡ false). idle_done j less none off)
      (cases_Bool (leads e (node_at s j))))
      (cases_Bool (follows e (node_at s j)))

  -- the end of the epoch, as a node has it
  end_of : (j : ℕ) → j < length s.nodes → IsEndOf s.run_model s.epoch after (node_at s j)
  end_of j less = record {
    sound = on.loop.sound;
    waves = on.loop.waves;
    place = place j less;
    epoch = e;
    at = on.stands.at;
    end = refl;
  }

  next_is : (j : ℕ) → j < length s.nodes → next_first plan s.epoch ≡ after
  next_is j less = first_next s.run_model s.epoch after (node_at s j) (end_of j less)

  pub ends_so : (j : ℕ) → j < length s.nodes → IsEndOf s.run_model s.epoch (next_first plan s.epoch) (node_at s j)
  ends_so j less = subst (λ c. IsEndOf s.run_model s.epoch c (node_at s j)) (sym (next_is j less)) (end_of j less)

  pub states_so : (j : ℕ) (d : NodeState) → j < length s.nodes
      → IsNodeState s.run_model s.epoch (next_first plan s.epoch) (node_at s j) (get_or s.states.items j d)
  states_so j d less = subst (λ c. IsNodeState s.run_model s.epoch c (node_at s j) (get_or s.states.items j d)) (sym (next_is j less)) (all_done j less d)

  -- what the next epoch's state says of a node, or of no node
  pub restarts_so : (next : ℕ) → next ≡ suc s.epoch → (j : ℕ) → j < length s.nodes
      → restart_at (restarts_in s.epoch_states.items next) j ≡ restart_of plan (suc s.epoch) (node_at s j)
  restarts_so next is j less = ap (λ k. restart_at (restarts_in s.epoch_states.items k) j) is
      ∙ by (slice_get s.epoch_states.items (suc s.epoch)) (slice_get plan.epochs (suc s.epoch)) refl refl
    where
      by : (og : Option EpochState) (oe : Option Epoch) → slice_get s.epoch_states.items (suc s.epoch) ≡ og → slice_get plan.epochs (suc s.epoch) ≡ oe
          → restart_at (restarts_in s.epoch_states.items (suc s.epoch)) j ≡ restart_of plan (suc s.epoch) (node_at s j)
      by None None g x = ap (λ o. restart_at (unwrap_or (option_map (λ (x : EpochState). x.restarts) o) []) j) g
          ∙ sym (ap (λ o. option_map (λ (f : Fresh). f.channels) (find (λ f. f.node == node_at s j) (listed (λ y. y.fresh) o))) x)
      by (Some h) (Some y) g x = ap (λ o. restart_at (unwrap_or (option_map (λ (x : EpochState). x.restarts) o) []) j) g
          ∙ unwrap_or-slice_get h.restarts j None
          ∙ ap (λ l. get_or l j None) (on.loop.parts (suc s.epoch) y h x g).restarts
          ∙ get_or-map (restart_of plan (suc s.epoch)) s.nodes j 0 None less
      by (Some h) None g x = let n = on.loop.epoch_states in let a = slice_get_within s.epoch_states.items (suc s.epoch) h g in
          absurd (none-some _ (sym (sym (slice_get-get_or plan.epochs (suc s.epoch) e (omega (arith, n, a))) ∙ x)))
      by None (Some y) g x = let n = on.loop.epoch_states in let a = slice_get_within plan.epochs (suc s.epoch) y x in
          absurd (none-some _ (sym (sym (slice_get-get_or s.epoch_states.items (suc s.epoch) on.epoch_state (omega (arith, n, a))) ∙ g)))

  -- the loop between the epochs
  pub between : (ss : Vec NodeState _) → length ss.items ≡ length s.states.items
      → ((j : ℕ) (d : NodeState) → j < length s.nodes
      → IsNodeState s.run_model (suc s.epoch) (next_first plan s.epoch) (node_at s j) (get_or ss.items j d))
      → (next : ℕ) → next ≡ suc s.epoch → IsBetweenEpochs (record s { states = ss; epoch = next; led = 0; woke = 0 })
  between ss long states next is = record {
    loop = record {
      sound = on.loop.sound;
      waves = on.loop.waves;
      ascend = on.loop.ascend;
      places = on.loop.places;
      states = long ∙ on.loop.states;
      epoch_states = on.loop.epoch_states;
      parts = on.loop.parts;
      room = on.loop.room;
      found_room = on.loop.found_room;
      tables = on.loop.tables;
      few_found = on.loop.few_found;
      told = on.loop.told;
    };
    some = let here = slice_get_within plan.epochs s.epoch e on.stands.at in omega (arith, here, is);
    none_led = refl;
    unbegun = λ i x g past at here. on.later i x g (omega (arith, past, is)) at here;
    states = λ j less d. subst (λ k. IsNodeState s.run_model k (first_of plan k) (node_at s j) (get_or ss.items j d)) (sym is) (states j d less);
  }
