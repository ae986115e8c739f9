-- A member of an epoch fits its board: its links, its pools, its rows.
use Rattle.std.proofs.Common.{◌≡◌, ◌≢◌, ℕ, zero, suc, ◌+◌, ◌-◌, ◌*◌, ◌<◌, ◌≤◌, ◌==◌, Bool, true, false, nat_lt, cond}
use Rattle.std.proofs.Common.{List, [], ◌∷◌, length, filter, map, All, Some, slice_get, ℤ}
use Rattle.std.proofs.Common.{refl, sym, ap, ap₂, ◌∙◌, subst, arith, ⊎_elim, inl, inr, get_or, ◌⊎◌}
use Rattle.std.specs.Prelude.{Contains}
use Rattle.std.specs.List.{list_any, enumerate_from}
use Rattle.std.proofs.lemmas.Bool.{cases_Bool, cases_eq, cond-true, cond-false, eqb-true, lt-ltb}
use Rattle.std.proofs.lemmas.List.{get_or_default}
use Rattle.std.proofs.lemmas.List.Elements.{All-cons, All-nil}
use Rattle.std.proofs.lemmas.Option.{slice_get-get_or, slice_get_within, get_or_from_slice_get}
use Rattle.pw_graph.specs.declared.ids.PortId.{PortId}
use Rattle.pw_graph.specs.declared.shape.Shape.{Shape}
use Rattle.pw_graph.specs.declared.shape.ShapeLink.{ShapeLink}
use Rattle.pw_graph.specs.declared.pools.PoolShape.{PoolShape}
use Rattle.pw_graph.specs.declared.kind.Kind.{Kind}
use Rattle.pw_graph.specs.declared.kind.Kind.TheVariants.{Source, Square, Gain, Mix2, Delay, Map, Split, Sink, Meter, Dummy}
use Rattle.pw_graph.specs.declared.plan.Epoch.{Epoch}
use Rattle.pw_graph.specs.declared.plan.Plan.{Plan}
use Rattle.pw_graph.specs.KindPorts.{input_count, output_count, port_count}
use Rattle.pw_graph.specs.PlanForms.{kind_at, IsFormed}
use Rattle.pw_graph.specs.Pools.{pools_of, is_same_port}
use Rattle.pw_graph.specs.SoundPlan.{IsSoundEpoch}
use Rattle.pw_graph.proofs.PoolLemmas.{port_same, same_port}
use Rattle.cycle_model.specs.Epochs.{channels_of}
use Rattle.cycle_model.specs.Expected.{epoch_rows}
use Rattle.cycle_model.proofs.ExpectedLemmas.{IsPoolPort, pool_port}
use Rattle.cycle_model.proofs.SoundPlanLemmas.{channels_are}
use Rattle.node_state.specs.declared.node_state.NodeState.{NodeState}
use Rattle.board_rule.specs.declared.view.View.{View}
use Rattle.board_rule.specs.Layout.{BoardLayout}
use Rattle.board_rule.specs.View.{node_of}
use Rattle.board_rule.specs.buffers.EndViews.{no_link, no_pool, link_at, pool_at, pool_of}
use Rattle.board_rule.proofs.buffers.WiredLemmas.{wired}
use Rattle.board_rule.proofs.buffers.HolderLemmas.{link_is, pool_there}
use Rattle.io_areas.specs.PooledBoard.{IsPooledBoard}
use Rattle.io_areas.specs.Quanta.{quantum_of}
use Rattle.node_progress.specs.declared.run_model.RunModel.{RunModel}
use Rattle.data_loop.specs.declared.inputs.Input.{Input}
use Rattle.data_loop.specs.turns.Ends.{fills_of}
use Rattle.node_progress.specs.Standing.{port_at, wide_at}
use Rattle.node_progress.specs.NodeCycles.{output_channels}
use Rattle.node_progress.specs.NodeStates.{IsNodeState, IsWorkedIn, IsOutputRow}
use Rattle.data_loop.specs.working.Inputs.{AreLong, IsWide}
use Rattle.data_loop.specs.Gathering.{input_from, inputs_of, IsBoardOf}
use Rattle.data_loop.specs.Members.{input_width, is_read, output_width}
use Rattle.data_loop.proofs.Playable.{IsPoolFor, MayPlay}
use Rattle.data_loop.proofs.turns.EndsLemmas.{of_pool, is_of}
use Rattle.node_progress.proofs.StateLemmas.{epoch_sound}
use Rattle.node_progress.proofs.FitsOutputLemmas.{inputs_alike, now_is}

few_ports : (kd : Kind) → (input_count kd ≤ 2) × (output_count kd ≤ 2)
few_ports Source = (omega arith, omega arith)
few_ports (Square r c p a) = (omega arith, omega arith)
few_ports (Gain g) = (omega arith, omega arith)
few_ports (Mix2 x y) = (omega arith, omega arith)
few_ports (Delay f) = (omega arith, omega arith)
few_ports (Map c l) = (omega arith, omega arith)
few_ports Split = (omega arith, omega arith)
few_ports Sink = (omega arith, omega arith)
few_ports Meter = (omega arith, omega arith)
few_ports Dummy = (omega arith, omega arith)

-- an element that passes a test shows that one does
pub any_from : {X : Type 0} (p : X → Bool) (xs : List X) (x : X) → Contains xs x → p x ≡ true → list_any p xs ≡ true
any_from p [] x c t = absurd (omega (arith, c.1))
any_from p (y ∷ ys) x (zero, low, is) t = rw (ap p is ∙ t) refl
any_from p (y ∷ ys) x (suc k, low, is) t = ⊎_elim (λ (yes : p y ≡ true). rw yes refl)
    (λ (no : p y ≡ false). rw no (any_from p ys x (k, omega (arith, low), is) t)) (cases_Bool (p y))

-- and one that a test of any found
any_has : {X : Type 0} (p : X → Bool) (xs : List X) → list_any p xs ≡ true → (x : X) × Contains xs x × (p x ≡ true)
any_has p [] t = absurd (cc)
any_has p (y ∷ ys) t = ⊎_elim (λ (yes : p y ≡ true). (y, (0, omega arith, refl), yes))
    (λ (no : p y ≡ false). let more = any_has p ys (rw no at t) in let c = more.1 in let low = c.1 in
    (more.0, (suc c.0, omega (arith, low), c.2), more.2)) (cases_Bool (p y))

times_some : (a b : ℕ) → 1 ≤ a → 1 ≤ b → 0 < a * b
times_some a b x y = let c : ℕ = a - 1 in let d : ℕ = b - 1 in let ea : a ≡ c + 1 = omega (arith, x) in let eb : b ≡ d + 1 = omega (arith, y) in
    subst (λ m. 0 < m) (sym (ap₂ (λ m o. m * o) ea eb)) (parts c d)
  where
    parts : (c d : ℕ) → 0 < (c + 1) * (d + 1)
    parts c d = let whole : (c + 1) * (d + 1) ≡ c * d + c + d + 1 = omega arith in omega (arith, whole)

-- what holds of each link into the node holds of the node's inputs
all_from : (P : Input → Type 0) (n a : ℕ) (ls : List ShapeLink)
    → ((i : ℕ) → i < length ls → (get_or ls i no_link).to.node ≡ n → P (input_from (a + i, get_or ls i no_link)))
    → All P (map input_from (filter (λ e. e.1.to.node == n) (enumerate_from a ls)))
all_from P n a [] h = All-nil P
all_from P n a (l ∷ ls) h =
    let rest = all_from P n (a + 1) ls (λ i low is. let e : a + suc i ≡ a + 1 + i = omega arith in
    subst (λ m. P (input_from (m, get_or ls i no_link))) e (h (suc i) (omega (arith, low)) is)) in
    ⊎_elim
    (λ (t : (l.to.node == n) ≡ true). let z : a + 0 ≡ a = omega arith in
    rw t (All-cons P (input_from (a, l)) (map input_from (filter (λ e. e.1.to.node == n) (enumerate_from (a + 1) ls)))
    (subst (λ m. P (input_from (m, l))) z (h 0 (omega arith) (eqb-true l.to.node n t))) rest))
    (λ (f : (l.to.node == n) ≡ false). rw f rest)
    (cases_Bool (l.to.node == n))

few_from : (n a : ℕ) (ls : List ShapeLink) → length (map input_from (filter (λ e. e.1.to.node == n) (enumerate_from a ls))) ≤ length ls
few_from n a [] = omega arith
few_from n a (l ∷ ls) = let more = few_from n (a + 1) ls in
    ⊎_elim (λ (t : (l.to.node == n) ≡ true). rw t (omega (arith, more))) (λ (f : (l.to.node == n) ≡ false). rw f (omega (arith, more)))
    (cases_Bool (l.to.node == n))

pub few_inputs : (run_model : RunModel) (k c n : ℕ) (w : IsWorkedIn run_model k c n) → length (inputs_of w.epoch.shape n) ≤ 256
few_inputs run_model k c n w = let most = (epoch_sound run_model k c n w).shape.sound.links.few in
    let some = few_from n 0 w.epoch.shape.links in omega (arith, most, some)

module _ (run_model : RunModel) (k c n : ℕ) (w : IsWorkedIn run_model k c n) (p : BoardLayout) (pooled : IsPooledBoard p)
    (shape : p.shape ≡ w.epoch.shape) where
  abbrev plan : Plan
  plan = run_model.plan.value

  abbrev e : Epoch
  e = w.epoch

  sound : IsSoundEpoch plan e
  sound = epoch_sound run_model k c n w

  -- a link has the channels of its two ports, and of its pool
  module _ (l : ℕ) (low : l < length p.shape.links) where
    abbrev link : ShapeLink
    link = link_at p l

    formed : IsFormed plan e link
    formed = subst (λ (s : Shape). All (IsFormed plan e) s.links) (sym shape) sound.forms.links l no_link low

    from_is : channels_of e.forms link.from ≡ link.channels
    from_is = channels_are e.forms link.from formed.rate link.channels sound.forms.ascend formed.from

    to_is : channels_of e.forms link.to ≡ link.channels
    to_is = channels_are e.forms link.to formed.rate link.channels sound.forms.ascend formed.to

    some : 1 ≤ link.channels
    some = (subst (λ (s : Shape). All (λ m. (1 ≤ m.channels)) s.links) (sym shape) (λ i d lt. (sound.shape.sound.links.each i d lt).channels.0) l no_link low)

  -- a pool by its number
  module _ (q : ℕ) (low : q < length (pools_of p.shape)) where
    abbrev pool : PoolShape
    pool = pool_at p q

    there : slice_get (pools_of e.shape) q ≡ Some pool
    there = subst (λ (s : Shape). slice_get (pools_of s) q ≡ Some pool) shape (slice_get-get_or (pools_of p.shape) q no_pool low)

    is_port : IsPoolPort plan e pool.port × (pool.channels ≡ channels_of e.forms pool.port)
    is_port = pool_port plan e sound q pool there

    linked : 1 ≤ channels_of e.forms pool.port
    linked = let all = wired p pooled.sound pooled.pooled in
        let l = all.linked q pool (pool_there p q low) in
        let k = all.there q l.0 pool (pool_there p q low) l.1 in
        let inside : l.0 < length p.shape.links = slice_get_within p.shape.links l.0 k.0 k.1 in
        let same : (link_at p l.0).from ≡ pool.port = ap (λ (x : ShapeLink). x.from) (link_is p l.0 k.0 k.1) ∙ k.2 in
        let has = some l.0 inside in let is = from_is l.0 inside in
        subst (λ x. 1 ≤ channels_of e.forms x) same (omega (arith, has, is))

  pool_channels : (l : ℕ) → l < length p.shape.links → (pool_at p (pool_of p l)).channels ≡ (link_at p l).channels
  pool_channels l low =
      let q = of_pool p pooled l low in
      let x = (wired p pooled.sound pooled.pooled).there (pool_of p l) l (pool_at p (pool_of p l)) (pool_there p (pool_of p l) q.0) q.1 in
      let from : (pool_at p (pool_of p l)).port ≡ (link_at p l).from = sym x.2 ∙ sym (ap (λ (k : ShapeLink). k.from) (link_is p l x.0 x.1)) in
      (is_port (pool_of p l) q.0).1 ∙ ap (channels_of e.forms) from ∙ from_is l low

  pub board_is : (v : View) → v.expect ≡ epoch_rows plan run_model.waves.value e → IsBoardOf run_model p v e
  board_is v expect = record {
    shape = shape;
    expect = expect;
    quantum = ap (λ (s : Shape). s.quantum) shape ∙ sound.quantum;
    two = λ l d low. two_at l (get_or p.shape.links l d) low (get_or_default p.shape.links l d no_link low);
    channels = pool_channels;
  }
    where
      two_at : (l : ℕ) (x : ShapeLink) → l < length p.shape.links → x ≡ link_at p l → x.to.port < 2
      two_at l x low is = let f = (formed l low).input in let few = (few_ports (kind_at plan (link_at p l).to.node)).0 in
          subst (λ (y : ShapeLink). y.to.port < 2) (sym is) (omega (arith, f, few))

  wide : (i : ℕ) → input_width plan e n i ≡ wide_at plan c n i
  wide i = ap (λ m. cond (nat_lt i (input_count (kind_at plan n))) (plan.quantum * m) 0) (sym (now_is run_model k c n w i))

  -- rows of its links are as wide as its inputs
  quantum_is : (l : ℕ) (low : l < length p.shape.links) → (link_at p l).to.node ≡ n
      → quantum_of p (pool_of p l) ≡ input_width plan e n 0
  quantum_is l low is =
      let input : (link_at p l).to.port < input_count (kind_at plan n) =
      subst (λ m. (link_at p l).to.port < input_count (kind_at plan m)) is (formed l low).input in
      let few = (few_ports (kind_at plan n)).0 in
      let port : (link_at p l).to ≡ port_at n (link_at p l).to.port = λ i. record { node = is i; port = (link_at p l).to.port } in
      let alike : channels_of e.forms (port_at n (link_at p l).to.port) ≡ channels_of e.forms (port_at n 0) = ⊎_elim
      (λ (z : (link_at p l).to.port ≡ 0). ap (λ m. channels_of e.forms (port_at n m)) z)
      (λ (o : (link_at p l).to.port ≢ 0). let one : (link_at p l).to.port ≡ 1 = omega (arith, input, few, o) in
      ap (λ m. channels_of e.forms (port_at n m)) one
      ∙ inputs_alike run_model k c n w (kind_at plan n) refl (omega (arith, input, one)))
      (cases_eq (link_at p l).to.port 0) in
      let q : p.shape.quantum ≡ plan.quantum = ap (λ (s : Shape). s.quantum) shape ∙ sound.quantum in
      ap₂ (λ x y. x * y) q (pool_channels l low)
      ∙ ap (λ m. plan.quantum * m) (sym (to_is l low) ∙ ap (channels_of e.forms) port ∙ alike)
      ∙ sym (cond-true (nat_lt 0 (input_count (kind_at plan n))) (plan.quantum * channels_of e.forms (port_at n 0)) 0
      (lt-ltb 0 (input_count (kind_at plan n)) (omega (arith, input))))

  pub all_long : AreLong p (input_width plan e n 0) (inputs_of p.shape n)
  all_long = all_from (λ (i : Input). input_width plan e n 0 ≡ quantum_of p (pool_of p i.link)) n 0 p.shape.links
      (λ i low is. let z : i ≡ 0 + i = omega arith in
      subst (λ m. input_width plan e n 0 ≡ quantum_of p (pool_of p m)) z (sym (quantum_is i low is)))

  pub all_wide : IsWide (input_width plan e n 0) (input_width plan e n 1) (inputs_of p.shape n)
  all_wide = all_from (λ (i : Input). i.second ≡ true → input_width plan e n 1 ≡ input_width plan e n 0) n 0 p.shape.links
      (λ i low is second.
      let one : (link_at p i).to.port ≡ 1 = eqb-true (link_at p i).to.port 1 second in
      let input : (link_at p i).to.port < input_count (kind_at plan n) =
      subst (λ m. (link_at p i).to.port < input_count (kind_at plan m)) is (formed i low).input in
      cond-true (nat_lt 1 (input_count (kind_at plan n))) (plan.quantum * channels_of e.forms (port_at n 1)) 0
      (lt-ltb 1 (input_count (kind_at plan n)) (omega (arith, input, one)))
      ∙ ap (λ m. plan.quantum * m) (inputs_alike run_model k c n w (kind_at plan n) refl (omega (arith, input, one)))
      ∙ sym (cond-true (nat_lt 0 (input_count (kind_at plan n))) (plan.quantum * channels_of e.forms (port_at n 0)) 0
      (lt-ltb 0 (input_count (kind_at plan n)) (omega (arith, input, one)))))

  -- a row of an output that a link reads
  pub out_row : (o : ℕ) (row : List ℤ) → length row ≡ output_width plan e n o → IsOutputRow plan e n o row
  out_row o row long = ⊎_elim
      (λ (t : is_read plan e n o ≡ true).
      let port : PortId = port_at n (input_count (kind_at plan n) + o) in
      let x = any_has (λ (y : PoolShape). is_same_port y.port port) (pools_of e.shape) t in
      let at : slice_get (pools_of e.shape) x.1.0 ≡ Some x.0 =
      slice_get-get_or (pools_of e.shape) x.1.0 x.0 x.1.1 ∙ ap (λ (y : PoolShape). Some y) x.1.2 in
      let out = (pool_port plan e sound x.1.0 x.0 at).0.output in
      let here : input_count (kind_at plan n) + o < port_count (kind_at plan n) =
      subst (λ (y : PortId). y.port < port_count (kind_at plan y.node)) (same_port x.0.port port x.2) out.1 in
      inr (omega (arith, here), long ∙ cond-true (is_read plan e n o) (plan.quantum * output_channels plan e n o) 0 t))
      (λ (f : is_read plan e n o ≡ false).
      inl (long ∙ cond-false (is_read plan e n o) (plan.quantum * output_channels plan e n o) 0 f))
      (cases_Bool (is_read plan e n o))

  -- each pool of the node has such a row
  pub pool_rows : (left right : List ℤ) → length left ≡ output_width plan e n 0 → length right ≡ output_width plan e n 1 → (q : ℕ)
      → Contains (fills_of p.shape n) q → IsPoolFor run_model p n 0 left q ⊎ IsPoolFor run_model p n 1 right q
  pool_rows left right l r q c =
      let own = is_of (λ (x : PoolShape). x.port.node) n (pools_of p.shape) q no_pool c in
      let x : PoolShape = pool_at p q in
      let out : (input_count (kind_at plan n) ≤ x.port.port) × (x.port.port < port_count (kind_at plan n)) =
      subst (λ m. (input_count (kind_at plan m) ≤ x.port.port) × (x.port.port < port_count (kind_at plan m))) own.1 (is_port q own.0).0.output in
      let few = (few_ports (kind_at plan n)).1 in let low = out.0 in let high = out.1 in
      let o : ℕ = x.port.port - input_count (kind_at plan n) in
      let at : x.port.port ≡ input_count (kind_at plan n) + o = omega (arith, low) in
      ⊎_elim
      (λ (z : o ≡ 0). inl (row_for q own.0 0 left l own.1 (at ∙ ap (λ m. input_count (kind_at plan n) + m) z)))
      (λ (other : o ≢ 0). let one : o ≡ 1 = omega (arith, high, few, at, other) in
      inr (row_for q own.0 1 right r own.1 (at ∙ ap (λ m. input_count (kind_at plan n) + m) one)))
      (cases_eq o 0)
    where
      row_for : (q : ℕ) (low : q < length (pools_of p.shape)) (o : ℕ) (row : List ℤ) → length row ≡ output_width plan e n o
          → (pool_at p q).port.node ≡ n → (pool_at p q).port.port ≡ input_count (kind_at plan n) + o → IsPoolFor run_model p n o row q
      row_for q low o row long node at =
          let port : (pool_at p q).port ≡ port_at n (input_count (kind_at plan n) + o) = λ i. record { node = node i; port = at i } in
          let read : is_read plan e n o ≡ true = any_from (λ (y : PoolShape). is_same_port y.port (port_at n (input_count (kind_at plan n) + o)))
          (pools_of e.shape) (pool_at p q)
          (q, slice_get_within (pools_of e.shape) q (pool_at p q) (there q low), get_or_from_slice_get (pools_of e.shape) q (pool_at p q) _ (there q low))
          (port_same (pool_at p q).port (port_at n (input_count (kind_at plan n) + o)) port) in
          let some : 1 ≤ output_channels plan e n o = subst (λ y. 1 ≤ channels_of e.forms y) port (linked q low) in
          let quantum : 1 ≤ plan.quantum = subst (λ m. 1 ≤ m) sound.quantum sound.shape.sound.cycles.quantum.0 in (
            port,
            subst (λ m. 0 < m) (sym (long ∙ cond-true (is_read plan e n o) (plan.quantum * output_channels plan e n o) 0 read))
                (times_some plan.quantum (output_channels plan e n o) quantum some),
          )

  -- so a member may play
  pub may_play : (v : View) → v.expect ≡ epoch_rows plan run_model.waves.value e → (node_of v (p.index n)).next ≡ c → (s : NodeState)
      → IsNodeState run_model k c n s → (a b left right : List ℤ) → length a ≡ input_width plan e n 0 → length b ≡ input_width plan e n 1
      → length left ≡ output_width plan e n 0 → length right ≡ output_width plan e n 1
      → MayPlay run_model p v k c n (input_width plan e n 0) s a b left right
  may_play v expect now s st a b left right la lb ll lr = record {
    works = w;
    state = st;
    board = board_is v expect;
    now = now;
    left_fits = out_row 0 left ll;
    right_fits = out_row 1 right lr;
    first_width = la ∙ wide 0;
    second_width = lb ∙ wide 1;
    second = subst (λ m. IsWide (input_width plan e n 0) m (inputs_of p.shape n)) (sym lb) all_wide;
    long = all_long;
    rows = pool_rows left right ll lr;
  }
