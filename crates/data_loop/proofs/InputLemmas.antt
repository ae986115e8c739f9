-- What a node reads on a board of expected samples is what its inputs get by the cycle function.
use Rattle.std.proofs.Common.{◌≡◌, ◌≢◌, ℕ, ℤ, pos, suc, ◌+◌, ◌-◌, ◌*◌, ◌<◌, ◌≤◌, ◌==◌, ltb, Bool, true, false, not, List, [], ◌∷◌}
use Rattle.std.proofs.Common.{length, map, filter, fold, get_or, refl, sym, ap, ap₂, ◌∙◌, arith, ⊎_elim, option_map, unwrap_or}
use Rattle.std.specs.Prelude.{All, replicate, nat_lt, if◌then◌else◌}
use Rattle.std.specs.List.{enumerate_from}
use Rattle.std.proofs.lemmas.List.{get_or-map, get_or_default}
use Rattle.std.proofs.lemmas.List.FromFn.{get_or-map-range_with_len}
use Rattle.std.proofs.lemmas.List.Elements.{All-head, All-tail}
use Rattle.std.proofs.lemmas.Bool.{cases_Bool, cases_eq, eqb-true, eq-eqb, ne_eqb, true≢false, cond-true, cond-false, lt-ltb, le-ltb}
use Rattle.pw_graph.specs.declared.shape.Shape.{Shape}
use Rattle.pw_graph.specs.declared.shape.ShapeLink.{ShapeLink}
use Rattle.pw_graph.specs.declared.pools.PoolShape.{PoolShape}
use Rattle.pw_graph.specs.declared.plan.Epoch.{Epoch}
use Rattle.pw_graph.specs.declared.plan.Plan.{Plan}
use Rattle.pw_graph.specs.Pools.{pools_of, is_same_port}
use Rattle.pw_lists.specs.Samples.{clamped, silence, summed}
use Rattle.pw_graph.specs.KindPorts.{input_count}
use Rattle.pw_graph.specs.PlanForms.{kind_at}
use Rattle.wav_files.specs.declared.wav.WavIn.{WavIn}
use Rattle.cycle_model.specs.Epochs.{listed, first_at, channels_at, links_into}
use Rattle.cycle_model.specs.Cycle.{Outputs, outputs, brought, input_of}
use Rattle.cycle_model.specs.Expected.{epoch_rows}
use Rattle.board_rule.specs.declared.view.View.{View}
use Rattle.board_rule.specs.Layout.{BoardLayout, first, last}
use Rattle.board_rule.specs.buffers.SampleWords.{samples_in}
use Rattle.board_rule.specs.buffers.Areas.{delay_by}
use Rattle.board_rule.specs.buffers.BlockReadings.{delay_at}
use Rattle.board_rule.specs.buffers.EndViews.{no_link, no_pool, link_at, pool_at, pool_of}
use Rattle.board_rule.proofs.buffers.WiredLemmas.{wired}
use Rattle.board_rule.proofs.buffers.HolderLemmas.{link_is, link_there, pool_there}
use Rattle.io_areas.specs.PooledBoard.{IsPooledBoard}
use Rattle.io_areas.specs.Quanta.{quantum_of}
use Rattle.io_areas.specs.Reading.{stamp_brought, brought_in}
use Rattle.data_loop.specs.declared.inputs.Input.{Input}
use Rattle.node_progress.specs.declared.run_model.RunModel.{RunModel}
use Rattle.node_progress.specs.Standing.{port_at, receives, wide_at}
use Rattle.data_loop.specs.working.Inputs.{IsZero, row_of, first_rows, second_rows}
use Rattle.data_loop.specs.Gathering.{input_from, ReadsInputs}
use Rattle.data_loop.proofs.turns.EndsLemmas.{of_pool}

-- the rows of a node's inputs, by the links
module _ (f : ℕ → List ℤ) (g : ShapeLink → List ℤ) (n : ℕ) where
  abbrev Same : ℕ → List ShapeLink → Type 0
  Same a links = (i : ℕ) (d : ShapeLink) → i < length links → (get_or links i d).to.node ≡ n → f (a + i) ≡ g (get_or links i d)

  same_tail : (a : ℕ) (l : ShapeLink) (ls : List ShapeLink) → Same a (l ∷ ls) → Same (a + 1) ls
  same_tail a l ls h i d low is = let e : a + 1 + i ≡ a + suc i = omega arith in ap f e ∙ h (suc i) d (omega arith) is

  same_head : (a : ℕ) (l : ShapeLink) (ls : List ShapeLink) → Same a (l ∷ ls) → (l.to.node == n) ≡ true → f a ≡ g l
  same_head a l ls h t = let e : a ≡ a + 0 = omega arith in ap f e ∙ h 0 l (omega arith) (eqb-true l.to.node n t)

  first_are : (a : ℕ) (links : List ShapeLink) → Same a links → All (λ l. l.to.port < 2) links
      → map (λ x. f x.link) (filter (λ x. not x.second) (map input_from (filter (λ e. e.1.to.node == n) (enumerate_from a links))))
      ≡ map g (filter (λ l. is_same_port l.to (port_at n 0)) links)
  first_are a [] h two = refl
  first_are a (l ∷ ls) h two = let rest = first_are (a + 1) ls (same_tail a l ls h) (All-tail (λ l. l.to.port < 2) l ls two) in
      let few : l.to.port < 2 = All-head (λ l. l.to.port < 2) l ls two in
      ⊎_elim
      (λ (t : (l.to.node == n) ≡ true). ⊎_elim
      (λ (s : (l.to.port == 1) ≡ true). let one = eqb-true l.to.port 1 s in
      let z : (l.to.port == 0) ≡ false = ne_eqb l.to.port 0 (λ e. omega arith) in rw (t, s, z) rest)
      (λ (s : (l.to.port == 1) ≡ false). let not_one : l.to.port ≢ 1 = λ e. true≢false (sym (eq-eqb l.to.port 1 e) ∙ s) in
      let z : (l.to.port == 0) ≡ true = eq-eqb l.to.port 0 (omega (arith, few, not_one)) in
      rw (t, s, z) (ap₂ (λ x xs. x ∷ xs) (same_head a l ls h t) rest))
      (cases_Bool (l.to.port == 1)))
      (λ (o : (l.to.node == n) ≡ false). rw o rest)
      (cases_Bool (l.to.node == n))

  second_are : (a : ℕ) (links : List ShapeLink) → Same a links
      → map (λ x. f x.link) (filter (λ x. x.second) (map input_from (filter (λ e. e.1.to.node == n) (enumerate_from a links))))
      ≡ map g (filter (λ l. is_same_port l.to (port_at n 1)) links)
  second_are a [] h = refl
  second_are a (l ∷ ls) h = let rest = second_are (a + 1) ls (same_tail a l ls h) in
      ⊎_elim
      (λ (t : (l.to.node == n) ≡ true). ⊎_elim
      (λ (s : (l.to.port == 1) ≡ true). rw (t, s) (ap₂ (λ x xs. x ∷ xs) (same_head a l ls h t) rest))
      (λ (s : (l.to.port == 1) ≡ false). rw (t, s) rest)
      (cases_Bool (l.to.port == 1)))
      (λ (o : (l.to.node == n) ≡ false). rw o rest)
      (cases_Bool (l.to.node == n))

zeros_are : (xs : List ℤ) → All IsZero xs → xs ≡ silence (length xs)
zeros_are [] h = refl
zeros_are (x ∷ xs) h = ap₂ (λ y ys. y ∷ ys) (All-head IsZero x xs h) (zeros_are xs (All-tail IsZero x xs h))

none_left : {X : Type 0} (xs : List X) → length xs ≡ 0 → xs ≡ []
none_left [] e = refl
none_left (x ∷ xs) e = absurd (omega (arith, e))

-- what a pool gives in a cycle of the epoch
pub pool_row : (plan : Plan) (waves : List WavIn) (p : BoardLayout) (e : Epoch) (c q : ℕ) → p.shape ≡ e.shape → first p ≤ c → c < last p
    → q < length (pools_of p.shape) → samples_in p (epoch_rows plan waves e) c q ≡ outputs plan waves c (pool_at p q).port
pool_row plan waves p e c q shape low high inside =
    let firsts : first p ≡ e.shape.first = ap (λ (s : Shape). s.first) shape in
    let cycles : p.shape.cycles ≡ e.shape.cycles = ap (λ (s : Shape). s.cycles) shape in
    let in_range : c - first p < e.shape.cycles = omega (arith, low, high, cycles) in
    let at : e.shape.first + (c - first p) ≡ c = omega (arith, low, firsts) in
    ap (λ (r : List (List ℤ)). get_or r q [])
    (get_or-map-range_with_len (λ k. map (λ x. outputs plan waves k x.port) (pools_of e.shape)) e.shape.first e.shape.cycles
    (c - first p) c [] in_range at)
    ∙ ap (λ (s : Shape). get_or (map (λ x. outputs plan waves c x.port) (pools_of s)) q []) (sym shape)
    ∙ get_or-map (λ (x : PoolShape). outputs plan waves c x.port) (pools_of p.shape) q no_pool [] inside

module _ (b : Bool) (run_model : RunModel) (p : BoardLayout) (pooled : IsPooledBoard p) (v : View) (c n : ℕ) (inputs : List Input)
    (wide_a wide_b : ℕ) (h : ReadsInputs b run_model p v c n inputs wide_a wide_b) where
  abbrev plan : Plan
  plan = run_model.plan.value

  abbrev out : Outputs
  out = outputs plan run_model.waves.value

  -- a link that is read
  module _ (l : ℕ) (low : l < length p.shape.links) where
    abbrev link : ShapeLink
    link = link_at p l

    abbrev pool : ℕ
    pool = pool_of p l

    abbrev zeros : List ℤ
    zeros = replicate (quantum_of p pool) (pos 0)

    pool_in : pool < length (pools_of p.shape)
    pool_in = (of_pool p pooled l low).0

    from : (pool_at p pool).port ≡ link.from
    from = let q = of_pool p pooled l low in
        let w = (wired p pooled.sound pooled.pooled).there pool l (pool_at p pool) (pool_there p pool q.0) q.1 in
        sym w.2 ∙ sym (ap (λ (k : ShapeLink). k.from) (link_is p l w.0 w.1))

    delay : delay_at p l ≡ delay_by link
    delay = ap (λ o. unwrap_or (option_map delay_by o) 0) (link_there p l low)

    -- what its pool gives in a cycle
    gave : (k : ℕ) → first p ≤ k → k < last p
        → samples_in p (epoch_rows plan run_model.waves.value h.epoch) k pool ≡ out k link.from
    gave k low high = pool_row plan run_model.waves.value p h.epoch k pool h.board.shape low high pool_in ∙ ap (out k) from

    abbrev row : ℕ → List ℤ
    row k = samples_in p (epoch_rows plan run_model.waves.value h.epoch) k pool

    abbrev stamp : ℕ
    stamp = stamp_brought p l c

    abbrev by_cycle : List ℤ
    by_cycle = if c == first_at plan c then silence (plan.quantum * link.channels) else out (c - 1) link.from

    -- it is received by the board as by the cycle function, a cycle late where it is delayed
    brought_is : brought_in p (epoch_rows plan run_model.waves.value h.epoch) l c ≡ brought plan out c link
    brought_is = ⊎_elim late prompt (cases_Bool link.delayed)
      where
        inside : (first p ≤ c) × (c < last p)
        inside = h.inside

        prompt : link.delayed ≡ false → brought_in p (epoch_rows plan run_model.waves.value h.epoch) l c ≡ brought plan out c link
        prompt d =
            let none : delay_at p l ≡ 0 = delay ∙ cond-false link.delayed 1 0 d in
            let on : stamp - 1 ≡ c = omega (arith, none) in
            let first_in : first p ≤ c = inside.0 in
            cond-true (ltb (first p) stamp) (row (stamp - 1)) zeros (lt-ltb (first p) stamp (omega (arith, none, first_in)))
            ∙ ap row on ∙ gave c inside.0 inside.1
            ∙ sym (cond-false link.delayed by_cycle (out c link.from) d)

        late : link.delayed ≡ true → brought_in p (epoch_rows plan run_model.waves.value h.epoch) l c ≡ brought plan out c link
        late d =
            let one : delay_at p l ≡ 1 = delay ∙ cond-true link.delayed 1 0 d in
            let at : stamp ≡ c = omega (arith, one) in
            let low_in : first p ≤ c = inside.0 in
            let high_in : c < last p = inside.1 in
            let begins : first_at plan c ≡ first p = ap (λ o. unwrap_or (option_map (λ (e : Epoch). e.shape.first) o) 0) h.here
            ∙ ap (λ (s : Shape). s.first) (sym h.board.shape) in
            ⊎_elim
            (λ (now : c ≡ first p).
            cond-false (ltb (first p) stamp) (row (stamp - 1)) zeros (le-ltb (first p) stamp (omega (arith, at, now)))
            ∙ ap (λ m. replicate m (pos 0)) (ap₂ (λ x y. x * y) h.board.quantum (h.board.channels l low))
            ∙ sym (cond-true (c == first_at plan c) (silence (plan.quantum * link.channels)) (out (c - 1) link.from)
            (eq-eqb c (first_at plan c) (now ∙ sym begins)))
            ∙ sym (cond-true link.delayed by_cycle (out c link.from) d))
            (λ (other : c ≢ first p).
            let before : stamp - 1 ≡ c - 1 = omega (arith, at) in
            cond-true (ltb (first p) stamp) (row (stamp - 1)) zeros (lt-ltb (first p) stamp (omega (arith, at, low_in, other)))
            ∙ ap row before ∙ gave (c - 1) (omega (arith, low_in, other)) (omega (arith, high_in))
            ∙ sym (cond-false (c == first_at plan c) (silence (plan.quantum * link.channels)) (out (c - 1) link.from)
            (ne_eqb c (first_at plan c) (λ e. other (e ∙ begins))))
            ∙ sym (cond-true link.delayed by_cycle (out c link.from) d))
            (cases_eq c (first p))

    pub row_is : link.to.node ≡ n → row_of b p v l ≡ brought plan out c link
    row_is is = ap (λ k. brought_in p v.expect l k) (h.now l low is) ∙ ap (λ e. brought_in p e l c) h.board.expect ∙ brought_is

  same : Same (row_of b p v) (brought plan out c) n 0 p.shape.links
  same i d low is = let e = get_or_default p.shape.links i d no_link low in let z : 0 + i ≡ i = omega arith in
      ap (row_of b p v) z ∙ row_is i low (ap (λ (l : ShapeLink). l.to.node) (sym e) ∙ is)
      ∙ ap (brought plan out c) (sym e)

  -- an input is what the cycle function says
  input_is : (i : ℕ) (rows : List (List ℤ)) → rows ≡ map (brought plan out c) (filter (λ l. is_same_port l.to (port_at n i)) p.shape.links)
      → (zeros : List ℤ) → length zeros ≡ plan.quantum * channels_at plan c (port_at n i) → All IsZero zeros
      → map clamped (fold summed zeros rows) ≡ input_of plan out c (port_at n i)
  input_is i rows are zeros long z =
      let links : links_into plan c (port_at n i) ≡ filter (λ l. is_same_port l.to (port_at n i)) p.shape.links =
      ap (λ o. filter (λ l. is_same_port l.to (port_at n i)) (listed (λ e. e.shape.links) o)) h.here
      ∙ ap (λ (s : Shape). filter (λ l. is_same_port l.to (port_at n i)) s.links) (sym h.board.shape) in
      ap (λ xs. map clamped (fold summed xs rows)) (zeros_are zeros z ∙ ap silence long)
      ∙ ap (λ r. map clamped (fold summed (silence (plan.quantum * channels_at plan c (port_at n i))) r))
      (are ∙ ap (map (brought plan out c)) (sym links))

  -- and of an input that the kind has not there is nothing
  comes_by : (i : ℕ) (rows : List (List ℤ)) → rows ≡ map (brought plan out c) (filter (λ l. is_same_port l.to (port_at n i)) p.shape.links)
      → (zeros got : List ℤ) → length zeros ≡ wide_at plan c n i → All IsZero zeros → got ≡ map clamped (fold summed zeros rows)
      → length got ≡ length zeros → got ≡ receives run_model c n i
  comes_by i rows are zeros got wide z is long = ⊎_elim
      (λ (t : nat_lt i (input_count (kind_at plan n)) ≡ true).
      is ∙ input_is i rows are zeros (wide ∙ cond-true (nat_lt i (input_count (kind_at plan n))) (plan.quantum * channels_at plan c (port_at n i)) 0 t) z
      ∙ sym (cond-true (nat_lt i (input_count (kind_at plan n))) (input_of plan out c (port_at n i)) [] t))
      (λ (f : nat_lt i (input_count (kind_at plan n)) ≡ false).
      none_left got (long ∙ wide ∙ cond-false (nat_lt i (input_count (kind_at plan n))) (plan.quantum * channels_at plan c (port_at n i)) 0 f)
      ∙ sym (cond-false (nat_lt i (input_count (kind_at plan n))) (input_of plan out c (port_at n i)) [] f))
      (cases_Bool (nat_lt i (input_count (kind_at plan n))))

  pub first_comes : (zeros got : List ℤ) → length zeros ≡ wide_a → All IsZero zeros
      → got ≡ map clamped (fold summed zeros (first_rows b p v inputs)) → length got ≡ length zeros → got ≡ receives run_model c n 0
  first_comes zeros got wide z is long = comes_by 0 (first_rows b p v inputs)
      (ap (first_rows b p v) h.inputs_are ∙ first_are (row_of b p v) (brought plan out c) n 0 p.shape.links same h.board.two)
      zeros got (wide ∙ h.first_width) z is long

  pub second_comes : (zeros got : List ℤ) → length zeros ≡ wide_b → All IsZero zeros
      → got ≡ map clamped (fold summed zeros (second_rows b p v inputs)) → length got ≡ length zeros → got ≡ receives run_model c n 1
  second_comes zeros got wide z is long = comes_by 1 (second_rows b p v inputs)
      (ap (second_rows b p v) h.inputs_are ∙ second_are (row_of b p v) (brought plan out c) n 0 p.shape.links same)
      zeros got (wide ∙ h.second_width) z is long
