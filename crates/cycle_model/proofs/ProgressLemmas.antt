-- From one cycle to the next: where a node's streams begin, and what it has received.
use Rattle.std.proofs.Common.{◌≡◌, ◌≢◌, ℕ, zero, suc, ◌+◌, ◌-◌, ◌*◌, ◌<◌, ◌≤◌, Bool, true, false, ◌&&◌, ◌==◌}
use Rattle.std.proofs.Common.{nat_le, nat_lt, cond, List, [], ◌∷◌, ◌++◌, length, filter, fold, flat_map, ℤ, refl, ap, ap₂, sym, ◌∙◌, arith}
use Rattle.std.proofs.Common.{⊎_elim, append-nil, map-id, length-append}
use Rattle.std.specs.List.{range_with_len, list_any}
use Rattle.std.proofs.lemmas.List.Elements.{filter-append}
use Rattle.std.proofs.lemmas.List.FromFn.{map-range_with_len_more}
use Rattle.std.proofs.lemmas.Grind.{flat_map-append}
use Rattle.std.proofs.lemmas.Bool.{cases_Bool, cases_eq, cases_lt, and_parts, leb-true, le-leb, eq-eqb, ne_eqb, cond-true, cond-false}
use Rattle.std.proofs.lemmas.Bool.{cond_both}
use Rattle.pw_graph.specs.declared.ids.PortId.{PortId}
use Rattle.pw_graph.specs.declared.plan.Epoch.{Epoch}
use Rattle.pw_graph.specs.declared.plan.Plan.{Plan}
use Rattle.pw_graph.specs.SoundPlan.{FollowFrom}
use Rattle.pw_graph.specs.KindPorts.{input_count}
use Rattle.pw_graph.specs.PlanForms.{kind_at}
use Rattle.cycle_model.specs.declared.received.Received.{Received}
use Rattle.cycle_model.specs.Epochs.{is_active, is_fresh, stream_start}
use Rattle.cycle_model.specs.Cycle.{Outputs, input_of, stream_of}
use Rattle.cycle_model.specs.declared.received.Given.{Given}
use Rattle.cycle_model.specs.working.Known.{input_by, received_more, is_released, released}
use Rattle.cycle_model.specs.Progress.{streamed, begun, received_with, received_until, received_before}

-- one step of the search for the start of a node's streams
step : ℕ → ℕ → ℕ → Epoch → ℕ
step c node start e = cond (nat_le e.shape.first c && is_fresh e node) e.shape.first start

fresh_at : ℕ → ℕ → Epoch → Bool
fresh_at c node e = (e.shape.first == c) && is_fresh e node

-- the start is not past the cycle
start_low : (c node acc : ℕ) (es : List Epoch) → acc ≤ c → fold (step c node) acc es ≤ c
unfolding step
start_low c node acc [] h = h
start_low c node acc (e ∷ es) h = start_low c node (cond (nat_le e.shape.first c && is_fresh e node) e.shape.first acc) es
    (cond_both (nat_le e.shape.first c && is_fresh e node) e.shape.first acc (λ n. n ≤ c)
    (λ t. leb-true e.shape.first c (and_parts (nat_le e.shape.first c) (is_fresh e node) t).0) (λ f. h))

pub start_le : (plan : Plan) (c node : ℕ) → stream_start plan c node ≤ c
unfolding step
start_le plan c node = start_low c node 0 plan.epochs (omega arith)

above : (a b : ℕ) → b < a → nat_le a b ≡ false
above a b h = ⊎_elim (λ (t : nat_le a b ≡ true). absurd (omega (arith, h, leb-true a b t))) (λ f. f) (cases_Bool (nat_le a b))

-- epochs that begin later change nothing
later : (c node f acc : ℕ) (es : List Epoch) → FollowFrom f es → c < f → fold (step c node) acc es ≡ acc
unfolding step
later c node f acc [] h lt = refl
later c node f acc (e ∷ es) h lt =
    let no : nat_le e.shape.first c ≡ false = above e.shape.first c (omega (arith, h.0)) in
    rw no (later c node (f + e.shape.cycles) acc es h.1 (omega (arith, lt)))

-- of epochs that begin with the next cycle or later, one that is fresh begins the streams with it
from_now : (c node f acc : ℕ) (es : List Epoch) → FollowFrom f es → suc c ≤ f
    → fold (step (suc c) node) acc es ≡ cond (list_any (fresh_at (suc c) node) es) (suc c) acc
unfolding step fresh_at
from_now c node f acc [] h le = refl
from_now c node f acc (e ∷ es) h le = ⊎_elim
    (λ (now : f ≡ suc c).
    let is : e.shape.first ≡ suc c = h.0 ∙ now in
    let at : (e.shape.first == suc c) ≡ true = eq-eqb e.shape.first (suc c) is in
    let low : nat_le e.shape.first (suc c) ≡ true = le-leb e.shape.first (suc c) (omega (arith, is)) in
    ⊎_elim
    (λ (t : is_fresh e node ≡ true).
    rw (at, low, t) (from_now c node (f + e.shape.cycles) e.shape.first es h.1 (omega (arith, le))
    ∙ cond_both (list_any (λ x. (x.shape.first == suc c) && is_fresh x node) es) (suc c) e.shape.first (λ n. n ≡ suc c) (λ a. refl)
    (λ b. is)))
    (λ (n : is_fresh e node ≡ false). rw (at, low, n) (from_now c node (f + e.shape.cycles) acc es h.1 (omega (arith, le))))
    (cases_Bool (is_fresh e node)))
    (λ (ne : f ≢ suc c).
    let at : (e.shape.first == suc c) ≡ false = ne_eqb e.shape.first (suc c) (λ s. ne (sym h.0 ∙ s)) in
    let high : nat_le e.shape.first (suc c) ≡ false =
    above e.shape.first (suc c) (let gt : suc c < f = omega arith in omega (arith, h.0, gt)) in
    rw (at, high) (from_now c node (f + e.shape.cycles) acc es h.1 (omega (arith, le))))
    (cases_eq f (suc c))

-- from one cycle to the next
start_from : (c node f acc : ℕ) (es : List Epoch) → FollowFrom f es
    → fold (step (suc c) node) acc es ≡ cond (list_any (fresh_at (suc c) node) es) (suc c) (fold (step c node) acc es)
unfolding step fresh_at
start_from c node f acc [] h = refl
start_from c node f acc (e ∷ es) h = ⊎_elim
    (λ (lt : f < suc c).
    let at : (e.shape.first == suc c) ≡ false = ne_eqb e.shape.first (suc c) (λ s. omega (arith, lt, h.0, s)) in
    let low : nat_le e.shape.first (suc c) ≡ true = le-leb e.shape.first (suc c) (omega (arith, h.0, lt)) in
    let low2 : nat_le e.shape.first c ≡ true = le-leb e.shape.first c (omega (arith, h.0, lt)) in
    rw (at, low, low2) (start_from c node (f + e.shape.cycles) (cond (is_fresh e node) e.shape.first acc) es h.1))
    (λ (ge : suc c ≤ f).
    from_now c node f acc (e ∷ es) h ge
    ∙ ap (λ s. cond (list_any (λ x. (x.shape.first == suc c) && is_fresh x node) (e ∷ es)) (suc c) s)
    (sym (later c node f acc (e ∷ es) h (omega (arith, ge)))))
    (cases_lt f (suc c))

pub start_next : (plan : Plan) (c node : ℕ) → FollowFrom 0 plan.epochs
    → stream_start plan (suc c) node ≡ cond (is_released plan.epochs (suc c) node) (suc c) (stream_start plan c node)
unfolding step fresh_at
start_next plan c node h = start_from c node 0 0 plan.epochs h

-- one number more of a range
range_more : (a n m : ℕ) → a + n ≡ m → range_with_len a (n + 1) ≡ range_with_len a n ++ m ∷ []
range_more a n m e = sym (map-id (range_with_len a (n + 1))) ∙ map-range_with_len_more (λ (k : ℕ). k) a n m e
    ∙ ap (λ (r : List ℕ). r ++ m ∷ []) (map-id (range_with_len a n))

pub filter_more : (p : ℕ → Bool) (a n m : ℕ) → a + n ≡ m
    → filter p (range_with_len a (n + 1)) ≡ filter p (range_with_len a n) ++ cond (p m) (m ∷ []) []
filter_more p a n m e = ap (filter p) (range_more a n m e) ∙ filter-append p (range_with_len a n) (m ∷ [])

-- the stream up to a cycle, by the one with which the cycle began
pub stream_parts : (plan : Plan) (out : Outputs) (c : ℕ) (port : PortId)
    → stream_of plan out c port ≡ begun plan out c port ++ cond (is_active plan c port.node) (input_of plan out c port) []
stream_parts plan out c port =
    let s = stream_start plan c port.node in
    let low : s ≤ c = start_le plan c port.node in
    let p : ℕ → Bool = λ k. is_active plan k port.node in
    let f : ℕ → List ℤ = λ k. input_of plan out k port in
    let count : c + 1 - s ≡ (c - s) + 1 = omega (arith, low) in
    ap (λ n. flat_map f (filter p (range_with_len s n))) count
    ∙ ap (flat_map f) (filter_more p s (c - s) c (omega (arith, low)))
    ∙ flat_map-append f (filter p (range_with_len s (c - s))) (cond (p c) (c ∷ []) [])
    ∙ ap (λ t. flat_map f (filter p (range_with_len s (c - s))) ++ t)
    (⊎_elim (λ (t : p c ≡ true). rw t (append-nil (f c))) (λ (n : p c ≡ false). rw n refl) (cases_Bool (p c)))

-- the stream with which a cycle begins, by the one before
pub begun_next : (plan : Plan) (out : Outputs) (c : ℕ) (port : PortId) → FollowFrom 0 plan.epochs
    → begun plan out (suc c) port ≡ cond (is_released plan.epochs (suc c) port.node) [] (stream_of plan out c port)
begun_next plan out c port h =
    let p : ℕ → Bool = λ k. is_active plan k port.node in
    let f : ℕ → List ℤ = λ k. input_of plan out k port in
    let start = start_next plan c port.node h in
    ap (λ s. flat_map f (filter p (range_with_len s (suc c - s)))) start
    ∙ ⊎_elim
    (λ (t : is_released plan.epochs (suc c) port.node ≡ true). let z : suc c - suc c ≡ 0 = omega arith in
    rw t (ap (λ n. flat_map f (filter p (range_with_len (suc c) n))) z))
    (λ (n : is_released plan.epochs (suc c) port.node ≡ false). let e : suc c ≡ c + 1 = omega arith in
    rw n (ap (λ m. flat_map f (filter p (range_with_len (stream_start plan c port.node) (m - stream_start plan c port.node)))) e))
    (cases_Bool (is_released plan.epochs (suc c) port.node))

pub begun_first : (plan : Plan) (out : Outputs) (port : PortId) → begun plan out 0 port ≡ []
begun_first plan out port =
    let n : 0 - stream_start plan 0 port.node ≡ 0 = omega (arith, start_le plan 0 port.node) in
    ap (λ m. flat_map (λ k. input_of plan out k port)
    (filter (λ k. is_active plan k port.node) (range_with_len (stream_start plan 0 port.node) m))) n

-- the stream of a port as a cycle begins is the one before it, unless its node is released
begun_is : (plan : Plan) (out : Outputs) (c : ℕ) (port : PortId) → FollowFrom 0 plan.epochs
    → begun plan out c port ≡ cond (is_released plan.epochs c port.node) [] (streamed plan out c port)
begun_is plan out zero port h = begun_first plan out port
    ∙ sym (cond_both (is_released plan.epochs zero port.node) [] [] (λ l. l ≡ []) (λ t. refl) (λ f. refl))
begun_is plan out (suc c) port h = begun_next plan out c port h

-- what a node has received, by its streams
same_received : (plan : Plan) (c : ℕ) (f g : PortId → List ℤ) (node : ℕ)
    → f (record { node = node; port = 0 }) ≡ g (record { node = node; port = 0 })
    → f (record { node = node; port = 1 }) ≡ g (record { node = node; port = 1 })
    → received_with plan c f node ≡ received_with plan c g node
same_received plan c f g node ha hb =
    ap₂ (λ a b. let r : Received = record {
      frames = plan.quantum * length (filter (λ k. is_active plan k node) (range_with_len 0 c));
      a = cond (nat_lt 0 (input_count (kind_at plan node))) a [];
      b = cond (nat_lt 1 (input_count (kind_at plan node))) b [];
    } in r) ha hb

-- released streams are empty
pub released_is : (plan : Plan) (out : Outputs) (c node : ℕ) → FollowFrom 0 plan.epochs
    → received_before plan out c node ≡ cond (is_released plan.epochs c node) (released (received_until plan out c node))
    (received_until plan out c node)
released_is plan out c node h =
    let a = begun_is plan out c (record { node = node; port = 0 }) h in
    let b = begun_is plan out c (record { node = node; port = 1 }) h in
    ⊎_elim
    (λ (t : is_released plan.epochs c node ≡ true).
    let none : List ℤ = [] in
    let empty : (n : Bool) → cond n none none ≡ none = λ n. cond_both n none none (λ l. l ≡ none) (λ t. refl) (λ f. refl) in
    same_received plan c (begun plan out c) (λ port. []) node (a ∙ cond-true _ [] _ t) (b ∙ cond-true _ [] _ t)
    ∙ ap₂ (λ x y. let r : Received = record {
      frames = plan.quantum * length (filter (λ k. is_active plan k node) (range_with_len 0 c));
      a = x;
      b = y;
    } in r)
    (empty (nat_lt 0 (input_count (kind_at plan node)))) (empty (nat_lt 1 (input_count (kind_at plan node))))
    ∙ sym (cond-true (is_released plan.epochs c node) (released (received_until plan out c node)) (received_until plan out c node) t))
    (λ (n : is_released plan.epochs c node ≡ false).
    same_received plan c (begun plan out c) (streamed plan out c) node (a ∙ cond-false _ [] _ n) (b ∙ cond-false _ [] _ n)
    ∙ sym (cond-false (is_released plan.epochs c node) (released (received_until plan out c node)) (received_until plan out c node) n))
    (cases_Bool (is_released plan.epochs c node))

-- an idle node receives nothing
pub received_idle : (plan : Plan) (out : Outputs) (c node : ℕ) → is_active plan c node ≡ false
    → received_before plan out c node ≡ received_until plan out (suc c) node
received_idle plan out c node idle =
    let one : suc c ≡ c + 1 = omega arith in
    let stream : (port : PortId) → port.node ≡ node → begun plan out c port ≡ stream_of plan out c port = λ port is.
    let off : is_active plan c port.node ≡ false = ap (is_active plan c) is ∙ idle in
    sym (stream_parts plan out c port ∙ ap (λ t. begun plan out c port ++ t)
    (cond-false (is_active plan c port.node) (input_of plan out c port) [] off) ∙ append-nil (begun plan out c port)) in
    let cycles : filter (λ k. is_active plan k node) (range_with_len 0 c) ≡ filter (λ k. is_active plan k node) (range_with_len 0 (suc c)) =
    sym (ap (λ n. filter (λ k. is_active plan k node) (range_with_len 0 n)) one
    ∙ filter_more (λ k. is_active plan k node) 0 c c (omega arith)
    ∙ ap (λ t. filter (λ k. is_active plan k node) (range_with_len 0 c) ++ t) (cond-false (is_active plan c node) (c ∷ []) [] idle)
    ∙ append-nil (filter (λ k. is_active plan k node) (range_with_len 0 c))) in
    same_received plan c (begun plan out c) (stream_of plan out c) node (stream (record { node = node; port = 0 }) refl)
    (stream (record { node = node; port = 1 }) refl)
    ∙ ap (λ ks. let r : Received = record {
      frames = plan.quantum * length ks;
      a = cond (nat_lt 0 (input_count (kind_at plan node))) (stream_of plan out c (record { node = node; port = 0 })) [];
      b = cond (nat_lt 1 (input_count (kind_at plan node))) (stream_of plan out c (record { node = node; port = 1 })) [];
    } in r) cycles

-- what is added to a stream, or to no stream
appended : (yes : Bool) (old new : List ℤ) → cond yes (cond yes old [] ++ new) (cond yes old []) ≡ cond yes (old ++ new) []
appended true old new = refl
appended false old new = refl

-- an active node receives its inputs
pub received_active : (plan : Plan) (out : Outputs) (c node : ℕ) (first : Bool) (before now : List Given) (epoch : Epoch)
    → is_active plan c node ≡ true
    → ((i : ℕ) → input_by plan.quantum first before now epoch (record { node = node; port = i })
    ≡ input_of plan out c (record { node = node; port = i }))
    → received_more plan.quantum first before now epoch (kind_at plan node) node (received_before plan out c node)
    ≡ received_until plan out (suc c) node
received_active plan out c node first before now epoch on inputs =
    let one : suc c ≡ c + 1 = omega arith in
    let stream : (i : ℕ) → begun plan out c (record { node = node; port = i }) ++ input_by plan.quantum first before now epoch
    (record { node = node; port = i }) ≡ stream_of plan out c (record { node = node; port = i }) = λ i.
    let port : PortId = record { node = node; port = i } in
    ap (λ t. begun plan out c port ++ t) (inputs i)
    ∙ sym (stream_parts plan out c port ∙ ap (λ t. begun plan out c port ++ t)
    (cond-true (is_active plan c node) (input_of plan out c port) [] on)) in
    let cycles : filter (λ k. is_active plan k node) (range_with_len 0 (suc c))
    ≡ filter (λ k. is_active plan k node) (range_with_len 0 c) ++ c ∷ [] =
    ap (λ n. filter (λ k. is_active plan k node) (range_with_len 0 n)) one
    ∙ filter_more (λ k. is_active plan k node) 0 c c (omega arith)
    ∙ ap (λ t. filter (λ k. is_active plan k node) (range_with_len 0 c) ++ t) (cond-true (is_active plan c node) (c ∷ []) [] on) in
    let frames : plan.quantum * length (filter (λ k. is_active plan k node) (range_with_len 0 c)) + plan.quantum
    ≡ plan.quantum * length (filter (λ k. is_active plan k node) (range_with_len 0 (suc c))) =
    times_more plan.quantum (length (filter (λ k. is_active plan k node) (range_with_len 0 c)))
    ∙ ap (λ n. plan.quantum * n) (sym (ap length cycles
    ∙ length-append (filter (λ k. is_active plan k node) (range_with_len 0 c)) (c ∷ []))) in
    let old = begun plan out c in
    let new : ℕ → List ℤ = λ i. input_by plan.quantum first before now epoch (record { node = node; port = i }) in
    let has : ℕ → Bool = λ i. nat_lt i (input_count (kind_at plan node)) in
    let a = appended (has 0) (old (record { node = node; port = 0 })) (new 0) ∙ ap (λ s. cond (has 0) s []) (stream 0) in
    let b = appended (has 1) (old (record { node = node; port = 1 })) (new 1) ∙ ap (λ s. cond (has 1) s []) (stream 1) in
    parts frames a b
  where
    times_more : (q n : ℕ) → q * n + q ≡ q * (n + 1)
    times_more q n = omega arith

    parts : {f g : ℕ} {a b x y : List ℤ} → f ≡ g → a ≡ x → b ≡ y
        → (let r : Received = record { frames = f; a = a; b = b } in r) ≡ (let r : Received = record { frames = g; a = x; b = y } in r)
    parts p q r i = record { frames = p i; a = q i; b = r i }
