-- Laws of `specs/Logged.antt`: a cycle of which all events are drawn is legal, and joins the earlier ones.
use Rattle.std.proofs.Common.{◌≡◌, ℕ, zero, suc, ◌+◌, ◌-◌, ◌<◌, ◌≤◌, ⊎_elim, Bool, true, false, cond, List, [], ◌∷◌, ◌++◌}
use Rattle.std.proofs.Common.{length, get_or, refl, sym, ap, ◌∙◌, subst, arith, append-nil}
use Rattle.std.specs.Prelude.{count_by, All, Contains, IsBitSet}
use Rattle.std.specs.List.{flat_map, AllZip}
use Rattle.std.proofs.lemmas.List.{get_or-map}
use Rattle.std.proofs.lemmas.List.Elements.{All-append, All-contains, Contains-append_cases}
use Rattle.std.proofs.lemmas.List.Sums.{sum_by-cons}
use Rattle.std.proofs.lemmas.Slice.Zip.{all_zipped_more}
use Rattle.std.proofs.lemmas.List.FromFn.{map-range_with_len_more}
use Rattle.std.proofs.lemmas.Grind.{flat_map-append}
use Rattle.pw_graph.specs.declared.event.Event.{Event}
use Rattle.pw_graph.specs.declared.event.Event.TheVariants.{Begin, Start, Finish, Tick, End}
use Rattle.pw_graph.specs.declared.shape.Shape.{Shape}
use Rattle.pw_graph.specs.declared.shape.ShapeNode.{ShapeNode}
use Rattle.pw_graph.specs.Dependencies.{Precedes}
use Rattle.pw_graph.specs.EventWords.{event_cycle, event_node}
use Rattle.pw_graph.specs.History.{is_tick, tick_place, start_place, finish_place, IsOfCycle, RunsOnce, IsLegalInside, IsLegalCycle}
use Rattle.pw_graph.specs.History.{AreJoined, epoch_cycles}
use Rattle.board_rule.specs.Layout.{BoardLayout, IsSound, nodes, first, last}
use Rattle.board_rule.specs.events.Logged.{IsSoFar, Earlier, Inside}
use Rattle.board_rule.specs.events.Records.{Records, Counts}

some_pass : {X : Type 0} (f : X → Bool) (xs : List X) (i : ℕ) (d : X) → i < length xs → f (get_or xs i d) ≡ true → 0 < count_by f xs
some_pass f [] i d h t = absurd (omega arith)
some_pass f (x ∷ xs) zero d h t = let a = sum_by-cons (λ x. cond (f x) 1 0) x xs in
    let b : cond {A = ℕ} (f x) 1 0 ≡ 1 = ap (λ b. cond {A = ℕ} b 1 0) t in omega arith
some_pass f (x ∷ xs) (suc i) d h t = let a = some_pass f xs i d (omega arith) t in let b = sum_by-cons (λ x. cond (f x) 1 0) x xs in
    omega arith

is_one : (b : Bool) → 0 < cond b 1 0 → b ≡ true
is_one true h = refl
is_one false h = absurd (omega arith)

at_most_one : (b : Bool) → cond b 1 0 ≤ 1
at_most_one true = omega arith
at_most_one false = omega arith

module _ (p : BoardLayout) (sound : IsSound p) (c late : ℕ) (k : Counts) (xs : List Event) (a : Inside p c late k xs) where
  module _ (started : (n : ℕ) → n < nodes p → k.started n ≡ 1) (finished : (n : ℕ) → n < nodes p → k.finished n ≡ 1) where
    of_cycle : (e : Event) → IsSoFar p c late e → (is_tick e ≡ true → k.checked ≡ true) → IsOfCycle p.shape xs c e
    of_cycle (Begin j) h t = absurd h
    of_cycle (Start j n) h t = h
    of_cycle (Finish j n) h t = h
    of_cycle (Tick j set) h t = (
      h.0,
      subst (λ n. tick_place xs < start_place xs c n) sound.names_driver (a.tick (t refl)),
      λ n l b. a.late_ones n l (subst (λ s. IsBitSet s n) h.1 b),
    )
    of_cycle (End j) h t = absurd h

    node_number : (i : ℕ) (d : ShapeNode) → i < length p.shape.nodes → p.number i ≡ (get_or p.shape.nodes i d).node
    node_number i d h = sym (sound.names i h) ∙ get_or-map (λ (n : ShapeNode). n.node) p.shape.nodes i d 0 h

    pub legal_inside : IsLegalInside p.shape xs c
    legal_inside = record {
      only = λ i d h. of_cycle (get_or xs i d) (a.only i d h)
          (λ t. is_one k.checked (let z = some_pass is_tick xs i d h t in let y = a.ticks in omega arith));
      nodes = λ i d h. subst (RunsOnce xs c) (node_number i d h) record
          { start = a.starts i h ∙ started i h; finish = a.finishes i h ∙ finished i h; order = a.order i h (finished i h) };
      order = record {
        waits = λ m n before.
            let hm = sound.named m before.depends.from_active in let hn = sound.named n before.depends.to_active in
            let em = sound.known m hm in let en = sound.known n hn in
            subst (λ (z : ℕ × ℕ). finish_place xs c z.0 < start_place xs c z.1) (λ i. (em i, en i))
            (a.waits (p.index m) (p.index n) hm hn (subst (λ (z : ℕ × ℕ). Precedes p.shape z.0 z.1) (λ i. (sym em i, sym en i)) before)
            (started (p.index n) hn));
      };
      ticks = let z = a.ticks in let y = at_most_one k.checked in omega arith;
    }

    abbrev part : List Event
    part = Begin c ∷ (xs ++ End c ∷ [])

    one : (P : Event → Type 0) (e : Event) → P e → All P (e ∷ [])
    one P e h zero d l = h
    one P e h (suc i) d l = absurd (omega arith)

    all_of : (P : Event → Type 0) → P (Begin c) → All P xs → P (End c) → All P part
    all_of P b h e = All-append P (Begin c ∷ []) (xs ++ End c ∷ []) (one P (Begin c) b) (All-append P xs (End c ∷ []) h (one P (End c) e))

    cycle_of : (e : Event) → IsSoFar p c late e → (event_cycle e ≡ c) × (event_node e ≤ 63)
    cycle_of (Begin j) h = absurd h
    cycle_of (Start j n) h = (h.0, sound.indexes n (sound.named n h.1))
    cycle_of (Finish j n) h = (h.0, sound.indexes n (sound.named n h.1))
    cycle_of (Tick j set) h = (h.0, omega arith)
    cycle_of (End j) h = absurd h

    tick_of : (j set : ℕ) (e : Event) → IsSoFar p c late e → e ≡ Tick j set → (j ≡ c) × (set ≡ late)
    tick_of j set (Begin i) h q = absurd h
    tick_of j set (Start i n) h q = cc
    tick_of j set (Finish i n) h q = cc
    tick_of j set (Tick i late') h q = let a : i ≡ j = (cc) in let b : late' ≡ set = (cc) in (sym a ∙ h.0, sym b ∙ h.1)
    tick_of j set (End i) h q = absurd h

    not_begin : (j set : ℕ) → (let e : Event = Begin c in e) ≡ Tick j set → (j ≡ c) × (set ≡ late)
    not_begin j set q = cc

    not_end : (j set : ℕ) → (let e : Event = End c in e) ≡ Tick j set → (j ≡ c) × (set ≡ late)
    not_end j set q = cc

    -- the cycle has ended
    pub earlier_ends : (past : List Event) (r : Records) (event : ℕ → ℕ) → first p ≤ c → c < last p → Earlier p c late past r
        → Earlier p (c + 1) 0 (past ++ part) (record r { event = event })
    earlier_ends past r event low high e = let l = e.legal in let k₁ : c + 1 - first p ≡ c - first p + 1 = omega arith in
        let now : first p + (c - first p) ≡ c = omega arith in record {
          legal = subst (λ n. AreJoined (epoch_cycles p.shape n) (past ++ part)) (sym k₁) record {
            parts = l.parts ++ part ∷ [];
            joined = ap (λ ys. ys ++ part) l.joined ∙ ap (λ ys. flat_map (λ q. q) l.parts ++ ys) (sym (append-nil part))
                ∙ sym (flat_map-append (λ q. q) l.parts (part ∷ []));
            legal = subst (λ cs. AllZip (λ (z : Shape × ℕ) q. IsLegalCycle z.0 z.1 q) cs (l.parts ++ part ∷ []))
                (sym (map-range_with_len_more {X = Shape × ℕ} (λ z. (p.shape, z)) p.shape.first (c - first p) c now))
                (all_zipped_more (λ (z : Shape × ℕ) q. IsLegalCycle z.0 z.1 q) (epoch_cycles p.shape (c - first p)) l.parts
                (p.shape, c) part l.legal (xs, refl, legal_inside));
          };
          before = All-append (λ x. (first p ≤ event_cycle x) × (event_cycle x < c + 1) × (event_node x ≤ 63)) past part
              (λ i d h. let b = e.before i d h in let b₀ = b.0 in let b₁ = b.1 in let b₂ = b.2 in (omega arith, omega arith, omega arith))
              (all_of (λ x. (first p ≤ event_cycle x) × (event_cycle x < c + 1) × (event_node x ≤ 63))
              (omega arith, omega arith, omega arith)
              (λ i d h. let b = cycle_of (get_or xs i d) (a.only i d h) in let b₀ = b.0 in (omega arith, omega arith, b.1))
              (omega arith, omega arith, omega arith));
          lates = λ j set h. ⊎_elim (λ (z : Contains past (Tick j set)). e.lates j set z)
              (λ (z : Contains part (Tick j set)). let t = All-contains (λ x. x ≡ Tick j set → (j ≡ c) × (set ≡ late)) part (Tick j set)
              (all_of (λ x. x ≡ Tick j set → (j ≡ c) × (set ≡ late)) (not_begin j set)
              (λ i d h. tick_of j set (get_or xs i d) (a.only i d h)) (not_end j set)) z refl in
              ap (λ n. r.late (n - first p)) t.0 ∙ e.late_now high ∙ sym t.1) (Contains-append_cases past part (Tick j set) h);
          late_now = λ h. e.late_later (c + 1) (omega arith) h;
          late_later = λ j h q. e.late_later j (omega arith) q;
        }
