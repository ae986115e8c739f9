-- A board's first words have the buffer rule, whatever its table of samples.
use Rattle.std.proofs.Common.{◌≡◌, ℕ, ◌+◌, ◌-◌, ◌%◌, ◌<◌, ◌≤◌, ◌==◌, ◌&&◌, Bool, true, false, true≢false, cond, eqb}
use Rattle.std.proofs.Common.{ltb, List, [], ◌∷◌, get_or, refl, sym, ap, ◌∙◌, subst, arith}
use Rattle.std.proofs.Common.{eq-eqb, eqb-true, ne_eqb, le-ltb}
use Rattle.std.specs.Prelude.{unwrap_or, option_map}
use mathlib.Core.Logic.{dite}
use native.Mathlib.Decide.{ℕ_discrete}
use Rattle.std.proofs.lemmas.Option.{get_or_from_slice_get}
use Rattle.std.proofs.lemmas.Bool.{and_parts}
use Rattle.pw_graph.specs.declared.shape.ShapeLink.{ShapeLink}
use Rattle.pw_graph.specs.declared.pools.PoolShape.{PoolShape}
use Rattle.pw_graph.specs.Pools.{pools_of}
use Rattle.pw_graph.specs.Words.{no_block, have_data_word, need_data_word}
use Rattle.pw_graph.specs.Layout.{io_start, io_place}
use Rattle.pw_graph.specs.Layout.{readers_place, sample_place}
use Rattle.board_rule.specs.declared.view.BlockView.{BlockView}
use Rattle.board_rule.specs.declared.view.BlockView.TheVariants.{Free, Filling, Out}
use Rattle.board_rule.specs.Layout.{BoardLayout, nodes, first}
use Rattle.board_rule.specs.start.StartViews.{Samples, first_write, first_block, is_delayed, unread}
use Rattle.board_rule.specs.buffers.SampleWords.{packed, samples_of, samples_in}
use Rattle.board_rule.specs.buffers.Areas.{delay_by, area_of, stored_id, Span, LinkOk}
use Rattle.board_rule.specs.buffers.BufferRule.{NamesBlocks, BlockOk, PoolOk, Buffers}
use Rattle.board_rule.specs.buffers.BlockReadings.{Ends, is_busy, stamp, filled, delay_at, busy_cycles, readers_of}
use Rattle.board_rule.specs.buffers.EndViews.{no_link, no_pool, link_in, pool_in}
use Rattle.board_rule.proofs.buffers.WiredLemmas.{LinkAt, PoolAt, Wired, busy_cycles_some}

-- of two words the one that is in the area of the first cycle, and the other
pick : (f a b : ℕ) → (get_or (cond (f % 2 == 0) (a ∷ b ∷ []) (b ∷ a ∷ [])) (f % 2) 0 ≡ a)
    × (get_or (cond (f % 2 == 0) (a ∷ b ∷ []) (b ∷ a ∷ [])) ((f + 1) % 2) 0 ≡ b)
pick f a b = dite (ℕ_discrete (f % 2) 0)
    (λ e. let t : (f % 2 == 0) ≡ true = eq-eqb (f % 2) 0 e in let o : (f + 1) % 2 ≡ 1 = omega arith in
    ((λ i. get_or (cond (t i) (a ∷ b ∷ []) (b ∷ a ∷ [])) (e i) 0), (λ i. get_or (cond (t i) (a ∷ b ∷ []) (b ∷ a ∷ [])) (o i) 0)))
    (λ e. let t : (f % 2 == 0) ≡ false = ne_eqb (f % 2) 0 e in let o : (f + 1) % 2 ≡ 0 = omega arith in
    let n : f % 2 ≡ 1 = omega arith in
    ((λ i. get_or (cond (t i) (a ∷ b ∷ []) (b ∷ a ∷ [])) (n i) 0), (λ i. get_or (cond (t i) (a ∷ b ∷ []) (b ∷ a ∷ [])) (o i) 0)))

-- a link at the start
module _ (f blocks : ℕ) (k : ShapeLink) (some : 0 < blocks) (area : ℕ → ℕ)
    (is : (a : ℕ) → a ≤ delay_by k → area a ≡ get_or (io_start f k) a 0) where
  pub link_start : (s t : Span) → s.ended ≡ f → s.begun ≡ f → t.ended ≡ f → t.begun ≡ f
      → LinkOk f blocks k s t (first_write f k) (unread f) area
  link_start s t so sb to tb = by k.delayed refl
    where
      by : (d : Bool) → k.delayed ≡ d → LinkOk f blocks k s t (first_write f k) (unread f) area
      by true e = let one : delay_by k ≡ 1 = ap (λ b. cond {A = ℕ} b 1 0) e in
          let id : (first_write f k).id ≡ 0 = ap (λ b. cond b 0 no_block) e in
          let two = pick f (have_data_word 0) (need_data_word no_block) in
          let here : (a : ℕ) → a ≤ 1 → area (area_of k (f + a))
          ≡ get_or (cond (f % 2 == 0) (have_data_word 0 ∷ need_data_word no_block ∷ []) (need_data_word no_block ∷ have_data_word 0 ∷ [])) ((f + a) % 2) 0 =
          λ a h. let j : area_of k (f + a) ≡ (f + a) % 2 = ap (λ b. cond b ((f + a) % 2) 0) e in
          is (area_of k (f + a)) (let z : (f + a) % 2 < 2 = omega arith in omega arith)
          ∙ (λ i. get_or (cond (e i) (cond (f % 2 == 0) (have_data_word 0 ∷ need_data_word no_block ∷ [])
          (need_data_word no_block ∷ have_data_word 0 ∷ [])) (need_data_word no_block ∷ [])) (j i) 0) in record {
            writer_turn = (omega arith, omega arith, omega arith);
            reader_turn = (omega arith, omega arith, omega arith, omega arith);
            later = (omega arith, omega arith);
            have = λ a h g. let z : a ≡ 0 = omega arith in
                subst (λ i. area (area_of k (f + i)) ≡ have_data_word (stored_id (first_write f k) i)) (sym z)
                (here 0 (omega arith) ∙ (let y : f + 0 ≡ f = omega arith in
                ap (λ n. get_or (cond (f % 2 == 0) (have_data_word 0 ∷ need_data_word no_block ∷ [])
                (need_data_word no_block ∷ have_data_word 0 ∷ [])) (n % 2) 0) y) ∙ two.0 ∙ ap (have_data_word) (sym id));
            need = λ a h g. let z : a ≡ 1 = omega arith in
                subst (λ i. area (area_of k (f + i)) ≡ need_data_word (stored_id (first_write f k) i)) (sym z)
                (here 1 (omega arith) ∙ two.1);
            unnamed = λ a h g. let z : a ≡ 1 = omega arith in ap (stored_id (first_write f k)) z;
            named = λ a h g. let z : a ≡ 0 = omega arith in
                let n : stored_id (first_write f k) a ≡ 0 = ap (stored_id (first_write f k)) z ∙ id in omega arith;
            found = λ a h g. absurd (omega arith);
          }
      by false e = let none : delay_by k ≡ 0 = ap (λ b. cond {A = ℕ} b 1 0) e in
          let id : (first_write f k).id ≡ no_block = ap (λ b. cond b 0 no_block) e in record {
            writer_turn = (omega arith, omega arith, omega arith);
            reader_turn = (omega arith, omega arith, omega arith, omega arith);
            later = (omega arith, omega arith);
            have = λ a h g. absurd (omega arith);
            need = λ a h g. let z : a ≡ 0 = omega arith in
                subst (λ i. area (area_of k (f + i)) ≡ need_data_word (stored_id (first_write f k) i)) (sym z)
                (let j : area_of k (f + 0) ≡ 0 = ap (λ b. cond b ((f + 0) % 2) 0) e in
                ap area j ∙ is 0 (omega arith)
                ∙ ap (λ b. get_or (cond b (cond (f % 2 == 0) (have_data_word 0 ∷ need_data_word no_block ∷ [])
                (need_data_word no_block ∷ have_data_word 0 ∷ [])) (need_data_word no_block ∷ [])) 0 0) e ∙ ap (need_data_word) (sym id));
            unnamed = λ a h g. let z : a ≡ 0 = omega arith in ap (stored_id (first_write f k)) z ∙ id;
            named = λ a h g. absurd (omega arith);
            found = λ a h g. absurd (omega arith);
          }

module _ (p : BoardLayout) where
  -- before the first step
  abbrev pub start_ends : Ends
  start_ends = record {
    writes = λ l. first_write (first p) (link_in p.shape l);
    reads = λ l. unread (first p);
    blocks = λ q b. first_block p.shape (pool_in p.shape q) b;
    reclaimed = λ q. first p + 1;
  }

  -- the block that is out then
  busy_first : (x : PoolShape) (b : ℕ) → is_busy (first_block p.shape x b) ≡ true
      → (b ≡ 0) × (first_block p.shape x b ≡ Out (first p))
  busy_first x b h = by (is_delayed p.shape x && eqb b 0) refl h
    where
      by : (c : Bool) → (is_delayed p.shape x && eqb b 0) ≡ c → is_busy (cond c (Out (first p)) Free) ≡ true
          → (b ≡ 0) × (first_block p.shape x b ≡ Out (first p))
      by true e _ = let z = and_parts (is_delayed p.shape x) (eqb b 0) e in
          (eqb-true b 0 z.1, ap (λ d. let y : BlockView = cond d (Out (first p)) Free in y) e)
      by false e g = absurd (true≢false (sym g))

  -- only a pool with a delayed link has one
  busy_two : (x : PoolShape) (b : ℕ) → is_busy (first_block p.shape x b) ≡ true → busy_cycles p x ≡ 2
  busy_two x b h = by (is_delayed p.shape x && eqb b 0) refl h
    where
      by : (c : Bool) → (is_delayed p.shape x && eqb b 0) ≡ c → is_busy (cond c (Out (first p)) Free) ≡ true → busy_cycles p x ≡ 2
      by true e _ = ap (λ d. cond {A = ℕ} d 2 1) (and_parts (is_delayed p.shape x) (eqb b 0) e).0
      by false e g = absurd (true≢false (sym g))

  delayed_first : (x : PoolShape) → 1 < busy_cycles p x → first_block p.shape x 0 ≡ (let y : BlockView = Out (first p) in y)
  delayed_first x h = by (is_delayed p.shape x) h
    where
      by : (c : Bool) → 1 < cond {A = ℕ} c 2 1 → (let y : BlockView = cond (c && eqb 0 0) (Out (first p)) Free in y) ≡ Out (first p)
      by true g = refl
      by false g = absurd (omega arith)

  pub buffers_start : (s : ℕ → Span) (e : Samples) (ws : List ℕ) → Wired p
      → ((m : ℕ) → m < nodes p → ((s m).ended ≡ first p) × ((s m).begun ≡ first p))
      → ((q : ℕ) (x : PoolShape) → PoolAt p q x → 0 < x.blocks)
      → ((l a : ℕ) (k : ShapeLink) → LinkAt p l k → a ≤ delay_by k → get_or ws (io_place p.shape l a) 0 ≡ get_or (io_start (first p) k) a 0)
      → ((q b : ℕ) (x : PoolShape) → PoolAt p q x → b < x.blocks
      → get_or ws (readers_place p.shape q b) 0 ≡ readers_of p (λ _. unread (first p)) x (first_block p.shape x b))
      → ((q b i : ℕ) (x : PoolShape) → PoolAt p q x → b < x.blocks → i < x.words → get_or ws (sample_place p.shape q b i) 0 ≡ 0)
      → Buffers p s start_ends e ws
  buffers_start s e ws w at some areas readers samples = record {
    links = λ q l x k to c is. let f = at (p.index k.from.node) (w.from_in l k is) in let g = at (p.index k.to.node) (w.to_in l k is) in
        subst (λ j. LinkOk (first p) x.blocks k (s (p.index k.from.node)) (s (p.index k.to.node)) (first_write (first p) j) (unread (first p))
        (λ a. get_or ws (io_place p.shape l a) 0)) (sym (get_or_from_slice_get p.shape.links l k no_link is))
        (link_start (first p) x.blocks k (some q x to) (λ a. get_or ws (io_place p.shape l a) 0) (λ a h. areas l a k is h)
        (s (p.index k.from.node)) (s (p.index k.to.node)) f.0 f.1 g.0 g.1);
    blocks = λ q b x to h. subst (λ j. BlockOk p q b x (s (p.index x.port.node)) (λ _. unread (first p)) e (first_block p.shape j b) ws)
        (sym (get_or_from_slice_get (pools_of p.shape) q x no_pool to)) (block q b x to h);
    pools = λ q x to. subst (λ j. PoolOk p x (s (p.index x.port.node)) (first p + 1) start_ends.writes (first_block p.shape j))
        (sym (get_or_from_slice_get (pools_of p.shape) q x no_pool to)) (pool q x to);
  }
    where
      filler : (q : ℕ) (x : PoolShape) → PoolAt p q x
          → ((s (p.index x.port.node)).ended ≡ first p) × ((s (p.index x.port.node)).begun ≡ first p)
      filler q x to = let l = w.linked q x to in let k = w.there q l.0 x to l.1 in
          subst (λ z. ((s (p.index z.node)).ended ≡ first p) × ((s (p.index z.node)).begun ≡ first p)) k.2
          (at (p.index k.0.from.node) (w.from_in l.0 k.0 k.1))

      block : (q b : ℕ) (x : PoolShape) → PoolAt p q x → b < x.blocks
          → BlockOk p q b x (s (p.index x.port.node)) (λ _. unread (first p)) e (first_block p.shape x b) ws
      block q b x to h = let m = filler q x to in let m₀ = m.0 in let m₁ = m.1 in let busy_some = busy_cycles_some p x in
          by (first_block p.shape x b) (busy_first x b) (readers q b x to h)
        where
          by : (y : BlockView) → (is_busy y ≡ true → (b ≡ 0) × (y ≡ Out (first p)))
              → get_or ws (readers_place p.shape q b) 0 ≡ readers_of p (λ _. unread (first p)) x y
              → BlockOk p q b x (s (p.index x.port.node)) (λ _. unread (first p)) e y ws
          by y only read = record {
            low = λ z. let st : stamp (s (p.index x.port.node)).ended y ≡ first p = ap (stamp (s (p.index x.port.node)).ended) (only z).1 in
                let m = (filler q x to).0 in let busy_some = busy_cycles_some p x in omega arith;
            high = λ z. let st : stamp (s (p.index x.port.node)).ended y ≡ first p = ap (stamp (s (p.index x.port.node)).ended) (only z).1 in
                let m = (filler q x to).1 in omega arith;
            full = full y only;
            readers = read;
            samples = λ i short. quiet y only i short;
          }
            where
              full : (z : BlockView) → (is_busy z ≡ true → (b ≡ 0) × (z ≡ Out (first p))) → filled x.words z ≤ x.words
              full Free o = omega arith
              full (Filling i) o = absurd (let u = (o refl).1 in (cc))
              full (Out n) o = omega arith

              -- before the first cycle there are no samples: zeros
              quiet : (z : BlockView) → (is_busy z ≡ true → (b ≡ 0) × (z ≡ Out (first p))) → (i : ℕ) → i < filled x.words z
                  → get_or ws (sample_place p.shape q b i) 0 ≡ packed (samples_of p e (stamp (s (p.index x.port.node)).ended z) q) i
              quiet Free o i short = absurd (omega arith)
              quiet (Filling j) o i short = absurd (let u = (o refl).1 in (cc))
              quiet (Out n) o i short = let same : n ≡ first p = ap (stamp 0) (o refl).1 in
                  let none : ltb (first p) n ≡ false = le-ltb (first p) n (omega arith) in
                  samples q b i x to h short ∙ sym (ap (λ c. packed (cond c (samples_in p e (n - 1) q) []) i) none)

      pool : (q : ℕ) (x : PoolShape) → PoolAt p q x → PoolOk p x (s (p.index x.port.node)) (first p + 1) start_ends.writes (first_block p.shape x)
      pool q x to = let busy_some = busy_cycles_some p x in record {
        reclaims = record {
          begun = omega arith;
          turn = λ l c. (omega arith, λ h. absurd (omega arith));
          until = λ b n h is. let same : first p ≡ n = ap (stamp 0) (sym (busy_first x b (ap is_busy is)).1 ∙ is) in
              let two = busy_two x b (ap is_busy is) in omega arith;
        };
        named = λ l c. let k = w.there q l x to c in let late = w.delay_in q l x to c in
            let y = ap (first_write (first p)) (get_or_from_slice_get p.shape.links l k.0 no_link k.1) in
            let t : delay_at p l ≡ delay_by k.0 = ap (λ o. unwrap_or (option_map delay_by o) 0) k.1 in
            subst (λ v. NamesBlocks p x (delay_at p l) (first p + 1) v (first_block p.shape x)) (sym y)
            (names k.0 x (delay_at p l) t late);
        apart = λ a b ha hb ba bb _. let u = (busy_first x a ba).0 in let v = (busy_first x b bb).0 in omega arith;
        near = λ a b ha hb ba bb. let u : stamp (s (p.index x.port.node)).ended (first_block p.shape x a) ≡ first p =
            ap (stamp (s (p.index x.port.node)).ended) (busy_first x a ba).1 in
            let v : stamp (s (p.index x.port.node)).ended (first_block p.shape x b) ≡ first p =
            ap (stamp (s (p.index x.port.node)).ended) (busy_first x b bb).1 in omega arith;
      }
        where
          names : (k : ShapeLink) (x : PoolShape) (late : ℕ) → late ≡ delay_by k → late < busy_cycles p x
              → NamesBlocks p x late (first p + 1) (first_write (first p) k) (first_block p.shape x)
          names k x late t small = by k.delayed refl
            where
              by : (d : Bool) → k.delayed ≡ d → NamesBlocks p x late (first p + 1) (first_write (first p) k) (first_block p.shape x)
              by true d = let one : delay_by k ≡ 1 = ap (λ b. cond {A = ℕ} b 1 0) d in
                  let id : (first_write (first p) k).id ≡ 0 = ap (λ b. cond b 0 no_block) d in record {
                    out = λ a n h i j _. let z : a ≡ 0 = omega arith in let m : first p ≡ n = omega arith in
                        ap (λ v. first_block p.shape x (stored_id (first_write (first p) k) v)) z ∙ ap (first_block p.shape x) id
                        ∙ delayed_first x (omega arith) ∙ ap (λ v. let y : BlockView = Out v in y) m;
                    zero = λ _ a h i. let z : a ≡ 0 = omega arith in ap (stored_id (first_write (first p) k)) z ∙ id;
                    names = λ a n b h i j low is. let z : a ≡ 0 = omega arith in
                        ap (stored_id (first_write (first p) k)) z ∙ id ∙ sym (busy_first x b (ap is_busy is)).0;
                  }
              by false d = let none : delay_by k ≡ 0 = ap (λ b. cond {A = ℕ} b 1 0) d in record {
                out = λ a n h i j _. absurd (omega arith);
                zero = λ one a h i. absurd (omega arith);
                names = λ a n b h i j low is. absurd (omega arith);
              }

  -- while no block has samples but those of the cycle before the first, any table may be named
  pub buffers_named : (s : ℕ → Span) (ends : Ends) (e f : Samples) (ws : List ℕ)
      → ((q b : ℕ) (x : PoolShape) → PoolAt p q x → b < x.blocks → ends.blocks q b ≡ first_block p.shape x b)
      → Buffers p s ends e ws → Buffers p s ends f ws
  buffers_named s ends e f ws still o = record {
    links = o.links;
    blocks = λ q n x at h. let k = o.blocks q n x at h in record {
      low = k.low;
      high = k.high;
      full = k.full;
      readers = k.readers;
      samples = λ i l. k.samples i l ∙ other (s (p.index x.port.node)).ended q i (ends.blocks q n) (λ busy. let y = busy_first x n
          (sym (ap is_busy (still q n x at h)) ∙ busy) in still q n x at h ∙ y.1) (λ busy. quiet_free x.words i (ends.blocks q n) l busy);
    };
    pools = o.pools;
  }
    where
      quiet_free : (words i : ℕ) (y : BlockView) → i < filled words y → (is_busy y ≡ false) → ⊥
      quiet_free words i Free l b = omega arith
      quiet_free words i (Filling j) l b = true≢false b
      quiet_free words i (Out n) l b = true≢false b

      other : (ended q i : ℕ) (y : BlockView) → (is_busy y ≡ true → y ≡ Out (first p)) → (is_busy y ≡ false → ⊥)
          → packed (samples_of p e (stamp ended y) q) i ≡ packed (samples_of p f (stamp ended y) q) i
      other ended q i y only busy = by (is_busy y) refl
        where
          by : (b : Bool) → is_busy y ≡ b → packed (samples_of p e (stamp ended y) q) i ≡ packed (samples_of p f (stamp ended y) q) i
          by false z = absurd (busy z)
          by true z = let st : stamp ended y ≡ first p = ap (stamp ended) (only z) in
              let none : ltb (first p) (stamp ended y) ≡ false = le-ltb (first p) (stamp ended y) (omega arith) in
              ap (λ c. packed (cond c (samples_in p e (stamp ended y - 1) q) []) i) none
              ∙ sym (ap (λ c. packed (cond c (samples_in p f (stamp ended y - 1) q) []) i) none)
