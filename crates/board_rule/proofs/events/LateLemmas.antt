-- Laws of `specs/Logged.antt` on late checks: what a check has loaded, and the late set that it stores.
use Rattle.std.proofs.Common.{◌≡◌, ℕ, zero, suc, ◌+◌, ◌-◌, ◌<◌, ◌≤◌, ◌⊎◌, inl, inr, ⊎_elim, Bool}
use Rattle.std.proofs.Common.{true, false, true≢false, cond, eqb, List, [], ◌∷◌, ◌++◌, map, length, get_or, Some, refl, sym, ap, ◌∙◌}
use Rattle.std.proofs.Common.{subst, arith, eq-eqb, length-append}
use mathlib.Core.Logic.{dite}
use native.Mathlib.Decide.{ℕ_discrete}
use Rattle.std.specs.Prelude.{slice_get, All, Contains, IsBitSet}
use Rattle.std.proofs.lemmas.List.{length-map}
use Rattle.std.proofs.lemmas.List.Elements.{All-map, All-head, All-tail, All-contains}
use Rattle.pw_graph.specs.declared.event.Event.{Event}
use Rattle.pw_graph.specs.declared.event.Event.TheVariants.{Begin, Start, Finish, Tick, End}
use Rattle.pw_graph.specs.EventWords.{event_cycle, event_node, event_word_of}
use Rattle.pw_graph.specs.History.{is_start, is_finish, is_tick, IsLate}
use Rattle.pw_graph.specs.Words.{finished_word}
use Rattle.board_rule.specs.declared.view.Found.{Found}
use Rattle.board_rule.specs.Layout.{BoardLayout, nodes, first}
use Rattle.board_rule.specs.View.{put}
use Rattle.board_rule.specs.events.Bits.{with_bit}
use Rattle.board_rule.specs.events.EventSteps.{late_of}
use Rattle.board_rule.specs.events.Logged.{IsSoFar, IsHeld, Tickets, Earlier, Inside}
use Rattle.board_rule.specs.events.Records.{Records, Counts, Marks}
use Rattle.board_rule.proofs.events.BitLemmas.{no_bit, other_bit}
use Rattle.board_rule.proofs.start.SeatLemmas.{put_here, put_else}
use Rattle.board_rule.proofs.GrowingListLemmas.{count_mapped, first_mapped}

-- the bits of a late set
pub late_bits : (c : ℕ) (P : ℕ → Type 0) (fs : List Found) → All (λ f. ¬ (f.word ≡ finished_word c) → P f.node) fs → (n : ℕ)
    → IsBitSet (late_of c fs) n → P n
late_bits c P [] all n h = absurd (no_bit n h)
late_bits c P (f ∷ fs) all n h = by (eqb f.word (finished_word c)) refl
    (late_bits c P fs (All-tail (λ f. ¬ (f.word ≡ finished_word c) → P f.node) f fs all)) h
  where
    by : (b : Bool) → eqb f.word (finished_word c) ≡ b → ((n : ℕ) → IsBitSet (late_of c fs) n → P n)
        → IsBitSet (cond b (late_of c fs) (with_bit (late_of c fs) f.node)) n → P n
    by true e rest h = rest n h
    by false e rest h = dite (ℕ_discrete n f.node) (λ q. subst P (sym q)
        (All-head (λ f. ¬ (f.word ≡ finished_word c) → P f.node) f fs all
        (λ z. true≢false (sym (eq-eqb f.word (finished_word c) z) ∙ e))))
        (λ q. rest n (other_bit (late_of c fs) f.node n q h))

-- a Tick is given its late set
abbrev pub told_late : ℕ → Event → Event
told_late set (Tick k late) = Tick k set
told_late set e = e

start_same : (set c n : ℕ) (e : Event) → is_start c n (told_late set e) ≡ is_start c n e
start_same set c n (Begin k) = refl
start_same set c n (Start k m) = refl
start_same set c n (Finish k m) = refl
start_same set c n (Tick k late) = refl
start_same set c n (End k) = refl

finish_same : (set c n : ℕ) (e : Event) → is_finish c n (told_late set e) ≡ is_finish c n e
finish_same set c n (Begin k) = refl
finish_same set c n (Start k m) = refl
finish_same set c n (Finish k m) = refl
finish_same set c n (Tick k late) = refl
finish_same set c n (End k) = refl

tick_same : (set : ℕ) (e : Event) → is_tick (told_late set e) ≡ is_tick e
tick_same set (Begin k) = refl
tick_same set (Start k m) = refl
tick_same set (Finish k m) = refl
tick_same set (Tick k late) = refl
tick_same set (End k) = refl

word_same : (set : ℕ) (e : Event) → event_word_of (told_late set e) ≡ event_word_of e
word_same set (Begin k) = refl
word_same set (Start k m) = refl
word_same set (Finish k m) = refl
word_same set (Tick k late) = refl
word_same set (End k) = refl

-- what a list gives at an index when its end is changed
found_late : (set : ℕ) (past xs : List Event) (k : ℕ) (y : Event) → slice_get (past ++ map (told_late set) xs) k ≡ Some y → (x : Event)
    × (slice_get (past ++ xs) k ≡ Some x) × (event_word_of x ≡ event_word_of y)
found_late set [] [] k y h = cc
found_late set [] (x ∷ xs) zero y h = (x, refl, sym (word_same set x) ∙ ap event_word_of (let e : told_late set x ≡ y = (cc) in e))
found_late set [] (x ∷ xs) (suc k) y h = found_late set [] xs k y h
found_late set (z ∷ past) xs zero y h = (y, h, refl)
found_late set (z ∷ past) xs (suc k) y h = found_late set past xs k y h

keeps_late : (set : ℕ) (past xs : List Event) (k : ℕ) (y : Event) → length past ≤ k → slice_get (past ++ xs) k ≡ Some y
    → slice_get (past ++ map (told_late set) xs) k ≡ Some (told_late set y)
keeps_late set [] [] k y l h = cc
keeps_late set [] (x ∷ xs) zero y l h = let e : x ≡ y = (cc) in ap (λ z. Some (told_late set z)) e
keeps_late set [] (x ∷ xs) (suc k) y l h = keeps_late set [] xs k y (omega arith) h
keeps_late set (z ∷ past) xs zero y l h = absurd (omega arith)
keeps_late set (z ∷ past) xs (suc k) y l h = keeps_late set past xs k y (omega arith) h

module _ (p : BoardLayout) (c : ℕ) where
  -- the events so far, with the late set of the Tick
  pub tickets_late : (set : ℕ) (s t : Marks) (past xs : List Event) (r : Records) (late : ℕ → ℕ)
      → Tickets p c (length past) s (past ++ xs) r → ((k : ℕ) → IsHeld p s k → IsHeld p t k)
      → ((n : ℕ) → n < nodes p → t.counts.started n ≡ 1 → (s.counts.started n ≡ 1) × (t.start n ≡ s.start n))
      → ((n : ℕ) → n < nodes p → t.counts.finished n ≡ 1 → (s.counts.finished n ≡ 1) × (t.finish n ≡ s.finish n))
      → ((k : ℕ) (y : Event) → Contains t.tells (k, y) → (x : Event) × Contains s.tells (k, x) × (told_late set x ≡ y))
      → Tickets p c (length past) t (past ++ map (told_late set) xs) (record r { late = late })
  tickets_late set s t past xs r late a held starts finishes tells =
      let long : length (past ++ map (told_late set) xs) ≡ length (past ++ xs) = length-append past (map (told_late set) xs)
      ∙ ap (λ n. length past + n) (length-map xs (told_late set)) ∙ sym (length-append past xs) in record {
        drawn = a.drawn ∙ sym long;
        stored = λ k y h. let f = found_late set past xs k y h in either' k y f.0 f.2 (a.stored k f.0 f.1);
        unused = λ k h l. a.unused k (omega arith) l;
        starts_kept = λ n h one. let z = starts n h one in let o = a.starts_kept n h z.0 in let o₀ = o.0 in (
          subst (λ j. length past < j) (sym z.1) o.0,
          ap (slice_get (past ++ map (told_late set) xs)) z.1
              ∙ keeps_late set past xs (s.start n) (Start c (p.number n)) (omega arith) o.1,
        );
        finishes_kept = λ n h one. let z = finishes n h one in let o = a.finishes_kept n h z.0 in let o₀ = o.0 in (
          subst (λ j. length past < j) (sym z.1) o.0,
          ap (slice_get (past ++ map (told_late set) xs)) z.1
              ∙ keeps_late set past xs (s.finish n) (Finish c (p.number n)) (omega arith) o.1,
        );
        told_kept = λ k y h. let z = tells k y h in let o = a.told_kept k z.0 z.1 in
            (o.0, keeps_late set past xs k z.0 o.0 o.1 ∙ ap (λ x. Some x) z.2);
      }
    where
      either' : (k : ℕ) (y x : Event) → event_word_of x ≡ event_word_of y → (r.event k ≡ event_word_of x) ⊎ ((r.event k ≡ 0) × IsHeld p s k)
          → (r.event k ≡ event_word_of y) ⊎ ((r.event k ≡ 0) × IsHeld p t k)
      either' k y x e h = ⊎_elim (λ (z : r.event k ≡ event_word_of x). inl (z ∙ e))
          (λ (z : (r.event k ≡ 0) × IsHeld p s k). inr (z.0, held k z.1)) h

  pub earlier_late : (late set : ℕ) (past : List Event) (r : Records) → first p ≤ c → Earlier p c late past r
      → Earlier p c set past (record r { late = put r.late (c - first p) set })
  earlier_late late set past r low a = record {
    legal = a.legal;
    before = a.before;
    lates = λ k x h. let b = earlier k x h in let b₀ = b.0 in let b₁ = b.1 in
        put_else r.late (c - first p) (k - first p) set (λ z. omega arith) ∙ a.lates k x h;
    late_now = λ _. put_here r.late (c - first p) set;
    late_later = λ k h l. put_else r.late (c - first p) (k - first p) set (λ z. omega arith) ∙ a.late_later k h l;
  }
    where
      earlier : (k x : ℕ) → Contains past (Tick k x) → (first p ≤ k) × (k < c)
      earlier k x h = let b = All-contains (λ e. (first p ≤ event_cycle e) × (event_cycle e < c) × (event_node e ≤ 63)) past
          (Tick k x) a.before h in (b.0, b.1)

  so_far_late : (late set : ℕ) (e : Event) → IsSoFar p c late e → IsSoFar p c set (told_late set e)
  so_far_late late set (Begin k) h = absurd h
  so_far_late late set (Start k n) h = h
  so_far_late late set (Finish k n) h = h
  so_far_late late set (Tick k x) h = (h.0, refl)
  so_far_late late set (End k) h = absurd h

  is_late_told : (set : ℕ) (xs : List Event) (n : ℕ) → IsLate p.shape xs c n → IsLate p.shape (map (told_late set) xs) c n
  is_late_told set xs n h = (
    h.0,
    h.1,
    subst (λ (z : ℕ × ℕ). z.0 < z.1)
        (λ i. (
          sym (first_mapped is_tick (told_late set) (tick_same set) xs) i,
          sym (first_mapped (is_finish c n) (told_late set) (finish_same set c n) xs) i,
        )) h.2,
  )

  pub inside_late : (late set : ℕ) (k l : Counts) (xs : List Event) → Inside p c late k xs → ((n : ℕ) → l.started n ≡ k.started n)
      → ((n : ℕ) → l.finished n ≡ k.finished n) → l.checked ≡ k.checked → l.sees ≡ []
      → ((n : ℕ) → IsBitSet set n → IsLate p.shape xs c n) → Inside p c set l (map (told_late set) xs)
  inside_late late set k l xs a started finished checked sees bits = let h : Event → Event = told_late set in record {
    only = All-map (IsSoFar p c set) h xs (λ i d q. so_far_late late set (get_or xs i d) (a.only i d q));
    starts = λ n q. count_mapped (is_start c (p.number n)) h (start_same set c (p.number n)) xs ∙ a.starts n q ∙ sym (started n);
    finishes = λ n q. count_mapped (is_finish c (p.number n)) h (finish_same set c (p.number n)) xs ∙ a.finishes n q ∙ sym (finished n);
    ticks = count_mapped is_tick h (tick_same set) xs ∙ a.ticks ∙ ap (λ b. cond {A = ℕ} b 1 0) (sym checked);
    order = λ n q one. subst (λ (z : ℕ × ℕ). z.0 < z.1)
        (λ i. (
          sym (first_mapped (is_start c (p.number n)) h (start_same set c (p.number n)) xs) i,
          sym (first_mapped (is_finish c (p.number n)) h (finish_same set c (p.number n)) xs) i,
        )) (a.order n q (sym (finished n) ∙ one));
    waits = λ m n hm hn before one. subst (λ (z : ℕ × ℕ). z.0 < z.1)
        (λ i. (
          sym (first_mapped (is_finish c (p.number m)) h (finish_same set c (p.number m)) xs) i,
          sym (first_mapped (is_start c (p.number n)) h (start_same set c (p.number n)) xs) i,
        ))
        (a.waits m n hm hn before (sym (started n) ∙ one));
    tick = λ one. subst (λ (z : ℕ × ℕ). z.0 < z.1) (λ i. (
      sym (first_mapped is_tick h (tick_same set) xs) i,
      sym (first_mapped (is_start c (p.number p.driver)) h (start_same set c (p.number p.driver)) xs) i,
    )) (a.tick (sym checked ∙ one));
    late_ones = λ n _ b. is_late_told set xs n (bits n b);
    seen = subst (All (λ f. ¬ (f.word ≡ finished_word c) → IsLate p.shape (map h xs) c f.node)) (sym sees)
        (λ i d q. absurd (omega arith));
  }

  -- a status is loaded
  pub inside_looks : (late : ℕ) (k : Counts) (xs : List Event) (f : Found) → Inside p c late k xs
      → (¬ (f.word ≡ finished_word c) → IsLate p.shape xs c f.node) → Inside p c late (record k { sees = f ∷ k.sees }) xs
  inside_looks late k xs f a h = record {
    only = a.only;
    starts = a.starts;
    finishes = a.finishes;
    ticks = a.ticks;
    order = a.order;
    waits = a.waits;
    tick = a.tick;
    late_ones = a.late_ones;
    seen = cons (λ f. ¬ (f.word ≡ finished_word c) → IsLate p.shape xs c f.node) f k.sees h a.seen;
  }
    where
      cons : (P : Found → Type 0) (f : Found) (fs : List Found) → P f → All P fs → All P (f ∷ fs)
      cons P f fs h all zero d l = h
      cons P f fs h all (suc i) d l = all i d (omega arith)
