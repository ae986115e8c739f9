-- The ends and ways that are made one by one at the start.
use Rattle.std.proofs.Common.{◌≡◌, ◌≢◌, ℕ, zero, suc, ◌+◌, ◌<◌, ◌≤◌, ◌⊎◌, List, [], ◌∷◌, ◌++◌, length, set, get_or, inl, inr, sym, refl, ap, ◌∙◌, subst, ⊎_elim, arith, map, length-set}
use Rattle.std.specs.Prelude.{Some, None, slice_get}
use Rattle.std.proofs.lemmas.Option.{none-some, slice_get-get_or, slice_get_within, get_or_from_slice_get, slice_get_cases}
use Rattle.std.proofs.lemmas.List.Sums.{sum_by-set, sum_by_push}
use Rattle.atomic_table.specs.Seated.{TableId}
use Rattle.atomic_table.specs.declared.shared.Seat.{Seat}
use Rattle.crossbeam_utils.specs.Token.{parker_view}
use Rattle.ready_queues.specs.declared.parking.Woken.{Woken}
use Rattle.ready_queues.specs.declared.start_view.StartView.{StartView}
use Rattle.ready_queues.specs.declared.hand.Hand.{Hand}
use Rattle.ready_queues.specs.declared.end.End.{End}
use Rattle.ready_queues.specs.declared.lane.Lane.{Lane}
use Rattle.ready_queues.specs.declared.way.Way.{Way}
use Rattle.ready_queues.specs.Lanes.{parker_of}
use Rattle.ready_queues.specs.Ends.{hand_of, received_by}
use Rattle.ready_queues.specs.Opening.{IsFreshEnd, AreFreshEnds, IsBareWay, AreBare}
use Rattle.ready_queues.proofs.EndLemmas.{some_is, slice_at_set}

abbrev ParkPass : Type 0
ParkPass = Seat (Unit {0}) Woken

abbrev StartSeat : Type 0
StartSeat = Seat (Unit {0}) StartView

slice_at_snoc : {A : Type 0} (xs : List A) (x a : A) (l : ℕ) → slice_get (xs ++ x ∷ []) l ≡ Some a → (slice_get xs l ≡ Some a) ⊎ ((l ≡ length xs) × (x ≡ a))
slice_at_snoc [] x a zero e = inr (refl, some_is x a e)
slice_at_snoc [] x a (suc l) e = absurd (none-some a e)
slice_at_snoc (y ∷ ys) x a zero e = inl e
slice_at_snoc (y ∷ ys) x a (suc l) e = ⊎_elim (λ t. inl t) (λ t. inr (ap suc t.0, t.1)) (slice_at_snoc ys x a l e)

module _ {A B : Type 0} (R : ℕ → A → B → Type 0) where
  abbrev Pairs : List A → List B → Type 0
  Pairs xs ys = (l : ℕ) (a : A) (b : B) → slice_get xs l ≡ Some a → slice_get ys l ≡ Some b → R l a b

  -- two lists that grow together
  pub both_snoc : (xs : List A) (ys : List B) (x : A) (y : B) → length xs ≡ length ys → Pairs xs ys → R (length xs) x y → Pairs (xs ++ x ∷ []) (ys ++ y ∷ [])
  both_snoc xs ys x y same all here l a b at to = ⊎_elim
      (λ (s : slice_get xs l ≡ Some a). ⊎_elim
      (λ (t : slice_get ys l ≡ Some b). all l a b s t)
      (λ (t : (l ≡ length ys) × (y ≡ b)). let low = slice_get_within xs l a s in let e = t.0 in absurd (omega arith))
      (slice_at_snoc ys y b l to))
      (λ (s : (l ≡ length xs) × (x ≡ a)). ⊎_elim
      (λ (t : slice_get ys l ≡ Some b). let low = slice_get_within ys l b t in let e = s.0 in absurd (omega arith))
      (λ (t : (l ≡ length ys) × (y ≡ b)). subst (λ (p : ℕ × (A × B)). R p.0 p.1.0 p.1.1) (λ i. (sym s.0 i, (s.1 i, t.1 i))) here)
      (slice_at_snoc ys y b l to))
      (slice_at_snoc xs x a l at)

  -- one that grows beside another
  pub one_snoc : (xs : List A) (ys : List B) (y : B) → Pairs xs ys → ((a : A) → slice_get xs (length ys) ≡ Some a → R (length ys) a y) → Pairs xs (ys ++ y ∷ [])
  one_snoc xs ys y all here l a b at to = ⊎_elim
      (λ (t : slice_get ys l ≡ Some b). all l a b at t)
      (λ (t : (l ≡ length ys) × (y ≡ b)). subst (λ (p : ℕ × B). R p.0 a p.1) (λ i. (sym t.0 i, t.1 i)) (here a (subst (λ (k : ℕ). slice_get xs k ≡ Some a) t.0 at)))
      (slice_at_snoc ys y b l to)

  -- one of which an element changes
  pub one_set : (xs : List A) (ys : List B) (k : ℕ) (y : B) → Pairs xs ys → ((a : A) → slice_get xs k ≡ Some a → R k a y) → Pairs xs (set ys k y)
  one_set xs ys k y all here l a b at to = ⊎_elim
      (λ (t : (l ≡ k) × (y ≡ b)). subst (λ (p : ℕ × B). R p.0 a p.1) (λ i. (sym t.0 i, t.1 i)) (here a (subst (λ (j : ℕ). slice_get xs j ≡ Some a) t.0 at)))
      (λ (t : (l ≢ k) × (slice_get ys l ≡ Some b)). all l a b at t.1)
      (slice_at_set ys k l y b to)

-- of an unused end the loop is what its hand says
pub by_its_hand : (owner : List ℕ) (number : ℕ) (lane : Lane) (e : End) → IsFreshEnd owner number lane e → IsFreshEnd (hand_of e).owner (hand_of e).number lane e
by_its_hand owner number lane e f = let h = f.unused.hand in
    subst (λ (p : List ℕ × ℕ). IsFreshEnd p.0 p.1 lane e) (λ i. (ap (λ (g : Hand). g.owner) (sym h) i, ap (λ (g : Hand). g.number) (sym h) i)) f

pub by_its_loop : (owner : List ℕ) (number : ℕ) (lane : Lane) (e new : End) → IsFreshEnd owner number lane e → IsFreshEnd (hand_of e).owner (hand_of e).number lane new → IsFreshEnd owner number lane new
by_its_loop owner number lane e new f g = let h = f.unused.hand in
    subst (λ (p : List ℕ × ℕ). IsFreshEnd p.0 p.1 lane new) (λ i. (ap (λ (k : Hand). k.owner) h i, ap (λ (k : Hand). k.number) h i)) g

pub received_none : (owner : List ℕ) (number : ℕ) (lane : Lane) (e : End) → IsFreshEnd owner number lane e → length (hand_of e).received ≡ 0
received_none owner number lane e f = ap (λ (h : Hand). length h.received) f.unused.hand

module _ (owner : List ℕ) (lanes : List Lane) where
  pub fresh_set : (ends : List End) (k : ℕ) (d new : End) → k < length lanes → AreFreshEnds owner lanes ends
      → ((lane : Lane) → slice_get lanes k ≡ Some lane → IsFreshEnd owner k lane new) → Lane → AreFreshEnds owner lanes (set ends k new)
  fresh_set ends k d new low are is lane' = let count = are.count in let none = are.none in
      let lane : Lane = get_or lanes k lane' in let there : slice_get lanes k ≡ Some lane = slice_get-get_or lanes k lane' low in
      let was : slice_get ends k ≡ Some (get_or ends k d) = slice_get-get_or ends k d (omega arith) in
      let s = sum_by-set (λ (e : End). length (hand_of e).received) ends k new d (omega arith) in
      let mine = received_none owner k lane new (is lane there) in let old = received_none owner k lane (get_or ends k d) (are.each k lane (get_or ends k d) there was) in record {
        count = length-set ends k new ∙ count;
        each = one_set (IsFreshEnd owner) lanes ends k new are.each is;
        none = omega arith;
      }

  pub received_more : (ends : List End) (k : ℕ) (lane : Lane) (e : End) → received_by ends ≡ 0 → IsFreshEnd owner k lane e → received_by (ends ++ e ∷ []) ≡ 0
  received_more ends k lane e none f = let s = sum_by_push (λ (x : End). length (hand_of x).received) ends e in let mine = received_none owner k lane e f in omega arith

-- the parkers of the loops, and then that of the driver
pub parker_at : (lanes : List Lane) (driver : TableId) (k : ℕ) (lane : Lane) → slice_get lanes k ≡ Some lane → slice_get (map parker_of lanes ++ driver ∷ []) k ≡ Some (parker_of lane)
parker_at [] driver k lane e = absurd (none-some lane e)
parker_at (x ∷ xs) driver zero lane e = ap (λ (l : Lane). Some (parker_of l)) (some_is x lane e)
parker_at (x ∷ xs) driver (suc k) lane e = parker_at xs driver k lane e

pub driver_at : (lanes : List Lane) (driver : TableId) (n : ℕ) → n ≡ length lanes → slice_get (map parker_of lanes ++ driver ∷ []) n ≡ Some driver
driver_at [] driver zero e = refl
driver_at [] driver (suc n) e = absurd (omega arith)
driver_at (x ∷ xs) driver zero e = absurd (omega arith)
driver_at (x ∷ xs) driver (suc n) e = driver_at xs driver n (omega arith)

-- what is dealt from the end of a loop, and that end afterwards
pub dealt_at : (owner : List ℕ) (lanes slice : List Lane) (ends : List End) (k : ℕ) (x : Lane) (d new : End) → slice ≡ lanes → x ≡ get_or slice k x → k < length lanes → AreFreshEnds owner lanes ends
    → IsFreshEnd (hand_of (get_or ends k d)).owner (hand_of (get_or ends k d)).number x new → (lane : Lane) → slice_get lanes k ≡ Some lane → IsFreshEnd owner k lane new
dealt_at owner lanes slice ends k x d new same is low are f lane at = let count = are.count in
    let here : x ≡ lane = is ∙ ap (λ (l : List Lane). get_or l k x) same ∙ get_or_from_slice_get lanes k lane x at in
    let was : slice_get ends k ≡ Some (get_or ends k d) = slice_get-get_or ends k d (omega arith) in let e : End = get_or ends k d in
    by_its_loop owner k lane e new (are.each k lane e at was) (subst (λ (l : Lane). IsFreshEnd (hand_of e).owner (hand_of e).number l new) here f)

module _ (owner : List ℕ) (lanes : List Lane) (driver : TableId) (ways : List Way) (k : ℕ) (dw new : Way) (ends : List End) (low : k < length lanes) (count : length ways ≡ length lanes) (bare : AreBare lanes driver ways) (ends_are : new.ends.items ≡ ends) (fresh : AreFreshEnds owner lanes ends) where
  -- a way that got its ends is as bare as before
  pub equipped_bare : (new.number ≡ (get_or ways k dw).number) × (new.own ≡ (get_or ways k dw).own) × (new.driver ≡ (get_or ways k dw).driver) × (new.begins ≡ (get_or ways k dw).begins) → AreBare lanes driver (set ways k new)
  equipped_bare thread = one_set (λ j lane w. IsBareWay lane driver j w) lanes ways k new bare (λ lane at.
      let b = bare k lane (get_or ways k dw) at (slice_get-get_or ways k dw (omega arith)) in record {
        loop_is = thread.0 ∙ b.loop_is;
        parker_is = ap (λ (p : ParkPass). p.table_id) thread.1 ∙ b.parker_is;
        driver_is = ap (λ (p : ParkPass). p.table_id) thread.2 ∙ b.driver_is;
        begins_is = ap (λ (p : StartSeat). p.table_id) thread.3 ∙ b.begins_is;
        own = ap (λ (p : ParkPass). parker_view p) thread.1 ∙ b.own;
        gave = ap (λ (p : ParkPass). parker_view p) thread.2 ∙ b.gave;
        idle = ap (λ (p : StartSeat). p.me.0) thread.3 ∙ b.idle;
        empty = ap received_by ends_are ∙ fresh.none;
      })

  pub equipped_ends : (next : ℕ) → next ≡ k + 1 → ((j : ℕ) (w : Way) → j < k → slice_get ways j ≡ Some w → AreFreshEnds owner lanes w.ends.items)
      → (j : ℕ) (w : Way) → j < next → slice_get (set ways k new) j ≡ Some w → AreFreshEnds owner lanes w.ends.items
  equipped_ends next step before j w h at = ⊎_elim
      (λ (t : (j ≡ k) × (new ≡ w)). subst (AreFreshEnds owner lanes) (sym ends_are ∙ ap (λ (v : Way). v.ends.items) t.1) fresh)
      (λ (t : (j ≢ k) × (slice_get ways j ≡ Some w)). let n = t.0 in before j w (by n) t.1)
      (slice_at_set ways k j new w at)
    where
      by : j ≢ k → j < k
      by n = omega arith

pub bare_empty : (lanes : List Lane) (driver : TableId) (ways : List Way) (k : ℕ) (dw : Way) → k < length lanes → length ways ≡ length lanes → AreBare lanes driver ways
    → received_by (get_or ways k dw).ends.items ≡ 0
bare_empty lanes driver ways k dw low count bare = ⊎_elim
    (λ (t : (lane : Lane) × (k < length lanes) × (slice_get lanes k ≡ Some lane) × (get_or lanes k lane ≡ lane)).
    (bare k t.0 (get_or ways k dw) t.2 (slice_get-get_or ways k dw (omega arith))).empty)
    (λ (t : (length lanes ≤ k) × (slice_get lanes k ≡ None)). let h = t.0 in absurd (omega arith))
    (slice_get_cases lanes k).1
