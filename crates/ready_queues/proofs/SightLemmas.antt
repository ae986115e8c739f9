-- What the ends of a way have seen of the starts, after one of them was used or looked at.
use Rattle.std.proofs.Common.{◌≡◌, ◌≢◌, ℕ, ◌<◌, ◌≤◌, ◌+◌, Bool, true, false, List, length, set, get_or, inl, inr, sym, refl, ap, ◌∙◌, subst, ⊎_elim, arith}
use Rattle.std.specs.Prelude.{Some, slice_get}
use Rattle.std.proofs.lemmas.Option.{slice_get-get_or, get_or_from_slice_get, slice_get_within}
use Rattle.std.proofs.lemmas.List.Sums.{sum_by-set}
use Rattle.atomic_table.specs.declared.shared.Seat.{Seat}
use Rattle.ready_queues.specs.declared.start_view.StartView.{StartView}
use Rattle.ready_queues.specs.declared.end.End.{End}
use Rattle.ready_queues.specs.declared.lane.Lane.{Lane}
use Rattle.ready_queues.specs.Ends.{hand_of, sight_of, received_by, AreEndsOf, AreSameSights}
use Rattle.ready_queues.specs.QueueRule.{IsNodeOf}
use Rattle.ready_queues.specs.StartRule.{sighted, missed}
use Rattle.ready_queues.specs.Watching.{IsSeen, IsForDriver, IsLater, IsLookedAt, AreLookedAt}
use Rattle.ready_queues.proofs.EndLemmas.{some_is, slice_at_set, related, ends_set}

-- what holds from each end to its next, and from this to its next
pub chained : (R S T : End → End → Type 0) → ((a b c : End) → R a b → S b c → T a c) → (old mid new : List End) → length mid ≡ length old
    → ((l : ℕ) (a b : End) → slice_get old l ≡ Some a → slice_get mid l ≡ Some b → R a b) → ((l : ℕ) (a b : End) → slice_get mid l ≡ Some a → slice_get new l ≡ Some b → S a b)
    → (l : ℕ) (a c : End) → slice_get old l ≡ Some a → slice_get new l ≡ Some c → T a c
chained R S T both old mid new count r s l a c was is = let low = slice_get_within old l a was in let b : End = get_or mid l a in
    let at : slice_get mid l ≡ Some b = slice_get-get_or mid l a (omega arith) in both a b c (r l a b was at) (s l b c at is)

pub same_set : (ends : List End) (k : ℕ) (d new : End) → sight_of new ≡ sight_of (get_or ends k d) → AreSameSights ends (set ends k new)
same_set ends k d new is = related (λ _ a b. sight_of b ≡ sight_of a) ends k new (λ _ e _. refl) (λ e at. is ∙ ap sight_of (get_or_from_slice_get ends k e d at))

pub same_all : (ends : List End) → AreSameSights ends ends
same_all ends l a b was now = ap sight_of (some_is b a (sym now ∙ was))

pub same_more : (old mid new : List End) → length mid ≡ length old → AreSameSights old mid → AreSameSights mid new → AreSameSights old new
same_more = chained (λ a b. sight_of b ≡ sight_of a) (λ a b. sight_of b ≡ sight_of a) (λ a b. sight_of b ≡ sight_of a) (λ _ _ _ e f. f ∙ e)

later_trans : (u v w : StartView) → IsLater u v → IsLater v w → IsLater u w
later_trans u v w a b = let m = a.misses in let n = b.misses in record {
  own = b.own ∙ a.own;
  runs = b.runs ∙ a.runs;
  seen = λ s. b.seen (a.seen s);
  misses = omega arith;
}

-- no look
same_end : (e : End) → IsLookedAt e e
same_end e = record { hand = refl; wakes = refl; sight = record { own = refl; runs = refl; seen = λ s. s; misses = omega arith } }

pub no_look : (ends : List End) → AreLookedAt ends ends
no_look ends l a b was now = subst (IsLookedAt a) (some_is a b (sym was ∙ now)) (same_end a)

pub looked_more : (old mid new : List End) → length mid ≡ length old → AreLookedAt old mid → AreLookedAt mid new → AreLookedAt old new
looked_more = chained IsLookedAt IsLookedAt IsLookedAt (λ a b c p q. record {
  hand = q.hand ∙ p.hand;
  wakes = q.wakes ∙ p.wakes;
  sight = later_trans (sight_of a) (sight_of b) (sight_of c) p.sight q.sight;
})

-- one look
later : (found : Bool) (v w : StartView) → (found ≡ true → w ≡ sighted v) → (found ≡ false → w ≡ missed v) → IsLater v w
later true v w up off = subst (IsLater v) (sym (up refl)) (record { own = refl; runs = refl; seen = λ _. refl; misses = omega arith })
later false v w up off = subst (IsLater v) (sym (off refl)) (record { own = refl; runs = refl; seen = λ s. s; misses = omega arith })

module _ (owner : List ℕ) (lanes : List Lane) (loops : ℕ) (ends : List End) (are : AreEndsOf owner lanes ends) (number : ℕ) (d : End) (sight : Seat (Unit {0}) StartView) (low : number < length lanes)
    (same : sight.table_id ≡ (get_or ends number d).sight.table_id) where
  abbrev old : End
  old = get_or ends number d

  abbrev new : End
  new = record old { sight = sight }

  there : slice_get ends number ≡ Some old
  there = let n = are.count in slice_get-get_or ends number d (omega arith)

  here : (e : End) → slice_get (set ends number new) number ≡ Some e → new ≡ e
  here e at = ⊎_elim (λ (t : (number ≡ number) × (new ≡ e)). t.1) (λ (t : (number ≢ number) × (slice_get ends number ≡ Some e)). absurd (t.0 refl)) (slice_at_set ends number number new e at)

  pub watched_ends : AreEndsOf owner lanes (set ends number new)
  watched_ends = ends_set owner lanes ends are number new (λ lane at. let e = are.each number lane old at there in record {
    pass = e.pass;
    wake = e.wake;
    start = same ∙ e.start;
    hand = e.hand;
  })

  pub watched_count : received_by (set ends number new) ≡ received_by ends
  watched_count = let n = are.count in let s = sum_by-set (λ (e : End). length (hand_of e).received) ends number new d (omega arith) in omega arith

  module _ (found : Bool) (up : found ≡ true → sight.me.0 ≡ sighted (sight_of old)) (off : found ≡ false → sight.me.0 ≡ missed (sight_of old)) where
    pub watched_looked : AreLookedAt ends (set ends number new)
    watched_looked = related (λ _ a b. IsLookedAt a b) ends number new (λ _ e _. same_end e)
        (λ e at. let is : old ≡ e = get_or_from_slice_get ends number e d at in
        subst (λ (x : End). IsLookedAt x new) is (record { hand = refl; wakes = refl; sight = later found (sight_of old) sight.me.0 up off }))

    pub watched_seen : (node : ℕ) → number < loops → IsNodeOf owner number node → found ≡ true → IsSeen owner loops (set ends number new) node
    watched_seen node few is found = (number, few, is, λ e at. ap (λ (x : End). (sight_of x).seen) (sym (here e at)) ∙ ap (λ (v : StartView). v.seen) (up found))

    pub watched_missed : (node : ℕ) → number < loops → IsNodeOf owner number node → found ≡ false → IsForDriver owner loops ends (set ends number new) node
    watched_missed node few is lost = inr (
      number,
      few,
      is,
      λ a b was now.
          let one : (sight_of a).misses ≡ (sight_of old).misses = ap (λ (x : End). (sight_of x).misses) (some_is a old (sym was ∙ there)) in
          let two : (sight_of b).misses ≡ (sight_of old).misses + 1 = ap (λ (x : End). (sight_of x).misses) (sym (here b now)) ∙ ap (λ (v : StartView). v.misses) (off lost) in omega arith,
    )

-- what was seen before is seen after more looks, and what was missed after some was missed after all
module _ (owner : List ℕ) (loops node : ℕ) (old mid new : List End) (count : length mid ≡ length old) where
  pub seen_more : (longer : length new ≡ length mid) → AreLookedAt mid new → IsSeen owner loops mid node → IsSeen owner loops new node
  seen_more longer looked s = (
    s.0,
    s.1,
    s.2,
    λ e at. let low = slice_get_within new s.0 e at in let a : End = get_or mid s.0 e in
        let was : slice_get mid s.0 ≡ Some a = slice_get-get_or mid s.0 e (omega arith) in (looked s.0 a e was at).sight.seen (s.3 a was),
  )

  pub for_driver_more : ((l : ℕ) (a b : End) → slice_get old l ≡ Some a → slice_get mid l ≡ Some b → (sight_of a).misses ≤ (sight_of b).misses)
      → IsForDriver owner loops mid new node → IsForDriver owner loops old new node
  for_driver_more less (inl own) = inl own
  for_driver_more less (inr m) = inr (
    m.0,
    m.1,
    m.2,
    λ a c was is. let low = slice_get_within old m.0 a was in let b : End = get_or mid m.0 a in
        let at : slice_get mid m.0 ≡ Some b = slice_get-get_or mid m.0 a (omega arith) in let one = less m.0 a b was at in let two = m.3 b c at is in omega arith,
  )
