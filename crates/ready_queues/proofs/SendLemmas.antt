-- The ends of a way from node to node of a set that is sent.
use Rattle.std.proofs.Common.{◌≡◌, ◌≢◌, ℕ, zero, suc, ◌+◌, ◌<◌, ◌≤◌, Bool, true, false, ◌&&◌, not, List, [], ◌∷◌, ◌++◌, length, set, get_or, filter, sym, refl, ap, ◌∙◌, subst, arith, cond, eqb, eq-eqb, ne_eqb, append_assoc, append-nil, length-append, ◌-◌, ◌⊎◌, inl, inr}
use Rattle.std.specs.Prelude.{Some, slice_get, slice_index}
use Rattle.std.specs.Int.{bit_at}
use Rattle.std.specs.List.{range_with_len}
use Rattle.std.proofs.lemmas.List.Elements.{filter-append}
use Rattle.std.proofs.lemmas.Option.{slice_get-get_or, get_or_from_slice_get, slice_get_within}
use Rattle.std.proofs.lemmas.Nat.Bits.{bit_at-zero}
use Rattle.std.proofs.lemmas.Bool.{cases_lt}
use Rattle.ready_queues.specs.declared.hand.Hand.{Hand}
use Rattle.ready_queues.specs.declared.parking.Woken.{Woken}
use Rattle.ready_queues.specs.declared.end.End.{End}
use Rattle.ready_queues.specs.Ends.{hand_of, wakes_of, received_by}
use Rattle.std.proofs.lemmas.List.Sums.{sum_by-set}
use mathlib.Core.Logic.{dite}
use native.Mathlib.Decide.{ℕ_discrete}
use Rattle.ready_queues.proofs.EndLemmas.{related, some_is}
use Rattle.ready_queues.specs.ParkingRule.{given_on}
use Rattle.ready_queues.specs.QueueRule.{IsNodeOf}
use Rattle.ready_queues.specs.Sending.{is_of, is_bound, bound_below, taken_in, pushed_on, wakes_for, HasSentNode, AreSentNode, HasSentTo, HaveSent, IsOfSomeLoop, IsRefused}

range_snoc : (a n j : ℕ) → a + n ≡ j → range_with_len a (suc n) ≡ range_with_len a n ++ j ∷ []
range_snoc a zero j e = let is : a ≡ j = omega arith in ap (λ k. k ∷ []) is
range_snoc a (suc n) j e = ap (λ l. a ∷ l) (range_snoc (a + 1) n j (omega arith))

filter_one : (p : ℕ → Bool) (n : ℕ) → filter p (n ∷ []) ≡ cond (p n) (n ∷ []) []
filter_one p n = by (p n)
  where
    by : (b : Bool) → cond b (n ∷ []) [] ≡ cond b (n ∷ []) []
    by b = refl

module _ (owner : List ℕ) (woke number : ℕ) where
  abbrev p : ℕ → Bool
  p = is_bound owner woke number

  bound_more : (n : ℕ) → bound_below (suc n) owner woke number ≡ bound_below n owner woke number ++ cond (p n) (n ∷ []) []
  bound_more n = ap (filter p) (range_snoc 0 n n (omega arith)) ∙ filter-append p (range_with_len 0 n) (n ∷ [])
      ∙ ap (λ l. filter p (range_with_len 0 n) ++ l) (filter_one p n)

  filter_more : (q : ℕ → Bool) (n : ℕ) → filter q (bound_below (suc n) owner woke number) ≡ filter q (bound_below n owner woke number) ++ cond (p n && q n) (n ∷ []) []
  filter_more q n = ap (filter q) (bound_more n) ∙ filter-append q (bound_below n owner woke number) (cond (p n) (n ∷ []) [])
      ∙ ap (λ l. filter q (bound_below n owner woke number) ++ l) (by (p n))
    where
      by : (b : Bool) → filter q (cond b (n ∷ []) []) ≡ cond (b && q n) (n ∷ []) []
      by true = filter_one q n
      by false = refl

  agree : (q r : ℕ → Bool) (n : ℕ) → ((x : ℕ) → x < n → q x ≡ r x) → filter q (bound_below n owner woke number) ≡ filter r (bound_below n owner woke number)
  agree q r zero same = refl
  agree q r (suc n) same = filter_more q n ∙ (λ i. agree q r n (λ x h. same x (omega arith)) i ++ cond (p n && same n (omega arith) i) (n ∷ []) []) ∙ sym (filter_more r n)

  taken_more : (n full now : ℕ) (f : Bool) → bit_at now n ≡ cond f 1 0 → ((x : ℕ) → x ≢ n → bit_at now x ≡ bit_at full x)
      → taken_in (suc n) owner woke now number ≡ taken_in n owner woke full number ++ cond (p n && not f) (n ∷ []) []
  taken_more n full now f here others =
      let q : ℕ → Bool = λ x. not (eqb (bit_at now x) 1) in let r : ℕ → Bool = λ x. not (eqb (bit_at full x) 1) in
      filter_more q n ∙ (λ i. agree q r n (λ x h j. not (eqb (others x (λ e. absurd (omega arith)) j) 1)) i
      ++ cond (p n && (ap (λ b. not (eqb b 1)) here ∙ by f) i) (n ∷ []) [])
    where
      by : (f : Bool) → not (eqb (cond f 1 0) 1) ≡ not f
      by true = refl
      by false = refl

  -- numbers that are not in the set are not sent
  bound_skip : (n k m : ℕ) → m ≡ n + k → ((x : ℕ) → n ≤ x → x < m → bit_at woke x ≡ 0) → bound_below m owner woke number ≡ bound_below n owner woke number
  bound_skip n zero m e out = ap (λ j. bound_below j owner woke number) (let same : m ≡ n = omega arith in same)
  bound_skip n (suc k) m e out = let j : ℕ = n + k in ap (λ i. bound_below i owner woke number) (let same : m ≡ suc j = omega arith in same) ∙ bound_more j
      ∙ ap (λ b. bound_below j owner woke number ++ cond b (j ∷ []) []) (ap (λ x. eqb x 1 && eqb (slice_index owner j) number) (out j (omega arith) (omega arith)))
      ∙ append-nil (bound_below j owner woke number) ∙ bound_skip n k j refl (λ x h l. out x h (omega arith))

  pub sent_skip : (spared n m full : ℕ) (a b : End) → n ≤ m → ((x : ℕ) → n ≤ x → x < m → bit_at woke x ≡ 0) → HasSentTo owner spared woke full n number a b → HasSentTo owner spared woke full m number a b
  sent_skip spared n m full a b le out s = let is = bound_skip n (m - n) m (omega arith) out in record {
    hand = s.hand ∙ ap (λ l. pushed_on (hand_of a) (filter (λ x. not (eqb (bit_at full x) 1)) l)) (sym is);
    wakes = s.wakes ∙ ap (λ l. given_on (wakes_of a) (wakes_for spared number (length l))) (sym is);
  }

  pub sent_more : (spared n full now : ℕ) (f : Bool) (a b c : End) → bit_at woke n ≡ 1 → bit_at now n ≡ cond f 1 0 → ((x : ℕ) → x ≢ n → bit_at now x ≡ bit_at full x)
      → HasSentTo owner spared woke full n number a b → HasSentNode owner spared n f number b c → HasSentTo owner spared woke now (suc n) number a c
  sent_more spared n full now f a b c there here others s t = let is : is_of owner number n ≡ p n = sym (ap (λ x. eqb x 1 && is_of owner number n) there) in record {
    hand = t.hand ∙ ap (λ x. pushed_on (hand_of b) (cond (x && not f) (n ∷ []) [])) is ∙ ap (λ (h : Hand). pushed_on h (cond (p n && not f) (n ∷ []) [])) s.hand
        ∙ ap (λ l. record (hand_of a) { pushed = l }) (append_assoc (hand_of a).pushed (taken_in n owner woke full number) (cond (p n && not f) (n ∷ []) [])
        ∙ ap (λ l. (hand_of a).pushed ++ l) (sym (taken_more n full now f here others)));
    wakes = t.wakes ∙ ap (λ x. given_on (wakes_of b) (wakes_for spared number (cond x 1 0))) is ∙ ap (λ (w : Woken). given_on w (wakes_for spared number (cond (p n) 1 0))) s.wakes
        ∙ ap (λ k. record { given = k; taken = (wakes_of a).taken }) (
        let l = ap length (bound_more n) ∙ length-append (bound_below n owner woke number) (cond (p n) (n ∷ []) []) in let o = one (p n) in
        added (eqb number spared) (wakes_of a).given (length (bound_below n owner woke number)) (cond (p n) 1 0) (length (bound_below (suc n) owner woke number)) (omega arith)
        );
  }
    where
      added : (b : Bool) (g k j m : ℕ) → m ≡ k + j → g + cond b 0 k + cond b 0 j ≡ g + cond b 0 m
      added true g k j m e = omega arith
      added false g k j m e = omega arith

      one : (b : Bool) → length (cond b (n ∷ []) []) ≡ cond b 1 0
      one true = refl
      one false = refl

module _ (owner : List ℕ) (spared : ℕ) where
  -- no node given
  wakes_none : (number : ℕ) (e : End) (k : ℕ) → k ≡ 0 → wakes_of e ≡ given_on (wakes_of e) (wakes_for spared number k)
  wakes_none number e k none = ap (λ n. record { given = n; taken = (wakes_of e).taken }) (by (eqb number spared))
    where
      by : (b : Bool) → (wakes_of e).given ≡ (wakes_of e).given + cond b 0 k
      by true = omega arith
      by false = omega arith

  -- an end that no node is sent to
  stays : (n number : ℕ) (f : Bool) (e : End) → is_of owner number n ≡ false → HasSentNode owner spared n f number e e
  stays n number f e off = record {
    hand = ap (λ l. record (hand_of e) { pushed = l }) (sym (append-nil (hand_of e).pushed)) ∙ sym (ap (λ b. pushed_on (hand_of e) (cond (b && not f) (n ∷ []) [])) off);
    wakes = wakes_none number e (cond (is_of owner number n) 1 0) (ap (λ b. cond b 1 0) off);
  }

  -- the end of the loop that it is sent to
  sent_here : (n number : ℕ) (f : Bool) (a b : End) → IsNodeOf owner number n → hand_of b ≡ pushed_on (hand_of a) (cond f [] (n ∷ []))
      → wakes_of b ≡ given_on (wakes_of a) (cond (not (eqb number spared)) 1 0) → HasSentNode owner spared n f number a b
  sent_here n number f a b node h w = let yes = eq-eqb (slice_index owner n) number (get_or_from_slice_get owner n number 0 node) in record {
    hand = h ∙ ap (pushed_on (hand_of a)) (by f) ∙ sym (ap (λ x. pushed_on (hand_of a) (cond (x && not f) (n ∷ []) [])) yes);
    wakes = w ∙ ap (given_on (wakes_of a)) (one (eqb number spared)) ∙ sym (ap (λ x. given_on (wakes_of a) (wakes_for spared number (cond x 1 0))) yes);
  }
    where
      by : (f : Bool) → cond f [] (n ∷ []) ≡ cond (not f) (n ∷ []) []
      by true = refl
      by false = refl

      one : (b : Bool) → cond {A = ℕ} (not b) 1 0 ≡ cond b 0 1
      one true = refl
      one false = refl

  pub node_sent : (n number : ℕ) (f : Bool) (ends : List End) (d new : End) → IsNodeOf owner number n → hand_of new ≡ pushed_on (hand_of (get_or ends number d)) (cond f [] (n ∷ []))
      → wakes_of new ≡ given_on (wakes_of (get_or ends number d)) (cond (not (eqb number spared)) 1 0) → AreSentNode owner spared n f ends (set ends number new)
  node_sent n number f ends d new node h w = related (HasSentNode owner spared n f) ends number new
      (λ j e other. stays n j f e (ne_eqb (slice_index owner n) j (λ is. other (sym is ∙ get_or_from_slice_get owner n number 0 node))))
      (λ e at. let is : get_or ends number d ≡ e = get_or_from_slice_get ends number e d at in
      sent_here n number f e new node (h ∙ ap (λ (x : End). pushed_on (hand_of x) (cond f [] (n ∷ []))) is) (w ∙ ap (λ (x : End). given_on (wakes_of x) (cond (not (eqb number spared)) 1 0)) is))

  pub none_sent : (n loops : ℕ) (ends : List End) → length ends ≡ loops → ((l : ℕ) → l < loops → is_of owner l n ≡ false) → AreSentNode owner spared n false ends ends
  none_sent n loops ends count off l a b was now = let low = slice_get_within ends l a was in
      subst (HasSentNode owner spared n false l a) (some_is a b (sym was ∙ now)) (stays n l false a (off l (omega arith)))

module _ (owner : List ℕ) (spared woke : ℕ) where
  pub nothing_sent : (ends : List End) → HaveSent owner spared woke 0 0 ends ends
  nothing_sent ends l a b was now = subst (HasSentTo owner spared woke 0 0 l a) (some_is a b (sym was ∙ now)) (record {
    hand = ap (λ k. record (hand_of a) { pushed = k }) (sym (append-nil (hand_of a).pushed));
    wakes = wakes_none owner spared l a 0 refl;
  })

  pub all_more : (n next full now : ℕ) (f : Bool) (old mid new : List End) → next ≡ suc n → length mid ≡ length old → bit_at woke n ≡ 1 → bit_at now n ≡ cond f 1 0 → ((x : ℕ) → x ≢ n → bit_at now x ≡ bit_at full x)
      → HaveSent owner spared woke full n old mid → AreSentNode owner spared n f mid new → HaveSent owner spared woke now next old new
  all_more n next full now f old mid new step count there here others s t l a c was is = let low = slice_get_within old l a was in let b : End = get_or mid l a in
      let at : slice_get mid l ≡ Some b = slice_get-get_or mid l a (omega arith) in
      subst (λ k. HasSentTo owner spared woke now k l a c) (sym step) (sent_more owner woke l spared n full now f a b c there here others (s l a b was at) (t l b c at is))

-- no number was received
pub node_count : (n : ℕ) (f : Bool) (ends : List End) (number : ℕ) (d new : End) → number < length ends → hand_of new ≡ pushed_on (hand_of (get_or ends number d)) (cond f [] (n ∷ []))
    → received_by (set ends number new) ≡ received_by ends
node_count n f ends number d new low h = let s = sum_by-set (λ (e : End). length (hand_of e).received) ends number new d low in
    let same : length (hand_of new).received ≡ length (hand_of (get_or ends number d)).received = ap (λ (g : Hand). length g.received) h in omega arith

-- which nodes came back
pub refused_more : (P : ℕ → Type 0) (n full now : ℕ) (f : Bool) → bit_at now n ≡ cond f 1 0 → ((x : ℕ) → x ≢ n → bit_at now x ≡ bit_at full x)
    → (f ≡ true → P n) → ((x : ℕ) → bit_at full x ≡ 1 → P x) → (x : ℕ) → bit_at now x ≡ 1 → P x
refused_more P n full now f here others mine old x is = dite (ℕ_discrete x n)
    (λ (e : x ≡ n). subst P (sym e) (mine (by f (sym here ∙ ap (bit_at now) (sym e) ∙ is))))
    (λ ne. old x (sym (others x ne) ∙ is))
  where
    by : (f : Bool) → cond {A = ℕ} f 1 0 ≡ 1 → f ≡ true
    by true e = refl
    by false e = absurd (omega arith)

-- the nodes below `from` are sent, and the rest of the set is what it has from there on
pub record IsSentUntil (owner : List ℕ) (loops spared woke : ℕ) (old : List End) (rest full : ℕ) (ends : List End) (from : ℕ) : Type 0 where
  pub inside : from ≤ length owner
  pub done : (x : ℕ) → x < from → bit_at rest x ≡ 0
  pub left : (x : ℕ) → from ≤ x → x < length owner → bit_at rest x ≡ bit_at woke x
  pub sent : HaveSent owner spared woke full from old ends
  pub above : (x : ℕ) → from ≤ x → bit_at full x ≡ 0
  pub refused : (x : ℕ) → bit_at full x ≡ 1 → IsRefused owner loops woke x

module _ (owner : List ℕ) (loops spared woke : ℕ) (old : List End) where
  all_skip : (n m full : ℕ) (ends : List End) → n ≤ m → ((x : ℕ) → n ≤ x → x < m → bit_at woke x ≡ 0) → HaveSent owner spared woke full n old ends → HaveSent owner spared woke full m old ends
  all_skip n m full ends le out s l a b was is = sent_skip owner woke l spared n m full a b le out (s l a b was is)

  pub not_yet : (rest full : ℕ) (ends : List End) (from n : ℕ) → IsSentUntil owner loops spared woke old rest full ends from → bit_at rest n ≡ 1 → from ≤ n
  not_yet rest full ends from n s there = by (cases_lt n from)
    where
      by : (n < from) ⊎ (from ≤ n) → from ≤ n
      by (inl h) = let z = s.done n h in absurd (omega arith)
      by (inr h) = h

  pub begins : IsSentUntil owner loops spared woke old woke 0 old 0
  begins = record {
    inside = omega arith;
    done = λ x h. absurd (omega arith);
    left = λ x _ _. refl;
    sent = nothing_sent owner spared woke old;
    above = λ x _. bit_at-zero x;
    refused = λ x h. let z = bit_at-zero x in absurd (omega arith);
  }

  pub goes_on : (rest full : ℕ) (ends : List End) (from n : ℕ) (rest' full' : ℕ) (f : Bool) (ends' : List End) → IsSentUntil owner loops spared woke old rest full ends from
      → n < length owner → bit_at rest n ≡ 1 → ((x : ℕ) → x < n → bit_at rest x ≡ 0) → length owner ≤ 63 → length ends ≡ length old
      → bit_at full' n ≡ cond f 1 0 → ((x : ℕ) → x ≢ n → bit_at full' x ≡ bit_at full x) → AreSentNode owner spared n f ends ends' → (f ≡ true → IsOfSomeLoop owner loops n)
      → bit_at rest' n ≡ 0 → ((x : ℕ) → x < 64 → x ≢ n → bit_at rest' x ≡ bit_at rest x) → IsSentUntil owner loops spared woke old rest' full' ends' (suc n)
  goes_on rest full ends from n rest' full' f ends' s low there first few count here others sent mine gone same =
      let after = not_yet rest full ends from n s there in let set : bit_at woke n ≡ 1 = sym (s.left n after low) ∙ there in
      let out : (x : ℕ) → from ≤ x → x < n → bit_at woke x ≡ 0 = λ x h l. sym (s.left x h (omega arith)) ∙ first x l in record {
        inside = omega arith;
        done = λ x h. dite (ℕ_discrete x n) (λ (e : x ≡ n). ap (bit_at rest') e ∙ gone) (λ ne. same x (omega arith) ne ∙ first x (omega arith));
        left = λ x h l. same x (omega arith) (λ e. absurd (omega arith)) ∙ s.left x (omega arith) l;
        sent = all_more owner spared woke n (suc n) full full' f old ends ends' refl count set here others (all_skip from n full ends after out s.sent) sent;
        above = λ x h. others x (λ e. absurd (omega arith)) ∙ s.above x (omega arith);
        refused = refused_more (IsRefused owner loops woke) n full full' f here others (λ yes. (set, mine yes)) s.refused;
      }

  pub all_sent : (rest full : ℕ) (ends : List End) (from : ℕ) → IsSentUntil owner loops spared woke old rest full ends from → ((x : ℕ) → x < length owner → bit_at rest x ≡ 0)
      → HaveSent owner spared woke full (length owner) old ends
  all_sent rest full ends from s none = all_skip from (length owner) full ends s.inside (λ x h l. sym (s.left x h l) ∙ none x l) s.sent
