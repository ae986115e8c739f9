-- Walks along links.
use Rattle.std.proofs.Common.{◌≡◌, ℕ, zero, suc, ◌<◌, List, [], ◌∷◌, ◌++◌, length, get_or, Bool, true, false, cond, refl, sym, ap}
use Rattle.std.proofs.Common.{◌∙◌, subst, arith}
use Rattle.std.specs.List.{Contains, filter}
use Rattle.link_negotiation.specs.declared.link.Link.{Link}
use Rattle.link_negotiation.specs.Links.{LinkState, synchronous_links, IsWalk, IsReachable}
use Rattle.link_negotiation.specs.working.Searching.{is_reached, IsLed}

-- a link that is at a place, and passes, is among those that pass
later : (b : Bool) (y x : Link) (zs : List Link) → Contains zs x → Contains (cond b (y ∷ zs) zs) x
later true y x zs w = (let l = w.1 in (suc w.0, omega arith, w.2))
later false y x zs w = w

pub kept : (p : Link → Bool) (xs : List Link) (k : ℕ) (x : Link) → k < length xs → get_or xs k x ≡ x → p x ≡ true → Contains (filter p xs) x
kept p [] k x l e t = absurd (omega arith)
kept p (y ∷ ys) zero x l e t = subst (λ (b : Bool). Contains (cond b (y ∷ filter p ys) (filter p ys)) x) (sym (ap p e ∙ t))
    (0, omega arith, e)
kept p (y ∷ ys) (suc k) x l e t = later (p y) y x (filter p ys) (kept p ys k x (omega arith) e t)

-- what is found after the first, and at it
behind : (p : Link → Bool) (y : Link) (ys : List Link) (x : Link) → Contains ys x × (p x ≡ true) → Contains (y ∷ ys) x × (p x ≡ true)
behind p y ys x r = (let l = r.0.1 in ((suc r.0.0, omega arith, r.0.2), r.1))

first : (p : Link → Bool) (y : Link) (ys : List Link) (x : Link) → (Contains (filter p ys) x → Contains ys x × (p x ≡ true)) → p y ≡ true
    → (k : ℕ) → k < length (y ∷ filter p ys) → get_or (y ∷ filter p ys) k x ≡ x → Contains (y ∷ ys) x × (p x ≡ true)
first p y ys x rest e zero l f = ((0, omega arith, f), ap p (sym f) ∙ e)
first p y ys x rest e (suc k) l f = behind p y ys x (rest (k, omega arith, f))

found : (p : Link → Bool) (y : Link) (ys : List Link) (x : Link) → (Contains (filter p ys) x → Contains ys x × (p x ≡ true)) → (b : Bool)
    → p y ≡ b → Contains (cond b (y ∷ filter p ys) (filter p ys)) x → Contains (y ∷ ys) x × (p x ≡ true)
found p y ys x rest true e v = first p y ys x rest e v.0 v.1 v.2
found p y ys x rest false e v = behind p y ys x (rest v)

-- and one of those that pass is among all
pub origin : (p : Link → Bool) (xs : List Link) (x : Link) → Contains (filter p xs) x → Contains xs x × (p x ≡ true)
origin p [] x w = (let l = w.1 in absurd (omega arith))
origin p (y ∷ ys) x w = found p y ys x (origin p ys x) (p y) refl w

-- one link more of a walk
walk_more : (links : List Link) (a b : ℕ) (walk : List Link) (l : Link) → IsWalk links a walk b → Contains links l → l.from.node ≡ b
    → IsWalk links a (walk ++ l ∷ []) l.to.node
walk_more links a b [] l w there from = (there, from ∙ sym w, refl)
walk_more links a b (m ∷ walk) l w there from = (w.0, w.1, walk_more links m.to.node b walk l w.2 there from)

-- where every link from what is reached leads to what is, a walk stays within it
pub walk_stays : (s : LinkState) (here : List Bool) → ((n m : ℕ) → is_reached here n ≡ true → IsLed s n m → is_reached here m ≡ true)
    → (walk : List Link) (a b : ℕ) → IsWalk (synchronous_links s) a walk b → is_reached here a ≡ true → is_reached here b ≡ true
walk_stays s here h [] a b w r = ap (is_reached here) (sym w) ∙ r
walk_stays s here h (l ∷ walk) a b w r = walk_stays s here h walk l.to.node b w.2
    (h a l.to.node r (record { link = l; there = w.0; from = w.1; to = refl }))

-- a walk, and one link more
pub walk_on : (s : LinkState) (a b c : ℕ) → IsReachable (synchronous_links s) a b → IsLed s b c → IsReachable (synchronous_links s) a c
walk_on s a b c w led = (
  w.0 ++ led.link ∷ [],
  subst (IsWalk (synchronous_links s) a (w.0 ++ led.link ∷ [])) led.to
      (walk_more (synchronous_links s) a b w.0 led.link w.1 led.there led.from),
)
