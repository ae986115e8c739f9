-- Laws of `specs/Logged.antt`: the event rule in a cycle, kind of step by kind of step, with no phase in it.
use Rattle.std.proofs.Common.{◌≡◌, ◌≢◌, ℕ, zero, suc, ◌+◌, ◌<◌, ◌≤◌, inl, inr, ⊎_elim, true, false, ◌==◌, ◌&&◌, cond}
use Rattle.std.proofs.Common.{List, [], ◌∷◌, ◌++◌, length, get_or, refl, sym, ap, ◌∙◌, subst, arith, eq-eqb, ne_eqb, append_assoc}
use Rattle.std.proofs.Common.{length-append}
use mathlib.Core.Logic.{dite}
use native.Mathlib.Decide.{ℕ_discrete}
use Rattle.std.specs.Prelude.{Contains}
use Rattle.std.proofs.lemmas.List.{length-map}
use Rattle.pw_graph.specs.declared.event.Event.{Event}
use Rattle.pw_graph.specs.declared.event.Event.TheVariants.{Begin, Start, Finish, End}
use Rattle.pw_graph.specs.Dependencies.{nodes_of, Precedes}
use Rattle.pw_graph.specs.Layout.{event_count}
use Rattle.board_rule.specs.Layout.{BoardLayout, IsSound, nodes}
use Rattle.board_rule.specs.events.Logged.{IsHeld, Tickets, Earlier, Inside}
use Rattle.board_rule.specs.events.Records.{Records, Marks, so_far}
use Rattle.board_rule.proofs.events.LogLemmas.{tickets_drawn, inside_more}

-- the node at m, and no other, draws its Start or its Finish as the ticket t; or stores the event of the ticket t
pub record Same (s u : Marks) : Type 0 where
  pub tells : u.tells ≡ s.tells
  pub begun : s.begun ≡ true
  pub goes_on : u.begun ≡ true
  pub unended : s.ending ≡ false
  pub stays_unended : u.ending ≡ false
  pub checked : u.counts.checked ≡ s.counts.checked
  pub sees : u.counts.sees ≡ s.counts.sees

pub record StartsAt (m t : ℕ) (s u : Marks) : Type 0 where
  pub same : Same s u
  pub was : s.counts.started m ≡ 0
  pub now : u.counts.started m ≡ 1
  pub else : (n : ℕ) → n ≢ m → u.counts.started n ≡ s.counts.started n
  pub finished : (n : ℕ) → u.counts.finished n ≡ s.counts.finished n
  pub start : u.start m ≡ t
  pub start_else : (n : ℕ) → n ≢ m → u.start n ≡ s.start n
  pub finish : (n : ℕ) → u.finish n ≡ s.finish n
  pub held : s.holds m ≡ []
  pub holds : u.holds m ≡ t ∷ []
  pub holds_else : (n : ℕ) → n ≢ m → u.holds n ≡ s.holds n

pub record FinishesAt (m t : ℕ) (s u : Marks) : Type 0 where
  pub same : Same s u
  pub was : s.counts.finished m ≡ 0
  pub now : u.counts.finished m ≡ 1
  pub else : (n : ℕ) → n ≢ m → u.counts.finished n ≡ s.counts.finished n
  pub begun : s.counts.started m ≡ 1
  pub started : (n : ℕ) → u.counts.started n ≡ s.counts.started n
  pub finish : u.finish m ≡ t
  pub finish_else : (n : ℕ) → n ≢ m → u.finish n ≡ s.finish n
  pub start : (n : ℕ) → u.start n ≡ s.start n
  pub held : s.holds m ≡ []
  pub holds : u.holds m ≡ t ∷ []
  pub holds_else : (n : ℕ) → n ≢ m → u.holds n ≡ s.holds n

-- all three parts of the rule of a cycle
pub record Logs (p : BoardLayout) (c late : ℕ) (past xs : List Event) (s : Marks) (r : Records) : Type 0 where
  pub tickets : Tickets p c (length past) s (past ++ so_far s c xs) r
  pub earlier : Earlier p c late past r
  pub inside : Inside p c late s.counts xs

pub none_in : {X : Type 0} (x : X) → Contains [] x → ⊥
none_in x h = let l = h.1 in absurd (omega arith)

pub first_in : {X : Type 0} (x : X) → Contains (x ∷ []) x
first_in x = (0, omega arith, refl)

pub only_in : {X : Type 0} (x y : X) → Contains (x ∷ []) y → x ≡ y
only_in x y (zero, l, e) = e
only_in x y (suc k, l, e) = absurd (omega arith)

module _ (p : BoardLayout) (sound : IsSound p) where
  numbers_apart : (m n : ℕ) → m < nodes p → n < nodes p → n ≢ m → p.number n ≢ p.number m
  numbers_apart m n hm hn o e = o (sym (sound.at n hn) ∙ ap p.index e ∙ sound.at m hm ∙ refl)

  of_node : (c m n : ℕ) → m < nodes p → n < nodes p → n ≢ m → ((c == c) && (p.number m == p.number n)) ≡ false
  of_node c m n hm hn o = ap (λ b. (c == c) && b) (ne_eqb (p.number m) (p.number n) (λ z. numbers_apart m n hm hn o (sym z)))
      ∙ ap (λ b. b && false) (eq-eqb c c refl)

  its_own : (c m : ℕ) → ((c == c) && (p.number m == p.number m)) ≡ true
  its_own c m = (λ i. eq-eqb c c refl i && eq-eqb (p.number m) (p.number m) refl i)

  pub member : (m : ℕ) → m < nodes p → Contains (nodes_of p.shape) (p.number m)
  member m h = at (nodes_of p.shape) m (p.number m) (inside m h) (sound.names m h)
    where
      at : (xs : List ℕ) (m x : ℕ) → m < length xs → get_or xs m 0 ≡ x → Contains xs x
      at xs m x h e = (m, h, any xs m x 0 h ∙ e)
        where
          any : (xs : List ℕ) (m d e : ℕ) → m < length xs → get_or xs m d ≡ get_or xs m e
          any [] m d e h = absurd (omega arith)
          any (y ∷ xs) zero d e h = refl
          any (y ∷ xs) (suc m) d e h = any xs m d e (omega arith)

      inside : (m : ℕ) → m < nodes p → m < length (nodes_of p.shape)
      inside m h = let l : length (nodes_of p.shape) ≡ nodes p = length-map p.shape.nodes (λ n. n.node) in omega arith

  module _ (c late : ℕ) (past xs : List Event) (s u : Marks) (r : Records) (a : Logs p c late past xs s r) where
    abbrev log : List Event
    log = past ++ so_far s c xs

    running : s.begun ≡ true → s.ending ≡ false → so_far s c xs ≡ Begin c ∷ xs
    running b e = λ i. cond (b i) (cond (e i) (Begin c ∷ (xs ++ End c ∷ [])) (Begin c ∷ xs)) []

    runs_on : (ys : List Event) → u.begun ≡ true → u.ending ≡ false → so_far u c ys ≡ Begin c ∷ ys
    runs_on ys b e = λ i. cond (b i) (cond (e i) (Begin c ∷ (ys ++ End c ∷ [])) (Begin c ∷ ys)) []

    log_more : (e : Event) → Same s u → past ++ so_far u c (xs ++ e ∷ []) ≡ log ++ e ∷ []
    log_more e same = ap (λ ys. past ++ ys) (runs_on (xs ++ e ∷ []) same.goes_on same.stays_unended)
        ∙ sym (append_assoc past (Begin c ∷ xs) (e ∷ [])) ∙ ap (λ ys. (past ++ ys) ++ e ∷ []) (sym (running same.begun same.unended))

    log_long : s.begun ≡ true → s.ending ≡ false → length past < length log
    log_long b e = let z = ap (λ ys. length (past ++ ys)) (running b e) in let y = length-append past (Begin c ∷ xs) in omega arith

    low : length past ≤ length log
    low = let z = length-append past (so_far s c xs) in omega arith

    earlier_same : (event : ℕ → ℕ) → Earlier p c late past (record r { ticket = suc r.ticket; event = event })
    earlier_same event = let e = a.earlier in record
        { legal = e.legal; before = e.before; lates = e.lates; late_now = e.late_now; late_later = e.late_later }

    pub starts_drawn : (m t : ℕ) → m < nodes p → StartsAt m t s u → t ≡ r.ticket → length log < event_count p.shape
        → ((n : ℕ) → n < nodes p → Precedes p.shape (p.number n) (p.number m) → s.counts.finished n ≡ 1)
        → Logs p c late past (xs ++ Start c (p.number m) ∷ []) u (record r { ticket = suc r.ticket })
    starts_drawn m t hm at is room done = let at_end : t ≡ length log = is ∙ a.tickets.drawn in let e : Event = Start c (p.number m) in
        record {
          tickets = subst (λ l. Tickets p c (length past) u l (record r { ticket = suc r.ticket })) (sym (log_more e at.same))
              (tickets_drawn p c (length past) s u log r a.tickets e room low held
              (inl (m, hm, subst (λ ks. Contains ks (length log)) (sym (at.holds ∙ ap (λ k. k ∷ []) at_end)) (first_in (length log))))
              (λ n h one. dite (ℕ_discrete n m) (λ q. inr (
                log_long at.same.begun at.same.unended,
                ap u.start q ∙ at.start ∙ at_end,
                ap (λ k. Start c (p.number k)) (sym q),
              )) (λ q. inl (sym (at.else n q) ∙ one, at.start_else n q)))
              (λ n h one. inl (sym (at.finished n) ∙ one, at.finish n))
              (λ k x h. inl (subst (λ ks. Contains ks (k, x)) at.same.tells h)));
          earlier = earlier_same r.event;
          inside = inside_more p c late s.counts u.counts xs a.inside e (refl, member m hm)
              (λ n h. dite (ℕ_discrete n m) (λ q. ap u.counts.started q ∙ at.now
              ∙ sym (λ i. (ap s.counts.started q ∙ at.was) i + cond {A = ℕ}
              ((ap (λ k. (c == c) && (p.number m == p.number k)) q ∙ its_own c m) i) 1 0))
              (λ q. at.else n q ∙ (let z : cond {A = ℕ} ((c == c) && (p.number m == p.number n)) 1 0 ≡ 0 =
              ap (λ b. cond {A = ℕ} b 1 0) (of_node c m n hm h q) in omega arith)))
              (λ n h. at.finished n ∙ (omega arith))
              (ap (λ b. cond {A = ℕ} b 1 0) at.same.checked ∙ (omega arith))
              (λ n h one. inl (sym (at.finished n) ∙ one))
              (λ n h one. dite (ℕ_discrete n m) (λ q. inr (
                ap s.counts.started q ∙ at.was,
                λ k hk before. done k hk (subst (λ z. Precedes p.shape (p.number k) (p.number z)) q before),
              ))
              (λ q. inl (sym (at.else n q) ∙ one)))
              (λ one. inl (sym at.same.checked ∙ one)) sound.driver_in (inl at.same.sees);
        }
      where
        held : (k : ℕ) → IsHeld p s k → IsHeld p u k
        held k = λ h. ⊎_elim (λ (z : (n : ℕ) × (n < nodes p) × Contains (s.holds n) k). dite (ℕ_discrete z.0 m)
            (λ q. absurd (none_in k (subst (λ ks. Contains ks k) (ap s.holds q ∙ at.held) z.2)))
            (λ q. inl (z.0, z.1, subst (λ ks. Contains ks k) (sym (at.holds_else z.0 q)) z.2)))
            (λ (z : (e : Event) × Contains s.tells (k, e)). inr (z.0, subst (λ ks. Contains ks (k, z.0)) (sym at.same.tells) z.1)) h

    pub finishes_drawn : (m t : ℕ) → m < nodes p → FinishesAt m t s u → t ≡ r.ticket → length log < event_count p.shape
        → Logs p c late past (xs ++ Finish c (p.number m) ∷ []) u (record r { ticket = suc r.ticket })
    finishes_drawn m t hm at is room = let at_end : t ≡ length log = is ∙ a.tickets.drawn in let e : Event = Finish c (p.number m) in
        record {
          tickets = subst (λ l. Tickets p c (length past) u l (record r { ticket = suc r.ticket })) (sym (log_more e at.same))
              (tickets_drawn p c (length past) s u log r a.tickets e room low held
              (inl (m, hm, subst (λ ks. Contains ks (length log)) (sym (at.holds ∙ ap (λ k. k ∷ []) at_end)) (first_in (length log))))
              (λ n h one. inl (sym (at.started n) ∙ one, at.start n))
              (λ n h one. dite (ℕ_discrete n m) (λ q. inr (
                log_long at.same.begun at.same.unended,
                ap u.finish q ∙ at.finish ∙ at_end,
                ap (λ k. Finish c (p.number k)) (sym q),
              )) (λ q. inl (sym (at.else n q) ∙ one, at.finish_else n q)))
              (λ k x h. inl (subst (λ ks. Contains ks (k, x)) at.same.tells h)));
          earlier = earlier_same r.event;
          inside = inside_more p c late s.counts u.counts xs a.inside e (refl, member m hm)
              (λ n h. at.started n ∙ (omega arith))
              (λ n h. dite (ℕ_discrete n m) (λ q. ap u.counts.finished q ∙ at.now
              ∙ sym (λ i. (ap s.counts.finished q ∙ at.was) i + cond {A = ℕ}
              ((ap (λ k. (c == c) && (p.number m == p.number k)) q ∙ its_own c m) i) 1 0))
              (λ q. at.else n q ∙ (let z : cond {A = ℕ} ((c == c) && (p.number m == p.number n)) 1 0 ≡ 0 =
              ap (λ b. cond {A = ℕ} b 1 0) (of_node c m n hm h q) in omega arith)))
              (ap (λ b. cond {A = ℕ} b 1 0) at.same.checked ∙ (omega arith))
              (λ n h one. dite (ℕ_discrete n m) (λ q. inr (
                ap s.counts.finished q ∙ at.was,
                ap s.counts.started q ∙ at.begun,
                ap (λ k. (c == c) && (p.number m == p.number k)) q ∙ its_own c m,
              )) (λ q. inl (sym (at.else n q) ∙ one)))
              (λ n h one. inl (sym (at.started n) ∙ one))
              (λ one. inl (sym at.same.checked ∙ one)) sound.driver_in (inl at.same.sees);
        }
      where
        held : (k : ℕ) → IsHeld p s k → IsHeld p u k
        held k = λ h. ⊎_elim (λ (z : (n : ℕ) × (n < nodes p) × Contains (s.holds n) k). dite (ℕ_discrete z.0 m)
            (λ q. absurd (none_in k (subst (λ ks. Contains ks k) (ap s.holds q ∙ at.held) z.2)))
            (λ q. inl (z.0, z.1, subst (λ ks. Contains ks k) (sym (at.holds_else z.0 q)) z.2)))
            (λ (z : (e : Event) × Contains s.tells (k, e)). inr (z.0, subst (λ ks. Contains ks (k, z.0)) (sym at.same.tells) z.1)) h
