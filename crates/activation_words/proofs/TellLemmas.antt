-- What a seat knows while its node lowers its targets.
use Rattle.std.proofs.Common.{◌≡◌, ◌≢◌, ℕ, ◌+◌, ◌<◌, Bool, true, false, cond, List, [], ◌∷◌, map, take, reverse, length, get_or}
use Rattle.std.proofs.Common.{refl, sym, ap, ◌∙◌, subst, arith, eq-eqb, ne_eqb}
use Rattle.std.proofs.lemmas.List.{take_more, map-append, reverse-append}
use Rattle.board_rule.specs.declared.view.Phase.TheVariants.{Idle, Telling}
use Rattle.board_rule.specs.declared.view.DriverPhase.TheVariants as drives
use Rattle.board_rule.specs.declared.view.NodeView.{NodeView}
use Rattle.board_rule.specs.declared.view.Found.{Found}
use Rattle.board_rule.specs.declared.view.Trail.{Trail}
use Rattle.board_rule.specs.declared.view.View.{View}
use Rattle.board_rule.specs.Layout.{BoardLayout}
use Rattle.board_rule.specs.View.{node_of, view_node}
use Rattle.board_rule.specs.Steps.{HasNode, Lowers, lowered, Triggers, triggered, CanTell, CanKick, Indebted, settles, settled, kicked}
use Rattle.board_rule.specs.Steps.{taken, taken_of, lowered_of, told_trail, target_of}
use Rattle.board_rule.proofs.activation.PhaseLemmas.{can_tell}
use Rattle.board_rule.proofs.DriverLemmas.{can_kick}
use Rattle.activation_words.specs.Told.{IsTelling}
use Rattle.activation_words.proofs.ViewLemmas.{again, twice, has_again}

-- the newest is the last of those that are lowered
pub newest : (f : ℕ → ℕ) (ts : List ℕ) (i : ℕ) → i < length ts
    → f (get_or ts i 0) ∷ reverse (map f (take i ts)) ≡ reverse (map f (take (i + 1) ts))
newest f ts i h = sym (ap (λ l. reverse (map f l)) (take_more ts i 0 h)
    ∙ ap (λ (l : List ℕ). reverse l) (map-append f (take i ts) (get_or ts i 0 ∷ []))
    ∙ reverse-append (map f (take i ts)) (f (get_or ts i 0) ∷ []))

module _ (p : BoardLayout) (v : View) (m : ℕ) where
  abbrev n : ℕ
  n = length (p.targets m)

  abbrev x : NodeView
  x = node_of v m

  going : (i : ℕ) → i < n → settled n x i false ≡ record x { phase = Telling i false }
  going i h = ap (λ b. cond b (record x { next = x.next + 1; phase = Idle }) (record x { phase = Telling i false }))
      (ne_eqb i n (λ e. omega arith))

  kicking : (i : ℕ) → i < n → kicked n i false ≡ drives.Kick i false
  kicking i h = ap (λ b. cond b drives.Waiting (drives.Kick i false)) (ne_eqb i n (λ e. omega arith))

  -- while a target is left, the node can lower it
  pub lowers_at : (b : Bool) (i : ℕ) (t : Trail) → i < n → HasNode b p v m → Lowers b p (settles b p v m i false t) m
  lowers_at true i t h has = (has, subst (CanKick n) (sym (kicking i h)) h)
  lowers_at false i t h has = let y : NodeView = settled n x i false in let e = going i h in (
    has_again p v m y t has (ap (λ (z : NodeView). z.next) e),
    subst (λ (z : NodeView). CanTell n z.phase) (sym (again p v m y t has.0.there ∙ e)) h,
  )

  pub taken_at : (b : Bool) (i : ℕ) (t : Trail) → i < n → HasNode b p v m → taken b (settles b p v m i false t) m ≡ i
  taken_at true i t h has = ap taken_of (kicking i h)
  taken_at false i t h has = ap (λ (z : NodeView). lowered_of z.phase) (again p v m (settled n x i false) t has.0.there ∙ going i h)

  -- the next target is lowered
  pub settles_next : (b : Bool) (i : ℕ) (t s : Trail) → i < n → HasNode b p v m
      → settles b p (settles b p v m i false t) m (i + 1) false s ≡ settles b p v m (i + 1) false s
  settles_next true i t s h has = refl
  settles_next false i t s h has = let y : NodeView = settled n x i false in
      ap (λ (z : NodeView). view_node (view_node v m y t) m (settled n z (i + 1) false) s) (again p v m y t has.0.there ∙ going i h)
      ∙ twice p v m y (settled n x (i + 1) false) t s

  -- a decrement that found 1, and the trigger after it
  abbrev after : Bool → ℕ → Trail
  after b found = told_trail v.trail (target_of b p v m) found

  pub owing : (b : Bool) (found : ℕ) → found ≡ 1 → lowered b p v m found ≡ settles b p v m (taken b v m + 1) true (after b found)
  owing b found e = ap (λ c. settles b p v m (taken b v m + 1) c (after b found)) (eq-eqb found 1 e)

  pub paid : (b : Bool) (found : ℕ) → found ≢ 1 → lowered b p v m found ≡ settles b p v m (taken b v m + 1) false (after b found)
  paid b found e = ap (λ c. settles b p v m (taken b v m + 1) c (after b found)) (ne_eqb found 1 e)

  triggers_owed : (b : Bool) (t : Trail) → Lowers b p v m → Triggers b p (settles b p v m (taken b v m + 1) true t) m
  triggers_owed true t h = let can = can_kick n v.lead.drive h.1 in let near = can.1 in (h.0, (omega arith, omega arith))
  triggers_owed false t h = let can = can_tell n x.phase h.1 in let near = can.1 in
      let y : NodeView = record x { phase = Telling (lowered_of x.phase + 1) true } in (
        has_again p v m y t h.0 refl,
        subst (λ (z : NodeView). Indebted n z.phase) (sym (again p v m y t h.0.0.there))
            (omega arith, omega arith),
      )

  triggered_owed : (b : Bool) (t : Trail) → Lowers b p v m
      → triggered b p (settles b p v m (taken b v m + 1) true t) m ≡ settles b p v m (taken b v m + 1) false t
  triggered_owed true t h = refl
  triggered_owed false t h = let y : NodeView = record x { phase = Telling (lowered_of x.phase + 1) true } in
      ap (λ (z : NodeView). view_node (view_node v m y t) m (settled n z (lowered_of z.phase) false) t) (again p v m y t h.0.0.there)
      ∙ twice p v m y (settled n x (lowered_of x.phase + 1) false) t t

  pub triggers_after : (b : Bool) (found : ℕ) → found ≡ 1 → Lowers b p v m → Triggers b p (lowered b p v m found) m
  triggers_after b found e h = subst (λ (w : View). Triggers b p w m) (sym (owing b found e)) (triggers_owed b (after b found) h)

  pub triggered_after : (b : Bool) (found : ℕ) → found ≡ 1 → Lowers b p v m
      → triggered b p (lowered b p v m found) m ≡ settles b p v m (taken b v m + 1) false (after b found)
  triggered_after b found e h = ap (λ (w : View). triggered b p w m) (owing b found e) ∙ triggered_owed b (after b found) h

  lowered_of_settles : (b : Bool) (i : ℕ) (o : Bool) (t : Trail) → (settles b p v m i o t).trail ≡ t
  lowered_of_settles true i o t = refl
  lowered_of_settles false i o t = refl

  trail_of_settles : (w : View) (b : Bool) (i : ℕ) (o : Bool) (t : Trail) → (settles b p w m i o t).trail ≡ t
  trail_of_settles w true i o t = refl
  trail_of_settles w false i o t = refl

  -- one more target of all is lowered
  pub telling_next : (b : Bool) (i found : ℕ) (w u : View) → i < n → HasNode b p v m → IsTelling b p v m i w
      → u ≡ settles b p w m (taken b w m + 1) false (told_trail w.trail (target_of b p w m) found) → IsTelling b p v m (i + 1) u
  telling_next b i found w u h has r is =
      let t : Trail = record v.trail { told = w.trail.told } in
      let k : taken b w m ≡ i = ap (λ (z : View). taken b z m) r.is ∙ taken_at b i t h has in
      let s : Trail = told_trail w.trail (target_of b p w m) found in
      let trail : u.trail ≡ s = ap (λ (z : View). z.trail) is ∙ trail_of_settles w b (taken b w m + 1) false s in
      let old : w.trail ≡ t = ap (λ (z : View). z.trail) r.is ∙ lowered_of_settles b i false t in
      let mine : s ≡ record v.trail { told = s.told } = ap (λ (z : Trail). told_trail z (target_of b p w m) found) old in record {
        told = ap (λ (z : Trail). map (λ (f : Found). f.node) z.told) trail
            ∙ ap (λ j. p.number (get_or (p.targets m) j 0) ∷ map (λ (f : Found). f.node) w.trail.told) k
            ∙ ap (λ l. p.number (get_or (p.targets m) i 0) ∷ l) r.told ∙ newest p.number (p.targets m) i h;
        is = is ∙ ap (λ j. settles b p w m (j + 1) false s) k ∙ ap (λ (z : View). settles b p z m (i + 1) false s) r.is
            ∙ settles_next b i t s h has ∙ ap (λ (z : Trail). settles b p v m (i + 1) false z) mine
            ∙ ap (λ (z : Trail). settles b p v m (i + 1) false (record v.trail { told = z.told })) (sym trail);
      }

  -- after the last one
  pub all_kicked : kicked n n false ≡ drives.Waiting
  all_kicked = ap (λ b. cond b drives.Waiting (drives.Kick n false)) (eq-eqb n n refl)

  pub all_settled : (y : NodeView) → settled n y n false ≡ record y { next = y.next + 1; phase = Idle }
  all_settled y = ap (λ b. cond b (record y { next = y.next + 1; phase = Idle }) (record y { phase = Telling n false })) (eq-eqb n n refl)
