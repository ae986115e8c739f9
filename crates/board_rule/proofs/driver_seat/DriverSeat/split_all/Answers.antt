use Rattle.std.proofs.Common.{arith, ◌≡◌, ◌≢◌, ℕ, zero, suc, ◌+◌, ◌<◌, length, Some, List, [], ◌∷◌, ◌++◌, refl, sym, ap}
use Rattle.std.proofs.Common.{◌∙◌, cond, ne_eqb, length-append}
use mathlib.Core.Logic.{dite}
use native.Mathlib.Decide.{ℕ_discrete}
use Rattle.std.specs.Prelude.{slice_get}
use Rattle.atomic_table.specs.Seated.{TableId}
use Rattle.board_rule.specs.declared.view.View.{View}
use Rattle.board_rule.specs.Layout.{BoardLayout, layout_of}
use Rattle.board_rule.specs.Known.{Known}
use Rattle.board_rule.specs.View.{Samples, first_view, driver_view, loop_view, split_off}
use Rattle.board_rule.proofs.driver_seat.DriverSeat.split_all.Goals as goal

front : {A : Type 0} (xs ys : List A) (i : ℕ) → i < length xs → slice_get (xs ++ ys) i ≡ slice_get xs i
front [] ys i h = absurd (omega arith)
front (x ∷ xs) ys zero h = refl
front (x ∷ xs) ys (suc i) h = front xs ys i (omega arith)

last : {A : Type 0} (xs : List A) (x : A) → slice_get (xs ++ x ∷ []) (length xs) ≡ Some x
last [] x = refl
last (y ∷ xs) x = last xs x

grown : {A : Type 0} (xs : List A) (x : A) (n : ℕ) (f : ℕ → A) → length xs ≡ n → ((i : ℕ) → i < n → slice_get xs i ≡ Some (f i))
    → x ≡ f n → (i : ℕ) → i < n + 1 → slice_get (xs ++ x ∷ []) i ≡ Some (f i)
grown xs x n f e h is i l = dite (ℕ_discrete i n)
    (λ (q : i ≡ n). ap (slice_get (xs ++ x ∷ [])) (q ∙ sym e) ∙ last xs x ∙ ap (λ y. Some y) (is ∙ ap f (sym q)))
    (λ (q : i ≢ n). front xs (x ∷ []) i (omega arith) ∙ h i (omega arith))

named : (p : BoardLayout) (x : Samples) (k : ℕ) → split_off x (driver_view p x k) ≡ driver_view p x (suc k)
named p x k = ap (λ b. let w : View = record (first_view p) { split = suc k; expect = cond b [] x } in w)
    (sym (ne_eqb (suc k) 0 (λ e. omega arith)))

pub loop-k-preserved : goal.loop-k-preserved
loop-k-preserved g c = let x : Samples = g.E.Expect.expect in let i = c.loop-k.invariant in let b = c.args.board.now in
    let p = layout_of b.board_shape in let e = c.split_off.ensures in let w = c.in_ok-push.ensures.ok in
    let t : TableId = b.table.shared.table_id in
    let table = ap (λ (z : Known). z.table) i.0 in let knows = ap (λ (z : Known). z.knows) i.0 in
    let one : c.loop-k.k + 1 ≡ suc c.loop-k.k = omega arith in
    let new = c.split_off.new.self in let given = c.split_off.result in
    let t₁ : new.table ≡ t = e.driver.0 ∙ table in
    let k₁ : new.knows ≡ driver_view p x (c.loop-k.k + 1) = e.driver.1 ∙ ap (split_off x) knows ∙ named p x c.loop-k.k
    ∙ ap (driver_view p x) (sym one) in
    let t₂ : given.table ≡ t = e.loops.0 ∙ table in
    let k₂ : given.knows ≡ loop_view p x c.loop-k.k = e.loops.1 ∙ ap (λ (v : View). loop_view p x v.split) knows in (
      (λ j. record { table = t₁ j; knows = k₁ j }),
      ap (λ (l : List Known). length l) w ∙ length-append c.loop-k.loops (given ∷ [])
          ∙ (let z : length c.loop-k.loops + 1 ≡ c.loop-k.k + 1 = ap (λ n. n + 1) i.1 in z),
      e.rest,
      λ n h. ap (λ (l : List Known). slice_get l n) w
          ∙ grown c.loop-k.loops given c.loop-k.k (λ n. record { table = t; knows = loop_view p x n }) i.1 i.3
          (λ j. record { table = t₂ j; knows = k₂ j }) n h,
    )
