-- The writer's ends of links of a list, one after another.
use Rattle.std.proofs.Common.{◌≡◌, ◌≢◌, ℕ, ◌+◌, ◌<◌, ⊎_elim, cond, eqb, Some, None, List, [], ◌∷◌, ◌++◌, length, get_or, take}
use Rattle.std.proofs.Common.{AllPairs, Contains, refl, sym}
use Rattle.std.proofs.Common.{ap, ◌∙◌, subst, arith, length-set, length-take, get_or-take, get_or-set_same, get_or-set_other}
use Rattle.std.proofs.lemmas.List.{take_more, get_or_default}
use Rattle.std.proofs.lemmas.List.Elements.{Contains-push, Contains-append_left, Contains-push_cases}
use Rattle.board_rule.specs.declared.view.WriteView.{WriteView}
use Rattle.board_rule.specs.declared.view.BlockView.TheVariants.{Out}
use Rattle.board_rule.specs.declared.view.View.{View}
use Rattle.board_rule.specs.Layout.{BoardLayout, first}
use Rattle.board_rule.specs.View.{unwritten}
use Rattle.board_rule.specs.buffers.Areas.{stored_id}
use Rattle.board_rule.specs.buffers.BlockReadings.{delay_at}
use Rattle.board_rule.specs.buffers.EndViews.{write_of, view_write, pool_of, writer_of, block_of}
use Rattle.board_rule.specs.buffers.WriterSteps.{LoadsAsWriter, IsWriter, write_cycle, StoresHave}
use Rattle.io_areas.specs.Writing.{number_given}
use Rattle.io_areas.specs.working.OutputSteps.{AreMade, IsLoadedNow, IsPublishedNow}
use Rattle.io_areas.proofs.KeptLemmas.{IsKept, has_again, runs_again}

-- an element is not before itself
pub not_before : (xs : List ℕ) (k d : ℕ) → AllPairs (λ a b. a ≢ b) xs → k < length xs → Contains (take k xs) (get_or xs k d) → ⊥
not_before xs k d once h c = let l : ℕ = get_or xs k d in let i = c.0 in let long = length-take k xs in let low = c.1 in
    let before : i < k = omega arith in
    once i k l before h (sym (get_or-take k xs i l before) ∙ c.2 ∙ get_or_default xs k d l h)

module _ (Made : ℕ → WriteView → WriteView → Type 0) (v : View) where
  pub kept : (xs : List ℕ) (w : View) → AreMade Made v xs w → IsKept v w
  kept xs w a = record {
    same = a.same ∙ ap (λ (x : View). record v { writes = w.writes; blocks = x.blocks; reclaimed = x.reclaimed }) (sym a.same);
    ends = a.long;
    room = ap (λ (x : View). length x.blocks) a.same;
  }

  pub none_made : AreMade Made v [] v
  none_made = record { same = refl; long = refl; made = λ l c. let z = c.1 in absurd (omega arith); left = λ l o. refl }

  -- one more of them
  pub more_made : (xs : List ℕ) (l : ℕ) (w : View) (y : WriteView) → (Contains xs l → ⊥) → l < length v.writes → AreMade Made v xs w
      → Made l (write_of v l) y
      → AreMade Made v (xs ++ l ∷ []) (view_write w l y)
  more_made xs l w y fresh inside a is = let long = a.long in let set_long = length-set w.writes l y in record {
    same = ap (λ (x : View). view_write x l y) a.same;
    long = omega arith;
    made = λ m c. ⊎_elim
        (λ d. let o : m ≢ l = (λ e. fresh (subst (Contains xs) e d)) in subst (Made m (write_of v m)) (sym (else m o)) (a.made m d))
        (λ e. subst (λ j. Made j (write_of v j) (write_of (view_write w l y) j)) e (subst (Made l (write_of v l)) (sym here) is))
        (Contains-push_cases xs l m c);
    left = λ m o. else m (λ e. o (subst (Contains (xs ++ l ∷ [])) (sym e) (Contains-push xs l)))
        ∙ a.left m (λ d. o (Contains-append_left xs (l ∷ []) m d));
  }
    where
      here : write_of (view_write w l y) l ≡ y
      here = let z = a.long in get_or-set_same w.writes l y (unwritten 0) (omega arith)

      else : (m : ℕ) → m ≢ l → write_of (view_write w l y) m ≡ write_of w m
      else m o = get_or-set_other w.writes l m y (unwritten 0) o

  -- the same for the list as a loop goes over it
  pub next_made : (xs : List ℕ) (k : ℕ) (w : View) (y : WriteView) → AllPairs (λ a b. a ≢ b) xs → k < length xs
      → get_or xs k 0 < length v.writes
      → AreMade Made v (take k xs) w → Made (get_or xs k 0) (write_of v (get_or xs k 0)) y
      → AreMade Made v (take (k + 1) xs) (view_write w (get_or xs k 0) y)
  next_made xs k w y once h inside a is = subst (λ (ls : List ℕ). AreMade Made v ls (view_write w (get_or xs k 0) y))
      (sym (take_more xs k 0 h))
      (more_made (take k xs) (get_or xs k 0) w y (not_before xs k 0 once h) inside a is)

module _ (p : BoardLayout) (v w : View) (ks : IsKept v w) where
  -- the cycle that a link's writer is in
  pub same_cycle : (l : ℕ) → write_cycle p w l ≡ write_cycle p v l
  same_cycle l = ap (λ (x : View). write_cycle p x l) ks.same

  pub writer_again : (l : ℕ) → IsWriter p v l → IsWriter p w l
  writer_again l h = let ends = ks.ends in let inside = h.1 in
      (h.0, omega arith, has_again p v w ks (writer_of p l) h.2, runs_again p v w ks (writer_of p l) h.3)

module _ (p : BoardLayout) (v : View) (xs : List ℕ) (w : View) (l : ℕ) (fresh : Contains xs l → ⊥) where
  module _ (a : AreMade (IsLoadedNow p v) v xs w) where
    abbrev loaded_kept : IsKept v w
    loaded_kept = kept (IsLoadedNow p v) v xs w a

    pub may_load : LoadsAsWriter p v l → LoadsAsWriter p w l
    may_load h = (
      writer_again p v w loaded_kept l h.0,
      ap (λ (y : WriteView). y.loaded) (a.left l fresh) ∙ h.1
          ∙ sym (same_cycle p v w loaded_kept l),
    )

    pub loaded_is : IsLoadedNow p v l (write_of v l) (record (write_of w l) { loaded = write_cycle p w l + 1 })
    loaded_is = ap (λ (k : WriteView × ℕ). record k.0 { loaded = k.1 + 1 }) (λ i. (a.left l fresh i, same_cycle p v w loaded_kept l i))

    pub same_given : number_given p w l ≡ number_given p v l
    same_given = ap (λ (k : WriteView × ℕ). cond (eqb k.1 (first p)) None (Some (stored_id k.0 (delay_at p l))))
        (λ i. (a.left l fresh i, same_cycle p v w loaded_kept l i))

  module _ (b : ℕ) (a : AreMade (IsPublishedNow p v b) v xs w) where
    abbrev published_kept : IsKept v w
    published_kept = kept (IsPublishedNow p v b) v xs w a

    pub may_publish : StoresHave p v l b → StoresHave p w l b
    may_publish h = let cycle = same_cycle p v w published_kept l in (
      writer_again p v w published_kept l h.0,
      ap (λ (y : WriteView). y.loaded) (a.left l fresh) ∙ h.1 ∙ ap (λ k. k + 1) (sym cycle),
      ap (λ (y : WriteView). y.stored) (a.left l fresh) ∙ h.2 ∙ sym cycle,
      h.3,
      ap (λ (x : View). block_of p x (pool_of p l) b) a.same ∙ h.4 ∙ ap (λ n. Out (n + 1)) (sym cycle),
    )

    pub published_is : IsPublishedNow p v b l (write_of v l)
        (record (write_of w l) { stored = write_cycle p w l + 1; id = b; last = (write_of w l).id })
    published_is = ap (λ (k : WriteView × ℕ). record k.0 { stored = k.1 + 1; id = b; last = k.0.id })
        (λ i. (a.left l fresh i, same_cycle p v w published_kept l i))
