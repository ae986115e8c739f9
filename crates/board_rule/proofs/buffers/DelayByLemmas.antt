-- A link is late by one cycle or not: which of its areas has a stamp, and how long a block of its
-- pool is busy.
use Rattle.std.proofs.Common.{◌≡◌, ◌≢◌, ℕ, ◌+◌, ◌%◌, ◌≤◌, Bool, true, false, cond, refl, ap, ◌∙◌, arith}
use Rattle.pw_graph.specs.declared.shape.ShapeLink.{ShapeLink}
use Rattle.board_rule.specs.declared.view.WriteView.{WriteView}
use Rattle.board_rule.specs.declared.view.ReadView.{ReadView}
use Rattle.board_rule.specs.buffers.Areas.{delay_by, area_of, Span, LinkOk}

module _ (k : ShapeLink) where
  pub delay_most : delay_by k ≤ 1
  delay_most = by k.delayed
    where
      by : (b : Bool) → cond {A = ℕ} b 1 0 ≤ 1
      by true = omega arith
      by false = omega arith

  pub on_time : k.delayed ≡ false → delay_by k ≡ 0
  on_time e = ap (λ b. cond {A = ℕ} b 1 0) e

  -- two stamps have one area where they are both even or both odd, or the link is not late
  pub same_area : (n m : ℕ) → (delay_by k ≡ 1 → n % 2 ≡ m % 2) → area_of k n ≡ area_of k m
  same_area n m same = by k.delayed same
    where
      by : (b : Bool) → (cond {A = ℕ} b 1 0 ≡ 1 → n % 2 ≡ m % 2) → cond b (n % 2) 0 ≡ cond b (m % 2) 0
      by true s = s refl
      by false s = refl

  same_parity : (n m : ℕ) → delay_by k ≡ 1 → area_of k n ≡ area_of k m → n % 2 ≡ m % 2
  same_parity n m late same = by k.delayed late same
    where
      by : (b : Bool) → cond {A = ℕ} b 1 0 ≡ 1 → cond b (n % 2) 0 ≡ cond b (m % 2) 0 → n % 2 ≡ m % 2
      by true l s = s
      by false l s = absurd (omega arith)

  pub area_most : (n : ℕ) → area_of k n ≤ delay_by k
  area_most n = by k.delayed
    where
      by : (b : Bool) → cond b (n % 2) 0 ≤ cond {A = ℕ} b 1 0
      by true = omega arith
      by false = omega arith

  -- the stores of this link 0 and 1 ago are in two areas
  pub areas_differ : (n a b : ℕ) → a ≤ delay_by k → b ≤ delay_by k → a ≢ b → area_of k (n + a) ≢ area_of k (n + b)
  areas_differ n a b ha hb o e = let m = delay_most in let one : delay_by k ≡ 1 = omega arith in
      let z = same_parity (n + a) (n + b) one e in omega arith

-- the areas of a link stay, and so do its ends, while its nodes may begin or end a cycle
pub link_stays : (first blocks : ℕ) (k : ShapeLink) (writer reader from to : Span) (w : WriteView) (r : ReadView) (area after : ℕ → ℕ)
    → LinkOk first blocks k writer reader w r area → from.ended ≤ w.stored → writer.begun ≤ from.begun → to.ended ≤ r.stored
    → reader.begun ≤ to.begun → ((a : ℕ) → a ≤ delay_by k → after a ≡ area a) → LinkOk first blocks k from to w r after
link_stays first blocks k writer reader from to w r area after o hw bw hr br same = let wt = o.writer_turn in let w₂ = wt.2 in
    let rt = o.reader_turn in let r₃ = rt.3 in record {
      writer_turn = (hw, wt.1, omega arith);
      reader_turn = (hr, rt.1, rt.2, omega arith);
      later = o.later;
      have = λ a l h. same (area_of k (w.stored + a)) (area_most k (w.stored + a)) ∙ o.have a l h;
      need = λ a l h. same (area_of k (w.stored + a)) (area_most k (w.stored + a)) ∙ o.need a l h;
      unnamed = o.unnamed;
      named = o.named;
      found = o.found;
    }
