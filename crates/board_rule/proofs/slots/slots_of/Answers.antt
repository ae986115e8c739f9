use Rattle.std.proofs.Common.{◌≡◌, ◌∙◌, ◌+◌, ◌<◌, ℕ, List, [], ◌∷◌, eqb, take, length, set, slice_index, ap, arith}
use Rattle.std.proofs.Common.{length-append}
use Rattle.std.proofs.lemmas.Grind.{get_or_default_zero}
use Rattle.std.proofs.lemmas.List.{length-take, length-set}
use Rattle.std.proofs.lemmas.List.Sums.{count_by-le-length}
use Rattle.board_rule.specs.start.Owners.{own_before, slot_in}
use Rattle.board_rule.proofs.activation.RowLemmas.{row_grown}
use Rattle.board_rule.proofs.start.DealLemmas.{counted}
use Rattle.board_rule.proofs.slots.slots_of.Goals as goal

pub overflow_add-index_mut : goal.overflow_add-index_mut
overflow_add-index_mut c = let n : ℕ = c.loop-owner.owner-index in let os : List ℕ = c.args.owners.now in let k = slice_index os n in
    let most = c.requires n 0 c.loop-owner-test.true in
    let width = c.loop-owner.invariant.width in
    let is : c.index_mut.result.now ≡ own_before k os n = c.index_mut.ensures.value
    ∙ get_or_default_zero c.loop-owner.counts.items k c.index_mut.result.now (omega arith) ∙ c.loop-owner.invariant.counts k most in
    let few = count_by-le-length (λ o. eqb o k) (take n os) in let long = length-take n os in let t = c.type_inv.owners in
    let low = c.loop-owner-test.true in record { fits = omega arith }

pub loop-owner-preserved : goal.loop-owner-preserved
loop-owner-preserved c = let i = c.loop-owner.invariant in let n : ℕ = c.loop-owner.owner-index in let os : List ℕ = c.args.owners.now in let k = slice_index os n in
    let counts : List ℕ = c.loop-owner.counts.items in let low = c.loop-owner-test.true in let few = c.requires n 0 low in
    let width = i.width in let there : k < length counts = omega arith in let items = c.in_ok-push.ensures.items in
    let next : c.index.result.now ≡ slot_in os n = c.index.ensures ∙ get_or_default_zero counts k c.index.result.now there ∙ i.counts k few in record {
      made = ap (λ (l : List ℕ). length l) items ∙ length-append c.loop-owner.slots.items (c.index.result.now ∷ []) ∙ ap (λ z. z + 1) i.made;
      slots = λ j h. ap (λ (l : List ℕ). slice_index l j) items
          ∙ row_grown (λ z y. y ≡ slot_in os z) c.loop-owner.slots.items c.index.result.now n i.made
          (λ z d l. (get_or_default_zero c.loop-owner.slots.items z d (omega (arith, i.made))) ∙ i.slots z l) next j 0 h;
      width = length-set counts k (c.index_mut.result.now + 1) ∙ i.width;
      counts = λ j h. ap (λ v. slice_index (set counts k (v + 1)) j)
          (c.index_mut.ensures.value ∙ get_or_default_zero counts k c.index_mut.result.now there)
          ∙ counted os counts n c.args.most j low i.width few h i.counts;
    }
