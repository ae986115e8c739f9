use Rattle.std.proofs.Common.{◌∙◌, ℕ, List, [], length, map, set, slice_index, ap, arith}
use Rattle.std.specs.Prelude.{slice_index_or}
use Rattle.std.proofs.lemmas.List.{length-map, length-set}
use Rattle.board_rule.proofs.start.DealLemmas.{dealt_more}
use Rattle.board_rule.proofs.dealing.deal.Goals as goal

pub add-requires : goal.add-requires
add-requires g c = let n : ℕ = c.loop-at.at in let few = c.requires.most n 0 c.loop-at-test.true in
    let width = c.loop-at.invariant.width in let long = length-map c.loop-at.dealt.items (λ v. v.items) in omega arith

pub loop-at-preserved : goal.loop-at-preserved
loop-at-preserved g c = let i = c.loop-at.invariant in let n : ℕ = c.loop-at.at in let os : List ℕ = c.args.owners.now in
    let xs = c.args.all.now in let low = c.loop-at-test.true in let few = c.requires.most n 0 low in
    let lists = map (λ v. v.items) c.loop-at.dealt.items in let is = c.in_ok-add.ensures in record {
      width = ap (λ l. length l) is ∙ length-set lists (slice_index os n) _ ∙ i.width;
      each = λ k h. ap (λ l. slice_index_or l k []) is
          ∙ dealt_more os xs n c.index-all-at.result low c.requires.same c.index-all-at.is lists c.args.most k i.width few h i.each;
    }
