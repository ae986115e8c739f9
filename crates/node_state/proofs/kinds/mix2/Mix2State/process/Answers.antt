use Rattle.std.proofs.Common.{◌≡◌, ◌≤◌, ◌∙◌, ℤ, List, length, map, zip, sym, ap₂, arith, w32, to_z, of_z}
use Rattle.std.proofs.lemmas.Grind.{common_steps}
use Rattle.std.proofs.lemmas.Int.{ints}
use Rattle.std.proofs.lemmas.List.{take_all}
use Rattle.std.proofs.lemmas.Slice.Zip.{length-zip}
use Rattle.pw_lists.specs.Samples.{mixed}
use Rattle.node_state.proofs.kinds.mix2.Mix2State.process.Goals as goal

pub returns-then-not-is_empty : goal.returns-then-not-is_empty
returns-then-not-is_empty c =
    let row : ℤ → ℤ → List ℤ = λ ga gb. map (λ p. mixed ga gb p.0 p.1) (zip c.args.a.now c.args.b.now) in
    let ga = c.args.self.now.ga in
    let gb = c.args.self.now.gb in
    let same_a : to_z w32 (of_z w32 ga) ≡ ga = let range = c.args.self.now.range_a in omega (arith, ints) in
    let same_b : to_z w32 (of_z w32 gb) ≡ gb = let range = c.args.self.now.range_b in omega (arith, ints) in
    let long : length (row ga gb) ≤ length c.args.left.now =
    grind (arith, common_steps, length-zip c.args.a.now c.args.b.now, c.requires.inputs, c.requires.output) in
    let e : c.mix2.new.to ≡ row (to_z w32 (of_z w32 ga)) (to_z w32 (of_z w32 gb)) = c.mix2.ensures in
    e ∙ ap₂ row same_a same_b ∙ sym (take_all (length c.args.left.now) (row ga gb) long)
