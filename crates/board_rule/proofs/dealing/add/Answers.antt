use Rattle.std.proofs.Common.{◌≡◌, ◌∙◌, ◌++◌, ◌∷◌, [], ℕ, map, set, sym, ap}
use Rattle.std.specs.Prelude.{slice_index_or}
use Rattle.std.proofs.lemmas.List.{map-set, get_or-map}
use Rattle.board_rule.proofs.dealing.add.Goals as goal

pub returns : goal.returns
returns g c = let lists = c.args.lists.now.items in let k : ℕ = c.args.owner in let rows = map (λ v. v.items) lists in
    let here = c.index_mut.result.now in
    let old : here.items ≡ slice_index_or rows k [] = ap (λ v. v.items) c.index_mut.ensures.value
    ∙ sym (get_or-map (λ v. v.items) lists k here [] c.requires) in
    map-set (λ v. v.items) lists k c.push.new.self
    ∙ ap (set rows k) (c.in_ok-push.ensures.items ∙ ap (λ l. l ++ c.args.entry ∷ []) old)
