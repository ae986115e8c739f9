use Rattle.std.proofs.Common.{◌∙◌, ℕ, map, set, ap}
use Rattle.std.proofs.lemmas.List.{map-set}
use Rattle.board_rule.proofs.dealing.take.Goals as goal

pub returns-clause-rest : goal.returns-clause-rest
returns-clause-rest g c = let lists = c.args.lists.now.items in let k : ℕ = c.args.seat in
    map-set (λ v. v.items) lists k c.replace.new.dest
    ∙ ap (set (map (λ v. v.items) lists) k) (ap (λ v. v.items) c.replace.ensures.after ∙ c.new.ensures.items)
