-- Three nodes more.
use Rattle.std.proofs.Common.{◌≡◌, ◌++◌, [], ◌∷◌, ap, ◌∙◌, append_assoc, rules, SFits, w32}
use Rattle.std.proofs.lemmas.Int.{to_z-of_z}
use Rattle.pw_graph.specs.declared.kind.Kind.TheVariants as K
use Rattle.port_model.specs.Offers.{new_node}
use Rattle.soak_graph.proofs.ports.add_chain.Goals as goal

pub returns : goal.returns
returns c =
    let nodes = c.args.ports.now in
    let g = c.args.chain.now.gain in
    let fit : SFits w32 g = search rules in
    let a = new_node K.Source 48000 1 in
    let b = new_node (K.Gain g) 0 0 in
    let d = new_node (K.Delay c.args.chain.now.delay) 0 0 in
    let two : c.add-2.new.self ≡ (nodes ++ a ∷ []) ++ b ∷ [] =
    c.in_ok-add-2.ensures.ok ∙ ap (λ z. c.add.new.self ++ new_node (K.Gain z) 0 0 ∷ []) (to_z-of_z w32 g fit)
    ∙ ap (λ ns. ns ++ b ∷ []) c.in_ok-add.ensures.ok in
    c.in_ok-add-3.ensures.ok ∙ ap (λ ns. ns ++ d ∷ []) (two ∙ append_assoc nodes (a ∷ []) (b ∷ []))
    ∙ append_assoc nodes (a ∷ b ∷ []) (d ∷ [])
