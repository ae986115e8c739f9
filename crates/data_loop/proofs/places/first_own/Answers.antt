use Rattle.std.proofs.Common.{◌∙◌, ap, rules, tests, length}
use Rattle.std.specs.Prelude.{unwrap_or}
use Rattle.std.proofs.lemmas.Iterator.{YieldsList-from_slice}
use Rattle.std.proofs.lemmas.Iterator.Search.{position_from_yields_List}
use Rattle.data_loop.specs.OwnPools.{is_own}
use Rattle.data_loop.proofs.OwnPoolsLemmas.{first_found}
use Rattle.data_loop.proofs.places.first_own.Goals as goal

pub returns : goal.returns
returns c = let nodes = c.args.nodes.now in let pools = c.args.pools.now in
    let found = position_from_yields_List (is_own nodes) _ _ c.position.result c.position.ensures.ran
    (YieldsList-from_slice _ c.iter.ensures.rest) (λ x b q k. search (rules, tests)) in
    c.unwrap_or.ensures ∙ ap (λ o. unwrap_or o (length pools)) found ∙ first_found (is_own nodes) pools
