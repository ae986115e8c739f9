use Rattle.std.proofs.Common.{◌∙◌, ◌∷◌, ◌++◌, [], ap}
use Rattle.graph_run.proofs.RunStatesLemmas.{has_run_alone}
use Rattle.graph_run.proofs.alone.run_alone.Goals as goal

pub returns : goal.returns
returns g c = let own = c.drive-own.result.own in
    has_run_alone c.args.run c.requires own c.drive-own.result.drivers c.drive-own.ensures.own c.drive-own.ensures.drivers
    c.into_items.result (c.into_items.ensures ∙ (c.push_spare.ensures.list ∙ ap (λ l. l ++ own ∷ []) c.requires.empty)) c.drive-own.ensures.looked
