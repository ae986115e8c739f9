use Rattle.std.proofs.Common.{◌≡◌, ◌≤◌, ◌∙◌, List, length, map, get_or, sym, ap, refl, subst, arith}
use Rattle.std.specs.Prelude.{All}
use Rattle.std.proofs.lemmas.Option.{get_or_from_slice_get}
use Rattle.pw_graph.specs.declared.plan.Epoch.{Epoch}
use Rattle.pw_graph.specs.declared.pools.PoolShape.{PoolShape}
use Rattle.pw_graph.specs.Pools.{pools_of}
use Rattle.io_areas.specs.FreeBlocks.{free_at_start}
use Rattle.data_loop.specs.declared.inputs.Input.{Input}
use Rattle.data_loop.specs.Dealt.{AreDealt}
use Rattle.data_loop.specs.OwnPools.{own_pools, own_places}
use Rattle.data_loop.specs.Members.{members_of, drivers_of}
use Rattle.data_loop.proofs.PlanPoolsLemmas.{pooled_here, pools_here}
use Rattle.data_loop.proofs.PoolCountLemmas.{pools_fit, few_ends, few_epochs}
use Rattle.data_loop.proofs.epoch_states.epoch_state_of.Goals as goal

pub restarts_of-requires : goal.restarts_of-requires
restarts_of-requires c = let few = few_epochs c.args.plan.now c.requires.sound in let inside = c.requires.inside in omega (arith, few, inside)

pub members_by-requires-clause-few : goal.members_by-requires-clause-few
members_by-requires-clause-few c =
    let plan = c.args.plan.now in let k = c.args.epoch in let e : Epoch = c.index-as_slice-epoch.result in let low = c.requires.inside in
    let here : e ≡ get_or plan.epochs k e = c.index-as_slice-epoch.is ∙ ap (λ (l : List Epoch). get_or l k e) c.as_slice.ensures in
    let pooled = pooled_here plan k e low here c.requires.sound in
    let pools : c.as_slice-pools.result.now ≡ pools_of e.shape = c.as_slice-pools.ensures
    ∙ pools_here plan k e low here c.args.pools.now c.index-pools-epoch.result c.requires.pools c.index-pools-epoch.is in
    ((few_ends e.shape pooled).0, subst (λ (l : List PoolShape). length l ≤ 256) (sym pools) (few_ends e.shape pooled).1)

pub members_by-requires-clause-dealt : goal.members_by-requires-clause-dealt
members_by-requires-clause-dealt c =
    let k = c.args.epoch in let e : Epoch = c.index-as_slice-epoch.result in
    let here : e ≡ get_or c.args.plan.now.epochs k e = c.index-as_slice-epoch.is ∙ ap (λ (l : List Epoch). get_or l k e) c.as_slice.ensures in
    subst (λ (x : Epoch × List (List Input)). AreDealt x.0.shape x.1) (λ i. (sym here i, sym c.as_slice-dealt.ensures i)) (c.requires.links e)

pub members_by-requires-clause-pools : goal.members_by-requires-clause-pools
members_by-requires-clause-pools c =
    let plan = c.args.plan.now in let k = c.args.epoch in let e : Epoch = c.index-as_slice-epoch.result in let low = c.requires.inside in
    let here : e ≡ get_or plan.epochs k e = c.index-as_slice-epoch.is ∙ ap (λ (l : List Epoch). get_or l k e) c.as_slice.ensures in
    let pools : c.as_slice-pools.result.now ≡ pools_of e.shape = c.as_slice-pools.ensures
    ∙ pools_here plan k e low here c.args.pools.now c.index-pools-epoch.result c.requires.pools c.index-pools-epoch.is in
    pools

pub members_by-requires-2-clause-few : goal.members_by-requires-2-clause-few
members_by-requires-2-clause-few c =
    let plan = c.args.plan.now in let k = c.args.epoch in let e : Epoch = c.index-as_slice-epoch.result in let low = c.requires.inside in
    let here : e ≡ get_or plan.epochs k e = c.index-as_slice-epoch.is ∙ ap (λ (l : List Epoch). get_or l k e) c.as_slice.ensures in
    let pooled = pooled_here plan k e low here c.requires.sound in
    let pools : c.as_slice-pools.result.now ≡ pools_of e.shape = c.as_slice-pools.ensures
    ∙ pools_here plan k e low here c.args.pools.now c.index-pools-epoch.result c.requires.pools c.index-pools-epoch.is in
    ((few_ends e.shape pooled).0, subst (λ (l : List PoolShape). length l ≤ 256) (sym pools) (few_ends e.shape pooled).1)

pub members_by-requires-2-clause-dealt : goal.members_by-requires-2-clause-dealt
members_by-requires-2-clause-dealt c =
    let k = c.args.epoch in let e : Epoch = c.index-as_slice-epoch.result in
    let here : e ≡ get_or c.args.plan.now.epochs k e = c.index-as_slice-epoch.is ∙ ap (λ (l : List Epoch). get_or l k e) c.as_slice.ensures in
    subst (λ (x : Epoch × List (List Input)). AreDealt x.0.shape x.1) (λ i. (sym here i, sym c.as_slice-dealt.ensures i)) (c.requires.links e)

pub members_by-requires-2-clause-pools : goal.members_by-requires-2-clause-pools
members_by-requires-2-clause-pools c =
    let plan = c.args.plan.now in let k = c.args.epoch in let e : Epoch = c.index-as_slice-epoch.result in let low = c.requires.inside in
    let here : e ≡ get_or plan.epochs k e = c.index-as_slice-epoch.is ∙ ap (λ (l : List Epoch). get_or l k e) c.as_slice.ensures in
    let pools : c.as_slice-pools.result.now ≡ pools_of e.shape = c.as_slice-pools.ensures
    ∙ pools_here plan k e low here c.args.pools.now c.index-pools-epoch.result c.requires.pools c.index-pools-epoch.is in
    pools

pub pools_among-requires-clause-few : goal.pools_among-requires-clause-few
pools_among-requires-clause-few c =
    let plan = c.args.plan.now in let k = c.args.epoch in let e : Epoch = c.index-as_slice-epoch.result in let low = c.requires.inside in
    let here : e ≡ get_or plan.epochs k e = c.index-as_slice-epoch.is ∙ ap (λ (l : List Epoch). get_or l k e) c.as_slice.ensures in
    let pooled = pooled_here plan k e low here c.requires.sound in
    let pools : c.as_slice-pools.result.now ≡ pools_of e.shape = c.as_slice-pools.ensures
    ∙ pools_here plan k e low here c.args.pools.now c.index-pools-epoch.result c.requires.pools c.index-pools-epoch.is in
    subst (λ (l : List PoolShape). length l ≤ 256) (sym pools) (few_ends e.shape pooled).1

pub pools_among-requires-clause-pools : goal.pools_among-requires-clause-pools
pools_among-requires-clause-pools c =
    let plan = c.args.plan.now in let k = c.args.epoch in let e : Epoch = c.index-as_slice-epoch.result in let low = c.requires.inside in
    let here : e ≡ get_or plan.epochs k e = c.index-as_slice-epoch.is ∙ ap (λ (l : List Epoch). get_or l k e) c.as_slice.ensures in
    let pooled = pooled_here plan k e low here c.requires.sound in
    let pools : c.as_slice-pools.result.now ≡ pools_of e.shape = c.as_slice-pools.ensures
    ∙ pools_here plan k e low here c.args.pools.now c.index-pools-epoch.result c.requires.pools c.index-pools-epoch.is in
    subst (All (λ (x : PoolShape). (1 ≤ x.blocks) × (x.blocks ≤ 8))) (sym pools) (pools_fit e.shape pooled)

pub returns : goal.returns
returns c = record {
  seat_is = refl;
  parts = λ e at.
      let plan = c.args.plan.now in let k = c.args.epoch in let x : Epoch = c.index-as_slice-epoch.result in
      let here : x ≡ get_or plan.epochs k x = c.index-as_slice-epoch.is ∙ ap (λ (l : List Epoch). get_or l k x) c.as_slice.ensures in
      let is : x ≡ e = here ∙ get_or_from_slice_get plan.epochs k e x at in
      let pools : c.as_slice-pools.result.now ≡ pools_of e.shape = c.as_slice-pools.ensures
      ∙ pools_here plan k x c.requires.inside here c.args.pools.now c.index-pools-epoch.result c.requires.pools c.index-pools-epoch.is
      ∙ ap (λ (y : Epoch). pools_of y.shape) is in
      let own = c.in_ok-own.ensures in (
        record {
          members = c.in_ok-members.ensures ∙ ap (members_of plan c.args.nodes.now) is;
          driver = c.in_ok-driver.ensures ∙ ap (drivers_of plan c.args.nodes.now) is;
          restarts = c.in_ok-restarts.ensures;
          places = own.places ∙ ap (own_places c.args.nodes.now) pools;
          shapes = own.shapes ∙ ap (own_pools c.args.nodes.now) pools;
        },
        (own.free ∙ ap (λ (y : Epoch). map (free_at_start y.shape) c.in_ok-own.own.shapes) is, refl),
      );
}
