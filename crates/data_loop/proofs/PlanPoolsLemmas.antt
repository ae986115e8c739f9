-- The pools of an epoch, among those of all.
use Rattle.std.proofs.Common.{◌≡◌, ◌∙◌, ℕ, ◌<◌, List, length, get_or, sym, ap, subst}
use Rattle.std.proofs.lemmas.List.{get_or-map, length-map}
use Rattle.pw_graph.specs.declared.plan.Epoch.{Epoch}
use Rattle.pw_graph.specs.declared.plan.Plan.{Plan}
use Rattle.pw_graph.specs.declared.pools.PoolShape.{PoolShape}
use Rattle.pw_graph.specs.Pools.{pools_of, IsPooledShape}
use Rattle.pw_graph.specs.SoundPlan.{IsSoundPlan}
use Rattle.data_loop.specs.PlanPools.{pools_in}

pub pools_count : (plan : Plan) (pools : List (List PoolShape)) → pools ≡ pools_in plan → length pools ≡ length plan.epochs
pools_count plan pools is = ap (λ (l : List (List PoolShape)). length l) is ∙ length-map plan.epochs (λ e. pools_of e.shape)

pub pools_at : (plan : Plan) (pools : List (List PoolShape)) (k : ℕ) (d : List PoolShape) (e : Epoch) → pools ≡ pools_in plan
    → k < length plan.epochs → get_or pools k d ≡ pools_of (get_or plan.epochs k e).shape
pools_at plan pools k d e is low = ap (λ (l : List (List PoolShape)). get_or l k d) is
    ∙ get_or-map (λ x. pools_of x.shape) plan.epochs k e d low

-- what a list has at the place of an epoch is of that epoch
module _ (plan : Plan) (k : ℕ) (e : Epoch) (low : k < length plan.epochs) (here : e ≡ get_or plan.epochs k e) where
  pub pooled_here : IsSoundPlan plan → IsPooledShape e.shape
  pooled_here sound = subst (λ (x : Epoch). IsPooledShape x.shape) (sym here) (sound.epochs k e low).shape

  pub pools_here : (pools : List (List PoolShape)) (p : List PoolShape) → pools ≡ pools_in plan → p ≡ get_or pools k p → p ≡ pools_of e.shape
  pools_here pools p is at = at ∙ pools_at plan pools k p e is low ∙ ap (λ (x : Epoch). pools_of x.shape) (sym here)
