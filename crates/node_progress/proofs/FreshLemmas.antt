-- The nodes that an epoch names as fresh: an entry that a search finds, and the one that a node has.
use Rattle.std.proofs.Common.{◌≡◌, ◌≢◌, ℕ, zero, suc, ◌<◌, ◌≤◌, ◌==◌, true, false, List, [], ◌∷◌, find, Option, Some, None}
use Rattle.std.proofs.Common.{option_map, refl, sym, ap, ◌∙◌, subst, arith, ⊎_elim, get_or, slice_get, All}
use Rattle.std.specs.Prelude.{Contains, AllPairs}
use Rattle.std.specs.List.{list_any}
use Rattle.std.proofs.lemmas.Bool.{cases_Bool, cases_eq, cases_lt, eq-eqb, eqb-true, true≢false}
use Rattle.std.proofs.lemmas.List.{get_or_default}
use Rattle.std.proofs.lemmas.List.Elements.{All-contains}
use Rattle.std.proofs.lemmas.Option.{same_Some, none-some, slice_get_within, get_or_from_slice_get}
use Rattle.pw_graph.specs.declared.plan.Epoch.{Epoch}
use Rattle.pw_graph.specs.declared.plan.Fresh.{Fresh}
use Rattle.pw_graph.specs.declared.plan.Plan.{Plan}
use Rattle.pw_graph.specs.PlanForms.{kind_at}
use Rattle.pw_graph.specs.PlanFresh.{Names, IsSoundFresh}
use Rattle.pw_graph.specs.SoundPlan.{IsSoundPlan}
use Rattle.cycle_model.specs.Epochs.{listed}
use Rattle.node_state.specs.Slices.{AllowsChannels}
use Rattle.node_progress.specs.Restarts.{restart_of}

-- an entry found is one of the list, and the test of any says so
pub entry_found : (fs : List Fresh) (n channels : ℕ) → option_map (λ f. f.channels) (find (λ f. f.node == n) fs) ≡ Some channels
    → Contains fs (record { node = n; channels = channels }) × (list_any (λ f. f.node == n) fs ≡ true)
entry_found [] n channels e = absurd (none-some channels e)
entry_found (f ∷ fs) n channels e = ⊎_elim
    (λ (yes : (f.node == n) ≡ true).
    let is : f.channels ≡ channels = same_Some f.channels channels (rw yes at e) in
    let node : f.node ≡ n = eqb-true f.node n yes in
    ((0, omega arith, (λ i. record { node = node i; channels = is i })), rw yes refl))
    (λ (no : (f.node == n) ≡ false).
    let more = entry_found fs n channels (rw no at e) in let c = more.0 in let low = c.1 in
    ((suc c.0, omega (arith, low), c.2), rw no more.1))
    (cases_Bool (f.node == n))

pub no_entry : (fs : List Fresh) (n : ℕ) → option_map (λ f. f.channels) (find (λ f. f.node == n) fs) ≡ None
    → (list_any (λ f. f.node == n) fs ≡ false) × ((channels : ℕ) → Contains fs (record { node = n; channels = channels }) → ⊥)
no_entry [] n e = (refl, λ channels c. omega (arith, c.1))
no_entry (f ∷ fs) n e = ⊎_elim
    (λ (yes : (f.node == n) ≡ true). absurd (none-some f.channels (sym (rw yes at e))))
    (λ (no : (f.node == n) ≡ false).
    let more = no_entry fs n (rw no at e) in
    (rw no more.0, λ channels c. past f fs n channels no more.1 c))
    (cases_Bool (f.node == n))
  where
    past : (f : Fresh) (fs : List Fresh) (n channels : ℕ) → (f.node == n) ≡ false
        → ((channels : ℕ) → Contains fs (record { node = n; channels = channels }) → ⊥)
        → Contains (f ∷ fs) (record { node = n; channels = channels }) → ⊥
    past f fs n channels miss more (zero, low, is) = true≢false (sym (eq-eqb f.node n (ap (λ (x : Fresh). x.node) is)) ∙ miss)
    past f fs n channels miss more (suc k, low, is) = more channels (k, omega (arith, low), is)

-- of entries that ascend, a node has one
one_entry : (fs : List Fresh) → AllPairs (λ x y. x.node < y.node) fs → (n a b : ℕ) → Contains fs (record { node = n; channels = a })
    → Contains fs (record { node = n; channels = b }) → a ≡ b
one_entry fs ascend n a b x y =
    let d : Fresh = record { node = n; channels = a } in
    let ax : (get_or fs x.0 d).node ≡ n = ap (λ (f : Fresh). f.node) (get_or_default fs x.0 d d x.1 ∙ x.2) in
    let by : (get_or fs y.0 d) ≡ (record { node = n; channels = b }) = get_or_default fs y.0 d (record { node = n; channels = b }) y.1 ∙ y.2 in
    let bx : (get_or fs y.0 d).node ≡ n = ap (λ (f : Fresh). f.node) by in
    ⊎_elim
    (λ (at : x.0 ≡ y.0). ap (λ (f : Fresh). f.channels) (sym (get_or_default fs x.0 d d x.1 ∙ x.2) ∙ ap (λ i. get_or fs i d) at ∙ by))
    (λ (ne : x.0 ≢ y.0). ⊎_elim
    (λ (less : x.0 < y.0). let p = ascend x.0 y.0 d less y.1 in absurd (omega (arith, p, ax, bx)))
    (λ (more : y.0 ≤ x.0). let p = ascend y.0 x.0 d (omega (arith, more, ne)) x.1 in absurd (omega (arith, p, ax, bx)))
    (cases_lt x.0 y.0))
    (cases_eq x.0 y.0)

-- the entry that a node has is the one that a search finds
found_entry : (fs : List Fresh) → AllPairs (λ x y. x.node < y.node) fs → (n channels : ℕ) → Contains fs (record { node = n; channels = channels })
    → option_map (λ f. f.channels) (find (λ f. f.node == n) fs) ≡ Some channels
found_entry fs ascend n channels entry = by (option_map (λ f. f.channels) (find (λ f. f.node == n) fs)) refl
  where
    by : (o : Option ℕ) → option_map (λ f. f.channels) (find (λ f. f.node == n) fs) ≡ o
        → option_map (λ f. f.channels) (find (λ f. f.node == n) fs) ≡ Some channels
    by None is = absurd ((no_entry fs n is).1 channels entry)
    by (Some other) is = is ∙ ap Some (one_entry fs ascend n other channels (entry_found fs n other is).0 entry)

-- in a plan: what an epoch restarts is what it names
pub named_of : (plan : Plan) (k n channels : ℕ) → restart_of plan k n ≡ Some channels → Names plan k n channels
named_of plan k n channels is = by (slice_get plan.epochs k) refl
  where
    by : (o : Option Epoch) → slice_get plan.epochs k ≡ o → Names plan k n channels
    by None at = absurd (none-some channels
        (sym (ap (λ o. option_map (λ (f : Fresh). f.channels) (find (λ f. f.node == n) (listed (λ y. y.fresh) o))) at) ∙ is))
    by (Some x) at = record {
      epoch = x;
      at = at;
      entry = (entry_found x.fresh n channels
          (sym (ap (λ o. option_map (λ (f : Fresh). f.channels) (find (λ f. f.node == n) (listed (λ y. y.fresh) o))) at) ∙ is)).0;
    }

pub restart_is : (plan : Plan) → IsSoundPlan plan → (k n channels : ℕ) → Names plan k n channels → restart_of plan k n ≡ Some channels
restart_is plan sound k n channels named =
    let low = slice_get_within plan.epochs k named.epoch named.at in
    ap (λ o. option_map (λ (f : Fresh). f.channels) (find (λ f. f.node == n) (listed (λ x. x.fresh) o))) named.at
    ∙ found_entry named.epoch.fresh (subst (λ (x : Epoch). AllPairs (λ f g. f.node < g.node) x.fresh)
    (get_or_from_slice_get plan.epochs k named.epoch named.epoch named.at) (sound.fresh.ascend k named.epoch low)) n channels named.entry

-- and a kind allows the channels with which an epoch names its node
pub named_allowed : (plan : Plan) → IsSoundPlan plan → (k n channels : ℕ) → Names plan k n channels → AllowsChannels (kind_at plan n) channels
named_allowed plan sound k n channels named = let low = slice_get_within plan.epochs k named.epoch named.at in
    (All-contains (IsSoundFresh plan) named.epoch.fresh (record { node = n; channels = channels })
    (subst (λ (x : Epoch). All (IsSoundFresh plan) x.fresh) (get_or_from_slice_get plan.epochs k named.epoch named.epoch named.at)
    (sound.fresh.each k named.epoch low)) named.entry).channels
