-- From try to try of a turn.
use Rattle.std.proofs.Common.{◌≡◌, ◌≢◌, ℕ, ◌+◌, ◌<◌, Bool, true, false, not, List, [], ◌∷◌, ◌++◌, map, filter}
use Rattle.std.proofs.Common.{refl, sym, ap, ◌∙◌, subst, arith, cond, append-nil}
use Rattle.std.specs.Prelude.{All}
use Rattle.std.proofs.lemmas.Bool.{eq-eqb, ne_eqb}
use Rattle.std.proofs.lemmas.List.{map-append}
use Rattle.std.proofs.lemmas.List.Elements.{All-append, All-cons, All-nil, filter-append}
use Rattle.pw_graph.specs.Words.{triggered_word}
use Rattle.board_rule.specs.declared.view.Found.{Found}
use Rattle.board_rule.specs.declared.view.View.{View}
use Rattle.board_rule.specs.Layout.{BoardLayout, nodes, last}
use Rattle.board_rule.specs.Steps.{tried}
use Rattle.io_areas.specs.PooledBoard.{IsPooledBoard}
use Rattle.data_loop.specs.declared.member.Member.{Member}
use Rattle.data_loop.specs.declared.epoch_state.EpochState.{EpochState}
use Rattle.data_loop.specs.turns.Turning.{IsAtRest, HasTurned}
use Rattle.board_rule.specs.declared.view.NodeView.{NodeView}
use Rattle.data_loop.specs.declared.own_pools.OwnPools.{OwnPools}
use Rattle.data_loop.proofs.turns.EndsLemmas.{same_node}
use Rattle.data_loop.specs.LoopTurn.{next_in, has_left, tries_after, HaveTried, HasRun}

push_try : (old : List Found) (found : List (ℕ × ℕ)) (n x : ℕ)
    → tries_after old (found ++ (n, x) ∷ []) ≡ record { node = n; word = x } ∷ tries_after old found
push_try old [] n x = refl
push_try old (t ∷ ts) n x = push_try (record { node = t.0; word = t.1 } ∷ old) ts n x

pub more_tries : (old : List Found) (a b : List (ℕ × ℕ)) → tries_after old (a ++ b) ≡ tries_after (tries_after old a) b
more_tries old [] b = refl
more_tries old (t ∷ ts) b = more_tries (record { node = t.0; word = t.1 } ∷ old) ts b

pub none_tried : (p : BoardLayout) (v : View) (found : List (ℕ × ℕ)) → found ≡ [] → HaveTried p v [] found v
none_tried p v found empty = subst (λ f. HaveTried p v [] f v) (sym empty) record {
  nodes = refl;
  words = λ k d low. absurd (omega (arith, low));
  still = refl;
}

-- the tries of more members, after those of some
pub tried_on : (p : BoardLayout) (v w u : View) (a b : List Member) (f h : List (ℕ × ℕ)) → HaveTried p v a f w → HaveTried p w b h u
    → HaveTried p v (a ++ b) (f ++ h) u
tried_on p v w u a b f h one two = by (subst (λ x. HaveTried p x b h u) one.still two)
  where
    by : HaveTried p (record v { trail = record v.trail { tries = tries_after v.trail.tries f } }) b h u → HaveTried p v (a ++ b) (f ++ h) u
    by last_ones = record {
      nodes = map-append (λ t. t.0) f h ∙ ap (λ l. l ++ map (λ t. t.0) h) one.nodes
          ∙ ap (λ l. map (λ (m : Member). m.node) (filter (has_left p v) a) ++ l) last_ones.nodes
          ∙ sym (map-append (λ (m : Member). m.node) (filter (has_left p v) a) (filter (has_left p v) b))
          ∙ ap (map (λ (m : Member). m.node)) (sym (filter-append (has_left p v) a b));
      words = All-append (λ t. t.1 ≢ triggered_word (next_in p v t.0)) f h one.words last_ones.words;
      still = last_ones.still
          ∙ ap (λ l. record v { trail = record v.trail { tries = l } }) (sym (more_tries v.trail.tries f h));
    }

module _ (p : BoardLayout) (v : View) (done : List Member) (m : Member) (found : List (ℕ × ℕ)) (w : View)
    (so_far : HaveTried p v done found w) where
  -- the nodes are where they were
  pub still_next : (n : ℕ) → next_in p w n ≡ next_in p v n
  still_next n = ap (λ (x : View). next_in p x n) so_far.still

  listed : (b : Bool) → has_left p v m ≡ b
      → filter (has_left p v) (done ++ m ∷ []) ≡ filter (has_left p v) done ++ cond b (m ∷ []) []
  listed b is = filter-append (has_left p v) done (m ∷ [])
      ∙ ap (λ c. filter (has_left p v) done ++ cond c (m ∷ []) []) is

  -- one that has ended all cycles is not tried
  pub one_ended : next_in p w m.node ≡ last p → HaveTried p v (done ++ m ∷ []) found w
  one_ended ended =
      let none : has_left p v m ≡ false = ap not (eq-eqb (next_in p v m.node) (last p) (sym (still_next m.node) ∙ ended)) in record {
        nodes = so_far.nodes ∙ ap (map (λ x. x.node)) (sym (listed false none ∙ append-nil (filter (has_left p v) done)));
        words = so_far.words;
        still = so_far.still;
      }

  -- one that was tried too early
  pub one_tried : (plain : IsPooledBoard p) → p.index m.node < nodes p → next_in p w m.node ≢ last p → (x : ℕ)
      → x ≢ triggered_word (next_in p w m.node) → (u : View) → u ≡ tried p w (p.index m.node) x
      → HaveTried p v (done ++ m ∷ []) (found ++ (m.node, x) ∷ []) u
  one_tried plain inside some x other u is =
      let yes : has_left p v m ≡ true = ap not (ne_eqb (next_in p v m.node) (last p) (λ e. some (still_next m.node ∙ e))) in
      let number : p.number (p.index m.node) ≡ m.node = plain.sound.known m.node inside in record {
        nodes = map-append (λ t. t.0) found ((m.node, x) ∷ []) ∙ ap (λ l. l ++ m.node ∷ []) so_far.nodes
            ∙ sym (map-append (λ (y : Member). y.node) (filter (has_left p v) done) (m ∷ []))
            ∙ ap (map (λ y. y.node)) (sym (listed true yes));
        words = All-append (λ t. t.1 ≢ triggered_word (next_in p v t.0)) found ((m.node, x) ∷ []) so_far.words
            (All-cons (λ t. t.1 ≢ triggered_word (next_in p v t.0)) (m.node, x) []
            (λ e. other (e ∙ ap triggered_word (sym (still_next m.node)))) (All-nil (λ t. t.1 ≢ triggered_word (next_in p v t.0))));
        still = is ∙ ap (λ (y : View). tried p y (p.index m.node) x) so_far.still
            ∙ ap (λ n. record v { trail = record v.trail { tries = record { node = n; word = x } ∷ tries_after v.trail.tries found } }) number
            ∙ ap (λ l. record v { trail = record v.trail { tries = l } }) (sym (push_try v.trail.tries found m.node x));
      }

  -- one that ran
  pub one_ran : (plain : IsPooledBoard p) → p.index m.node < nodes p → (g h : EpochState) → g.seat.knows ≡ v
      → (order rest : List Member) → order ≡ done ++ m ∷ rest
      → (free new : OwnPools) → All (λ x. IsAtRest p w free (p.index x.node)) g.members
      → HasTurned p w free (p.index m.node) h.seat.knows new → HasRun p g order m.node found h
  one_ran plain inside g h knows order rest split free new rests turned = record {
    first = done;
    member = m;
    rest = rest;
    split = split;
    node = refl;
    before = w;
    tried = subst (λ (x : View). HaveTried p x done found w) (sym knows) so_far;
    later = turned.later ∙ ap (λ n. n + 1) (still_next m.node) ∙ ap (λ (x : View). next_in p x m.node + 1) (sym knows);
    others = λ x own other.
        let at : IsAtRest p w free (p.index x.node) = subst (λ y. IsAtRest p w free (p.index y.node)) own.2 (rests own.0 x own.1) in
        let apart : p.index x.node ≢ p.index m.node = λ e. other (same_node p plain m.node inside x.node (subst (λ a. a < nodes p) (sym e) inside) e) in
        ap (λ (y : NodeView). y.next) (turned.others (p.index x.node) apart at).1 ∙ still_next x.node
        ∙ ap (λ (y : View). next_in p y x.node) (sym knows);
  }
