-- One step changes one view. What the other seats know stays.
use Rattle.std.proofs.Common.{◌≡◌, ◌≢◌, ℕ, zero, suc, ◌<◌, ◌≤◌, cond, List, [], ◌∷◌, length, set, refl, sym, ap, ◌∙◌, subst}
use Rattle.std.proofs.Common.{⊎_elim, arith, eq-eqb, ne_eqb, get_or, length-set, get_or-set_same, get_or-set_other}
use mathlib.Core.Logic.{dite}
use mathlib.Core.Option.{some, some-injective, some-ne-none}
use native.Mathlib.Decide.{ℕ_discrete}
use lib.ListN.{get_elem?}
use Rattle.atomic_table.proofs.Lists.{at_set, set_else}
use Rattle.board_rule.specs.declared.view.View.{View}
use Rattle.board_rule.specs.declared.view.Trail.{Trail}
use Rattle.board_rule.specs.declared.view.NodeView.{NodeView}
use Rattle.board_rule.specs.declared.view.DriverView.{DriverView}
use Rattle.board_rule.specs.declared.view.Found.{Found}
use Rattle.pw_graph.specs.declared.event.Event.{Event}
use Rattle.board_rule.specs.Layout.{BoardLayout, nodes, first}
use Rattle.board_rule.specs.View.{Whole, put, idle, with_node, view_node, with_lead, view_lead, view_trail}
use Rattle.board_rule.specs.BoardRule.{Knows, Seated}
use Rattle.board_rule.specs.buffers.SampleWords.{IsTable}
use Rattle.board_rule.specs.buffers.EndViews.{pool_at, pool_of}
use Rattle.board_rule.specs.buffers.KnownEnds.{AreRead, AreStill}
use Rattle.board_rule.specs.events.Bits.{AreOfNodes}

pub put_here : {A : Type 0} (f : ℕ → A) (m : ℕ) (x : A) → put f m x m ≡ x
put_here f m x = ap (λ b. cond b x (f m)) (eq-eqb m m refl)

pub put_else : {A : Type 0} (f : ℕ → A) (m i : ℕ) (x : A) → i ≢ m → put f m x i ≡ f i
put_else f m i x o = ap (λ b. cond b x (f i)) (ne_eqb i m o)

-- an index that holds something can be written
pub set_there : {A : Type 0} (l : List A) (i : ℕ) (a b : A) → get_elem? l i ≡ some b → get_elem? (set l i a) i ≡ some a
set_there [] i a b e = absurd (some-ne-none b (sym e))
set_there (x ∷ xs) zero a b e = refl
set_there (x ∷ xs) (suc i) a b e = set_there xs i a b e

module _ (p : BoardLayout) where
  -- the general form: the seat id has the view w from now on
  pub seat_step : (g h : Whole) (words after : List ℕ) (views : List View) (id : ℕ) (v w : View) → get_elem? views id ≡ some v
      → length after ≡ length words → Knows p h id w
      → ((j : ℕ) (u : View) → j ≢ id → Knows p g j u → Knows p h j u)
      → ((n : ℕ) → n < nodes p → n ≢ p.driver → h.split ≤ p.seat_of n → h.nodes n ≡ idle (first p))
      → AreStill p h.ends h.split → ((n : ℕ) → n < nodes p → n ≢ p.driver → p.seat_of n < h.split → IsTable p h.expect)
      → ((i : ℕ) → h.seat_at i ≡ g.seat_at i) → h.split ≡ g.split → w.number ≡ v.number
      → Seated p g words views → Seated p h after (set views id w)
  seat_step g h words after views id v w at same mine others unsplit still table indexes split number s = record {
    sound = s.sound;
    pooled = s.pooled;
    room = s.room ∙ sym same;
    wide = let k = s.wide in omega arith;
    long = let k = s.long in omega arith;
    knows = λ j u e. ⊎_elim (λ (t : (j ≡ id) × (w ≡ u)). subst (λ (x : ℕ × View). Knows p h x.0 x.1) (λ i. (sym t.0 i, t.1 i)) mine)
        (λ (t : (j ≢ id) × (get_elem? views j ≡ some u)). others j u t.0 (s.knows j u t.1)) (at_set views id j w u e);
    most = let k = s.most in omega arith;
    present = λ open_ i low inside. let o = s.present (omega arith) i low (λ l. let z = inside l in omega arith) in
        dite (ℕ_discrete (g.seat_at i) id)
        (λ e. let mine : o.0 ≡ v = some-injective _ _ (sym o.1 ∙ ap (get_elem? views) e ∙ at) in (
          w,
          ap (get_elem? (set views id w)) (indexes i ∙ e) ∙ set_there views id w v at,
          number ∙ ap (λ (x : View). x.number) (sym mine) ∙ o.2,
        ))
        (λ e. (o.0, ap (get_elem? (set views id w)) (indexes i) ∙ set_else views id (g.seat_at i) w e ∙ o.1, o.2));
    unsplit = unsplit;
    still = still;
    table = table;
  }

  -- a step of the follower m, whose phase becomes x
  pub node_step : (g : Whole) (words after : List ℕ) (views : List View) (id m : ℕ) (v : View) (x : NodeView) (t : Trail)
      → get_elem? views id ≡ some v → length after ≡ length words → v.number < p.seats → m < nodes p → m ≢ p.driver → p.seat_of m ≡ v.number
      → Seated p g words views → Seated p (with_node g m x) after (set views id (view_node v m x t))
  node_step g words after views id m v x t at same loops inside follows owns s = let k = s.knows id v at in
      seat_step g (with_node g m x) words after views id v (view_node v m x t) at same
      record {
        kept = k.kept;
        here = k.here;
        is_driver = λ e. absurd (omega arith);
        expects = k.expects;
        is_split = k.is_split;
        owns = λ n h o e. dite (ℕ_discrete n m)
            (λ q. subst (λ i. get_elem? (set v.nodes m x) i ≡ some (put g.nodes m x i)) (sym q)
            (set_there v.nodes m x (g.nodes m) (k.owns m inside follows owns) ∙ ap some (sym (put_here g.nodes m x))))
            (λ q. set_else v.nodes m n x q ∙ k.owns n h o e ∙ ap some (sym (put_else g.nodes m n x q)));
        ends = k.ends;
        owners = k.owners;
        reads = k.reads;
        looks = λ e. absurd (omega arith);
      }
      (λ j u other r. record {
        kept = r.kept;
        here = r.here;
        is_driver = r.is_driver;
        expects = r.expects;
        is_split = r.is_split;
        owns = λ n h o e. r.owns n h o e ∙ ap some (sym
            (put_else g.nodes m n x (λ q. other (sym (r.here (let z = sym e ∙ ap p.seat_of q ∙ owns in omega arith))
            ∙ ap g.seat_at (sym e ∙ ap p.seat_of q ∙ owns) ∙ k.here (omega arith)))));
        ends = r.ends;
        owners = r.owners;
        reads = r.reads;
        looks = r.looks;
      })
      (λ n h o e. put_else g.nodes m n x (λ q. let a = k.is_split loops in let b = ap p.seat_of q in omega arith) ∙ s.unsplit n h o e)
      s.still s.table (λ _. refl) refl refl s

  -- a step of the driver's seat, after which it has loaded the statuses `looks` in its last check
  pub lead_step : (g : Whole) (words after : List ℕ) (views : List View) (id : ℕ) (v : View) (x : DriverView) (t : Trail) (looks : List Found)
      → get_elem? views id ≡ some v → length after ≡ length words → v.number ≡ p.seats → t.looks ≡ looks → AreOfNodes t.looks
      → Seated p g words views → Seated p (record (with_lead g x) { looks = looks }) after (set views id (view_lead v x t))
  lead_step g words after views id v x t looks at same is_driver seen nodes_are s = let k = s.knows id v at in
      seat_step g (record (with_lead g x) { looks = looks }) words after views id v (view_lead v x t) at same
      record {
        kept = k.kept;
        here = k.here;
        is_driver = λ e. (refl, (k.is_driver e).1, seen);
        expects = k.expects;
        is_split = k.is_split;
        owns = k.owns;
        ends = k.ends;
        owners = k.owners;
        reads = k.reads;
        looks = λ _. nodes_are;
      }
      (λ j u other r. record {
        kept = r.kept;
        here = r.here;
        is_driver = λ e. absurd (other (sym (r.here (omega arith)) ∙ ap g.seat_at (e ∙ sym is_driver) ∙ k.here (omega arith)));
        expects = r.expects;
        is_split = r.is_split;
        owns = r.owns;
        ends = r.ends;
        owners = r.owners;
        reads = r.reads;
        looks = r.looks;
      })
      s.unsplit s.still s.table (λ _. refl) refl refl s

  -- nothing of the whole changes: the seat remembers something
  pub stay_step : (g : Whole) (words after : List ℕ) (views : List View) (id : ℕ) (v : View) (t : Trail) → get_elem? views id ≡ some v
      → length after ≡ length words → t.looks ≡ v.trail.looks → Seated p g words views → Seated p g after (set views id (view_trail v t))
  stay_step g words after views id v t at same seen s = let k = s.knows id v at in
      seat_step g g words after views id v (view_trail v t) at same
      record {
        kept = k.kept;
        here = k.here;
        is_driver = λ e. let z = k.is_driver e in (z.0, z.1, seen ∙ z.2);
        expects = k.expects;
        is_split = k.is_split;
        owns = k.owns;
        ends = k.ends;
        owners = k.owners;
        reads = k.reads;
        looks = λ e. subst AreOfNodes (sym seen) (k.looks e);
      }
      (λ j u _ r. r) s.unsplit s.still s.table (λ _. refl) refl refl s

  -- as many words of a link's block are read as a block has, at most
  pub reads_set : (words_read : List ℕ) (l n : ℕ) → AreRead p words_read → n ≤ (pool_at p (pool_of p l)).words → AreRead p (set words_read l n)
  reads_set words_read l n few low = record {
    links = length-set words_read l n ∙ few.links;
    few = λ i h. let size = few.links in dite (ℕ_discrete i l)
        (λ e. subst (λ j. get_or (set words_read l n) j 0 ≤ (pool_at p (pool_of p j)).words) (sym e)
        (let is : get_or (set words_read l n) l 0 ≡ n = get_or-set_same words_read l n 0 (omega arith) in omega arith))
        (λ o. let is : get_or (set words_read l n) i 0 ≡ get_or words_read i 0 = get_or-set_other words_read l i n 0 o in
        let most = few.few i h in omega arith);
  }

  -- a reader has loaded sample words
  pub words_step : (g : Whole) (words after : List ℕ) (views : List View) (id : ℕ) (v : View) (words_read : List ℕ) → get_elem? views id ≡ some v
      → length after ≡ length words → (v.number ≤ p.seats → AreRead p words_read) → Seated p g words views
      → Seated p g after (set views id (record v { words_read = words_read }))
  words_step g words after views id v words_read at same few s = let k = s.knows id v at in
      seat_step g g words after views id v (record v { words_read = words_read }) at same
      record {
        kept = k.kept;
        here = k.here;
        is_driver = k.is_driver;
        expects = k.expects;
        is_split = k.is_split;
        owns = k.owns;
        ends = k.ends;
        owners = k.owners;
        reads = few;
        looks = k.looks;
      }
      (λ j u _ r. r) s.unsplit s.still s.table (λ _. refl) refl refl s

  -- a check has loaded a status more
  pub look_step : (g : Whole) (words : List ℕ) (views : List View) (id : ℕ) (v : View) (t : Trail) → get_elem? views id ≡ some v
      → v.number ≡ p.seats → AreOfNodes t.looks → Seated p g words views → Seated p (record g { looks = t.looks }) words (set views id (view_trail v t))
  look_step g words views id v t at is_driver nodes_are s = let k = s.knows id v at in
      seat_step g (record g { looks = t.looks }) words words views id v (view_trail v t) at refl
      record {
        kept = k.kept;
        here = k.here;
        is_driver = λ e. let z = k.is_driver e in (z.0, z.1, refl);
        expects = k.expects;
        is_split = k.is_split;
        owns = k.owns;
        ends = k.ends;
        owners = k.owners;
        reads = k.reads;
        looks = λ _. nodes_are;
      }
      (λ j u other r. record {
        kept = r.kept;
        here = r.here;
        is_driver = λ e. absurd (other (sym (r.here (omega arith)) ∙ ap g.seat_at (e ∙ sym is_driver) ∙ k.here (omega arith)));
        expects = r.expects;
        is_split = r.is_split;
        owns = r.owns;
        ends = r.ends;
        owners = r.owners;
        reads = r.reads;
        looks = r.looks;
      })
      s.unsplit s.still s.table (λ _. refl) refl refl s

  -- no seat's view has the events
  pub seated_logs : (g : Whole) (words : List ℕ) (views : List View) (past inside : List Event) (late : ℕ) → Seated p g words views
      → Seated p (record g { past = past; inside = inside; late = late }) words views
  seated_logs g words views past inside late s = record {
    sound = s.sound;
    pooled = s.pooled;
    room = s.room;
    wide = s.wide;
    long = s.long;
    knows = λ j v at. let k = s.knows j v at in record {
      kept = k.kept;
      here = k.here;
      is_driver = k.is_driver;
      expects = k.expects;
      is_split = k.is_split;
      owns = k.owns;
      ends = k.ends;
      owners = k.owners;
      reads = k.reads;
      looks = k.looks;
    };
    most = s.most;
    present = s.present;
    unsplit = s.unsplit;
    still = s.still;
    table = s.table;
  }
