-- Laws of `specs/Left.antt`: the sum over the dependencies of a node is the sum over all nodes.
use Rattle.std.proofs.Common.{◌≡◌, ℕ, zero, suc, ◌+◌, ◌<◌, ◌≤◌, Bool, true, false, List, [], ◌∷◌, ◌++◌, cond, eqb, drop, refl}
use Rattle.std.proofs.Common.{sym, ap, ◌∙◌, arith, eq-eqb, ne_eqb}
use mathlib.Core.Logic.{dite}
use native.Mathlib.Decide.{ℕ_discrete}
use Rattle.board_rule.specs.declared.view.Phase.{Phase}
use Rattle.board_rule.specs.declared.view.Phase.TheVariants.{Idle, Awake, StartDrawn, Running, Done, FinishDrawn, Telling}
use Rattle.board_rule.specs.declared.view.DriverPhase.{DriverPhase}
use Rattle.board_rule.specs.declared.view.DriverPhase.TheVariants as drives
use Rattle.board_rule.specs.Sums.{total, times}
use Rattle.board_rule.specs.Layout.{BoardLayout, nodes}
use Rattle.board_rule.specs.activation.Phases.{phase_rest, drive_rest}
use Rattle.board_rule.specs.activation.Left.{dependencies_below, left_of}
use Rattle.board_rule.specs.View.{Whole}
use Rattle.board_rule.specs.activation.ActivationRule.{progress, left, Runs}
use Rattle.board_rule.proofs.RunLemmas.{sum_left, Sums}

pub left_of-append : (t : ℕ → ℕ) (xs ys : List ℕ) → left_of t (xs ++ ys) ≡ left_of t xs + left_of t ys
left_of-append t [] ys = omega arith
left_of-append t (x ∷ xs) ys = let e = left_of-append t xs ys in omega arith

below_is : (p : BoardLayout) (n : ℕ) (t : ℕ → ℕ) (k : ℕ) → ((m : ℕ) → m < k → t m ≤ times n (p.targets m))
    → left_of t (dependencies_below p n k) ≡ total t k
below_is p n t zero h = refl
below_is p n t (suc k) h = let ih = below_is p n t k (λ m l. h m (omega arith)) in let here = h k (omega arith) in
    let a = left_of-append t (dependencies_below p n k) (cond (eqb (times n (p.targets k)) 0) [] (k ∷ [])) in
    dite (ℕ_discrete (times n (p.targets k)) 0)
    (λ q. let b : left_of t (cond (eqb (times n (p.targets k)) 0) [] (k ∷ [])) ≡ 0 =
    ap (λ b. left_of t (cond b [] (k ∷ []))) (eq-eqb (times n (p.targets k)) 0 q) in omega arith)
    (λ q. let b : left_of t (cond (eqb (times n (p.targets k)) 0) [] (k ∷ [])) ≡ t k + 0 =
    ap (λ b. left_of t (cond b [] (k ∷ []))) (ne_eqb (times n (p.targets k)) 0 q) in omega arith)

-- what a node has yet to lower is a part of its targets
times_cond : (n x : ℕ) (b : Bool) (k : ℕ) → k ≤ cond b 1 0 + k
times_cond n x true k = omega arith
times_cond n x false k = omega arith

times_drop : (n i : ℕ) (ts : List ℕ) → times n (drop i ts) ≤ times n ts
times_drop n zero ts = omega arith
times_drop n (suc i) [] = omega arith
times_drop n (suc i) (t ∷ ts) = let a = times_drop n i ts in let b = times_cond n t (eqb t n) (times n ts) in omega arith

times_none : (n : ℕ) (b : Bool) (ts : List ℕ) → times n (cond b ts []) ≤ times n ts
times_none n true ts = omega arith
times_none n false ts = omega arith

phase_part : (n : ℕ) (ts : List ℕ) (now : Bool) (f : Phase) → times n (phase_rest ts now f) ≤ times n ts
phase_part n ts now Idle = times_none n now ts
phase_part n ts now Awake = times_none n now ts
phase_part n ts now StartDrawn = times_none n now ts
phase_part n ts now Running = times_none n now ts
phase_part n ts now Done = times_none n now ts
phase_part n ts now FinishDrawn = times_none n now ts
phase_part n ts now (Telling i o) = times_drop n i ts

drive_part : (n : ℕ) (ts : List ℕ) (d : DriverPhase) → times n (drive_rest ts d) ≤ times n ts
drive_part n ts drives.Between = omega arith
drive_part n ts drives.BeginDrawn = omega arith
drive_part n ts (drives.Reset i) = omega arith
drive_part n ts (drives.Half i) = omega arith
drive_part n ts (drives.Kick i o) = times_drop n i ts
drive_part n ts drives.Waiting = omega arith
drive_part n ts drives.Checking = omega arith
drive_part n ts drives.LateStored = omega arith
drive_part n ts drives.Awake = omega arith
drive_part n ts drives.StartDrawn = omega arith
drive_part n ts drives.Running = omega arith
drive_part n ts drives.Done = omega arith
drive_part n ts drives.FinishDrawn = omega arith
drive_part n ts drives.FinishStored = omega arith
drive_part n ts drives.EndDrawn = omega arith

both_part : (n : ℕ) (ts xs ys : List ℕ) (b : Bool) → times n xs ≤ times n ts → times n ys ≤ times n ts → times n (cond b xs ys) ≤ times n ts
both_part n ts xs ys true h k = h
both_part n ts xs ys false h k = k

module _ (p : BoardLayout) where
  pub left_is : (g : Whole) (n : ℕ) → left p (progress p g) n ≡ sum_left (nodes p) (progress p g) n
  left_is g n = below_is p n (λ m. times n ((progress p g).rest m)) (nodes p)
      (λ m _. both_part n (p.targets m) (drive_rest (p.targets m) g.lead.drive)
      (phase_rest (p.targets m) (eqb (g.nodes m).next g.lead.cycle) (g.nodes m).phase) (eqb m p.driver)
      (drive_part n (p.targets m) g.lead.drive) (phase_part n (p.targets m) (eqb (g.nodes m).next g.lead.cycle) (g.nodes m).phase))

  -- from the rule's form to the form of the lemmas on runs, and back
  pub to_sums : (g : Whole) (c : ℕ) (ws : List ℕ) → Runs p c (progress p g) ws → Sums p.shape c (progress p g) ws
  to_sums g c ws r = record {
    node = λ n h. let o = r.node n h in record {
      kind = o.kind;
      status_is = o.status_is;
      kinds = o.kinds;
      counts = o.counts ∙ left_is g n;
      waits = o.waits;
      owed = o.owed;
      paid = o.paid;
      asleep = o.asleep;
      awake = o.awake;
      done = o.done;
    };
  }

  pub from_sums : (g : Whole) (c : ℕ) (ws : List ℕ) → Sums p.shape c (progress p g) ws → Runs p c (progress p g) ws
  from_sums g c ws r = record {
    node = λ n h. let o = r.node n h in record {
      kind = o.kind;
      status_is = o.status_is;
      kinds = o.kinds;
      counts = o.counts ∙ sym (left_is g n);
      waits = o.waits;
      owed = o.owed;
      paid = o.paid;
      asleep = o.asleep;
      awake = o.awake;
      done = o.done;
    };
  }
