-- Points and faults of controls, one after the other.
use Rattle.std.proofs.Common.{◌≡◌, ℕ, suc, ◌+◌, ◌≤◌, ◌∙◌, List, [], ◌∷◌, ◌++◌, map, Option, Some, None, refl, sym, ap, ap₂, arith, append_assoc, append-nil, option_to_list, ℤ, All, Bool, true, false, cond, nat_le, subst, drop, length}
use Rattle.std.proofs.Common.{get_or, ◌<◌, Ok, Err, drop_of_length-le}
use Rattle.std.specs.Prelude.{filter_map, option_map, option_and_then, unsigned_abs}
use Rattle.std.proofs.lemmas.Bool.{leb-true}
use Rattle.std.proofs.lemmas.Int.{ints}
use Rattle.std.proofs.lemmas.Option.{option_and_then_some}
use Rattle.std.proofs.lemmas.List.Elements.{All-push}
use Rattle.std.proofs.lemmas.List.Quantifiers.{all_pairs_push}
use Rattle.std.proofs.Math.Seq.{drop-cons}
use Rattle.std.specs.List.{zip, enumerate_from, cons_option}
use Rattle.pod_codec.specs.declared.pod.Pod.{Pod}
use Rattle.pod_codec.specs.declared.pod.Prop.{Prop}
use Rattle.pod_codec.specs.declared.pod.Control.{Control}
use Rattle.pod_codec.specs.declared.pod.Pod.TheOpen.{Pod-F}
use Rattle.pod_codec.specs.declared.pod.Pod.TheViews.{out-Pod, out-Control}
use Rattle.control_sequence.specs.declared.points.Point.{Point}
use Rattle.control_sequence.specs.declared.fault.ControlFault.{ControlFault}
use Rattle.control_sequence.specs.Points.{gain_in, gain_of, gain_value, point_in, fault_in, faults_of, points_or}
use Rattle.control_sequence.specs.Automation.{ArePoints}
use Rattle.pw_lists.specs.Samples.{IsGain}

-- the faults of controls from this place on, after one with this offset
abbrev pub faults_from : ℕ → ℕ → List Control → List ControlFault
faults_from i before controls = filter_map (λ e. fault_in e.0 e.1.0 e.1.1)
    (enumerate_from i (zip (before ∷ map (λ c. (out-Control c).offset) controls) controls))

-- one control more without a fault
pub faults_step : (i before : ℕ) (c : Control) (rest : List Control) → fault_in i before c ≡ None
    → faults_from i before (c ∷ rest) ≡ faults_from (i + 1) (out-Control c).offset rest
faults_step i before c rest none =
    ap (λ (f : Option ControlFault). cons_option f (faults_from (i + 1) (out-Control c).offset rest)) none

-- the first fault
pub faults_first : (i before : ℕ) (c : Control) (rest : List Control) (fault : ControlFault) → fault_in i before c ≡ Some fault
    → faults_from i before (c ∷ rest) ≡ fault ∷ faults_from (i + 1) (out-Control c).offset rest
faults_first i before c rest fault some =
    ap (λ (f : Option ControlFault). cons_option f (faults_from (i + 1) (out-Control c).offset rest)) some

-- one control more, with its point if it has one
pub points_step : (items : List Point) (c : Control) (rest : List Control) (q : Option Point) → point_in c ≡ q
    → (items ++ option_to_list q) ++ filter_map point_in rest ≡ items ++ filter_map point_in (c ∷ rest)
points_step items c rest None none = ap₂ (λ (xs : List Point) (q : Option Point). xs ++ cons_option q (filter_map point_in rest))
    (append-nil items) (sym none)
points_step items c rest (Some p) some =
    append_assoc items (p ∷ []) (filter_map point_in rest)
    ∙ ap (λ (q : Option Point). items ++ cons_option q (filter_map point_in rest)) (sym some)

-- a gain is in range
tested : (b : Bool) (n g : ℤ) → cond b (Some n) None ≡ Some g → (b ≡ true) × (n ≡ g)
tested true n g is = (refl, cc)
tested false n g is = absurd cc

gain_sound : (v : Pod-F Pod Control Prop) (g : ℤ) → gain_in v ≡ Some g → IsGain g
gain_sound (Pod-F.Int n) g is =
    let k = tested (nat_le (unsigned_abs n) 32767) n g is in
    let small = leb-true (unsigned_abs n) 32767 k.0 in
    subst IsGain k.1 (omega (arith, ints, small), omega (arith, ints, small))
gain_sound other g is = absurd cc

-- the point of a control has its offset, and a gain in range
made : (offset : ℕ) (o : Option ℤ) (p : Point) → option_map (λ g. record { offset = offset; g = g }) o ≡ Some p
    → (o ≡ Some p.g) × (p.offset ≡ offset)
made offset None p is = absurd cc
made offset (Some g) p is =
    let e : record { offset = offset; g = g } ≡ p = cc in (ap (λ (x : Point). Some x.g) e, sym (ap (λ (x : Point). x.offset) e))

point_sound : (c : Control) (p : Point) → point_in c ≡ Some p → IsGain p.g × (p.offset ≡ (out-Control c).offset)
point_sound c p is =
    let k = made (out-Control c).offset (option_and_then gain_of (gain_value c)) p is in
    (option_and_then_some gain_of (gain_value c) p.g k.0 (λ v at gain. gain_sound (out-Pod v) p.g gain), k.1)

pub points_sound : (items : List Point) (before : ℕ) (c : Control) (q : Option Point) → point_in c ≡ q → ArePoints items
    → All (λ p. p.offset ≤ before) items → before ≤ (out-Control c).offset
    → ArePoints (items ++ option_to_list q) × All (λ p. p.offset ≤ (out-Control c).offset) (items ++ option_to_list q)
points_sound items before c None none sound below rise =
    subst (λ (xs : List Point). ArePoints xs × All (λ p. p.offset ≤ (out-Control c).offset) xs) (sym (append-nil items))
    (sound, λ k d l. omega (arith, below k d l))
points_sound items before c (Some p) some sound below rise =
    let k = point_sound c p some in (
      (
        All-push (λ p. IsGain p.g) items p sound.0 k.0,
        all_pairs_push (λ p q. p.offset ≤ q.offset) items p sound.1 (λ i d l. omega (arith, below i d l, k.1)),
      ),
      All-push (λ p. p.offset ≤ (out-Control c).offset) items p (λ i d l. omega (arith, below i d l)) (omega (arith, k.1)),
    )

-- one control more that has no fault
pub record IsStep (all : List Control) (i : ℕ) (items : List Point) (before : ℕ) : Type 0 where
  pub points : items ++ filter_map point_in (drop i all) ≡ filter_map point_in all
  pub faults : faults_from i before (drop i all) ≡ faults_of all
  pub sound : ArePoints items
  pub below : All (λ p. p.offset ≤ before) items

pub step_kept : (all : List Control) (i : ℕ) (items new : List Point) (before : ℕ) (c : Control) → IsStep all i items before
    → i < length all → c ≡ get_or all i c → new ≡ items ++ option_to_list (point_in c) → fault_in i before c ≡ None
    → before ≤ (out-Control c).offset → IsStep all (i + 1) new (out-Control c).offset
step_kept all i items new before c so here is more none rise =
    let one : suc i ≡ i + 1 = omega arith in
    let split : drop i all ≡ c ∷ drop (i + 1) all =
    drop-cons all i c here ∙ ap (λ (x : Control). x ∷ drop (suc i) all) (sym is) ∙ ap (λ (n : ℕ). c ∷ drop n all) one in
    let kept = points_sound items before c (point_in c) refl so.sound so.below rise in
    record {
      points = ap (λ xs. xs ++ filter_map point_in (drop (i + 1) all)) more
          ∙ points_step items c (drop (i + 1) all) (point_in c) refl
          ∙ ap (λ cs. items ++ filter_map point_in cs) (sym split) ∙ so.points;
      faults = sym (faults_step i before c (drop (i + 1) all) none) ∙ ap (faults_from i before) (sym split) ∙ so.faults;
      sound = subst ArePoints (sym more) kept.0;
      below = subst (All (λ p. p.offset ≤ (out-Control c).offset)) (sym more) kept.1;
    }

-- a control at fault is the first
pub first_fault : (all : List Control) (i : ℕ) (items : List Point) (before : ℕ) (c : Control) (fault : ControlFault)
    → IsStep all i items before → i < length all → c ≡ get_or all i c → fault_in i before c ≡ Some fault
    → points_or (filter_map point_in all) (faults_of all) ≡ Err fault
first_fault all i items before c fault so here is some =
    let split : drop i all ≡ c ∷ drop (suc i) all =
    drop-cons all i c here ∙ ap (λ (x : Control). x ∷ drop (suc i) all) (sym is) in
    ap (points_or (filter_map point_in all))
    (sym so.faults ∙ ap (faults_from i before) split ∙ faults_first i before c (drop (suc i) all) fault some)

-- all controls were looked at
pub no_fault : (all : List Control) (i : ℕ) (items : List Point) (before : ℕ) → IsStep all i items before → length all ≤ i
    → points_or (filter_map point_in all) (faults_of all) ≡ Ok items
no_fault all i items before so done =
    let none : drop i all ≡ [] = drop_of_length-le all done in
    let faults : faults_of all ≡ [] = sym so.faults ∙ ap (faults_from i before) none in
    let points : filter_map point_in all ≡ items =
    sym so.points ∙ ap (λ cs. items ++ filter_map point_in cs) none ∙ append-nil items in
    ap₂ points_or points faults

-- before the first
pub step_start : (all : List Control) → IsStep all 0 [] 0
step_start all = record {
  points = refl;
  faults = refl;
  sound = (λ k d l. absurd (omega arith), λ i j d l m. absurd (omega arith));
  below = λ k d l. absurd (omega arith);
}
