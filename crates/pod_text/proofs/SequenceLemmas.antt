-- The control sequence of points: its points are these, and none of its controls is at fault.
use Rattle.std.proofs.Common.{◌≡◌, ℕ, suc, ◌+◌, ◌≤◌, ◌∙◌, List, [], ◌∷◌, ◌++◌, map, refl, sym, ap, ap₂, subst, arith, All, get_or, Ok, ℤ, Bool, true, false, ◌&&◌, cond, nat_le}
use Rattle.std.specs.Prelude.{Option, Some, None, filter_map, nat_lt, is_some, is_none, option_map, option_and_then, unsigned_abs, ◌==◌}
use Rattle.std.specs.List.{AllZip, zip, enumerate_from, cons_option}
use Rattle.std.proofs.lemmas.Bool.{le-ltb, le-leb, eq-eqb}
use Rattle.std.proofs.lemmas.Int.{ints}
use Rattle.pw_lists.specs.Samples.{IsGain}
use Rattle.pod_codec.specs.declared.pod.Pod.{Pod}
use Rattle.pod_codec.specs.declared.pod.Prop.{Prop}
use Rattle.pod_codec.specs.declared.pod.Control.{Control}
use Rattle.pod_codec.specs.declared.pod.Pod.TheOpen.{Pod-F}
use Rattle.pod_codec.specs.declared.pod.Pod.TheViews.{out-Pod, out-Prop, out-Control}
use Rattle.control_sequence.specs.declared.points.Point.{Point}
use Rattle.control_sequence.specs.declared.fault.ControlFault.{ControlFault}
use Rattle.control_sequence.specs.declared.fault.ControlFault.TheVariants as f
use Rattle.control_sequence.specs.Automation.{ArePoints}
use Rattle.control_sequence.specs.Points.{has_props, carried, gain_value, point_in, fault_in, points_in, points_or}
use Rattle.control_sequence.specs.Gains.{props_of, held_gain, gain_in, gain_of}
use Rattle.pod_text.specs.GainSequence.{IsInt, HasGain, IsGainObject, IsControlOf, IsWith, HasControls}

-- the properties of a gain's object
object_props : (g : ℤ) (o : Pod-F Pod Control Prop) → IsGainObject g o → (props : List Prop) × (props_of o ≡ Some props) × HasGain g props
object_props g (Pod-F.Object object id props) is =
    (props, ap (λ (n : ℕ). cond (n == 262146) (Some props) None) is.0, is.2)
object_props g other is = absurd is

-- an Int in range is a gain
int_gain : (g : ℤ) (o : Pod-F Pod Control Prop) → IsInt g o → IsGain g → gain_in o ≡ Some g
int_gain g (Pod-F.Int n) is gain =
    let small : unsigned_abs g ≤ 32767 = omega (arith, ints) in
    ap (λ (m : ℤ). cond (nat_le (unsigned_abs m) 32767) (Some m) None) is
    ∙ ap (λ (b : Bool). cond b (Some g) None) (le-leb (unsigned_abs g) 32767 small)
int_gain g other is gain = absurd is

-- the value of the first gain
held_value : (g : ℤ) (props : List Prop) → HasGain g props → IsGain g → (v : Pod) × (held_gain props ≡ Some v) × (gain_of v ≡ Some g)
held_value g [] has gain = absurd has
held_value g (p ∷ []) has gain = (
  (out-Prop p).value,
  ap (λ (n : ℕ). option_map (λ (q : Prop). (out-Prop q).value) (cond (n == 16777217) (Some p) None)) has.0,
  int_gain g (out-Pod (out-Prop p).value) has.2 gain,
)
held_value g (p ∷ q ∷ more) has gain = absurd has

-- what a control of a point carries
pub record Carries (p : Point) (c : Control) : Type 0 where
  pub kind : has_props c ≡ true
  pub props : List Prop
  pub carried_is : carried c ≡ Some props
  pub value : Pod
  pub value_is : gain_value c ≡ Some value
  pub point_is : point_in c ≡ Some p

pub carries : (p : Point) (c : Control) → IsControlOf p c → IsGain p.g → Carries p c
carries p c is gain =
    let o = object_props p.g (out-Pod (out-Control c).value) is.2 in
    let v = held_value p.g o.0 o.2 gain in
    let kind : has_props c ≡ true = eq-eqb (out-Control c).kind 1 is.1 in
    let carried_is : carried c ≡ Some o.0 =
    ap (λ (b : Bool). cond b (props_of (out-Pod (out-Control c).value)) None) kind ∙ o.1 in
    let value_is : gain_value c ≡ Some v.0 = ap (option_and_then held_gain) carried_is ∙ v.1 in
    let point_is : point_in c ≡ Some p =
    ap (λ (x : Option Pod). option_map (λ (g : ℤ). record { offset = (out-Control c).offset; g = g }) (option_and_then gain_of x)) value_is
    ∙ ap (λ (x : Option ℤ). option_map (λ (g : ℤ). record { offset = (out-Control c).offset; g = g }) x) v.2
    ∙ ap (λ (n : ℕ). Some (record { offset = n; g = p.g })) is.0 in
    record { kind = kind; props = o.0; carried_is = carried_is; value = v.0; value_is = value_is; point_is = point_is }

-- the fault of a control by the answers to its tests
fault_by : ℕ → Bool → Bool → Option (List Prop) → Option Pod → Option Point → Option ControlFault
fault_by i falls has held value point =
    cond falls (Some (f.OffsetFalls i))
    (cond (has && is_none held) (Some (f.NotProps i)) (cond (is_some value && is_none point) (Some (f.GainForm i)) None))

pub no_fault : (i before : ℕ) (p : Point) (c : Control) → IsControlOf p c → Carries p c → before ≤ p.offset → fault_in i before c ≡ None
unfolding fault_by
no_fault i before p c is k le =
    let falls : nat_lt (out-Control c).offset before ≡ false = le-ltb (out-Control c).offset before (omega (arith, is.0)) in
    ap (λ (b : Bool). fault_by i b (has_props c) (carried c) (gain_value c) (point_in c)) falls
    ∙ ap (λ (b : Bool). fault_by i false b (carried c) (gain_value c) (point_in c)) k.kind
    ∙ ap (λ (o : Option (List Prop)). fault_by i false true o (gain_value c) (point_in c)) k.carried_is
    ∙ ap (λ (o : Option Pod). fault_by i false true (Some k.props) o (point_in c)) k.value_is
    ∙ ap (λ (o : Option Point). fault_by i false true (Some k.props) (Some k.value) o) k.point_is

-- the faults of controls from this place on, after one with this offset
abbrev faults_from : ℕ → ℕ → List Control → List ControlFault
faults_from i before controls = filter_map (λ e. fault_in e.0 e.1.0 e.1.1)
    (enumerate_from i (zip (before ∷ map (λ c. (out-Control c).offset) controls) controls))

law_from : (i before : ℕ) (points : List Point) (controls : List Control) → AllZip IsControlOf points controls
    → ArePoints points → All (λ p. before ≤ p.offset) points
    → (filter_map point_in controls ≡ points) × (faults_from i before controls ≡ [])
law_from i before [] [] zip are above = (refl, refl)
law_from i before [] (c ∷ cs) zip are above = absurd zip
law_from i before (p ∷ ps) [] zip are above = absurd zip
law_from i before (p ∷ ps) (c ∷ cs) zip are above =
    let k = carries p c zip.0 (are.0 0 p (omega arith)) in
    let rest = law_from (i + 1) (out-Control c).offset ps cs zip.1
    (λ n d l. are.0 (suc n) d (omega arith), λ n m d l h. are.1 (suc n) (suc m) d (omega arith) (omega arith))
    (λ n d l. let le : p.offset ≤ (get_or ps n d).offset = are.1 0 (suc n) d (omega arith) (omega arith) in
    omega (arith, zip.0.0, le)) in (
      ap₂ cons_option k.point_is rest.0,
      ap₂ cons_option (no_fault i before p c zip.0 k (above 0 p (omega arith))) rest.1,
    )

-- what is read of the sequence of points
pub sequence_law : (points : List Point) (o : Pod-F Pod Control Prop) → HasControls points o → ArePoints points → points_in o ≡ Ok points
sequence_law points (Pod-F.Sequence unit controls) has are =
    let k = law_from 0 0 points controls has.1 are (λ n d l. omega arith) in
    ap₂ points_or k.0 k.1
sequence_law points other has are = absurd has

-- one control more
pub zip_push : (ps : List Point) (cs : List Control) (p : Point) (c : Control) → AllZip IsControlOf ps cs → IsControlOf p c
    → AllZip IsControlOf (ps ++ p ∷ []) (cs ++ c ∷ [])
zip_push [] [] p c h is = (is, tt)
zip_push [] (d ∷ ds) p c h is = absurd h
zip_push (q ∷ qs) [] p c h is = absurd h
zip_push (q ∷ qs) (d ∷ ds) p c h is = (h.0, zip_push qs ds p c h.1 is)

-- a sequence of the controls of points is theirs
pub with_controls : (points : List Point) (controls : List Control) (o : Pod-F Pod Control Prop) → AllZip IsControlOf points controls
    → IsWith controls o → HasControls points o
with_controls points controls (Pod-F.Sequence unit cs) zip is = (is.0, subst (AllZip IsControlOf points) (sym is.1) zip)
with_controls points controls other zip is = absurd is
