-- ONE PART: two answers of a part that are allowed, neither out of memory, are the same; of loads, of what comes next,
-- and of the value and the format of a file.
use Rattle.std.proofs.Common.{◌≡◌, ℕ, List, [], ◌∷◌, length, sym, ap, subst, ◌∙◌, inl, inr, ⊎_elim, arith}
use Rattle.std.specs.Prelude.{Result, Ok, Err}
use Rattle.pw_lists.specs.declared.limit.Which.{Which}
use Rattle.pw_outside.specs.Files.{Names}
use Rattle.pod_codec.specs.declared.pod.Pod.{Pod}
use Rattle.pod_codec.specs.declared.pod.Pod.TheViews.{out-Pod}
use Rattle.pod_codec.specs.Spelling.{FrontSpells}
use Rattle.pod_codec.proofs.PodReadings.{reading_of, only_reading}
use Rattle.format_filter.proofs.AnswerLemmas.{object_fault}
use Rattle.format_filter.proofs.OneFormatLemmas.{formats_one, object_faultless}
use Rattle.run_results.specs.declared.status.Status.{Status}
use Rattle.run_results.specs.declared.status.Status.TheVariants as S
use Rattle.run_results.specs.declared.status.PodWhy.TheVariants as P
use Rattle.run_results.specs.Statuses.{statuses}
use Rattle.command_frame.specs.Answer.{ended, gone_on, load_outcome}
use Rattle.command_frame.specs.Allowed.Binds.{short, stops, goes}
use Rattle.pw_top.specs.Answer.{Expected}
use Rattle.pw_top.specs.Allowed.{Part, IsLoad, Binds, Gives}
use Rattle.pw_top.specs.PodFile.{pod_refusal, HoldsPod, IsReadFrom, HoldsAs}
use Rattle.pw_top.specs.FormatFile.{IsFormatIn, HoldsFormat}

-- out of memory
abbrev pub IsShort : {T : Type 0} → Expected T → Type 0
IsShort e = e.outcome ≡ Err S.Memory

-- two answers that are allowed, neither out of memory, are the same
pub record HasOne {T : Type 0} (P : Expected T → Type 0) : Type 0 where
  pub one : (a b : Expected T) → P a → P b → ¬ IsShort a → ¬ IsShort b → a ≡ b

-- so are two outcomes
abbrev pub OneOutcome : {T : Type 0} → (Result T Status → Type 0) → Type 0
OneOutcome {T} Q = (x y : Result T Status) → Q x → Q y → x ≡ y

parts_are : {T : Type 0} (a b : Expected T) → a.loads ≡ b.loads → a.outcome ≡ b.outcome → a ≡ b
parts_are {T} a b l o = ap (λ (ls : List ℕ). let e : Expected T = record { loads = ls; outcome = a.outcome } in e) l
    ∙ ap (λ (x : Result T Status). let e : Expected T = record { loads = b.loads; outcome = x } in e) o

pub part_one : {T : Type 0} (loads : List ℕ) (Q : Result T Status → Type 0) → OneOutcome Q → HasOne (Part loads Q)
part_one loads Q one = record {
  one = λ a b h k na nb. parts_are a b (h.0 ∙ sym k.0) (⊎_elim
      (λ q. ⊎_elim (λ r. one a.outcome b.outcome q r) (λ memory. absurd (nb memory)) k.1)
      (λ memory. absurd (na memory)) h.1);
}

pub outcomes_equal : {T : Type 0} (x : Result T Status) → OneOutcome (λ outcome. outcome ≡ x)
outcomes_equal x y z h k = h ∙ sym k

-- what is given is one
abbrev value_or : {T E : Type 0} → T → Result T E → T
value_or d (Ok x) = x
value_or d (Err e) = d

pub ok_is : {T E : Type 0} (x y : T) (r : Result T E) → r ≡ Ok x → r ≡ Ok y → x ≡ y
ok_is x y r h k = ap (value_or x) (sym h ∙ k)

-- a part with one answer gives one value
pub gave_one : {T : Type 0} (P : Expected T → Type 0) → HasOne P → (x y : T) → Gives P x → Gives P y → x ≡ y
gave_one P one x y g h =
    let gx = g.gives in
    let hy = h.gives in
    let same = one.one g.part h.part g.allowed h.allowed (λ m. cc) (λ m. cc) in
    ok_is x y h.part.outcome (sym (ap (λ e. e.outcome) same) ∙ gx) hy

-- what comes next after one part, of two answers: they are in a relation where what came next is
module _ {T U : Type 0} (P : Expected T → Type 0) (next other : T → Expected U → Type 0) (R : Expected U → Expected U → Type 0)
    (equal : (a b : Expected U) → a ≡ b → R a b) (behind : (loads : List ℕ) (r s : Expected U) → R r s → R (gone_on loads r) (gone_on loads s))
    (first : HasOne P) (rest : (e : Expected T) (x : T) → P e → e.outcome ≡ Ok x → (r s : Expected U) → next x r → other x s
    → ¬ IsShort r → ¬ IsShort s → R r s) where
  refusal_is : (f g : Expected T) (s t : Status) (a b : Expected U) → P f → P g → f.outcome ≡ Err s → g.outcome ≡ Err t
      → a ≡ ended f.loads s → b ≡ ended g.loads t → ¬ IsShort a → ¬ IsShort b → a ≡ b
  refusal_is f g s t a b p q fs gt ea eb na nb =
      let nf : ¬ IsShort f = λ m. na (ap (λ e. e.outcome) ea ∙ (let same : s ≡ S.Memory = cc in ap Err same)) in
      let ng : ¬ IsShort g = λ m. nb (ap (λ e. e.outcome) eb ∙ (let same : t ≡ S.Memory = cc in ap Err same)) in
      let same = first.one f g p q nf ng in
      let status : s ≡ t = cc in
      ea ∙ ap (λ (e : Expected T). ended e.loads s) same ∙ ap (λ (u : Status). ended g.loads u) status ∙ sym eb

  crossed : (f g : Expected T) (x : T) (t : Status) (b : Expected U) → P f → P g → f.outcome ≡ Ok x → g.outcome ≡ Err t
      → b ≡ ended g.loads t → ¬ IsShort b → ⊥
  crossed f g x t b p q fx gt eb nb =
      let nf : ¬ IsShort f = λ m. cc in
      let ng : ¬ IsShort g = λ m. nb (ap (λ e. e.outcome) eb ∙ (let same : t ≡ S.Memory = cc in ap Err same)) in
      let same = first.one f g p q nf ng in
      cc

  both_go : (f g : Expected T) (x y : T) (r s a b : Expected U) → P f → P g → f.outcome ≡ Ok x → g.outcome ≡ Ok y → next x r → other y s
      → a ≡ gone_on f.loads r → b ≡ gone_on g.loads s → ¬ IsShort a → ¬ IsShort b → R a b
  both_go f g x y r s a b p q fx gy nx ny ea eb na nb =
      let same = first.one f g p q (λ m. cc) (λ m. cc) in
      let value : x ≡ y = ok_is x y g.outcome (sym (ap (λ (e : Expected T). e.outcome) same) ∙ fx) gy in
      let after = rest g y q gy r s (subst (λ z. next z r) value nx) ny
      (λ m. na (ap (λ e. e.outcome) ea ∙ m)) (λ m. nb (ap (λ e. e.outcome) eb ∙ m)) in
      let here : gone_on g.loads r ≡ a = ap (λ (e : Expected T). gone_on e.loads r) (sym same) ∙ sym ea in
      subst (λ (z : Expected U × Expected U). R z.0 z.1) (λ i. (here i, sym eb i)) (behind g.loads r s after)

  pub binds_related : (a b : Expected U) → Binds P next a → Binds P other b → ¬ IsShort a → ¬ IsShort b → R a b
  binds_related a b (short f p e) k na nb = absurd (na (ap (λ x. x.outcome) e))
  binds_related a b (stops f s p fs e) (short g q d) na nb = absurd (nb (ap (λ x. x.outcome) d))
  binds_related a b (goes f x r p fx nx e) (short g q d) na nb = absurd (nb (ap (λ x. x.outcome) d))
  binds_related a b (stops f s p fs e) (stops g t q gt d) na nb = equal a b (refusal_is f g s t a b p q fs gt e d na nb)
  binds_related a b (stops f s p fs e) (goes g y w q gy ny d) na nb = absurd (crossed g f y s a q p gy fs e na)
  binds_related a b (goes f x r p fx nx e) (stops g t q gt d) na nb = absurd (crossed f g x t b p q fx gt d nb)
  binds_related a b (goes f x r p fx nx e) (goes g y w q gy ny d) na nb = both_go f g x y r w a b p q fx gy nx ny e d na nb

-- what comes next, where there is one answer after all that the first part gives
module _ {T U : Type 0} (P : Expected T → Type 0) (next : T → Expected U → Type 0) (first : HasOne P)
    (rest : (e : Expected T) (x : T) → P e → e.outcome ≡ Ok x → HasOne (next x)) where
  pub binds_given : HasOne (Binds P next)
  binds_given = record {
    one = binds_related P next next (λ a b. a ≡ b) (λ a b e. e) (λ loads r s e. ap (gone_on loads) e) first
        (λ e x p is r s h k nr ns. (rest e x p is).one r s h k nr ns);
  }

-- and after whatever it may be
pub binds_one : {T U : Type 0} (P : Expected T → Type 0) (next : T → Expected U → Type 0) → HasOne P → ((x : T) → HasOne (next x))
    → HasOne (Binds P next)
binds_one P next first rest = binds_given P next first (λ e x p is. rest x)

-- what a part gave
pub part_gave : {T : Type 0} (loads : List ℕ) (Q : Result T Status → Type 0) (e : Expected T) (x : T) → Part loads Q e → e.outcome ≡ Ok x
    → Q (Ok x)
part_gave loads Q e x p is = ⊎_elim (λ q. subst Q is q) (λ memory. cc) p.1

-- and what was after it
pub record Went {T U : Type 0} (P : Expected T → Type 0) (next : T → Expected U → Type 0) (x : U) : Type 0 where
  pub first : Expected T
  pub given : T
  pub allowed : P first
  pub gave : first.outcome ≡ Ok given
  pub rest : Expected U
  pub after : next given rest
  pub gives : rest.outcome ≡ Ok x

pub went : {T U : Type 0} (P : Expected T → Type 0) (next : T → Expected U → Type 0) (e : Expected U) (x : U) → Binds P next e
    → e.outcome ≡ Ok x → Went P next x
went P next e x (short f p d) is = absurd (let no = sym (ap (λ a. a.outcome) d) ∙ is in cc)
went P next e x (stops f s p fs d) is = absurd (let no = sym (ap (λ a. a.outcome) d) ∙ is in cc)
went P next e x (goes f y r p fy ny d) is = record {
  first = f;
  given = y;
  allowed = p;
  gave = fy;
  rest = r;
  after = ny;
  gives = sym (ap (λ a. a.outcome) d) ∙ is;
}

pub load_one : (names : Names) (place : ℕ) (name : List ℕ) (limit : ℕ) (which : Which) → HasOne (IsLoad names place name limit which)
load_one names place name limit which =
    let loaded = load_outcome statuses names place name limit (S.Limit place which) in
    part_one (place ∷ []) (λ outcome. outcome ≡ loaded) (outcomes_equal loaded)

-- the value of a file, and its format
module _ (place : ℕ) (bytes : List ℕ) where
  sizes_one : (p q : Pod) (m n : ℕ) → FrontSpells bytes p m → FrontSpells bytes q n → (p ≡ q) × (m ≡ n)
  sizes_one p q m n h k =
      let e = ok_is (p, m) (q, n) (reading_of bytes) (sym (only_reading bytes (Ok (p, m)) h))
      (sym (only_reading bytes (Ok (q, n)) k)) in
      (ap (λ x. x.0) e, ap (λ x. x.1) e)

  pub pod_one : OneOutcome (HoldsPod place bytes)
  pod_one (Ok p) (Ok q) h k = ap Ok (sizes_one p q (length bytes) (length bytes) h k).0
  pod_one (Ok p) (Err s) h (inl wrong) =
      let both = only_reading bytes (Ok (p, length bytes)) h ∙ sym (only_reading bytes (Err wrong.0) wrong.1) in cc
  pod_one (Ok p) (Err s) h (inr more) =
      let same = (sizes_one p more.0 (length bytes) more.1 h more.2).1 in absurd (omega (arith, same, more.3))
  pod_one (Err s) (Ok q) (inl wrong) k =
      let both = only_reading bytes (Ok (q, length bytes)) k ∙ sym (only_reading bytes (Err wrong.0) wrong.1) in cc
  pod_one (Err s) (Ok q) (inr more) k =
      let same = (sizes_one q more.0 (length bytes) more.1 k more.2).1 in absurd (omega (arith, same, more.3))
  pod_one (Err s) (Err t) (inl wrong) (inl bad) =
      let both = only_reading bytes (Err wrong.0) wrong.1 ∙ sym (only_reading bytes (Err bad.0) bad.1) in
      let fault : wrong.0 ≡ bad.0 = cc in
      ap Err (wrong.2 ∙ ap (pod_refusal place) fault ∙ sym bad.2)
  pod_one (Err s) (Err t) (inl wrong) (inr more) =
      let both = only_reading bytes (Ok (more.0, more.1)) more.2 ∙ sym (only_reading bytes (Err wrong.0) wrong.1) in cc
  pod_one (Err s) (Err t) (inr more) (inl wrong) =
      let both = only_reading bytes (Ok (more.0, more.1)) more.2 ∙ sym (only_reading bytes (Err wrong.0) wrong.1) in cc
  pod_one (Err s) (Err t) (inr more) (inr other) =
      let same = (sizes_one more.0 other.0 more.1 other.1 more.2 other.2).1 in
      ap Err (more.4 ∙ ap (λ n. S.Pod place (P.Rest n)) same ∙ sym other.4)

  format_in_one : (pod : Pod) → OneOutcome (IsFormatIn place pod)
  format_in_one pod (Ok f) (Ok g) h k = ap Ok (formats_one (out-Pod pod) f g h k)
  format_in_one pod (Ok f) (Err s) h k = absurd (object_faultless (out-Pod pod) f k.0 h k.1)
  format_in_one pod (Err s) (Ok g) h k = absurd (object_faultless (out-Pod pod) g h.0 k h.1)
  format_in_one pod (Err s) (Err t) h k =
      let fault = object_fault (out-Pod pod) h.0 k.0 h.1 k.1 in cc

  read_from_one : {T : Type 0} (As : Pod → Result T Status → Type 0) → ((pod : Pod) → OneOutcome (As pod)) → (read : Result Pod Status)
      → OneOutcome (IsReadFrom As read)
  read_from_one As one (Ok pod) x y h k = one pod x y h k
  read_from_one As one (Err status) x y h k = h ∙ sym k

  pub held_one : {T : Type 0} (As : Pod → Result T Status → Type 0) → ((pod : Pod) → OneOutcome (As pod)) → OneOutcome (HoldsAs As place bytes)
  held_one As one x y h k =
      let same = pod_one h.0 k.0 h.1 k.1 in
      read_from_one As one k.0 x y (subst (λ r. IsReadFrom As r x) same h.2) k.2

  pub format_one : OneOutcome (HoldsFormat place bytes)
  format_one = held_one (IsFormatIn place) format_in_one
