-- Laws of `specs/InMemory.antt`: a map with rows of bytes as keys, after a change at one key.
use Rattle.std.proofs.Common.{◌≡◌, ℕ, List, Bool, true, false, sym, ◌∙◌, ap, refl}
use Rattle.std.proofs.Math.Path.{fun_ext}
use Rattle.std.specs.Prelude.{Option, Some, bytes_eq}
use Rattle.std.specs.Ordering.{nat_cmp, is_eq}
use Rattle.std.specs.Cmp.{eq_by_cmp_equiv}
use Rattle.std.specs.Cmp.Lexicographic.{slice_cmp, nat_list_cmp_total}
use Rattle.std.specs.BTreeMap.{BTreeMap, UpdatesBy}
use Rattle.std.specs.Map.{KeepsOthers, IsKeyTest, AreApart, lookup}
use Rattle.std.proofs.lemmas.Map.Text.{is_eq-slice_cmp}
use Rattle.std.proofs.lemmas.Slice.Eq.{bytes_eq-Decides}
use Rattle.std.proofs.lemmas.Bool.{false_from_ne_true}
use Rattle.std.specs.declared.vec.Vec.{Vec}
use Rattle.std.specs.declared.alloc.Global.{Global}
use Rattle.pw_outside.specs.InMemory.{names_of}
use Rattle.pw_outside.specs.Files.{Names, stored, OthersSame, SameNames}

tied : (xs ys : List ℕ) → is_eq (slice_cmp nat_cmp xs ys) ≡ true → xs ≡ ys
tied xs ys z = (bytes_eq-Decides xs ys).0 (sym (is_eq-slice_cmp xs ys) ∙ z)

-- two lists of bytes that differ do not both tie with a third
pub apart : (bs cs ks : List ℕ) → ¬ (cs ≡ bs) → is_eq (slice_cmp nat_cmp bs ks) ≡ true → is_eq (slice_cmp nat_cmp cs ks) ≡ false
apart bs cs ks ne y = false_from_ne_true _ (λ z. ne (tied cs ks z ∙ sym (tied bs ks y)))

pub other_entries : {K X : Type 0} (eq : K → K → Bool) (test : K → Bool) (old new : List (K × X)) → KeepsOthers eq test old new
    → (other : K → Bool) → IsKeyTest eq other → AreApart test other → lookup other new ≡ lookup other old
unfolding KeepsOthers
other_entries eq test old new h = h

pub names_after : (m n : BTreeMap (Vec ℕ Global) (List ℕ)) (bs : List ℕ) (w : Option (List ℕ))
    → UpdatesBy (λ x y. slice_cmp nat_cmp x.items y.items) (λ k. slice_cmp nat_cmp bs k.items) m n w
    → (cs : List ℕ) → ¬ (cs ≡ bs) → names_of n cs ≡ names_of m cs
names_after m n bs w h cs ne = (other_entries _ _ _ _ h.3 _ (λ x y. (eq_by_cmp_equiv nat_list_cmp_total).congr cs x.items y.items)
    (λ k. apart bs cs k.items ne))

at_name : (old new : Names) (name bytes : List ℕ) → new name ≡ Some bytes → OthersSame old new name → (n : List ℕ) (b : Bool)
    → bytes_eq n name ≡ b
    → new n ≡ stored name bytes old n
at_name old new name bytes here others n true e = rw e (ap new ((bytes_eq-Decides n name).0 e) ∙ here)
at_name old new name bytes here others n false e =
    rw e (others n (λ same. let t : bytes_eq n name ≡ true = (bytes_eq-Decides n name).1 same in cc))

-- at each name, and so as a whole
pub stored_is : (old new : Names) (name bytes : List ℕ) → new name ≡ Some bytes → OthersSame old new name → new ≡ stored name bytes old
stored_is old new name bytes here others = fun_ext (λ n. at_name old new name bytes here others n (bytes_eq n name) refl)

pub same_is : (old new : Names) → SameNames old new → new ≡ old
same_is old new h = fun_ext h
