-- A merge of two rows of fields, key by key.
use Rattle.std.proofs.Common.{◌≡◌, ◌≢◌, ℕ, ◌+◌, ◌-◌, ◌<◌, ◌≤◌, ◌⊎◌, inl, inr, List, [], ◌∷◌, ◌++◌, get_or, take}
use Rattle.std.proofs.Common.{drop, Option, Some, None, refl, sym, ap, ◌∙◌, subst, arith}
use Rattle.std.specs.List.{All}
use Rattle.std.specs.Prelude.{slice_get, slice_range}
use Rattle.std.proofs.lemmas.Bool.Decides.{eqb_tells}
use Rattle.std.proofs.lemmas.List.{take-append-drop}
use Rattle.std.proofs.lemmas.List.Elements.{All-nil, All-append, All-push, All-weaker, All-cons, All-head}
use Rattle.std.proofs.lemmas.List.Folds.{drop_split}
use Rattle.std.proofs.lemmas.List.Quantifiers.{all_pairs_push}
use Rattle.std.proofs.Math.Seq.{take-add}
use Rattle.format_filter.specs.declared.format.Field.{Field}
use Rattle.format_filter.specs.Soundness.{IsSound}
use Rattle.format_filter.specs.CommonFormat.{field_of, AreClashing, Clashes, IsCommonField}
use Rattle.format_filter.specs.working.Merging.{IsKeyAt, IsBehind, Joins, AreCommonFields}
use Rattle.format_filter.proofs.FieldLemmas.{field_first, field_off, field_next, key_least}

-- two rows are merged up to a number, which all their keys are below
pub record IsMerged (m : ℕ) (ls rs out : List Field) : Type 0 where
  pub own : All (λ f. f.key < m) ls
  pub other : All (λ f. f.key < m) rs
  pub below : All (λ f. f.key < m) out
  pub common : AreCommonFields ls rs out

pub merged_none : IsMerged 0 [] [] []
merged_none = record {
  own = All-nil (λ f. f.key < 0);
  other = All-nil (λ f. f.key < 0);
  below = All-nil (λ f. f.key < 0);
  common = record {
    sound = record { ascending = λ i j d a b. absurd (omega arith); choices = All-nil (λ f. IsSound f.choice) };
    fields = λ key. refl;
    clashless = λ key h. h;
  };
}

moved : (f f' g g' h h' : Option Field) → f ≡ f' → g ≡ g' → h ≡ h' → IsCommonField f' g' h' → IsCommonField f g h
moved f f' g g' h h' a b c w =
    subst (λ (o : Option Field). IsCommonField o g h) (sym a)
    (subst (λ (o : Option Field). IsCommonField f' o h) (sym b) (subst (IsCommonField f' g') (sym c) w))

clash_moved : (f f' g g' : Option Field) → f ≡ f' → g ≡ g' → AreClashing f g → AreClashing f' g'
clash_moved f f' g g' a b w = subst (λ (o : Option Field). AreClashing o g') a (subst (AreClashing f) b w)

others : (xs : List Field) (key k : ℕ) → k ≢ key → All (λ f. f.key ≡ key) xs → All (λ f. f.key ≢ k) xs
others xs key k n h = All-weaker (λ f. f.key ≡ key) (λ f. f.key ≢ k) (λ f e w. n (sym w ∙ e)) xs h

lows : (xs : List Field) (m key : ℕ) → m ≤ key → All (λ f. f.key < m) xs → All (λ f. f.key ≢ key) xs
lows xs m key l h = All-weaker (λ f. f.key < m) (λ f. f.key ≢ key) (λ f w e. let u : f.key < m = w in omega arith) xs h

-- at its key is the next field, and at others what was there
here : (ls xs : List Field) (m key : ℕ) → m ≤ key → All (λ f. f.key < m) ls → All (λ f. f.key ≡ key) xs
    → field_of (ls ++ xs) key ≡ slice_get xs 0
here ls xs m key l low same = field_next ls xs key (lows ls m key l low) ∙ field_first key xs same

raised : (ls xs : List Field) (m key : ℕ) → m ≤ key → All (λ f. f.key < m) ls → All (λ f. f.key ≡ key) xs
    → All (λ f. f.key < key + 1) (ls ++ xs)
raised ls xs m key l low same = All-append (λ f. f.key < key + 1) ls xs
    (All-weaker (λ f. f.key < m) (λ f. f.key < key + 1) (λ f w. let u : f.key < m = w in omega arith) ls low)
    (All-weaker (λ f. f.key ≡ key) (λ f. f.key < key + 1) (λ f w. let u : f.key ≡ key = w in omega arith) xs same)

-- one key more
pub merged_more : (m key : ℕ) (ls rs out xs ys : List Field) (h : Field) → IsMerged m ls rs out → m ≤ key → All (λ f. f.key ≡ key) xs
    → All (λ f. f.key ≡ key) ys → h.key ≡ key
    → Joins (slice_get xs 0) (slice_get ys 0) (Some h) → IsMerged (key + 1) (ls ++ xs) (rs ++ ys) (out ++ h ∷ [])
merged_more m key ls rs out xs ys h merged l xk yk hk joined =
    let single : All (λ f. f.key ≡ key) (h ∷ []) = All-cons (λ f. f.key ≡ key) h [] hk (All-nil (λ f. f.key ≡ key)) in
    record {
      own = raised ls xs m key l merged.own xk;
      other = raised rs ys m key l merged.other yk;
      below = raised out (h ∷ []) m key l merged.below single;
      common = record {
        sound = record {
          ascending = all_pairs_push (λ f g. f.key < g.key) out h merged.common.sound.ascending
              (λ k d a. let u : (get_or out k d).key < m = merged.below k d a in omega arith);
          choices = All-push (λ f. IsSound f.choice) out h merged.common.sound.choices joined.2;
        };
        fields = λ k. elim (eqb_tells k key) [
          | inl w ↦ subst (λ (n : ℕ). IsCommonField (field_of (ls ++ xs) n) (field_of (rs ++ ys) n) (field_of (out ++ h ∷ []) n)) (sym w.1)
              (moved (field_of (ls ++ xs) key) (slice_get xs 0) (field_of (rs ++ ys) key) (slice_get ys 0) (field_of (out ++ h ∷ []) key)
              (Some h)
              (here ls xs m key l merged.own xk) (here rs ys m key l merged.other yk)
              (here out (h ∷ []) m key l merged.below single) joined.1)
          | inr w ↦ moved (field_of (ls ++ xs) k) (field_of ls k) (field_of (rs ++ ys) k) (field_of rs k) (field_of (out ++ h ∷ []) k)
              (field_of out k)
              (field_off ls xs k (others xs key k w.1 xk)) (field_off rs ys k (others ys key k w.1 yk))
              (field_off out (h ∷ []) k (others (h ∷ []) key k w.1 single)) (merged.common.fields k)
        ];
        clashless = λ k c. elim (eqb_tells k key) [
          | inl w ↦ joined.0 (clash_moved (field_of (ls ++ xs) key) (slice_get xs 0) (field_of (rs ++ ys) key) (slice_get ys 0)
              (here ls xs m key l merged.own xk) (here rs ys m key l merged.other yk)
              (subst (λ (n : ℕ). Clashes (ls ++ xs) (rs ++ ys) n) w.1 c))
          | inr w ↦ merged.common.clashless k (clash_moved (field_of (ls ++ xs) k) (field_of ls k) (field_of (rs ++ ys) k) (field_of rs k)
              (field_off ls xs k (others xs key k w.1 xk)) (field_off rs ys k (others ys key k w.1 yk)) c)
        ];
      };
    }

-- all of a row: what is merged, what is at a place and what is left
parts : (xs : List Field) (at next : ℕ) → at ≤ next → xs ≡ take at xs ++ (slice_range xs at next ++ drop next xs)
parts xs at next l = sym (take-append-drop at xs) ∙ ap (λ (ys : List Field). take at xs ++ ys) (drop_split xs at next l)

pub taken : (xs : List Field) (at next : ℕ) → at ≤ next → take next xs ≡ take at xs ++ slice_range xs at next
taken xs at next l = ap (λ n. take n xs) (omega arith) ∙ take-add at (next - at) xs

greater : (xs : List Field) (key k : ℕ) → k < key → All (λ f. f.key ≡ key) xs → All (λ f. f.key ≢ k) xs
greater xs key k l h = All-weaker (λ f. f.key ≡ key) (λ f. f.key ≢ k) (λ f w e. let u : f.key ≡ key = w in omega arith) xs h

above : (xs : List Field) (key k : ℕ) → k ≤ key → All (λ f. key < f.key) xs → All (λ f. f.key ≢ k) xs
above xs key k l h = All-weaker (λ f. key < f.key) (λ f. f.key ≢ k) (λ f w e. let u : key < f.key = w in omega arith) xs h

-- of a whole row, at the key is the next field, and below it what is merged
whole_here : (xs : List Field) (at key m next : ℕ) → at ≤ next → m ≤ key → All (λ f. f.key < m) (take at xs) → IsBehind xs at key next
    → field_of xs key ≡ slice_get (slice_range xs at next) 0
whole_here xs at key m next l low h behind =
    ap (λ (ys : List Field). field_of ys key) (parts xs at next l)
    ∙ field_next (take at xs) (slice_range xs at next ++ drop next xs) key (lows (take at xs) m key low h)
    ∙ field_off (slice_range xs at next) (drop next xs) key (above (drop next xs) key key (omega arith) behind.left)
    ∙ field_first key (slice_range xs at next) behind.passed

whole_below : (xs : List Field) (at key next k : ℕ) → at ≤ next → k < key → IsBehind xs at key next
    → field_of xs k ≡ field_of (take at xs) k
whole_below xs at key next k l less behind =
    ap (λ (ys : List Field). field_of ys k) (parts xs at next l)
    ∙ field_off (take at xs) (slice_range xs at next ++ drop next xs) k
    (All-append (λ f. f.key ≢ k) (slice_range xs at next) (drop next xs) (greater (slice_range xs at next) key k less behind.passed)
    (above (drop next xs) key k (omega arith) behind.left))

-- where the next fields clash their key is the least at which the rows do
pub clash_first : (m key i j after_i after_j : ℕ) (a b out : List Field) → IsMerged m (take i a) (take j b) out → m ≤ key → i ≤ after_i
    → j ≤ after_j → IsBehind a i key after_i → IsBehind b j key after_j
    → AreClashing (slice_get (slice_range a i after_i) 0) (slice_get (slice_range b j after_j) 0) → Clashes a b key
    × ((k : ℕ) → k < key → Clashes a b k → ⊥)
clash_first m key i j after_i after_j a b out merged low li lj behind_a behind_b clash = (
  clash_moved (slice_get (slice_range a i after_i) 0) (field_of a key) (slice_get (slice_range b j after_j) 0) (field_of b key)
      (sym (whole_here a i key m after_i li low merged.own behind_a))
      (sym (whole_here b j key m after_j lj low merged.other behind_b)) clash,
  λ k less c. merged.common.clashless k (clash_moved (field_of a k) (field_of (take i a) k) (field_of b k) (field_of (take j b) k)
      (whole_below a i key after_i k li less behind_a) (whole_below b j key after_j k lj less behind_b) c),
)

-- what is joined has the key of the fields
pub joined_key : (xs ys : List Field) (key : ℕ) (h : Field) → All (λ f. f.key ≡ key) xs → All (λ f. f.key ≡ key) ys
    → Joins (slice_get xs 0) (slice_get ys 0) (Some h) → h.key ≡ key
joined_key [] [] key h a b j = let no_field : Some h ≡ None = j.1 in absurd (cc)
joined_key [] (g ∷ gs) key h a b j = let is : Some h ≡ Some g = j.1 in let same : h ≡ g = cc in ap (λ (f : Field). f.key) same
    ∙ All-head (λ f. f.key ≡ key) g gs b
joined_key (f ∷ fs) [] key h a b j = let is : Some h ≡ Some f = j.1 in let same : h ≡ f = cc in ap (λ (f : Field). f.key) same
    ∙ All-head (λ f. f.key ≡ key) f fs a
joined_key (f ∷ fs) (g ∷ gs) key h a b j = j.1.0 ∙ All-head (λ f. f.key ≡ key) f fs a

-- the least key that is left is not below the keys that are merged
pub found_least : (a b : List Field) (i j key m : ℕ) → IsKeyAt a i key ⊎ IsKeyAt b j key → All (λ f. m ≤ f.key) (drop i a)
    → All (λ f. m ≤ f.key) (drop j b) → m ≤ key
found_least a b i j key m found own other = elim found [ inl h ↦ key_least a i key m h own | inr h ↦ key_least b j key m h other ]

pub not_back : (at next : ℕ) → (next ≡ at) ⊎ (next ≡ at + 1) → at ≤ next
not_back at next near = elim near [ inl e ↦ omega arith | inr e ↦ omega arith ]
