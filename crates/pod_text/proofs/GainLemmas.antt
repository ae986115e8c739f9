-- Lists of gains: one line more.
use Rattle.std.proofs.Common.{◌≡◌, ℕ, ◌+◌, ◌≤◌, ◌∙◌, List, [], ◌∷◌, ◌++◌, refl, sym, ap, subst, arith, Ok, Err, ◌⊎◌, inl, inr}
use Rattle.std.specs.Prelude.{Result, fold}
use Rattle.std.specs.List.{enumerate_from}
use Rattle.std.proofs.lemmas.List.Elements.{All-push}
use Rattle.std.proofs.lemmas.List.Quantifiers.{all_pairs_push}
use Rattle.std.proofs.lemmas.List.Folds.{fold_stays}
use Rattle.std.proofs.lemmas.List.Sums.{fold_push}
use Rattle.pw_lists.specs.Samples.{IsGain}
use Rattle.control_sequence.specs.declared.points.Point.{Point}
use Rattle.graph_script.specs.Lexical.{words_of}
use Rattle.pod_text.specs.GainList.{meaning_of, last_frame, added, with_line}
use Rattle.pod_text.specs.GainAnswer.{IsReadAs, IsBehind, ArePointsTo}
use Rattle.pod_text.specs.declared.fault.ListFault.{ListFault}
use Rattle.pod_text.specs.declared.fault.ListFault.TheVariants as f

-- the reading of the lines that are left, from a number on, after these points
abbrev pub reading_from : ℕ → List Point → List (List ℕ) → Result (List Point) ListFault
reading_from number points lines = fold with_line (Ok points) (enumerate_from number lines)

-- where the first line is read, the others follow
pub goes_on : (number before : ℕ) (points next : List Point) (line : List ℕ) (lines more : List (List ℕ)) → before ≡ last_frame points
    → lines ≡ line ∷ more → added points number (meaning_of before (words_of line)) ≡ Ok next
    → reading_from number points lines ≡ reading_from (number + 1) next more
goes_on number before points next line lines more last e h =
    let here : added points number (meaning_of (last_frame points) (words_of line)) ≡ Ok next =
    subst (λ (b : ℕ). added points number (meaning_of b (words_of line)) ≡ Ok next) last h in
    ap (λ (ls : List (List ℕ)). reading_from number points ls) e
    ∙ ap (λ (r : Result (List Point) ListFault). fold with_line r (enumerate_from (number + 1) more)) here

-- where it is not, its fault stays
pub stops : (number before : ℕ) (points : List Point) (line : List ℕ) (lines more : List (List ℕ)) (fault : ListFault)
    → before ≡ last_frame points → lines ≡ line ∷ more → added points number (meaning_of before (words_of line)) ≡ Err fault
    → reading_from number points lines ≡ Err fault
stops number before points line lines more fault last e h =
    let here : added points number (meaning_of (last_frame points) (words_of line)) ≡ Err fault =
    subst (λ (b : ℕ). added points number (meaning_of b (words_of line)) ≡ Err fault) last h in
    ap (λ (ls : List (List ℕ)). reading_from number points ls) e
    ∙ ap (λ (r : Result (List Point) ListFault). fold with_line r (enumerate_from (number + 1) more)) here
    ∙ fold_stays with_line (Err fault) (λ x. refl) (enumerate_from (number + 1) more)

-- one point more
pub point_more : (frame : ℕ) (points next : List Point) (p : Point) → ArePointsTo frame points → IsBehind frame p
    → next ≡ points ++ p ∷ [] → ArePointsTo p.offset next
point_more frame points next p are behind is =
    subst (λ (xs : List Point). ArePointsTo p.offset xs) (sym is)
    (record {
      sound = (
        All-push (λ q. IsGain q.g) points p are.sound.0 behind.1,
        all_pairs_push (λ p q. p.offset ≤ q.offset) points p are.sound.1 (λ i d l. omega (arith, are.below i d l, behind.0)),
      );
      last = sym (fold_push (λ (f : ℕ) (q : Point). q.offset) 0 points p);
      below = All-push (λ q. q.offset ≤ p.offset) points p (λ i d l. omega (arith, are.below i d l, behind.0)) (omega arith);
    })

-- before the first
pub none_yet : (points : List Point) → points ≡ [] → ArePointsTo 0 points
none_yet points is = subst (λ (xs : List Point). ArePointsTo 0 xs) (sym is)
    (record {
      sound = (λ k d l. absurd (omega arith), λ i j d l m. absurd (omega arith));
      last = refl;
      below = λ k d l. absurd (omega arith);
    })

-- the fault of a line is that of the whole, or memory was short
pub same_fault : (reading : Result (List Point) ListFault) (fault : ListFault) → (fault ≡ f.Memory) ⊎ (reading ≡ Err fault)
    → IsReadAs reading (Err fault)
same_fault reading f.Memory h = tt
same_fault reading (f.Line number why) h = elim h [ inl e ↦ absurd cc | inr e ↦ e ]
