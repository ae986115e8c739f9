-- A line in all parts, one part after the other: each moves by the epoch that the line makes of it.
use Rattle.std.proofs.Common.{◌≡◌, inl, ℕ, ◌+◌, ◌<◌, ◌≤◌, List, [], ◌∷◌, ◌++◌, length, map, take, drop, get_or, set}
use Rattle.std.proofs.Common.{None, refl, sym, ap, ◌∙◌, subst, arith, append_assoc, append-nil}
use Rattle.std.specs.Prelude.{Option, All, zip, Result, Ok, Err, IfOk}
use Rattle.std.specs.List.{AllZip}
use Rattle.std.proofs.lemmas.List.{drop_more, take_more, take_more_set, drop-set-lt, drop-drop, take_all, get_or-drop, get_or_default, length-set, length_push, length-take-le}
use Rattle.std.proofs.lemmas.List.Elements.{All-nil, All-cons}
use Rattle.pw_lists.specs.declared.limit.Which.{Which}
use Rattle.pw_lists.specs.declared.limit.Which.TheVariants as W
use Rattle.pw_lists.specs.declared.memory.Memory.{Memory}
use Rattle.pw_graph.specs.declared.plan.Epoch.{Epoch}
use Rattle.wav_files.specs.declared.wav.WavIn.{WavIn}
use Rattle.graph_script.specs.declared.script.Line.{Line}
use Rattle.graph_lines.specs.declared.graph.Stepped.{Stepped}
use Rattle.graph_lines.specs.declared.graph.Stepped.TheVariants as T
use Rattle.graph_lines.specs.declared.limits.Sums.{Sums}
use Rattle.graph_lines.specs.Sums.{passed}
use Rattle.graph_plan.specs.declared.member.Member.{Member}
use Rattle.graph_plan.specs.working.Ahead.{AreToCome}
use Rattle.graph_plan.specs.working.Members.{IsStanding, IsReadyFor}
use Rattle.graph_plan.specs.Moving.{Moves, MakesOf, own_sums, all_sums, total}
use Rattle.graph_plan.specs.working.MovingTogether.{MovesBy, GoesBy, MovesPair, AreMoved, GoBy, HaveMoved, MoveOrPass}
use Rattle.graph_plan.specs.Together.{HasManyIn}
use Rattle.graph_plan.proofs.linked_parts.AheadLemmas.{first_within}
use Rattle.graph_plan.proofs.lists.AllZipLemmas.{pairs_push, next_low, next_pair, none_left, zip_more}

module _ (waves : List WavIn) (l : Line) where
  -- one part more has moved
  moved_more : (ms : List Member) (es : List (Option Epoch)) (ns : List Member) (m : Member) (e : Option Epoch) (a : Member) → length es ≡ length ms
      → AreMoved waves l ms es ns → MovesBy waves l m e a → AreMoved waves l (ms ++ m ∷ []) (es ++ e ∷ []) (ns ++ a ∷ [])
  moved_more ms es ns m e a long h by = subst (λ (z : List (Member × Option Epoch)). AllZip (MovesPair waves l) z (ns ++ a ∷ []))
      (sym (zip_more ms es m e long)) (pairs_push (MovesPair waves l) (zip ms es) ns (m, e) a h by)

  -- some parts have moved, and the others are ns before
  pub record IsGoing (all : List (Option Epoch)) (old cur : List Member) (done : List (Option Epoch)) (k : ℕ) (left : List (Option Epoch))
      : Type 0 where
    pub epochs : all ≡ done ++ left
    pub inside : k ≤ length old
    pub long : length done ≡ k
    pub count : length cur ≡ length old
    pub rest : drop k cur ≡ drop k old
    pub moved : AreMoved waves l (take k old) done (take k cur)
    pub made : AllZip (MakesOf waves l) (drop k old) left
    pub within : passed (total (all_sums (drop k old) left)) ≡ None

  pub going_begins : (all : List (Option Epoch)) (old : List Member) (items : List (Option Epoch)) → AreToCome waves l old all → items ≡ all
      → IsGoing all old old [] 0 items
  going_begins all old items h e = record {
    epochs = sym e;
    inside = omega arith;
    long = refl;
    count = refl;
    rest = refl;
    moved = tt;
    made = subst (AllZip (MakesOf waves l) old) (sym e) h.each;
    within = subst (λ (es : List (Option Epoch)). passed (total (all_sums old es)) ≡ None) (sym e) h.within;
  }

  module _ (all : List (Option Epoch)) (old cur : List Member) (done : List (Option Epoch)) (k : ℕ) where
    module _ (e : Option Epoch) (rest : List (Option Epoch)) (h : IsGoing all old cur done k (e ∷ rest)) where
      low_old : k < length old
      low_old = next_low (MakesOf waves l) old k e rest h.made

      pub going_low : k < length cur
      going_low = let c = h.count in let a = low_old in omega (arith, c, a)

      pub same_part : (d : Member) → get_or cur k d ≡ get_or old k d
      same_part d = sym (at cur) ∙ (ap (λ (ms : List Member). get_or ms 0 d) h.rest ∙ at old) where
        at : (ms : List Member) → get_or (drop k ms) 0 d ≡ get_or ms k d
        at ms = get_or-drop k ms 0 d ∙ ap (λ (i : ℕ). get_or ms i d) (let z : k + 0 ≡ k = omega arith in z)

      pub going_ready : All (IsReadyFor l) old → (d : Member) → IsReadyFor l (get_or cur k d)
      going_ready ready d = subst (IsReadyFor l) (sym (same_part d)) (ready k d low_old)

      pub going_made : (d : Member) → MakesOf waves l (get_or cur k d) e
      going_made d = subst (λ (m : Member). MakesOf waves l m e) (sym (same_part d)) (next_pair (MakesOf waves l) old k d e rest h.made).0

      next_within : (d : Member) → (passed (own_sums (get_or old k d) e) ≡ None) × (passed (total (all_sums (drop (k + 1) old) rest)) ≡ None)
      next_within d = first_within (own_sums (get_or old k d) e) (all_sums (drop (k + 1) old) rest)
          (subst (λ (ms : List Member). passed (total (all_sums ms (e ∷ rest))) ≡ None) (drop_more old k d low_old) h.within)

      pub going_within : (d : Member) → passed (own_sums (get_or cur k d) e) ≡ None
      going_within d = subst (λ (m : Member). passed (own_sums m e) ≡ None) (sym (same_part d)) (next_within d).0

      -- THE NEXT PART
      pub going_more : (x d : Member) → MovesBy waves l (get_or cur k d) e x → IsGoing all old (set cur k x) (done ++ e ∷ []) (k + 1) rest
      going_more x d by = record {
        epochs = h.epochs ∙ sym (append_assoc done (e ∷ []) rest);
        inside = let a = low_old in omega (arith, a);
        long = let n = h.long in let a = length_push done e in omega (arith, n, a);
        count = length-set cur k x ∙ h.count;
        rest = drop-set-lt (k + 1) cur k x (omega arith) ∙ (sym (one cur) ∙ (ap (drop 1) h.rest ∙ one old));
        moved = subst (λ (ms : List Member). AllZip (MovesPair waves l) (zip ms (done ++ e ∷ [])) (take (k + 1) (set cur k x)))
            (sym (take_more old k d low_old)) (subst (AllZip (MovesPair waves l) (zip (take k old ++ get_or old k d ∷ []) (done ++ e ∷ [])))
            (sym (take_more_set cur k x going_low))
            (moved_more (take k old) done (take k cur) (get_or old k d) e x (let n = h.long in let a = length_low old low_old in omega (arith, n, a)) h.moved
            (subst (λ (m : Member). MovesBy waves l m e x) (same_part d) by)));
        made = (next_pair (MakesOf waves l) old k d e rest h.made).1;
        within = (next_within d).1;
      } where
        one : (ms : List Member) → drop 1 (drop k ms) ≡ drop (k + 1) ms
        one ms = drop-drop 1 k ms

        length_low : (ms : List Member) → k < length ms → length (take k ms) ≡ k
        length_low ms low = length-take-le k ms (omega (arith, low))

      -- it has 256 links
      pub going_many : (which : Which) (x d : Member) → GoesBy waves l (get_or cur k d) e (T.Passed which) x → (which ≡ W.Links) × HasManyIn old l
      going_many which x d g = (
        g.0,
        record {
          member = get_or cur k d;
          there = (k, low_old, ap (λ (m : Member). get_or old k m) (same_part d) ∙ (get_or_default old k (get_or old k d) d low_old ∙ sym (same_part d)));
          line_of = g.1;
          after = x.graph;
          passes = g.2;
        },
      )

    -- AFTER THE LAST
    pub going_ends : (left : List (Option Epoch)) → left ≡ [] → IsGoing all old cur done k left → AreMoved waves l old all cur
    going_ends left none h =
        let past : length old ≤ k = none_left (MakesOf waves l) old k (subst (AllZip (MakesOf waves l) (drop k old)) none h.made) in
        subst (λ (es : List (Option Epoch)). AreMoved waves l old es cur) (sym (h.epochs ∙ (ap (λ (es : List (Option Epoch)). done ++ es) none ∙ append-nil done)))
        (subst (λ (ms : List Member). AreMoved waves l ms done cur) (take_all k old past)
        (subst (AreMoved waves l (take k old) done) (take_all k cur (let c = h.count in omega (arith, past, c))) h.moved))

  -- ALL PARTS have moved
  moved_each : (ms : List Member) (es : List (Option Epoch)) (ns : List Member) → AllZip (MakesOf waves l) ms es → AreMoved waves l ms es ns
      → AllZip (Moves waves l) ms ns
  moved_each [] [] [] t h = tt
  moved_each [] [] (a ∷ ns) t h = absurd h
  moved_each [] (e ∷ es) ns t h = absurd t
  moved_each (m ∷ ms) [] ns t h = absurd t
  moved_each (m ∷ ms) (e ∷ es) [] t h = absurd h
  moved_each (m ∷ ms) (e ∷ es) (a ∷ ns) t h = (h.0.moves, moved_each ms es ns t.1 h.1)

  moved_sums : (ms : List Member) (es : List (Option Epoch)) (ns : List Member) → AllZip (MakesOf waves l) ms es → AreMoved waves l ms es ns
      → map (λ (m : Member). m.graph.sums) ns ≡ all_sums ms es
  moved_sums [] [] [] t h = refl
  moved_sums [] [] (a ∷ ns) t h = absurd h
  moved_sums [] (e ∷ es) ns t h = absurd t
  moved_sums (m ∷ ms) [] ns t h = absurd t
  moved_sums (m ∷ ms) (e ∷ es) [] t h = absurd h
  moved_sums (m ∷ ms) (e ∷ es) (a ∷ ns) t h = ap (λ (s : Sums). s ∷ map (λ (x : Member). x.graph.sums) ns) h.0.sums
      ∙ ap (λ (ss : List Sums). own_sums m e ∷ ss) (moved_sums ms es ns t.1 h.1)

  moved_stand : (ms : List Member) (es : List (Option Epoch)) (ns : List Member) → AllZip (MakesOf waves l) ms es → AreMoved waves l ms es ns
      → All IsStanding ns
  moved_stand [] [] [] t h = All-nil IsStanding
  moved_stand [] [] (a ∷ ns) t h = absurd h
  moved_stand [] (e ∷ es) ns t h = absurd t
  moved_stand (m ∷ ms) [] ns t h = absurd t
  moved_stand (m ∷ ms) (e ∷ es) [] t h = absurd h
  moved_stand (m ∷ ms) (e ∷ es) (a ∷ ns) t h = All-cons IsStanding a ns h.0.stands (moved_stand ms es ns t.1 h.1)

  have_moved : (ms : List Member) (es : List (Option Epoch)) (ns : List Member) → AreToCome waves l ms es → AreMoved waves l ms es ns
      → HaveMoved waves l ms ns
  have_moved ms es ns t h = record {
    each = moved_each ms es ns t.each h;
    sums = ap (λ (all : List Sums). passed (total all)) (moved_sums ms es ns t.each h) ∙ t.within;
    stand = moved_stand ms es ns t.each h;
  }

  pub moved_or_passed : (ms : List Member) (es : List (Option Epoch)) (ns : List Member) (s : Stepped) → AreToCome waves l ms es → GoBy waves l ms es s ns
      → MoveOrPass waves l ms s ns
  moved_or_passed ms es ns T.Done t h = have_moved ms es ns t h
  moved_or_passed ms es ns (T.Passed which) t h = inl h

  pub moves_or_passes : (ms : List Member) (es : List (Option Epoch)) (ns : List Member) (r : Result Stepped Memory) → AreToCome waves l ms es
      → IfOk r (λ s. GoBy waves l ms es s ns) → IfOk r (λ s. MoveOrPass waves l ms s ns)
  moves_or_passes ms es ns (Ok s) t h = moved_or_passed ms es ns s t h
  moves_or_passes ms es ns (Err memory) t h = h
