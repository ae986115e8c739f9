-- Epochs to come: a drain that was cut passes the limit of events before and after the cut; sums of
-- all parts.
use Rattle.std.proofs.Common.{◌≡◌, ◌⊎◌, inl, inr, ℕ, zero, suc, ◌+◌, ◌<◌, min, Bool, true, false, List, [], ◌∷◌, ◌++◌, length, map}
use Rattle.std.proofs.Common.{Some, None, refl, sym, ap, ◌∙◌, subst, arith}
use Rattle.std.specs.Prelude.{Option, zip}
use Rattle.std.specs.List.{AllZip}
use Rattle.std.proofs.lemmas.Bool.{cases_lt}
use Rattle.std.proofs.lemmas.List.{map-append}
use Rattle.std.proofs.lemmas.List.Sums.{sum_by-cons, sum_by_push}
use Rattle.pw_lists.specs.declared.limit.Which.{Which}
use Rattle.pw_lists.specs.declared.limit.Which.TheVariants as W
use Rattle.pw_graph.specs.declared.plan.Epoch.{Epoch}
use Rattle.pw_graph.specs.PlanSums.{capped}
use Rattle.wav_files.specs.declared.wav.WavIn.{WavIn}
use Rattle.graph_script.specs.declared.command.Command.{Command}
use Rattle.graph_script.specs.declared.command.Command.TheVariants as C
use Rattle.graph_script.specs.declared.script.Line.{Line}
use Rattle.graph_lines.specs.declared.limits.Sums.{Sums}
use Rattle.graph_lines.specs.Sums.{sums_with, capped_sums, passed}
use Rattle.graph_lines.specs.Upcoming.{IsEpochFor, IsUpcoming}
use Rattle.graph_lines.proofs.AfterLemmas.{three_a_cycle, with_cycles, more_cycles}
use Rattle.graph_lines.proofs.SumLemmas.{passes_events, passes_none, passed-capped, same_sums}
use Rattle.graph_lines.proofs.UpcomingLemmas.{epoch_some}
use Rattle.graph_plan.specs.declared.member.Member.{Member}
use Rattle.graph_plan.specs.declared.moving.Ahead.{Ahead}
use Rattle.graph_plan.specs.working.Ahead.{both_sums, IsAheadIf, IsAhead, AreAhead, AreToCome}
use Rattle.graph_plan.specs.Moving.{Makes, MakesIf, MakesOf, own_sums, all_sums, total}
use Rattle.graph_plan.specs.PartLines.{is_line_of}
use Rattle.graph_plan.specs.Together.{HasSums}
use Rattle.graph_plan.proofs.lists.AllZipLemmas.{zip_more}
use Rattle.graph_plan.proofs.sound.RangeLemmas.{within_limits}

-- sums of which both have too many events
abbrev AreOver : Sums → Sums → Type 0
AreOver a b = (4194304 < a.events) × (4194304 < b.events)

-- an epoch that is the one looked at, unless both have too many events
abbrev HasReal : Member → Option Epoch → (Option Epoch → Type 0) → Type 0
HasReal m made P = (real : Option Epoch) × P real × ((real ≡ made) ⊎ AreOver (own_sums m made) (own_sums m real))

abbrev HaveReal : List Member → List (Option Epoch) → (List (Option Epoch) → Type 0) → Type 0
HaveReal ms cut P = (real : List (Option Epoch)) × P real × ((real ≡ cut) ⊎ AreOver (total (all_sums ms cut)) (total (all_sums ms real)))

module _ (waves : List WavIn) where
  -- ONE PART
  module _ (m : Member) where
    over_cut : (n k : ℕ) (made : Option Epoch) → n ≡ 4194305 → 4194304 < k → IsEpochFor m.graph n made
        → (real : Option Epoch) × IsEpochFor m.graph k real × AreOver (own_sums m made) (own_sums m real)
    over_cut zero k made is over h = absurd (omega (arith, is))
    over_cut (suc n) k made is over h =
        let e : Epoch = h.0 in
        let f : Epoch = with_cycles k e in
        let cycles = h.1.cycles in
        let few = three_a_cycle e in
        let many = three_a_cycle f in
        let same = ap (λ (o : Option Epoch). (own_sums m o).events) h.2 in (
          Some f,
          epoch_some m.graph k f (omega (arith, over)) (more_cycles m.graph (suc n) k e h.1),
          (omega (arith, same, few, cycles, is), omega (arith, many, over)),
        )

    real_drain : (n k : ℕ) (made : Option Epoch) → n ≡ min k 4194305 → IsEpochFor m.graph n made → HasReal m made (IsEpochFor m.graph k)
    real_drain n k made is h = elim (cases_lt 4194304 k) [
      | inl over ↦ (let w = over_cut n k made (omega (arith, is, over)) over h in (w.0, w.1, inr w.2))
      | inr few ↦ (made, subst (λ (i : ℕ). IsEpochFor m.graph i made) (let e : n ≡ k = omega (arith, is, few) in e) h, inl refl)
    ]

    real_on : (c : Command) (made : Option Epoch) → IsUpcoming waves m.graph c made → HasReal m made (Makes waves m.graph c)
    real_on (C.Quantum n) made h = (made, h, inl refl)
    real_on (C.Source n file) made h = (made, h, inl refl)
    real_on (C.Square n rate channels period amp) made h = (made, h, inl refl)
    real_on (C.Gain n gain) made h = (made, h, inl refl)
    real_on (C.Mix2 n ga gb) made h = (made, h, inl refl)
    real_on (C.Delay n frames) made h = (made, h, inl refl)
    real_on (C.Map n channels list) made h = (made, h, inl refl)
    real_on (C.Split n) made h = (made, h, inl refl)
    real_on (C.Sink n file) made h = (made, h, inl refl)
    real_on (C.Meter n) made h = (made, h, inl refl)
    real_on (C.Driver n p) made h = (made, h, inl refl)
    real_on (C.Loop n k) made h = (made, h, inl refl)
    real_on (C.Offer port file) made h = (made, h, inl refl)
    real_on (C.Buffers port n) made h = (made, h, inl refl)
    real_on (C.Link from to) made h = (made, h, inl refl)
    real_on (C.Unlink from to) made h = (made, h, inl refl)
    real_on (C.On n) made h = (made, h, inl refl)
    real_on (C.Off n) made h = (made, h, inl refl)
    real_on (C.Async n) made h = (made, h, inl refl)
    real_on (C.Cycles n) made h = (made, h, inl refl)
    real_on C.Drain made h = let w = real_drain h.0 h.1.0 made h.1.2 h.2 in (w.0, (h.1.0, h.1.1, w.1), w.2)

    real_if : (c : Command) (b : Bool) (made : Option Epoch) → IsAheadIf b waves m.graph c made → HasReal m made (MakesIf b waves m.graph c)
    real_if c true made h = real_on c made h
    real_if c false made h = (made, h, inl refl)

  real_one : (l : Line) (m : Member) (made : Option Epoch) → IsAhead waves l m made → HasReal m made (MakesOf waves l m)
  real_one l m made h = real_if m l.command (is_line_of m.nodes l) made h

  -- ALL PARTS
  events_more : (m : Member) (ms : List Member) (e : Option Epoch) (es : List (Option Epoch))
      → (total (all_sums (m ∷ ms) (e ∷ es))).events ≡ (own_sums m e).events + (total (all_sums ms es)).events
  events_more m ms e es = sum_by-cons (λ (s : Sums). s.events) (own_sums m e) (all_sums ms es)

  same_cons : (e f : Option Epoch) (es fs : List (Option Epoch)) → e ≡ f → es ≡ fs → e ∷ es ≡ f ∷ fs
  same_cons e f es fs p q = ap (λ (x : Option Epoch). x ∷ es) p ∙ ap (λ (l : List (Option Epoch)). f ∷ l) q

  real_both : (m : Member) (ms : List Member) (e f : Option Epoch) (es fs : List (Option Epoch)) → (f ≡ e) ⊎ AreOver (own_sums m e) (own_sums m f)
      → (fs ≡ es) ⊎ AreOver (total (all_sums ms es)) (total (all_sums ms fs))
      → (f ∷ fs ≡ e ∷ es) ⊎ AreOver (total (all_sums (m ∷ ms) (e ∷ es))) (total (all_sums (m ∷ ms) (f ∷ fs)))
  real_both m ms e f es fs (inl p) (inl q) = inl (same_cons f e fs es p q)
  real_both m ms e f es fs (inr p) q = let a = events_more m ms e es in let b = events_more m ms f fs in let x = p.0 in let y = p.1 in
      inr (omega (arith, a, x), omega (arith, b, y))
  real_both m ms e f es fs (inl p) (inr q) = let a = events_more m ms e es in let b = events_more m ms f fs in let x = q.0 in let y = q.1 in
      inr (omega (arith, a, x), omega (arith, b, y))

  real_more : (l : Line) (m : Member) (ms : List Member) (e : Option Epoch) (es : List (Option Epoch)) → HasReal m e (MakesOf waves l m)
      → HaveReal ms es (AllZip (MakesOf waves l) ms) → HaveReal (m ∷ ms) (e ∷ es) (AllZip (MakesOf waves l) (m ∷ ms))
  real_more l m ms e es first rest = (first.0 ∷ rest.0, (first.1, rest.1), real_both m ms e first.0 es rest.0 first.2 rest.2)

  real_all : (l : Line) (ms : List Member) (cut : List (Option Epoch)) → AllZip (IsAhead waves l) ms cut
      → HaveReal ms cut (AllZip (MakesOf waves l) ms)
  real_all l [] [] h = ([], tt, inl refl)
  real_all l [] (e ∷ es) h = absurd h
  real_all l (m ∷ ms) [] h = absurd h
  real_all l (m ∷ ms) (e ∷ es) h = real_more l m ms e es (real_one l m e h.0) (real_all l ms es h.1)

  none_not : (w : Which) → None ≡ Some w → ⊥
  none_not w d = cc

  -- what was looked at passes the limit that the line passes
  pub judged_limit : (l : Line) (ms : List Member) (a : Ahead) (which : Which) → AreAhead waves l ms a → passed a.sums ≡ Some which
      → HasSums waves ms l which
  judged_limit l ms a which h e = record { epochs = real.0; made = real.1; passes = over real.2 } where
    real : HaveReal ms a.epochs (AllZip (MakesOf waves l) ms)
    real = real_all l ms a.epochs h.each

    cut : passed (total (all_sums ms a.epochs)) ≡ Some which
    cut = sym (passed-capped (total (all_sums ms a.epochs))) ∙ (sym (ap passed h.sums) ∙ e)

    over : (real.0 ≡ a.epochs) ⊎ AreOver (total (all_sums ms a.epochs)) (total (all_sums ms real.0)) → passed (total (all_sums ms real.0)) ≡ Some which
    over (inl same) = ap (λ (es : List (Option Epoch)). passed (total (all_sums ms es))) same ∙ cut
    over (inr both) = passes_events (total (all_sums ms real.0)) both.1 ∙ (sym (passes_events (total (all_sums ms a.epochs)) both.0) ∙ cut)

  pub judged_within : (l : Line) (ms : List Member) (a : Ahead) → AreAhead waves l ms a → passed a.sums ≡ None → AreToCome waves l ms a.epochs
  judged_within l ms a h e = record { each = each real.2; within = cut } where
    real : HaveReal ms a.epochs (AllZip (MakesOf waves l) ms)
    real = real_all l ms a.epochs h.each

    cut : passed (total (all_sums ms a.epochs)) ≡ None
    cut = sym (passed-capped (total (all_sums ms a.epochs))) ∙ (sym (ap passed h.sums) ∙ e)

    each : (real.0 ≡ a.epochs) ⊎ AreOver (total (all_sums ms a.epochs)) (total (all_sums ms real.0)) → AllZip (MakesOf waves l) ms a.epochs
    each (inl same) = subst (AllZip (MakesOf waves l) ms) same real.1
    each (inr both) = absurd (none_not W.Events (sym cut ∙ passes_events (total (all_sums ms a.epochs)) both.0))

-- ONE PART MORE
sums_push : (ms : List Member) (es : List (Option Epoch)) (m : Member) (e : Option Epoch) → length es ≡ length ms
    → all_sums (ms ++ m ∷ []) (es ++ e ∷ []) ≡ all_sums ms es ++ own_sums m e ∷ []
sums_push ms es m e long = ap (map (λ (x : Member × Option Epoch). own_sums x.0 x.1)) (zip_more ms es m e long)
    ∙ map-append (λ (x : Member × Option Epoch). own_sums x.0 x.1) (zip ms es) ((m, e) ∷ [])

total_push : (all : List Sums) (s : Sums) → total (all ++ s ∷ []) ≡ both_sums (total all) s
total_push all s = same_sums _ _ _ (both_sums (total all) s) (sum_by_push (λ (x : Sums). x.events) all s)
    (sum_by_push (λ (x : Sums). x.samples) all s) (sum_by_push (λ (x : Sums). x.bytes) all s)

add_left : (a b : ℕ) → capped (capped a + b) ≡ capped (a + b)
unfolding capped
add_left a b = omega arith

add_both : (a b x : ℕ) → capped (capped (a + b) + x) ≡ capped (a + (b + x))
unfolding capped
add_both a b x = omega arith

capped_left : (a b : Sums) → capped_sums (both_sums (capped_sums a) b) ≡ capped_sums (both_sums a b)
capped_left a b = same_sums _ _ _ (capped_sums (both_sums a b)) (add_left a.events b.events) (add_left a.samples b.samples) (add_left a.bytes b.bytes)

-- the sums with an epoch of the part, and without one
pub more_with : (sums before : Sums) (m : Member) (e : Epoch) → before ≡ capped_sums (both_sums sums m.graph.sums)
    → capped_sums (sums_with m.graph.kinds before e) ≡ capped_sums (both_sums sums (own_sums m (Some e)))
more_with sums before m e is = ap (λ (s : Sums). capped_sums (sums_with m.graph.kinds s e)) is
    ∙ same_sums _ _ _ (capped_sums (both_sums sums (own_sums m (Some e)))) (add_both sums.events m.graph.sums.events _)
    (add_both sums.samples m.graph.sums.samples _) (add_both sums.bytes m.graph.sums.bytes _)

pub total_more : (ms : List Member) (es : List (Option Epoch)) (m : Member) (e : Option Epoch) (old new : Sums) → length es ≡ length ms
    → old ≡ capped_sums (total (all_sums ms es)) → new ≡ capped_sums (both_sums old (own_sums m e))
    → new ≡ capped_sums (total (all_sums (ms ++ m ∷ []) (es ++ e ∷ [])))
total_more ms es m e old new long was is = is ∙ (ap (λ (s : Sums). capped_sums (both_sums s (own_sums m e))) was
    ∙ (capped_left (total (all_sums ms es)) (own_sums m e)
    ∙ (sym (ap capped_sums (total_push (all_sums ms es) (own_sums m e)))
    ∙ sym (ap (λ (all : List Sums). capped_sums (total all)) (sums_push ms es m e long)))))

capped_zero : capped 0 ≡ 0
unfolding capped
capped_zero = refl

pub total_none : (sums : Sums) → sums ≡ record { events = 0; samples = 0; bytes = 0 } → (es : List (Option Epoch)) → es ≡ []
    → sums ≡ capped_sums (total (all_sums [] es))
total_none sums e es none = e ∙ (same_sums 0 0 0 (capped_sums (total [])) (sym capped_zero) (sym capped_zero) (sym capped_zero)
    ∙ sym (ap (λ (x : List (Option Epoch)). capped_sums (total (all_sums [] x))) none))

-- the sums of one part, and those of the others
pub first_within : (s : Sums) (all : List Sums) → passed (total (s ∷ all)) ≡ None → (passed s ≡ None) × (passed (total all) ≡ None)
first_within s all p =
    let w = within_limits (total (s ∷ all)) p in let a = w.0 in let b = w.1 in let c = w.2 in
    let x = sum_by-cons (λ (t : Sums). t.events) s all in let y = sum_by-cons (λ (t : Sums). t.samples) s all in
    let z = sum_by-cons (λ (t : Sums). t.bytes) s all in (
      passes_none s (omega (arith, a, x)) (omega (arith, b, y)) (omega (arith, c, z)),
      passes_none (total all) (omega (arith, a, x)) (omega (arith, b, y)) (omega (arith, c, z)),
    )
