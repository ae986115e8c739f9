-- From link to link of a node that reads.
use Rattle.std.proofs.Common.{◌≡◌, ◌≢◌, ℕ, ◌+◌, ◌<◌, Bool, true, false, List, length, get_or, take, refl, sym, ap, ◌∙◌, subst}
use Rattle.std.proofs.Common.{arith, ⊎_elim}
use Rattle.std.proofs.Common.{length-set, get_or-set_other}
use Rattle.std.specs.Prelude.{Contains}
use mathlib.Core.Logic.{dite}
use native.Mathlib.Decide.{ℕ_discrete}
use Rattle.board_rule.specs.declared.view.ReadView.{ReadView}
use Rattle.board_rule.specs.declared.view.View.{View}
use Rattle.board_rule.specs.Layout.{BoardLayout}
use Rattle.board_rule.specs.View.{unread}
use Rattle.board_rule.specs.buffers.EndViews.{read_of, reader_of}
use Rattle.board_rule.specs.activation.SeatNodes.{HasNode}
use Rattle.board_rule.specs.activation.WorkSteps.{IsRunning}
use Rattle.board_rule.specs.buffers.ReaderSteps.{read_cycle}
use Rattle.io_areas.specs.Ends.{IsReadUpTo}
use Rattle.io_areas.specs.InputTurn.{MayReadInput, HasReadInput}
use Rattle.io_areas.proofs.InputTurnLemmas.{read_even}
use Rattle.data_loop.specs.working.ReadingInputs.{MayReadAll, AreRead}
use Rattle.data_loop.proofs.turns.ListLemmas.{take_cases, early_differs, last_taken, still_taken}

module _ (p : BoardLayout) (v : View) (rs : List ReadView) (hs : List ℕ) where
  -- other ends of links leave the nodes
  pub reads_have : (b : Bool) (m : ℕ) → HasNode b p v m → HasNode b p (record v { reads = rs; words_read = hs }) m
  reads_have true m h = h
  reads_have false m h = let o = h.0 in (
    record { inside = o.inside; follows = o.follows; loops = o.loops; owned = o.owned; there = o.there; knows = o.knows; owners = o.owners },
    h.1,
    h.2,
  )

  pub reads_run : (b : Bool) (m : ℕ) → IsRunning b v m → IsRunning b (record v { reads = rs; words_read = hs }) m
  reads_run true m r = r
  reads_run false m r = r

  pub reads_cycle : (b : Bool) (l : ℕ) → read_cycle b p (record v { reads = rs; words_read = hs }) l ≡ read_cycle b p v l
  reads_cycle true l = refl
  reads_cycle false l = refl

pub read_moves : (v w : View) (l c : ℕ) → length w.reads ≡ length v.reads → length w.words_read ≡ length v.words_read → read_of w l ≡ read_of v l
    → IsReadUpTo v l c → IsReadUpTo w l c
read_moves v w l c long words same e = record {
  there = subst (λ n. l < n) (sym long) e.there;
  words = subst (λ n. l < n) (sym words) e.words;
  loaded = ap (λ (r : ReadView). r.loaded) same ∙ e.loaded;
  lowered = ap (λ (r : ReadView). r.lowered) same ∙ e.lowered;
  stored = ap (λ (r : ReadView). r.stored) same ∙ e.stored;
}

module _ (b : Bool) (p : BoardLayout) (v : View) (links : List ℕ) (may : MayReadAll b p v links) where
  pub none_read : AreRead b p v (take 0 links) v
  none_read = record { same = refl; ends = refl; words = refl; read = λ l c. absurd (omega (arith, c.1)); others = λ l o. refl }

  module _ (k : ℕ) (w : View) (low : k < length links) (so_far : AreRead b p v (take k links) w) where
    abbrev link : ℕ
    link = get_or links k 0

    abbrev cycle : ℕ
    cycle = read_cycle b p v link

    was : MayReadInput b p v link
    was = may.0 k 0 low

    same_cycle : (l : ℕ) → read_cycle b p w l ≡ read_cycle b p v l
    same_cycle l = ap (λ (x : View). read_cycle b p x l) so_far.same ∙ reads_cycle p v w.reads w.words_read b l

    untouched : read_of w link ≡ read_of v link
    untouched = so_far.others link (early_differs links k may.1 low)

    pub may_read : MayReadInput b p w link
    may_read = record {
      inside = was.inside;
      has = subst (λ (x : View). HasNode b p x (reader_of p link)) (sym so_far.same) (reads_have p v w.reads w.words_read b (reader_of p link) was.has);
      runs = subst (λ (x : View). IsRunning b x (reader_of p link)) (sym so_far.same) (reads_run p v w.reads w.words_read b (reader_of p link) was.runs);
      even = subst (IsReadUpTo w link) (sym (same_cycle link)) (read_moves v w link cycle so_far.ends so_far.words untouched was.even);
    }

    module _ (u : View) (read : HasReadInput b p w link u) where
      longer : length u.reads ≡ length w.reads
      longer = ap (λ (x : View). length x.reads) read.1 ∙ length-set w.reads link _

      words_on : length u.words_read ≡ length w.words_read
      words_on = ap (λ (x : View). length x.words_read) read.1 ∙ length-set w.words_read link _

      other : (l : ℕ) → l ≢ link → read_of u l ≡ read_of w l
      other l o = ap (λ (x : View). read_of x l) read.1 ∙ get_or-set_other w.reads link l _ (unread 0) o

      pub one_more : AreRead b p v (take (k + 1) links) u
      one_more = record {
        same = read.1 ∙ ap (λ (k : List ReadView × List ℕ). record w { reads = k.0; words_read = k.1 })
            (λ i. (sym (ap (λ (x : View). x.reads) read.1) i, sym (ap (λ (x : View). x.words_read) read.1) i))
            ∙ ap (λ (x : View). record x { reads = u.reads; words_read = u.words_read }) so_far.same;
        ends = longer ∙ so_far.ends;
        words = words_on ∙ so_far.words;
        read = λ l c. dite (ℕ_discrete l link)
            (λ e. subst (λ i. IsReadUpTo u i (read_cycle b p v i + 1)) (sym e)
            (subst (λ n. IsReadUpTo u link (n + 1)) (same_cycle link) (read_even b p w link may_read u read)))
            (λ e. read_moves w u l (read_cycle b p v l + 1) longer words_on (other l e)
            (so_far.read l (⊎_elim (λ old. old) (λ new. absurd (e (sym new))) (take_cases links k l low c))));
        others = λ l o. other l (λ e. o (subst (Contains (take (k + 1) links)) (sym e) (last_taken links k low)))
            ∙ so_far.others l (λ c. o (still_taken links k l low c));
      }
