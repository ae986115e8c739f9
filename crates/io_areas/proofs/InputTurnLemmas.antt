-- From step to step of a reader's turn.
use Rattle.std.proofs.Common.{◌≡◌, ℕ, ◌+◌, ◌<◌, Bool, true, false, List, length, set, refl, sym, ap}
use Rattle.std.proofs.Common.{◌∙◌, subst, arith, set-set}
use Rattle.std.proofs.Common.{length-set, get_or-set_same}
use Rattle.board_rule.specs.declared.view.ReadView.{ReadView}
use Rattle.board_rule.specs.declared.view.View.{View}
use Rattle.board_rule.specs.Layout.{BoardLayout}
use Rattle.board_rule.specs.View.{unread}
use Rattle.board_rule.specs.buffers.EndViews.{read_of, view_read, pool_at, pool_of, reader_of}
use Rattle.board_rule.specs.activation.SeatNodes.{HasNode}
use Rattle.board_rule.specs.activation.WorkSteps.{IsRunning}
use Rattle.board_rule.specs.buffers.ReaderSteps.{read_cycle, LoadsAsReader}
use Rattle.io_areas.specs.Reading.{taken, IsHolding, all_loaded, brought_in, brought, GivesBack, given_back}
use Rattle.io_areas.specs.Ends.{IsReadUpTo}
use Rattle.io_areas.specs.InputTurn.{MayReadInput, HasReadInput}
use Rattle.io_areas.proofs.ReadingLemmas.{loads, reads_loads}

module _ (p : BoardLayout) (v : View) (l : ℕ) (y : ReadView) where
  -- another end of a link leaves the node
  pub has_again : (b : Bool) (m : ℕ) → HasNode b p v m → HasNode b p (view_read v l y) m
  has_again true m h = h
  has_again false m h = let o = h.0 in (
    record { inside = o.inside; follows = o.follows; loops = o.loops; owned = o.owned; there = o.there; knows = o.knows; owners = o.owners },
    h.1,
    h.2,
  )

  pub runs_again : (b : Bool) (m : ℕ) → IsRunning b v m → IsRunning b (view_read v l y) m
  runs_again true m r = r
  runs_again false m r = r

  pub cycle_again : (b : Bool) → read_cycle b p (view_read v l y) l ≡ read_cycle b p v l
  cycle_again true = refl
  cycle_again false = refl

  pub end_again : l < length v.reads → read_of (view_read v l y) l ≡ y
  end_again h = get_or-set_same v.reads l y (unread 0) h

-- the words that are loaded leave the cycle
cycle_loads : (b : Bool) (p : BoardLayout) (v : View) (l : ℕ) (words : List ℕ) → read_cycle b p (loads p v words) l ≡ read_cycle b p v l
cycle_loads true p v l words = refl
cycle_loads false p v l words = refl

module _ (b : Bool) (p : BoardLayout) (v : View) (l : ℕ) (h : MayReadInput b p v l) where
  abbrev words : ℕ
  words = (pool_at p (pool_of p l)).words

  pub may_take : LoadsAsReader b p v l
  may_take = ((h.inside, h.even.there, h.has, h.runs, h.even.words), h.even.loaded)

  module _ (id : ℕ) (low : id < (pool_at p (pool_of p l)).blocks) where
    abbrev y : ReadView
    y = record (read_of v l) { loaded = read_cycle b p v l + 1; id = id }

    -- when the block is taken, and when it is read
    abbrev taken_now : View
    taken_now = taken b p v l id

    abbrev read_now : View
    read_now = all_loaded b p (taken b p v l id) l

    is : read_of taken_now l ≡ y
    is = end_again p v l y h.even.there

    same : read_cycle b p taken_now l ≡ read_cycle b p v l
    same = cycle_loads b p (view_read v l y) l (set v.words_read l 0) ∙ cycle_again p v l y b

    same_read : read_cycle b p read_now l ≡ read_cycle b p v l
    same_read = cycle_loads b p taken_now l (set taken_now.words_read l words) ∙ same

    long_taken : length taken_now.words_read ≡ length v.words_read
    long_taken = length-set v.words_read l 0

    pub holds : IsHolding b p taken_now l
    holds = let there = h.even.there in let long = length-set v.reads l y in let loads_it = h.even.words in
        let back = cycle_again p v l y b in
        reads_loads p (view_read v l y) (set v.words_read l 0) b l (read_of taken_now l).id long_taken (
          (
            (h.inside, omega arith, has_again p v l y b (reader_of p l) h.has, runs_again p v l y b (reader_of p l) h.runs, loads_it),
            ap (λ (z : ReadView). z.loaded) is ∙ ap (λ n. n + 1) (sym back),
            subst (λ n. n < (pool_at p (pool_of p l)).blocks) (sym (ap (λ (z : ReadView). z.id) is)) low,
            refl,
          ),
          ap (λ (z : ReadView). z.lowered) is ∙ h.even.lowered ∙ sym back,
        )

    -- what it reads is decided by the view before
    pub brought_now : brought b p taken_now l ≡ brought b p v l
    brought_now = ap (λ c. brought_in p v.expect l c) same

    pub may_give : GivesBack b p read_now l
    may_give = let low = h.even.words in let long = long_taken in (
      reads_loads p taken_now (set taken_now.words_read l words) b l (read_of taken_now l).id (length-set taken_now.words_read l words) holds,
      ap (λ (z : ReadView). z.stored) is ∙ h.even.stored ∙ sym same_read,
      get_or-set_same taken_now.words_read l words 0 (omega arith),
    )

    abbrev given : ReadView
    given = record y { lowered = read_cycle b p v l + 1; stored = read_cycle b p v l + 1 }

    pub has_read : (w : View) → w ≡ given_back b p read_now l → HasReadInput b p v l w
    has_read w e = (
      id,
      e
          ∙ ap (λ (k : ReadView × ℕ). view_read read_now l (record k.0 { lowered = k.1 + 1; stored = k.1 + 1 }))
          (λ i. (is i, same_read i))
          ∙ ap (λ (k : List ReadView × List ℕ). record v { reads = k.0; words_read = k.1 })
          (λ i. (set-set v.reads l y given i, set-set v.words_read l 0 words i)),
    )

  pub read_even : (w : View) → HasReadInput b p v l w → IsReadUpTo w l (read_cycle b p v l + 1)
  read_even w r = let z : ReadView = record {
    loaded = read_cycle b p v l + 1;
    lowered = read_cycle b p v l + 1;
    stored = read_cycle b p v l + 1;
    id = r.0;
  }
      in let e = end_again p v l z h.even.there in let there = h.even.there in let long = length-set v.reads l z in
      let loads_it = h.even.words in let all = length-set v.words_read l words in
      subst (λ (u : View). IsReadUpTo u l (read_cycle b p v l + 1)) (sym r.1) record {
        there = omega arith;
        words = omega arith;
        loaded = ap (λ (x : ReadView). x.loaded) e;
        lowered = ap (λ (x : ReadView). x.lowered) e;
        stored = ap (λ (x : ReadView). x.stored) e;
      }
