-- Laws of `specs/Finishing.antt`: how accepted work ended.
use Rattle.std.proofs.Common.{◌≡◌, ℕ, ◌≤◌, refl, sym, subst, inl, inr, take, length, List, [], ◌<◌, ◌∙◌, arith}
use Rattle.std.proofs.lemmas.List.{take_all}
use Rattle.std.specs.Prelude.{◌≢◌, ◌⊎◌, Result, Ok}
use Rattle.pw_outside.specs.Files.{Held}
use Rattle.pw_outside.specs.Output.{Given, Gave, GavePart}
use Rattle.command_frame.specs.declared.ending.End.{End}
use Rattle.command_frame.specs.declared.ending.End.TheVariants as E
use Rattle.command_frame.specs.declared.work.Store.{Store}
use Rattle.command_frame.specs.declared.work.Work.{Work}
use Rattle.command_frame.specs.Following.{GaveLine, TextFollows}
use Rattle.command_frame.specs.Headline.{FollowsTo}
use Rattle.command_frame.specs.Outside.{Outside}
use Rattle.command_frame.specs.Statuses.{Statuses}
use Rattle.command_frame.specs.Stores.{AllStored, ShortAt}
use Rattle.command_frame.specs.Delivery.{StoresStop, LineEnds, IsTextEnd, TextEnds}
use Rattle.command_frame.specs.Finishing.{IsWorkEnd, WorkFinished, Finished, accepted}
use Rattle.command_frame.proofs.CountLemmas.{rose_later}

module _ {S : Type 0} (m : Statuses S) where
  -- work is followed up to an end, which has its cause
  abbrev Ended : Work → Outside → Outside → S → End → Type 0
  Ended w b n status end = FollowsTo m (accepted w) b n status end × IsWorkEnd b n end

  -- all was stored, and memory was short for the text
  short_text : (stores : List Store) (text : List ℕ) (old new : Held) → AllStored stores old new → text ≢ [] → ShortAt stores text old new
  short_text stores text old new d some =
      let all : take (length stores) stores ≡ stores = grind (arith, take_all) in
      record { before = length stores; more = inr some; held = subst (λ x. AllStored x old new) (sym all) d }

  -- memory was short for a store, whatever the text
  more_of : (i k : ℕ) (none text : List ℕ) → none ≡ [] → (i < k) ⊎ (none ≢ []) → (i < k) ⊎ (text ≢ [])
  more_of i k none text e (inl l) = inl l
  more_of i k none text e (inr some) = absurd (some e)

  short_store : (stores : List Store) (text : List ℕ) (old new : Held) → ShortAt stores [] old new → ShortAt stores text old new
  short_store stores text old new s =
      record { before = s.before; more = more_of s.before (length stores) [] text refl s.more; held = s.held }

  -- all stores were made, and the text ended
  text_to : (w : Work) (b n : Outside) (status : S) (end : End) → AllStored w.stores b.held n.held
      → TextFollows w.text (m.line status) b.put_faults n.put_faults b.given n.given end
      → IsTextEnd m.done status w.text b.put_faults n.put_faults end → Ended w b n status end
  text_to w b n status E.Done d t e = (record { stop = e; files = d; text = t }, tt)
  text_to w b n status (E.Usage word) d t e = absurd e
  text_to w b n status (E.ReadFault place) d t e = absurd e
  text_to w b n status (E.StoreFault place) d t e = absurd e
  text_to w b n status E.PutFault d t e = (record { stop = refl; files = d; text = t }, e)
  text_to w b n status E.Memory d t e =
      (record { stop = tt; files = inr (inl (short_text w.stores w.text b.held n.held d e)); text = t }, tt)
  text_to w b n status E.Refused d t e = absurd e

  -- the stores stopped, and the line was put
  stop_line : (w : Work) (b n : Outside) (status : S) (end : End)
      → StoresStop m status w.stores b.store_faults n.store_faults b.held n.held end
      → GaveLine (m.line status) b.put_faults n.put_faults b.given n.given → Ended w b n status end
  stop_line w b n status E.Done d l = absurd d
  stop_line w b n status (E.Usage word) d l = absurd d
  stop_line w b n status (E.ReadFault place) d l = absurd d
  stop_line w b n status (E.StoreFault place) d l = (record { stop = refl; files = d.1; text = l }, d.2)
  stop_line w b n status E.PutFault d l = absurd d
  stop_line w b n status E.Memory d l =
      (record { stop = tt; files = inr (inl (short_store w.stores w.text b.held n.held d)); text = inr l }, tt)
  stop_line w b n status E.Refused d l = absurd d

  -- the stores stopped, and memory was short for the line; the line of that was put or not
  stop_short : (w : Work) (b n : Outside) (stop status : S) (end : End)
      → StoresStop m stop w.stores b.store_faults n.store_faults b.held n.held end → m.line stop ≢ []
      → (n.given ≡ b.given) ⊎ GaveLine (m.line status) b.put_faults n.put_faults b.given n.given → Ended w b n status E.Memory
  stop_short w b n stop status E.Done d lined f = absurd d
  stop_short w b n stop status (E.Usage word) d lined f = absurd d
  stop_short w b n stop status (E.ReadFault place) d lined f = absurd d
  stop_short w b n stop status (E.StoreFault place) d lined f = (
    record {
      stop = tt;
      files = inr (inr (record { place = place; cut = d.1; rose = d.2; lined = subst (λ s. m.line s ≢ []) d.0 lined }));
      text = f;
    },
    tt,
  )
  stop_short w b n stop status E.PutFault d lined f = absurd d
  stop_short w b n stop status E.Memory d lined f =
      (record { stop = tt; files = inr (inl (short_store w.stores w.text b.held n.held d)); text = f }, tt)
  stop_short w b n stop status E.Refused d lined f = absurd d

  pub text_finished : (w : Work) (b n : Outside) (status : S) → AllStored w.stores b.held n.held
      → TextEnds m w.text b.put_faults n.put_faults b.given n.given status → WorkFinished m w b n status
  text_finished w b n status d t =
      let f = text_to w b n status (m.means status) d t.given t.end in
      record { follows = f.0; end = f.1 }

  pub stop_finished : (w : Work) (b n : Outside) (stop status : S)
      → StoresStop m stop w.stores b.store_faults n.store_faults b.held n.held (m.means stop)
      → LineEnds m stop b.put_faults n.put_faults b.given n.given status → WorkFinished m w b n status
  stop_finished w b n stop status d (inl x) =
      let f = stop_line w b n stop (m.means stop) d x.1 in
      subst (λ s. WorkFinished m w b n s) (sym x.0) (record { follows = f.0; end = f.1 })
  stop_finished w b n stop status d (inr x) =
      let f = stop_short w b n stop status (m.means stop) d x.1 x.2 in
      record {
        follows = subst (λ end. FollowsTo m (accepted w) b n status end) (sym x.0) f.0;
        end = subst (λ end. IsWorkEnd b n end) (sym x.0) f.1;
      }

  -- the same of what was made, whose stores and text are those of the work
  pub stop_made : (made : Result Work S) (w : Work) (xs : List Store) (b n : Outside) (stop status : S) → made ≡ Ok w → xs ≡ w.stores
      → StoresStop m stop xs b.store_faults n.store_faults b.held n.held (m.means stop)
      → LineEnds m stop b.put_faults n.put_faults b.given n.given status → Finished m made b n status
  stop_made made w xs b n stop status e f d l = subst (λ x. Finished m x b n status) (sym e)
      (stop_finished w b n stop status
      (subst (λ ys. StoresStop m stop ys b.store_faults n.store_faults b.held n.held (m.means stop)) f d) l)

  pub text_made : (made : Result Work S) (w : Work) (xs : List Store) (text : List ℕ) (b n : Outside) (status : S) → made ≡ Ok w
      → xs ≡ w.stores → text ≡ w.text → AllStored xs b.held n.held
      → TextEnds m text b.put_faults n.put_faults b.given n.given status → Finished m made b n status
  text_made made w xs text b n status e f k d t = subst (λ x. Finished m x b n status) (sym e)
      (text_finished w b n status (subst (λ ys. AllStored ys b.held n.held) f d)
      (subst (λ y. TextEnds m y b.put_faults n.put_faults b.given n.given status) k t))

  -- memory was short for the text, and its line was put or not
  line_later : (line : List ℕ) (p p1 p' : ℕ) (g g1 g' : Given) → p ≤ p1 → g1 ≡ g → GaveLine line p1 p' g1 g' → GaveLine line p p' g g'
  line_later line p p1 p' g g1 g' l e (inl x) = inl (subst (λ o. Gave line o g') e x)
  line_later line p p1 p' g g1 g' l e (inr x) = inr (subst (λ o. GavePart line o g') e x.0, rose_later p p1 p' l x.1)

  memory_later : (line : List ℕ) (p p1 p' : ℕ) (g g1 g' : Given) → p ≤ p1 → g1 ≡ g → (g' ≡ g1) ⊎ GaveLine line p1 p' g1 g'
      → (g' ≡ g) ⊎ GaveLine line p p' g g'
  memory_later line p p1 p' g g1 g' l e (inl x) = inl (x ∙ e)
  memory_later line p p1 p' g g1 g' l e (inr x) = inr (line_later line p p1 p' g g1 g' l e x)

  pub text_short : (text : List ℕ) (p p1 p' : ℕ) (g g1 g' : Given) (e status : S) → p ≤ p1 → text ≢ [] → g1 ≡ g → m.means e ≡ E.Memory
      → LineEnds m e p1 p' g1 g' status → TextEnds m text p p' g g' status
  text_short text p p1 p' g g1 g' e status l some same is (inl x) = subst (λ s. TextEnds m text p p' g g' s) (sym x.0) (record {
    given = subst (λ end. TextFollows text (m.line e) p p' g g' end) (sym is) (inr (line_later (m.line e) p p1 p' g g1 g' l same x.1));
    end = subst (λ end. IsTextEnd m.done e text p p' end) (sym is) some;
  })
  text_short text p p1 p' g g1 g' e status l some same is (inr x) = record {
    given = subst (λ end. TextFollows text (m.line status) p p' g g' end) (sym x.0) (memory_later (m.line status) p p1 p' g g1 g' l same x.2);
    end = subst (λ end. IsTextEnd m.done status text p p' end) (sym x.0) some;
  }
