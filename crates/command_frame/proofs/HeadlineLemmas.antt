-- Laws of `specs/Headline.antt`: from what was prepared and finished to what the call says.
use Rattle.std.proofs.Common.{◌≡◌, ℕ, refl, sym, subst, inl, inr, ap, ◌∙◌, arith}
use Rattle.std.specs.Prelude.{◌⊎◌, Result, Ok, Err}
use Rattle.command_frame.specs.declared.ending.End.{End}
use Rattle.command_frame.specs.declared.ending.End.TheVariants as E
use Rattle.command_frame.specs.declared.work.Work.{Work}
use Rattle.pw_outside.specs.Causes.{Rose}
use Rattle.command_frame.specs.Answer.{Answer}
use Rattle.command_frame.specs.Statuses.{Statuses}
use Rattle.command_frame.specs.Ending.{IsEndOf, StopsAt, IsRefusal, PrepareCause, IsDeliverable}
use Rattle.command_frame.specs.Ending.IsEndOf.{is_end}
use Rattle.command_frame.specs.Following.{status_of, stores_of, text_of, GaveLine, StatusFollows, FilesFollow, TextFollows}
use Rattle.command_frame.specs.Delivery.{LineEnds}
use Rattle.command_frame.specs.Finishing.{IsWorkEnd, Finished, accepted}
use Rattle.command_frame.specs.FaultCauses.{EndCaused, Caused, HadNoFault}
use Rattle.command_frame.specs.Headline.{FollowsTo, Follows, IsNoFault}
use Rattle.command_frame.specs.Outside.{Outside}

module _ {S : Type 0} (m : Statuses S) where
  -- memory was short, and nothing was done but its line
  lost : (a : Answer S) (b n : Outside) (status : S) → m.means status ≡ E.Memory → n.held ≡ b.held
      → (n.given ≡ b.given) ⊎ GaveLine (m.line status) b.put_faults n.put_faults b.given n.given → Follows m a b n status
  lost a b n status is e f = subst (λ end. FollowsTo m a b n status end) (sym is) (record { stop = tt; files = inl e; text = f })

  -- a refusal, and its line
  refusal_line : (a : Answer S) (b n : Outside) (f f' : ℕ) (status : S) (end : End) → StopsAt a status end → IsRefusal f f' end
      → n.held ≡ b.held → GaveLine (m.line status) b.put_faults n.put_faults b.given n.given → FollowsTo m a b n status end
  refusal_line a b n f f' status E.Done s c e l = absurd c
  refusal_line a b n f f' status (E.Usage word) s c e l = record { stop = ap (status_of m.done) s; files = e; text = l }
  refusal_line a b n f f' status (E.ReadFault place) s c e l = record { stop = s; files = e; text = l }
  refusal_line a b n f f' status (E.StoreFault place) s c e l = absurd c
  refusal_line a b n f f' status E.PutFault s c e l = absurd c
  refusal_line a b n f f' status E.Memory s c e l = record { stop = tt; files = inl e; text = inr l }
  refusal_line a b n f f' status E.Refused s c e l = record { stop = ap (status_of m.done) s; files = e; text = l }

  -- an answer that accepts with this work is followed as the work was
  stop_same : (a : Answer S) (w : Work) (status : S) (end : End) → a.outcome ≡ Ok w
      → StatusFollows m.done (accepted w) status end → StatusFollows m.done a status end
  stop_same a w status E.Done e h = ap (status_of m.done) e ∙ h
  stop_same a w status (E.Usage word) e h = ap (status_of m.done) e ∙ h
  stop_same a w status (E.ReadFault place) e h = absurd (omega (arith, h))
  stop_same a w status (E.StoreFault place) e h = ap (status_of m.done) e ∙ h
  stop_same a w status E.PutFault e h = ap (status_of m.done) e ∙ h
  stop_same a w status E.Memory e h = tt
  stop_same a w status E.Refused e h = ap (status_of m.done) e ∙ h

  accepted_follows : (a : Answer S) (w : Work) (b n : Outside) (status : S) → a.outcome ≡ Ok w → Follows m (accepted w) b n status
      → Follows m a b n status
  accepted_follows a w b n status e h = record {
    stop = stop_same a w status (m.means status) e h.stop;
    files = subst (λ (o : Result Work S). FilesFollow m (stores_of o) (text_of o) b.store_faults n.store_faults b.held n.held (m.means status))
        (sym e) h.files;
    text = subst (λ (o : Result Work S). TextFollows (text_of o) (m.line status) b.put_faults n.put_faults b.given n.given (m.means status))
        (sym e) h.text;
  }

  -- FROM what was made and finished, the answer is followed
  pub follows : (a : Answer S) (b n : Outside) (made : Result Work S) (f f' : ℕ) (status : S)
      → PrepareCause m (IsDeliverable m) f f' made → IsEndOf m a made → Finished m made b n status → Follows m a b n status
  follows a b n (Ok w) f f' status c (is_end e) d = accepted_follows a w b n status e d.follows
  follows a b n (Err r) f f' status c (is_end e) (h, inl x) =
      subst (λ s. Follows m a b n s) (sym x.0) (refusal_line a b n f f' r (m.means r) e c h x.1)
  follows a b n (Err r) f f' status c (is_end e) (h, inr x) = lost a b n status x.0 h x.2

  -- what was made is finished from where the loads began
  kept_end : (b b1 n : Outside) (end : End) → b1.store_faults ≡ b.store_faults → b1.put_faults ≡ b.put_faults → IsWorkEnd b1 n end
      → IsWorkEnd b n end
  kept_end b b1 n E.Done s p h = tt
  kept_end b b1 n (E.Usage word) s p h = absurd h
  kept_end b b1 n (E.ReadFault place) s p h = absurd h
  kept_end b b1 n (E.StoreFault place) s p h = subst (λ x. Rose x n.store_faults) s h
  kept_end b b1 n E.PutFault s p h = subst (λ x. Rose x n.put_faults) p h
  kept_end b b1 n E.Memory s p h = tt
  kept_end b b1 n E.Refused s p h = absurd h

  pub kept : (b b1 n : Outside) (made : Result Work S) (status : S) → b1.held ≡ b.held → b1.store_faults ≡ b.store_faults
      → b1.put_faults ≡ b.put_faults → b1.given ≡ b.given → Finished m made b1 n status → Finished m made b n status
  kept b b1 n (Ok w) status h s p g d = record {
    follows = record {
      stop = d.follows.stop;
      files = subst (λ x. FilesFollow m w.stores w.text b.store_faults n.store_faults x n.held (m.means status)) h
          (subst (λ x. FilesFollow m w.stores w.text x n.store_faults b1.held n.held (m.means status)) s d.follows.files);
      text = subst (λ x. TextFollows w.text (m.line status) b.put_faults n.put_faults x n.given (m.means status)) g
          (subst (λ x. TextFollows w.text (m.line status) x n.put_faults b1.given n.given (m.means status)) p d.follows.text);
    };
    end = kept_end b b1 n (m.means status) s p d.end;
  }
  kept b b1 n (Err e) status h s p g d = (
    d.0 ∙ h,
    subst (λ x. LineEnds m e b.put_faults n.put_faults x n.given status) g
        (subst (λ x. LineEnds m e x n.put_faults b1.given n.given status) p d.1),
  )

  -- where no fault was counted, the status is no fault's
  no_fault_to : (b n : Outside) (end : End) → EndCaused b n end → HadNoFault b n → IsNoFault end
  no_fault_to b n E.Done c none = tt
  no_fault_to b n (E.Usage word) c none = tt
  no_fault_to b n (E.ReadFault place) c none = none.loads c
  no_fault_to b n (E.StoreFault place) c none = none.stores c
  no_fault_to b n E.PutFault c none = none.puts c
  no_fault_to b n E.Memory c none = tt
  no_fault_to b n E.Refused c none = tt

  pub no_fault : (b n : Outside) (status : S) → Caused m b n status → HadNoFault b n → IsNoFault (m.means status)
  no_fault b n status c none = no_fault_to b n (m.means status) c none

  -- and it is that of the answer
  complete_to : (a : Answer S) (status : S) (end : End) → StatusFollows m.done a status end → IsNoFault end
      → (status ≡ status_of m.done a.outcome) ⊎ (end ≡ E.Memory)
  complete_to a status E.Done h none = inl (sym h)
  complete_to a status (E.Usage word) h none = inl (sym h)
  complete_to a status (E.ReadFault place) h none = absurd none
  complete_to a status (E.StoreFault place) h none = absurd none
  complete_to a status E.PutFault h none = absurd none
  complete_to a status E.Memory h none = inr refl
  complete_to a status E.Refused h none = inl (sym h)

  pub complete : (a : Answer S) (b n : Outside) (status : S) → Follows m a b n status → IsNoFault (m.means status)
      → (status ≡ status_of m.done a.outcome) ⊎ (m.means status ≡ E.Memory)
  complete a b n status h none = complete_to a status (m.means status) h.stop none
