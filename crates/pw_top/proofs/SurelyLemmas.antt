-- Laws of `specs/Surely.antt`: where no count rises, what a status says is all of the answer.
use Rattle.std.proofs.Common.{◌≡◌, ℕ, zero, suc, subst, refl, sym, ap, inl, inr, List, ◌∙◌, arith, ◌++◌, append-nil}
use Rattle.std.specs.Prelude.{◌⊎◌, [], take, Some, unwrap_or, Result, Ok, Err}
use Rattle.pw_outside.specs.Files.{Names}
use Rattle.pw_outside.specs.Causes.{Rose}
use Rattle.command_frame.specs.declared.ending.End.TheVariants as E
use Rattle.command_frame.specs.declared.work.Work.{Work}
use Rattle.command_frame.specs.FaultCauses.{Caused}
use Rattle.command_frame.specs.Following.{stores_of, text_of, GaveLine, FilesFollow}
use Rattle.command_frame.specs.Headline.{Follows}
use Rattle.command_frame.specs.Outside.{Outside}
use Rattle.command_frame.specs.Stores.{stored_all}
use Rattle.run_results.specs.declared.status.Status.{Status}
use Rattle.run_results.specs.declared.status.Status.TheVariants as S
use Rattle.run_results.specs.StatusLine.{line_of}
use Rattle.run_results.specs.Statuses.{statuses}
use Rattle.pw_top.specs.Answer.{Answer, status_of}
use Rattle.pw_top.specs.Surely.{output_of, IsDone, IsCutShort, EndsSurely}

-- what objects that never fail show
abbrev pub sure : Names → List ℕ → Outside
sure names given = record { held = Some names; given = Some given; load_faults = 0; store_faults = 0; put_faults = 0 }

some_is : {T : Type 0} {x y : T} → Some x ≡ Some y → x ≡ y
some_is {x = x} e = ap (λ o. unwrap_or o x) e

never_rose : Rose 0 0 → ⊥
never_rose r = grind (arith, r)

-- the output of an accepted answer, and of a refusal
ok_output : (outcome : Result Work Status) → status_of outcome ≡ S.Ok → output_of outcome ≡ text_of outcome
ok_output (Ok work) e = refl
ok_output (Err status) e = ap line_of e

line_given : (line given given' : List ℕ) → GaveLine line 0 0 (Some given) (Some given') → given' ≡ given ++ line
line_given line given given' (inl g) = some_is g
line_given line given given' (inr g) = absurd (never_rose g.1)

-- a status of a refusal, and the answer that it gives
abbrev IsRefused : Status → Type 0
IsRefused S.Ok = ⊥
IsRefused _ = Unit {0}

refused_stores : (outcome : Result Work Status) (e : Status) → IsRefused e → status_of outcome ≡ e → stores_of outcome ≡ []
refused_stores (Ok work) e n h = absurd (subst IsRefused (sym h) n)
refused_stores (Err status) e n h = refl

refused_output : (outcome : Result Work Status) (e : Status) → IsRefused e → status_of outcome ≡ e
    → output_of outcome ≡ line_of e
refused_output (Ok work) e n h = absurd (subst IsRefused (sym h) n)
refused_output (Err status) e n h = ap line_of h

module _ (a : Answer) (names names' : Names) (given given' : List ℕ) where
  refused_done : (e : Status) → IsRefused e → status_of a.outcome ≡ e → Some names' ≡ Some names
      → GaveLine (line_of e) 0 0 (Some given) (Some given') → IsDone a names names' given given' e
  refused_done e n stop files line = record {
    status_is = sym stop;
    files = some_is files ∙ ap (λ stores. stored_all stores names) (sym (refused_stores a.outcome e n stop));
    text = line_given (line_of e) given given' line
        ∙ ap (λ text. given ++ text) (sym (refused_output a.outcome e n stop));
  }

  -- the first stores are whole, since none was cut by a fault
  whole_stores : FilesFollow statuses (stores_of a.outcome) (text_of a.outcome) 0 0 (Some names) (Some names') E.Memory
      → (i : ℕ) × (names' ≡ stored_all (take i (stores_of a.outcome)) names)
  whole_stores (inl same) = (0, some_is same)
  whole_stores (inr (inl short)) = (short.before, some_is short.held)
  whole_stores (inr (inr line)) = absurd (never_rose line.rose)

  -- and nothing of the text was put before the line of the status, or nothing at all
  line_or_nothing : (Some given' ≡ Some given) ⊎ GaveLine (line_of S.Memory) 0 0 (Some given) (Some given')
      → (given' ≡ given ++ []) ⊎ (given' ≡ (given ++ []) ++ line_of S.Memory)
  line_or_nothing (inl same) = inl (some_is same ∙ sym (append-nil given))
  line_or_nothing (inr line) = inr (line_given (line_of S.Memory) given given' line
      ∙ ap (λ (t : List ℕ). t ++ line_of S.Memory) (sym (append-nil given)))

  cut_short : FilesFollow statuses (stores_of a.outcome) (text_of a.outcome) 0 0 (Some names) (Some names') E.Memory
      → (Some given' ≡ Some given) ⊎ GaveLine (line_of S.Memory) 0 0 (Some given) (Some given')
      → IsCutShort a names names' given given'
  cut_short files text = let s = whole_stores files in record {
    stores = s.0;
    files = s.1;
    kept = 0;
    text = line_or_nothing text;
  }

  pub ends : (status : Status) → Follows statuses a (sure names given) (sure names' given') status
      → Caused statuses (sure names given) (sure names' given') status → EndsSurely a names names' given given' status
  ends S.Ok f c = inl (record {
    status_is = sym f.stop;
    files = some_is f.files;
    text = some_is f.text ∙ ap (λ text. given ++ text) (sym (ok_output a.outcome f.stop));
  })
  ends (S.Usage n) f c = inl (refused_done (S.Usage n) tt f.stop f.files f.text)
  ends (S.Script n why) f c = inl (refused_done (S.Script n why) tt f.stop f.files f.text)
  ends (S.Wav n why) f c = inl (refused_done (S.Wav n why) tt f.stop f.files f.text)
  ends (S.Pod n why) f c = inl (refused_done (S.Pod n why) tt f.stop f.files f.text)
  ends (S.Absent n) f c = inl (refused_done (S.Absent n) tt f.stop f.files f.text)
  ends (S.ReadFault n) f c = absurd (never_rose c)
  ends (S.WriteFault zero) f c = absurd (never_rose c)
  ends (S.WriteFault (suc n)) f c = absurd (never_rose c)
  ends (S.Limit n which) f c = inl (refused_done (S.Limit n which) tt f.stop f.files f.text)
  ends S.Memory f c = inr (refl, cut_short f.files f.text)
