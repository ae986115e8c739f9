-- ONE ANSWER, WHATEVER THE ORDER: two answers of a command line by two histories differ only in
-- event lines.
use Rattle.std.proofs.Common.{◌≡◌, ℕ, Bool, true, false, List, [], ◌++◌, refl, sym, ap, ◌∙◌, ⊎_elim, inl, inr}
use Rattle.std.specs.Prelude.{Result, Ok, Err}
use Rattle.pw_outside.specs.Files.{Names}
use Rattle.command_frame.specs.Answer.{gone_on}
use Rattle.command_frame.specs.Words.{Words}
use Rattle.pw_top.specs.declared.commands.run.Running.{Running}
use Rattle.pw_top.specs.declared.commands.groups.Grouping.{Grouping}
use Rattle.pw_top.specs.declared.parted.Parted.{Parted}
use Rattle.pw_top.specs.declared.planned.Planned.{Planned}
use Rattle.pw_top.specs.declared.playing.Crew.{Crew}
use Rattle.pw_top.specs.declared.usage.CommandLine.{CommandLine}
use Rattle.pw_top.specs.declared.usage.CommandLine.TheVariants as C
use Rattle.pw_top.specs.Answer.{Answer}
use Rattle.pw_top.specs.CommandLine.{IsAnswer, IsAnswerTo, IsReadAnswer}
use Rattle.pw_top.specs.OneAnswer.{is_traced, AreAlike}
use Rattle.pw_top.specs.PlannedWork.{plan_work, rendered, PlaysPlan}
use Rattle.pw_top.specs.Playing.{Happened}
use Rattle.pw_top.specs.Run.{IsRunAnswer}
use Rattle.pw_top.specs.ScriptFile.{PlansFile}
use Rattle.pw_top.specs.Groups.{PartsFile}
use Rattle.pw_top.specs.GroupsWork.{GroupsPlan, IsGroupsAnswer}
use Rattle.pw_top.specs.Soak.{PlansNumber, SoaksPlan, IsSoakAnswer}
use Rattle.pw_top.specs.Usage.{command_of}
use Rattle.pw_top.proofs.OnePartLemmas.{IsShort, binds_related}
use Rattle.pw_top.proofs.OneRunLemmas.{file_one}
use Rattle.pw_top.proofs.OneGroupsLemmas.{parts_one}
use Rattle.pw_top.proofs.OneSoakLemmas.{number_one}
use Rattle.pw_top.proofs.OneAnswerLemmas.{command_one}

alike : (traced : Bool) (a b : Answer) → a ≡ b → AreAlike traced a b
alike false a b e = e
alike true a b e = inl e

alike_behind : (traced : Bool) (loads : List ℕ) (r s : Answer) → AreAlike traced r s → AreAlike traced (gone_on loads r) (gone_on loads s)
alike_behind false loads r s e = ap (gone_on loads) e
alike_behind true loads r s (inl e) = inl (ap (gone_on loads) e)
alike_behind true loads r s (inr x) = inr (ap (λ (l : List ℕ). loads ++ l) x.0, x.1, x.2, x.3, x.4, x.5)

answers_are : (a b : Answer) → a.loads ≡ b.loads → a.outcome ≡ b.outcome → a ≡ b
answers_are a b l o = λ i. record { loads = l i; outcome = o i }

-- a run of one plan by two histories
plays_alike : (crew : Crew) (traced : Bool) (h k : Happened) (p : Planned) (a b : Answer) → PlaysPlan crew traced h p a → PlaysPlan crew traced k p b
    → ¬ IsShort a → ¬ IsShort b → AreAlike traced a b
plays_alike crew traced h k p a b x y na nb = ⊎_elim
    (λ u. ⊎_elim (λ v. by_trace traced x.0 y.0 u.1 v.1) (λ memory. absurd (nb memory)) y.1)
    (λ memory. absurd (na memory)) x.1
  where
    by_trace : (t : Bool) → a.loads ≡ [] → b.loads ≡ [] → a.outcome ≡ Ok (plan_work p t h.history) → b.outcome ≡ Ok (plan_work p t k.history)
        → AreAlike t a b
    by_trace false la lb oa ob = answers_are a b (la ∙ sym lb) (oa ∙ sym ob)
    by_trace true la lb oa ob = inr (
      la ∙ sym lb,
      plan_work p true h.history,
      plan_work p true k.history,
      oa,
      ob,
      record {
        stores = refl;
        plan = p.plan;
        outcome = rendered p.plan p.waves;
        events = h.history;
        others = k.history;
        text = refl;
        other = refl;
      },
    )

run_alike : (c : Running) (h k : Happened) (names : Names) (a b : Answer) → IsRunAnswer c h names a → IsRunAnswer c k names b
    → ¬ IsShort a → ¬ IsShort b → AreAlike c.trace a b
run_alike c h k names = binds_related (PlansFile names c.script) (PlaysPlan c.crew c.trace h) (PlaysPlan c.crew c.trace k)
    (AreAlike c.trace) (alike c.trace) (alike_behind c.trace) (file_one names c.script)
    (λ e p x is r s q t nr ns. plays_alike c.crew c.trace h k p r s q t nr ns)

-- the line of a soak is of no event
soaks_same : (number : ℕ) (h k : Happened) (p : Planned) (a b : Answer) → SoaksPlan number h p a → SoaksPlan number k p b
    → ¬ IsShort a → ¬ IsShort b → a ≡ b
soaks_same number h k p a b x y na nb = ⊎_elim
    (λ u. ⊎_elim (λ v. answers_are a b (x.0 ∙ sym y.0) (u.1 ∙ sym v.1)) (λ memory. absurd (nb memory)) y.1)
    (λ memory. absurd (na memory)) x.1

soak_same : (number : ℕ) (h k : Happened) (a b : Answer) → IsSoakAnswer number h a → IsSoakAnswer number k b → ¬ IsShort a → ¬ IsShort b → a ≡ b
soak_same number h k = binds_related (PlansNumber number) (SoaksPlan number h) (SoaksPlan number k)
    (λ a b. a ≡ b) (λ a b e. e) (λ loads r s e. ap (gone_on loads) e) (number_one number)
    (λ e p x is r s q t nr ns. soaks_same number h k p r s q t nr ns)

-- nor does the text of parts
groups_same : (h k : Happened) (p : Parted) (a b : Answer) → GroupsPlan h p a → GroupsPlan k p b → ¬ IsShort a → ¬ IsShort b → a ≡ b
groups_same h k p a b x y na nb = ⊎_elim
    (λ u. ⊎_elim (λ v. answers_are a b (x.0 ∙ sym y.0) (u.1 ∙ sym v.1)) (λ memory. absurd (nb memory)) y.1)
    (λ memory. absurd (na memory)) x.1

parts_same : (c : Grouping) (h k : Happened) (names : Names) (a b : Answer) → IsGroupsAnswer c h names a → IsGroupsAnswer c k names b
    → ¬ IsShort a → ¬ IsShort b → a ≡ b
parts_same c h k names = binds_related (PartsFile names c.script) (GroupsPlan h) (GroupsPlan k)
    (λ a b. a ≡ b) (λ a b e. e) (λ loads r s e. ap (gone_on loads) e) (parts_one names c.script)
    (λ e p x is r s q t nr ns. groups_same h k p r s q t nr ns)

-- the commands
command_alike : (c : CommandLine) (h k : Happened) (names : Names) (a b : Answer) → IsAnswerTo c h names a → IsAnswerTo c k names b
    → ¬ IsShort a → ¬ IsShort b → AreAlike (is_traced (Ok c)) a b
command_alike (C.Run c) h k names a b p q na nb = run_alike c h k names a b p q na nb
command_alike (C.Dump c) h k names a b p q na nb = (command_one (C.Dump c) h names).one a b p (p.0, q.1) na nb
command_alike (C.Filter c) h k names a b p q na nb = (command_one (C.Filter c) h names).one a b p (p.0, q.1) na nb
command_alike (C.Automate c) h k names a b p q na nb = (command_one (C.Automate c) h names).one a b p (p.0, q.1) na nb
command_alike (C.Check c) h k names a b p q na nb = (command_one (C.Check c) h names).one a b p (p.0, q.1) na nb
command_alike (C.Soak c) h k names a b p q na nb = soak_same c.number h k a b p q na nb
command_alike (C.Groups c) h k names a b p q na nb = parts_same c h k names a b p q na nb

read_alike : (r : Result CommandLine ℕ) (h k : Happened) (names : Names) (a b : Answer) → IsReadAnswer r h names a → IsReadAnswer r k names b
    → ¬ IsShort a → ¬ IsShort b → AreAlike (is_traced r) a b
read_alike (Ok c) h k names a b p q na nb = command_alike c h k names a b p q na nb
read_alike (Err word) h k names a b p q na nb = p ∙ sym q

pub answers_alike : (words : Words) (h k : Happened) (names : Names) (a b : Answer) → IsAnswer words h names a → IsAnswer words k names b
    → ¬ IsShort a → ¬ IsShort b → AreAlike (is_traced (command_of words)) a b
unfolding IsAnswer
answers_alike words h k names a b p q na nb = read_alike (command_of words) h k names a b p q na nb
