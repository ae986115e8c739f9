use Rattle.std.proofs.Common.{◌≡◌, ◌∙◌, ℕ, All, List, length, sym, subst}
use Rattle.std.proofs.lemmas.List.{with_items_is}
use Rattle.board_rule.specs.Known.{Known}
use Rattle.data_loop.specs.declared.loop_state.LoopState.{LoopState}
use Rattle.driver_cycle.specs.Settling.{AreEach}
use Rattle.graph_run.specs.Leads.{HaveLed, HaveLooked}
use Rattle.graph_run.specs.LoopsOnPlan.{HasCome, HasNoDriver}
use Rattle.graph_run.specs.Threads.{HasRun}
use Rattle.graph_run.proofs.DoneLemmas.{came, each_came}
use Rattle.graph_run.proofs.leading.drive.Goals as goal

pub run_epochs-requires-clause-none : goal.run_epochs-requires-clause-none
run_epochs-requires-clause-none g c =
    let was : c.as_mut_slice-2.result.now ≡ c.args.adopted = c.as_mut_slice-2.ensures.value ∙ c.into_vec-adopted.ensures in
    subst (All HasNoDriver) (sym was) (λ k d inside. (c.requires.adopted k d inside).none)

pub returns-clause-own : goal.returns-clause-own
returns-clause-own g c = came c.args.shared.now.boards c.args.driving.own c.run_epochs.new.own c.requires.drives.ready c.run_epochs.ensures.own

pub returns-clause-adopted : goal.returns-clause-adopted
returns-clause-adopted g c = let t = c.run_epochs in let shared = c.args.shared.now in
    let now = c.from_vec.ensures ∙ with_items_is c.into_vec-adopted.result t.new.adopted (t.auto.adopted ∙ c.as_mut_slice-2.ensures.len) in
    let was : c.as_mut_slice-2.result.now ≡ c.args.adopted = c.as_mut_slice-2.ensures.value ∙ c.into_vec-adopted.ensures in
    subst (AreEach HasRun c.args.adopted) (sym now) (each_came shared c.args.adopted t.new.adopted c.requires.adopted
    (subst (λ (l : List LoopState). AreEach (HasCome (length shared.boards)) l t.new.adopted) was t.ensures.adopted))

pub returns-clause-drivers : goal.returns-clause-drivers
returns-clause-drivers g c = let t = c.run_epochs in let boards = c.args.shared.now.boards in
    let now = c.from_vec-2.ensures ∙ with_items_is c.into_vec-drivers.result t.new.drivers (t.auto.drivers ∙ c.as_mut_slice.ensures.len) in
    let was : c.as_mut_slice.result.now ≡ c.args.driving.drivers = c.as_mut_slice.ensures.value ∙ c.into_vec-drivers.ensures in
    subst (HaveLed (length boards) boards c.args.driving.drivers) (sym now)
    (subst (λ (l : List Known). HaveLed (length boards) boards l t.new.drivers) was t.ensures.drivers)

carried : (a b c d : List Known) (m n : ℕ) → a ≡ b → d ≡ c → HaveLooked a c m n → HaveLooked b d m n
carried a b c d m n was now h = subst (λ (l : List Known). HaveLooked b l m n) (sym now)
    (subst (λ (l : List Known). HaveLooked l c m n) was h)

pub returns-clause-looked : goal.returns-clause-looked
returns-clause-looked g c = let t = c.run_epochs in
    let now = c.from_vec-2.ensures ∙ with_items_is c.into_vec-drivers.result t.new.drivers (t.auto.drivers ∙ c.as_mut_slice.ensures.len) in
    let was : c.as_mut_slice.result.now ≡ c.args.driving.drivers = c.as_mut_slice.ensures.value ∙ c.into_vec-drivers.ensures in
    carried _ _ _ _ _ _ was now t.ensures.looked
