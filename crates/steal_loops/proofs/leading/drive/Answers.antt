use Rattle.std.proofs.Common.{◌≡◌, ◌∙◌, ℕ, List, length, sym, subst}
use Rattle.std.proofs.lemmas.List.{with_items_is}
use Rattle.board_rule.specs.Known.{Known}
use Rattle.graph_run.specs.Leads.{HaveLed, HaveLooked}
use Rattle.graph_run.proofs.DoneLemmas.{came}
use Rattle.steal_loops.proofs.leading.drive.Goals as goal

pub returns-clause-own : goal.returns-clause-own
returns-clause-own g c = came c.args.shared.now.boards c.args.driving.own c.run_epochs.new.own c.requires.drives.ready c.run_epochs.ensures.own

pub returns-clause-drivers : goal.returns-clause-drivers
returns-clause-drivers g c = let t = c.run_epochs in let boards = c.args.shared.now.boards in
    let now = c.from_vec.ensures ∙ with_items_is c.into_vec-drivers.result t.new.drivers (t.auto.drivers ∙ c.as_mut_slice.ensures.len) in
    let was : c.as_mut_slice.result.now ≡ c.args.driving.drivers = c.as_mut_slice.ensures.value ∙ c.into_vec-drivers.ensures in
    subst (HaveLed (length boards) boards c.args.driving.drivers) (sym now)
    (subst (λ (l : List Known). HaveLed (length boards) boards l t.new.drivers) was t.ensures.drivers)

carried : (a b c d : List Known) (m n : ℕ) → a ≡ b → d ≡ c → HaveLooked a c m n → HaveLooked b d m n
carried a b c d m n was now h = subst (λ (l : List Known). HaveLooked b l m n) (sym now)
    (subst (λ (l : List Known). HaveLooked l c m n) was h)

pub returns-clause-looked : goal.returns-clause-looked
returns-clause-looked g c = let t = c.run_epochs in
    let now = c.from_vec.ensures ∙ with_items_is c.into_vec-drivers.result t.new.drivers (t.auto.drivers ∙ c.as_mut_slice.ensures.len) in
    let was : c.as_mut_slice.result.now ≡ c.args.driving.drivers = c.as_mut_slice.ensures.value ∙ c.into_vec-drivers.ensures in
    carried _ _ _ _ _ _ was now t.ensures.looked
