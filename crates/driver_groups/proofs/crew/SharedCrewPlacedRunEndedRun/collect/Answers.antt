use Rattle.std.proofs.Common.{◌∙◌, [], ◌∷◌, ◌++◌, List, sym, ap, subst, arith}
use Rattle.std.specs.List.{AllZip}
use Rattle.pw_lists.specs.Listed.{Listed}
use Rattle.graph_run.specs.declared.ended.EndedRun.{EndedRun}
use Rattle.graph_run.specs.RunStates.{HasRunAlone}
use Rattle.driver_groups.specs.working.Crew.{runs_of, merged}
use Rattle.driver_groups.proofs.GroupLemmas.{merged_zip, dealt_flags}
use Rattle.driver_groups.proofs.crew.SharedCrewPlacedRunEndedRun.collect.Goals as goal

pub push_spare-requires : goal.push_spare-requires
push_spare-requires g c = let r = c.requires in let room = r.5.ended in let same = ap (λ (l : Listed EndedRun). l.spare) r.6.room in omega (arith, room, same)

pub merge-requires : goal.merge-requires
merge-requires g c = let r = c.requires in let room = r.5.ended in let same = ap (λ (l : Listed EndedRun). l.spare) r.6.room in
    let one = c.push_spare.ensures.spare in let n = dealt_flags r.1 c.args.kept r.2 c.args.backs r.7 in omega (arith, room, same, one, n)

pub returns : goal.returns
returns g c = λ lead members held m n can led dealt. subst (AllZip HasRunAlone (lead.first ∷ runs_of members))
    (sym (c.into_items.ensures ∙ (c.merge.ensures ∙ ap (λ (l : List EndedRun). l ++ merged c.args.kept c.args.led.waited c.args.backs)
    (c.push_spare.ensures.list ∙ ap (λ (l : List EndedRun). l ++ c.args.led.first ∷ []) (ap (λ (l : Listed EndedRun). l.list) led.room ∙ can.bare.1)))))
    (led.first, merged_zip members c.args.kept held c.args.led.waited c.args.backs dealt led.waited)
