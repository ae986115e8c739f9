use Rattle.std.proofs.Common.{◌∙◌, ◌∷◌, [], ◌++◌, List, ap, arith}
use Rattle.pw_lists.specs.Listed.{Listed}
use Rattle.data_loop.specs.declared.loop_state.LoopState.{LoopState}
use Rattle.graph_run.proofs.DoneLemmas.{room_for_all, are_done}
use Rattle.graph_run.proofs.crew.SharedCrewLoopWayLoopState.collect.Goals as goal

pub push_spare-requires : goal.push_spare-requires
push_spare-requires g c = let r = c.requires in let room = room_for_all c.args.self.now r.0 r.1 r.2 c.args.kept c.args.backs c.args.led r.3 r.4 r.5 r.6 r.7 in
    let same = ap (λ (l : Listed LoopState). l.spare) r.6.room in omega (arith, room, same)

pub append-requires : goal.append-requires
append-requires g c = let r = c.requires in let room = room_for_all c.args.self.now r.0 r.1 r.2 c.args.kept c.args.backs c.args.led r.3 r.4 r.5 r.6 r.7 in
    let same = ap (λ (l : Listed LoopState). l.spare) r.6.room in let one = c.push_spare.ensures.spare in omega (arith, room, same, one)

pub append-requires-2 : goal.append-requires-2
append-requires-2 g c = let r = c.requires in let room = room_for_all c.args.self.now r.0 r.1 r.2 c.args.kept c.args.backs c.args.led r.3 r.4 r.5 r.6 r.7 in
    let same = ap (λ (l : Listed LoopState). l.spare) r.6.room in let one = c.push_spare.ensures.spare in let more = c.append.ensures.spare in
    omega (arith, room, same, one, more)

pub returns : goal.returns
returns g c = λ lead members held m n can led dealt. record {
  done = are_done c.args.self.now lead members held c.args.kept c.args.backs c.args.led m n can led dealt c.into_items.result
      (c.into_items.ensures ∙ (c.append-2.ensures.list ∙ ap (λ (l : List LoopState). l ++ c.args.backs) (c.append.ensures.list
      ∙ ap (λ (l : List LoopState). l ++ c.args.led.led.adopted) (c.push_spare.ensures.list
      ∙ ap (λ (l : List LoopState). l ++ c.args.led.led.own ∷ []) (ap (λ (l : Listed LoopState). l.list) led.room ∙ can.bare.1)))));
  drivers = led.drivers;
  looked = led.looked;
}
