use Rattle.std.proofs.Common.{◌≡◌, ◌≢◌, ◌∙◌, length, sym, ap, subst, arith}
use Rattle.ready_queues.specs.declared.parking.Woken.{Woken}
use Rattle.ready_queues.specs.declared.way.Way.{Way}
use Rattle.ready_queues.specs.ParkingRule.{given_on}
use Rattle.ready_queues.specs.Forwarding.{HasForwarded}
use Rattle.ready_queues.proofs.SightLemmas.{no_look}
use Rattle.ready_queues.proofs.ForwardLemmas.{unparked, not_unparked, none_given, none_unseen, for_driver_same, sent_looked, later_looked}
use Rattle.ready_queues.proofs.ways.Ways.forward.Goals.{else-way-self-via-then-way-self+else-needs_driver, else-way-self-via-else-way-self}
use Rattle.ready_queues.proofs.ways.Ways.forward.Goals as goal

pub returns-then-needs_driver-clause-sent : goal.returns-then-needs_driver-clause-sent
returns-then-needs_driver-clause-sent g c = let ways = c.args.self.now in let way = c.args.way.now in let s = c.send_sparing-full in let d = c.needs_driver in
    let old = way.ends.items in let mid = s.new.way.ends.items in let new = d.new.way.ends.items in
    let long : length mid ≡ length old = s.ensures.answered.ends.count ∙ sym c.requires.answered.ends.count in
    let other : way.number ≢ ways.loops = λ e. (let n = s.ensures.thread.number in let is = c.if-way-self.true in absurd (omega arith)) in record {
      number = d.ensures.thread.number ∙ s.ensures.thread.number;
      own = d.ensures.thread.own ∙ s.ensures.thread.own;
      ends = sent_looked ways.owner way.number c.args.woke s.result (length ways.owner) old mid new long s.ensures.sent d.ensures.looked;
      driver = (
        1,
        unparked ways.owner ways.loops c.args.woke way.number old new other
            (for_driver_same ways.owner ways.loops c.args.woke old mid new long s.ensures.sights (d.ensures.yes c.if-needs_driver.true)),
        c.wake.ensures.given ∙ ap (λ (w : Woken). given_on w 1) (d.ensures.thread.driver ∙ s.ensures.thread.driver),
      );
      begins = d.ensures.thread.begins ∙ s.ensures.thread.begins;
      sights = later_looked old mid new long s.ensures.sights d.ensures.looked;
      refused = s.ensures.refused;
    }

pub returns-else-way-self-clause-sent : goal.returns-else-way-self-clause-sent
returns-else-way-self-clause-sent g c = let ways = c.args.self.now in let way = c.args.way.now in let s = c.send_sparing-full in
    let old = way.ends.items in let mid = s.new.way.ends.items in
    let long : length mid ≡ length old = s.ensures.answered.ends.count ∙ sym c.requires.answered.ends.count in
    let Sent : Way → Type 0 = HasForwarded ways.owner ways.loops c.args.woke s.result way in elim c.else-way-self.branch [
      | else-way-self-via-then-way-self+else-needs_driver w ↦ let d = w.needs_driver in let new = d.new.way.ends.items in subst Sent (sym w.way'-is) (record {
        number = d.ensures.thread.number ∙ s.ensures.thread.number;
        own = d.ensures.thread.own ∙ s.ensures.thread.own;
        ends = sent_looked ways.owner way.number c.args.woke s.result (length ways.owner) old mid new long s.ensures.sent d.ensures.looked;
        driver = (
          0,
          not_unparked ways.owner ways.loops c.args.woke way.number old new
              (λ _. none_unseen ways.owner ways.loops c.args.woke new (d.ensures.answered.ends.count ∙ ways.count) (d.ensures.no w.if-needs_driver.false)),
          d.ensures.thread.driver ∙ s.ensures.thread.driver ∙ none_given _,
        );
        begins = d.ensures.thread.begins ∙ s.ensures.thread.begins;
        sights = later_looked old mid new long s.ensures.sights d.ensures.looked;
        refused = s.ensures.refused;
      })
      | else-way-self-via-else-way-self w ↦ subst Sent (sym w.way'-is) (record {
        number = s.ensures.thread.number;
        own = s.ensures.thread.own;
        ends = s.ensures.sent;
        driver = (
          0,
          not_unparked ways.owner ways.loops c.args.woke way.number old mid
              (λ other _. (let n = s.ensures.thread.number in let is = w.if-way-self.false in absurd (omega arith))),
          s.ensures.thread.driver ∙ none_given _,
        );
        begins = s.ensures.thread.begins;
        sights = later_looked old mid mid long s.ensures.sights (no_look mid);
        refused = s.ensures.refused;
      })
    ]
