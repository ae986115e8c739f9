use Rattle.std.proofs.Common.{◌≡◌, ◌∙◌, List, length, refl, sym, ap, subst}
use Rattle.std.specs.Prelude.{Some, slice_get}
use Rattle.std.proofs.lemmas.List.{with_items_is}
use Rattle.ready_queues.specs.declared.way.Way.{Way}
use Rattle.ready_queues.specs.Lanes.{unparks}
use Rattle.ready_queues.specs.Opening.{AreFreshEnds, AreBare}
use Rattle.ready_queues.proofs.NewLemmas.{new_driver, all_new}
use Rattle.ready_queues.proofs.ways.Ways.new.Goals as goal

pub equip_all-requires-clause-bare : goal.equip_all-requires-clause-bare
equip_all-requires-clause-bare c = let o = c.in_ok-lanes in
    subst (AreBare o.field-0.lanes (unparks c.in_ok-parker.unparker)) (sym (c.as_mut_slice-2.ensures.value ∙ c.into_vec-others.ensures)) o.ensures.ways

pub returns-clause-driver : goal.returns-clause-driver
returns-clause-driver c = let p = c.in_ok-parker.ensures in let t = c.equip_all in
    let now = with_items_is c.into_vec-ends.result t.new.ends (t.auto.ends ∙ c.as_mut_slice.ensures.len) in
    new_driver _ _ refl (subst (AreFreshEnds c.in_ok-owner.owner c.in_ok-lanes.field-0.lanes) (sym now) t.ensures.kept) p.unparker c.pass-driver.ensures.0 p.unused c.pass-driver.ensures.1
    c.in_ok-_unread.ensures.idle

pub returns-clause-ways : goal.returns-clause-ways
returns-clause-ways c = λ k w at. let t = c.equip_all in let o = c.in_ok-lanes.ensures.count in
    let long = t.auto.ways ∙ c.as_mut_slice-2.ensures.len in
    let now = c.from_vec.ensures ∙ with_items_is c.into_vec-others.result t.new.ways long in
    all_new _ t.new.ways (t.auto.ways ∙ ap (λ (l : List Way). length l) (c.as_mut_slice-2.ensures.value ∙ c.into_vec-others.ensures) ∙ (o.1 ∙ sym o.0))
    t.ensures.bare c.in_ok-equip_all.ensures.ends k w (subst (λ (l : List Way). slice_get l k ≡ Some w) now at)
