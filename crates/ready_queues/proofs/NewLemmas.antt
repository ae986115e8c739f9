-- The ways as they are answered.
use Rattle.std.proofs.Common.{◌≡◌, ℕ, ◌<◌, ◌≤◌, List, length, get_or, sym, ap, ◌∙◌, subst, ⊎_elim, arith}
use Rattle.std.specs.Prelude.{Some, None, slice_get}
use Rattle.std.proofs.lemmas.Option.{slice_get_within, slice_get_cases}
use Rattle.crossbeam_utils.specs.Token.{parker_view}
use Rattle.ready_queues.specs.declared.hand.Hand.{Hand}
use Rattle.ready_queues.specs.declared.start_view.StartView.{StartView}
use Rattle.ready_queues.specs.declared.end.End.{End}
use Rattle.ready_queues.specs.declared.lane.Lane.{Lane}
use Rattle.ready_queues.specs.declared.way.Way.{Way}
use Rattle.ready_queues.specs.declared.ways.Ways.{Ways}
use Rattle.ready_queues.specs.Lanes.{start_of, unparks}
use Rattle.ready_queues.specs.ParkingRule.{woken}
use Rattle.ready_queues.specs.StartRule.{unstarted}
use Rattle.ready_queues.specs.Ends.{AreEndsOf}
use Rattle.ready_queues.specs.Opening.{AreFreshEnds, IsBareWay, AreBare, IsNewWay}
use Rattle.ready_queues.proofs.EndLemmas.{some_is}
use Rattle.ready_queues.proofs.OpeningLemmas.{parker_at, driver_at}

as_ends : (owner : List ℕ) (lanes : List Lane) (ends : List End) → AreFreshEnds owner lanes ends → AreEndsOf owner lanes ends
as_ends owner lanes ends are = record {
  count = are.count;
  each = λ l lane e at to. let f = are.each l lane e at to in let h = f.unused.hand in record {
    pass = f.pass;
    wake = f.wake;
    start = f.start;
    hand = (ap (λ (g : Hand). g.named) h, ap (λ (g : Hand). g.owner) h, ap (λ (g : Hand). g.number) h);
  };
}

pub new_driver : (ways : Ways) (way : Way) → way.number ≡ ways.loops → AreFreshEnds ways.owner ways.lanes way.ends.items → way.own.table_id ≡ unparks ways.driver → way.driver.table_id ≡ unparks ways.driver
    → parker_view way.own ≡ woken 0 0 → parker_view way.driver ≡ woken 0 0 → way.begins.me.0 ≡ unstarted → IsNewWay ways ways.loops way
new_driver ways way number ends parker driver own gave idle = record {
  answered = record {
    ends = as_ends ways.owner ways.lanes way.ends.items ends;
    parker = driver_at ways.lanes (unparks ways.driver) way.number (number ∙ sym ways.count) ∙ ap Some (sym parker);
    driver = driver;
    begins = λ lane at. let low = slice_get_within ways.lanes way.number lane at in let all = ways.count in absurd (omega arith);
    own = ap (λ (v : StartView). v.own) idle;
  };
  loop_is = number;
  ends = ends;
  own = own;
  driver = gave;
  idle = idle;
}

new_loop : (ways : Ways) (k : ℕ) (lane : Lane) (way : Way) → slice_get ways.lanes k ≡ Some lane → IsBareWay lane (unparks ways.driver) k way → AreFreshEnds ways.owner ways.lanes way.ends.items
    → IsNewWay ways k way
new_loop ways k lane way at bare ends = record {
  answered = record {
    ends = as_ends ways.owner ways.lanes way.ends.items ends;
    parker = parker_at ways.lanes (unparks ways.driver) way.number lane (subst (λ (n : ℕ). slice_get ways.lanes n ≡ Some lane) (sym bare.loop_is) at) ∙ ap Some (sym bare.parker_is);
    driver = bare.driver_is;
    begins = λ other there. let same : lane ≡ other = some_is lane other (sym at ∙ subst (λ (n : ℕ). slice_get ways.lanes n ≡ Some other) bare.loop_is there) in bare.begins_is ∙ ap start_of same;
    own = ap (λ (v : StartView). v.own) bare.idle;
  };
  loop_is = bare.loop_is;
  ends = ends;
  own = bare.own;
  driver = bare.gave;
  idle = bare.idle;
}

pub all_new : (ways : Ways) (list : List Way) → length list ≡ length ways.lanes → AreBare ways.lanes (unparks ways.driver) list
    → ((k : ℕ) (w : Way) → slice_get list k ≡ Some w → AreFreshEnds ways.owner ways.lanes w.ends.items) → (k : ℕ) (w : Way) → slice_get list k ≡ Some w → IsNewWay ways k w
all_new ways list count bare fresh k w at = ⊎_elim
    (λ (t : (lane : Lane) × (k < length ways.lanes) × (slice_get ways.lanes k ≡ Some lane) × (get_or ways.lanes k lane ≡ lane)).
    new_loop ways k t.0 w t.2 (bare k t.0 w t.2 at) (fresh k w at))
    (λ (t : (length ways.lanes ≤ k) × (slice_get ways.lanes k ≡ None)). let h = t.0 in let low = slice_get_within list k w at in absurd (omega arith))
    (slice_get_cases ways.lanes k).1
