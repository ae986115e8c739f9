-- A loop that is on a board of its epoch's shape is on every board of that shape of which its seat
-- could be.
use Rattle.std.proofs.Common.{◌≡◌, ℕ, ◌<◌, false, List, get_or, sym, ap, ◌∙◌, subst}
use Rattle.std.specs.Prelude.{Contains}
use Rattle.std.proofs.lemmas.List.{get_or_default}
use Rattle.atomic_table.specs.Seated.{TableId}
use Rattle.pw_graph.specs.declared.shape.Shape.{Shape}
use Rattle.io_areas.specs.Queue.{Queue}
use Rattle.board_rule.specs.declared.board_shape.BoardShape.{BoardShape}
use Rattle.board_rule.specs.declared.view.View.{View}
use Rattle.board_rule.specs.Known.{Known}
use Rattle.board_rule.specs.Layout.{BoardLayout, layout_of}
use Rattle.board_rule.specs.activation.SeatNodes.{Has}
use Rattle.board_rule.specs.start.Owners.{owners_of}
use Rattle.io_areas.specs.FreeBlocks.{FreeBlocks}
use Rattle.data_loop.specs.declared.loop_state.LoopState.{LoopState}
use Rattle.data_loop.specs.declared.member.Member.{Member}
use Rattle.data_loop.specs.turns.Turning.{AreEven, IsAtRest}
use Rattle.data_loop.specs.OwnPools.{queue_of}
use Rattle.data_loop.specs.declared.own_pools.OwnPools.{OwnPools}
use Rattle.data_loop.specs.Loops.{plan_of}
use Rattle.data_loop.specs.LoopsOnBoards.{IsOnBoard, IsFirstSeat}
use Rattle.data_loop.proofs.MemberLemmas.{ComesFrom, comes_from}

module _ (shape : Shape) (os ns : List ℕ) (k m : ℕ) where
  abbrev p : BoardLayout
  p = layout_of (record { shape = shape; seat_of = os; seats = k })

  abbrev q : BoardLayout
  q = layout_of (record { shape = shape; seat_of = ns; seats = m })

  free_again : (v : View) (r c : ℕ) (x : Queue) → FreeBlocks p v r c x → FreeBlocks q v r c x
  free_again v r c x h = record {
    size = h.size;
    enough = h.enough;
    listed = h.listed;
    once = h.once;
    long = h.long;
    out = h.out;
    one = h.one;
    else = h.else;
    zero = h.zero;
    unreclaimed = h.unreclaimed;
  }

  even_again : (v : View) (own : OwnPools) (i c : ℕ) → AreEven p v own i c → AreEven q v own i c
  even_again v own i c h = record {
    reads = h.reads;
    writes = h.writes;
    stocks = λ r low fills. free_again v r c (queue_of own r) (h.stocks r low fills);
  }

  has_again : (v : View) (i : ℕ) → q.seat_of i ≡ v.number → v.number < m → v.owners ≡ owners_of q → Has p v i → Has q v i
  has_again v i own low owners h = record {
    inside = h.inside;
    follows = h.follows;
    loops = low;
    owned = own;
    there = h.there;
    knows = h.knows;
    owners = owners;
  }

  -- the same loop on both
  module _ (s : LoopState) (t : TableId) (seat : Known) (a : IsOnBoard p t s)
      (f : IsFirstSeat (plan_of s) s.run_model.waves.value s.epoch s.nodes p t seat)
      (g : IsFirstSeat (plan_of s) s.run_model.waves.value s.epoch s.nodes q t seat) where
    abbrev v : View
    v = a.epoch_state.seat.knows

    numbers : f.number ≡ g.number
    numbers = ap (λ (x : Known). x.knows.number) (sym f.is ∙ g.is)

    owners : owners_of p ≡ owners_of q
    owners = ap (λ (x : Known). x.knows.owners) (sym f.is ∙ g.is)

    from : (x : Member) → Contains a.epoch_state.members x → ComesFrom (plan_of s) s.nodes a.stands.epoch false x
    from x c = comes_from (plan_of s) s.nodes a.stands.epoch false x
        (subst (λ (ms : List Member). Contains ms x) (a.loop.parts s.epoch a.stands.epoch a.epoch_state a.stands.at a.here).members c)

    rest_again : (x : Member) → Contains a.epoch_state.members x → IsAtRest p v a.epoch_state.own (p.index x.node)
        → IsAtRest q v a.epoch_state.own (q.index x.node)
    rest_again x c h = let i : ℕ = p.index x.node in let o = from x c in let has = h.0.member.0 in
        let in_loop : Contains s.nodes x.node = (x.at, o.low, get_or_default s.nodes x.at x.node 0 o.low ∙ o.node) in
        let mine : v.number ≡ g.number = sym has.owned ∙ f.owned x.node in_loop has.inside has.follows ∙ numbers in (
          record {
            member = (
              has_again v i (g.owned x.node in_loop has.inside has.follows ∙ sym mine) (subst (λ n. n < m) (sym mine) g.one) (has.owners ∙ owners) has,
              h.0.member.1,
              h.0.member.2,
            );
            idle = h.0.idle;
          },
          even_again v a.epoch_state.own i _ h.1,
        )

    again : IsOnBoard q t s
    again = record {
      loop = a.loop;
      epoch_state = a.epoch_state;
      here = a.here;
      stands = record {
        sound = a.stands.sound;
        waves = a.stands.waves;
        epoch = a.stands.epoch;
        at = a.stands.at;
        shape = a.stands.shape;
        table = a.stands.table;
        expect = a.stands.expect;
        equipped = record {
          plain = g.plain;
          places = a.stands.equipped.places;
          lists = a.stands.equipped.lists;
          once = a.stands.equipped.once;
          shapes_are = a.stands.equipped.shapes_are;
          blocks = a.stands.equipped.blocks;
        };
        members = a.stands.members;
        apart = a.stands.apart;
        rests = λ n d low. let x : Member = get_or a.epoch_state.members n d in
            rest_again x (n, low, get_or_default a.epoch_state.members n x d low) (a.stands.rests n d low);
        each = a.stands.each;
        room = a.stands.room;
        progress = record { floor = a.stands.progress.floor; past = a.stands.progress.past };
      };
      later = a.later;
      led = a.led;
      others = a.others;
    }

-- THE BRIDGE
pub rebound : (s : LoopState) (b c : BoardShape) (t u : TableId) (seat : Known) → c.shape ≡ b.shape
    → IsFirstSeat (plan_of s) s.run_model.waves.value s.epoch s.nodes (layout_of b) t seat
    → IsFirstSeat (plan_of s) s.run_model.waves.value s.epoch s.nodes (layout_of c) u seat
    → IsOnBoard (layout_of b) t s → IsOnBoard (layout_of c) u s
rebound s b c t u seat same f g a = subst
    (λ (x : Shape × TableId). IsFirstSeat (plan_of s) s.run_model.waves.value s.epoch s.nodes (layout_of (record { shape = x.0; seat_of = c.seat_of; seats = c.seats })) x.1 seat
    → IsOnBoard (layout_of (record { shape = x.0; seat_of = c.seat_of; seats = c.seats })) x.1 s)
    (λ i. (sym same i, ap (λ (k : Known). k.table) (sym f.is ∙ g.is) i))
    (λ h. again b.shape b.seat_of c.seat_of b.seats c.seats s t seat a f h) g
