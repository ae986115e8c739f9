use Rattle.std.proofs.Common.{◌≡◌, ◌+◌, ◌<◌, ℕ, suc, Bool, true, false, List, [], ◌∷◌, ◌++◌, cond, filter, get_or, take, drop, length, length-append, append-nil, refl, sym, ap, ◌∙◌, subst, arith}
use Rattle.std.specs.Prelude.{vec_capacity}
use Rattle.std.proofs.lemmas.List.{get_or_default, append_assoc}
use Rattle.std.proofs.lemmas.List.Elements.{filter_more}
use Rattle.board_rule.specs.declared.view.View.{View}
use Rattle.board_rule.specs.Layout.{BoardLayout, layout_of, first, nodes}
use Rattle.board_rule.specs.activation.SeatNodes.{IsMember}
use Rattle.board_rule.specs.Steps.{tried}
use Rattle.pw_graph.specs.Words.{triggered_word}
use Rattle.data_loop.specs.declared.member.Member.{Member}
use Rattle.data_loop.specs.declared.epoch_state.EpochState.{EpochState}
use Rattle.data_loop.specs.turns.Turning.{IsAtRest, HasTurned}
use Rattle.data_loop.specs.Progress.{is_chosen, chosen_in}
use Rattle.data_loop.specs.Tries.{no_member, member_at}
use Rattle.data_loop.specs.LoopTurn.{next_in, HaveTried, HasRun}
use Rattle.data_loop.proofs.PassLemmas.{few_tried, split_at, chosen_is}
use Rattle.data_loop.proofs.SameLemmas.{same_on, room_on, left_on}
use Rattle.data_loop.proofs.HaveTriedLemmas.{none_tried, still_next, one_ended, one_tried, one_ran}
use Rattle.data_loop.proofs.epoch_state.EpochState.pass.Goals as goal
use Rattle.data_loop.proofs.epoch_state.EpochState.pass.Goals.{in-Ended, in-NotYet}

pub loop-index-init : goal.loop-index-init
loop-index-init g' c = let p : BoardLayout = layout_of c.args.epoch_context.now.board.now.board_shape in let v : View = c.args.self.now.seat.knows in record {
  end = c.len-index-end.ensures;
  stands = c.requires.stands;
  same = record { members = refl; driver = refl; restarts = refl; places = refl; shapes = refl; table = refl };
  progress = refl;
  states = λ at d apart. refl;
  rows = record { sum_a = refl; sum_b = refl; a = refl; b = refl; left = refl; right = refl };
  capacity = refl;
  more = [];
  items = sym (append-nil c.args.found.now.items);
  tried = subst (λ l. HaveTried p v l [] v) (sym c.requires.past) (none_tried p v [] refl);
}

pub ended-requires : goal.ended-requires
ended-requires g' c = let p : BoardLayout = layout_of c.args.epoch_context.now.board.now.board_shape in let g : EpochState = c.args.self.now in let v : View = g.seat.knows in
    let ms : List Member = g.members in let i = c.loop-index.index in let so = c.loop-index.invariant in
    let cur : EpochState = c.loop-index.self in let w : View = cur.seat.knows in
    let end = so.end in let test = c.loop-index-test.true in let low : i < length ms = omega (arith, end, test) in
    let m : Member = get_or ms i no_member in let r : Member = c.index-as_slice-index.result in
    let list = c.as_slice.ensures ∙ so.same.members in
    let named : get_or c.as_slice.result.now i r ≡ m = ap (λ (l : List Member). get_or l i r) list ∙ get_or_default ms i r no_member low in
    let q : Member → Bool = is_chosen p v c.args.progress.least c.args.at in
    let done : List Member = filter q (take i ms) in
    record {
      node = subst (λ (x : Member). IsMember false p w (p.index x.node)) (sym named)
          (subst (λ (l : List Member). IsMember false p w (p.index (get_or l i no_member).node)) so.same.members
          (so.stands.rests i no_member (subst (λ (l : List Member). i < length l) (sym so.same.members) low)).0.member);
    }

pub push_reserved-requires : goal.push_reserved-requires
push_reserved-requires g' c = let p : BoardLayout = layout_of c.args.epoch_context.now.board.now.board_shape in let g : EpochState = c.args.self.now in let v : View = g.seat.knows in
    let ms : List Member = g.members in let i = c.loop-index.index in let so = c.loop-index.invariant in
    let cur : EpochState = c.loop-index.self in let w : View = cur.seat.knows in
    let end = so.end in let test = c.loop-index-test.true in let low : i < length ms = omega (arith, end, test) in
    let m : Member = get_or ms i no_member in let r : Member = c.index-as_slice-index.result in
    let list = c.as_slice.ensures ∙ so.same.members in
    let named : get_or c.as_slice.result.now i r ≡ m = ap (λ (l : List Member). get_or l i r) list ∙ get_or_default ms i r no_member low in
    let q : Member → Bool = is_chosen p v c.args.progress.least c.args.at in
    let done : List Member = filter q (take i ms) in
    let ended : first p + c.ended.result ≡ next_in p v m.node = c.ended.ensures ∙ ap (λ (x : Member). next_in p w x.node) named
    ∙ still_next p v done m so.more w so.tried m.node in
    let passes : q m ≡ true = sym (c.is_in_pass.ensures ∙ chosen_is p v m c.args.progress.least c.ended.result c.args.at ended) ∙ c.if-not-is_in_pass.false in
    let items = ap (λ (l : List (ℕ × ℕ)). length l) so.items ∙ length-append c.args.found.now.items so.more in
    let few = few_tried p v w done so.more so.tried in
    let all = ap (λ (l : List Member). length l) (split_at q ms i low passes)
    ∙ length-append done (m ∷ filter q (drop (suc i) ms)) in
    let room = c.requires.room in let cap = so.capacity in
    omega (arith, items, few, all, room, cap)

pub returns-in-Ran-clause-passed : goal.returns-in-Ran-clause-passed
returns-in-Ran-clause-passed g' c = let p : BoardLayout = layout_of c.args.epoch_context.now.board.now.board_shape in let g : EpochState = c.args.self.now in let v : View = g.seat.knows in
    let ms : List Member = g.members in let i = c.loop-index.index in let so = c.loop-index.invariant in
    let cur : EpochState = c.loop-index.self in let w : View = cur.seat.knows in
    let end = so.end in let test = c.loop-index-test.true in let low : i < length ms = omega (arith, end, test) in
    let m : Member = get_or ms i no_member in let r : Member = c.index-as_slice-index.result in
    let list = c.as_slice.ensures ∙ so.same.members in
    let named : get_or c.as_slice.result.now i r ≡ m = ap (λ (l : List Member). get_or l i r) list ∙ get_or_default ms i r no_member low in
    let q : Member → Bool = is_chosen p v c.args.progress.least c.args.at in
    let done : List Member = filter q (take i ms) in
    let ended : first p + c.ended.result ≡ next_in p v m.node = c.ended.ensures ∙ ap (λ (x : Member). next_in p w x.node) named
    ∙ still_next p v done m so.more w so.tried m.node in
    let passes : q m ≡ true = sym (c.is_in_pass.ensures ∙ chosen_is p v m c.args.progress.least c.ended.result c.args.at ended) ∙ c.if-not-is_in_pass.false in
    let plain = so.stands.equipped.plain in
    let rests = subst (λ (l : List Member). (j : ℕ) (d : Member) → j < length l → IsAtRest p w cur.own (p.index (get_or l j d).node)) so.same.members
    so.stands.rests in
    let inside : p.index m.node < nodes p = (rests i no_member low).0.member.2 in
    let at : member_at cur i ≡ m = ap (λ (l : List Member). get_or l i no_member) so.same.members in
    let ran : HasTurned p w cur.own (p.index m.node) c.try_member.new.self.seat.knows c.try_member.new.self.own =
    subst (λ (x : Member). HasTurned p w cur.own (p.index x.node) c.try_member.new.self.seat.knows c.try_member.new.self.own) at
    c.in-Ran.ensures.tried in (
      so.more,
      so.items,
      subst (λ (x : Member). HasRun p g (chosen_in p g c.args.progress.least c.args.at) x.node so.more c.try_member.new.self) (sym named)
          (one_ran p v done m so.more w so.tried plain inside g c.try_member.new.self refl (chosen_in p g c.args.progress.least c.args.at)
          (filter q (drop (suc i) ms)) (split_at q ms i low passes) cur.own
          c.try_member.new.self.own rests ran),
    )

pub returns-in-Ran-clause-states : goal.returns-in-Ran-clause-states
returns-in-Ran-clause-states g' c = let p : BoardLayout = layout_of c.args.epoch_context.now.board.now.board_shape in let g : EpochState = c.args.self.now in let v : View = g.seat.knows in
    let ms : List Member = g.members in let i = c.loop-index.index in let so = c.loop-index.invariant in
    let cur : EpochState = c.loop-index.self in let w : View = cur.seat.knows in
    let end = so.end in let test = c.loop-index-test.true in let low : i < length ms = omega (arith, end, test) in
    let m : Member = get_or ms i no_member in let r : Member = c.index-as_slice-index.result in
    let list = c.as_slice.ensures ∙ so.same.members in
    let named : get_or c.as_slice.result.now i r ≡ m = ap (λ (l : List Member). get_or l i r) list ∙ get_or_default ms i r no_member low in
    let q : Member → Bool = is_chosen p v c.args.progress.least c.args.at in
    let done : List Member = filter q (take i ms) in
    let at : member_at cur i ≡ m = ap (λ (l : List Member). get_or l i no_member) so.same.members in
    left_on g.members c.args.states.now c.loop-index.states c.try_member.new.states m.at (i, low, refl) so.states
    (λ a d ne. c.try_member.ensures.states a d (λ is. ne (is ∙ ap (λ (y : Member). y.at) at)))

pub loop-index-preserved-then-not-is_in_pass : goal.loop-index-preserved-then-not-is_in_pass
loop-index-preserved-then-not-is_in_pass g' c = let p : BoardLayout = layout_of c.args.epoch_context.now.board.now.board_shape in let g : EpochState = c.args.self.now in let v : View = g.seat.knows in
    let ms : List Member = g.members in let i = c.loop-index.index in let so = c.loop-index.invariant in
    let cur : EpochState = c.loop-index.self in let w : View = cur.seat.knows in
    let end = so.end in let test = c.loop-index-test.true in let low : i < length ms = omega (arith, end, test) in
    let m : Member = get_or ms i no_member in let r : Member = c.index-as_slice-index.result in
    let list = c.as_slice.ensures ∙ so.same.members in
    let named : get_or c.as_slice.result.now i r ≡ m = ap (λ (l : List Member). get_or l i r) list ∙ get_or_default ms i r no_member low in
    let q : Member → Bool = is_chosen p v c.args.progress.least c.args.at in
    let done : List Member = filter q (take i ms) in
    let ended : first p + c.ended.result ≡ next_in p v m.node = c.ended.ensures ∙ ap (λ (x : Member). next_in p w x.node) named
    ∙ still_next p v done m so.more w so.tried m.node in
    let off : q m ≡ false = sym (c.is_in_pass.ensures ∙ chosen_is p v m c.args.progress.least c.ended.result c.args.at ended) ∙ c.if-not-is_in_pass.true in
    record {
      end = end;
      stands = so.stands;
      same = so.same;
      progress = so.progress;
      states = so.states;
      rows = so.rows;
      capacity = so.capacity;
      more = so.more;
      items = so.items;
      tried = subst (λ l. HaveTried p v l so.more w)
          (sym (filter_more q ms i no_member low ∙ ap (λ b. done ++ cond b (m ∷ []) []) off ∙ append-nil done)) so.tried;
    }

pub loop-index-preserved : goal.loop-index-preserved
loop-index-preserved g' c = let p : BoardLayout = layout_of c.args.epoch_context.now.board.now.board_shape in let g : EpochState = c.args.self.now in let v : View = g.seat.knows in
    let ms : List Member = g.members in let i = c.loop-index.index in let so = c.loop-index.invariant in
    let cur : EpochState = c.loop-index.self in let w : View = cur.seat.knows in
    let end = so.end in let test = c.loop-index-test.true in let low : i < length ms = omega (arith, end, test) in
    let m : Member = get_or ms i no_member in let r : Member = c.index-as_slice-index.result in
    let list = c.as_slice.ensures ∙ so.same.members in
    let named : get_or c.as_slice.result.now i r ≡ m = ap (λ (l : List Member). get_or l i r) list ∙ get_or_default ms i r no_member low in
    let q : Member → Bool = is_chosen p v c.args.progress.least c.args.at in
    let done : List Member = filter q (take i ms) in
    let ended : first p + c.ended.result ≡ next_in p v m.node = c.ended.ensures ∙ ap (λ (x : Member). next_in p w x.node) named
    ∙ still_next p v done m so.more w so.tried m.node in
    let passes : q m ≡ true = sym (c.is_in_pass.ensures ∙ chosen_is p v m c.args.progress.least c.ended.result c.args.at ended) ∙ c.if-not-is_in_pass.false in
    let plain = so.stands.equipped.plain in
    let rests = subst (λ (l : List Member). (j : ℕ) (d : Member) → j < length l → IsAtRest p w cur.own (p.index (get_or l j d).node)) so.same.members
    so.stands.rests in
    let inside : p.index m.node < nodes p = (rests i no_member low).0.member.2 in
    let at : member_at cur i ≡ m = ap (λ (l : List Member). get_or l i no_member) so.same.members in
    let u : View = c.try_member.new.self.seat.knows in
    let step : filter q (take (i + 1) ms) ≡ done ++ m ∷ [] = filter_more q ms i no_member low ∙ ap (λ b. done ++ cond b (m ∷ []) []) passes in
    let after : (more : List (ℕ × ℕ)) × (c.match-try_member.found.items ≡ c.args.found.now.items ++ more)
    × HaveTried p v (filter q (take (i + 1) ms)) more u × (vec_capacity c.match-try_member.found ≡ vec_capacity c.args.found.now) =
    elim c.match-try_member.branch [
      | in-Ended x ↦ (let e = x.in-Ended.ensures.tried in (
        so.more,
        ap (λ f. f.items) x.found-is ∙ so.items,
        subst (λ (y : List Member × View). HaveTried p v y.0 so.more y.1) (λ j. (sym step j, sym e.1 j))
            (one_ended p v done m so.more w so.tried (ap (λ (y : Member). next_in p w y.node) (sym at) ∙ e.0)),
        ap vec_capacity x.found-is ∙ so.capacity,
      ))
      | in-NotYet x ↦ (let e = x.in-NotYet.ensures.tried in let q' = x.push_reserved.ensures in
          let word = x.in-NotYet.word in let n = (get_or c.as_slice.result.now i r).node in (
            so.more ++ (n, word) ∷ [],
            ap (λ f. f.items) x.found-is ∙ q'.items ∙ ap (λ l. l ++ (n, word) ∷ []) so.items
                ∙ append_assoc c.args.found.now.items so.more ((n, word) ∷ []),
            subst (λ (y : List Member × ℕ). HaveTried p v y.0 (so.more ++ (y.1, word) ∷ []) u)
                (λ j. (sym step j, ap (λ (x : Member). x.node) (sym named) j))
                (one_tried p v done m so.more w so.tried plain inside
                (λ is. e.0 (ap (λ (y : Member). next_in p w y.node) at ∙ is)) word
                (λ is. e.1 (is ∙ ap (λ (y : Member). triggered_word (next_in p w y.node)) (sym at))) u
                (e.2 ∙ ap (λ (y : Member). tried p w (p.index y.node) word) at)),
            ap vec_capacity x.found-is ∙ q'.capacity ∙ so.capacity,
          ))
    ] in
    record {
      end = end;
      stands = c.try_member.ensures.stands;
      same = same_on so.same c.try_member.ensures.same;
      progress = c.try_member.ensures.progress ∙ so.progress;
      states = left_on g.members c.args.states.now c.loop-index.states c.try_member.new.states m.at
          (i, low, refl) so.states (λ a d ne. c.try_member.ensures.states a d (λ is. ne (is ∙ ap (λ (y : Member). y.at) at)));
      rows = room_on so.rows c.try_member.ensures.rows;
      capacity = after.3;
      more = after.0;
      items = after.1;
      tried = after.2;
    }
