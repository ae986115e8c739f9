-- Boards closed one after the other: what is between two of them.
use Rattle.std.proofs.Common.{◌≡◌, ℕ, ◌+◌, List, [], ◌∷◌, ◌++◌, length, map, cond, refl, sym, ap, subst, ◌∙◌, append-nil, arith}
use Rattle.std.specs.Prelude.{sum_by, count_by}
use Rattle.std.specs.List.{AllZip, flat_map}
use Rattle.std.proofs.lemmas.List.{map-append, append_assoc}
use Rattle.std.proofs.lemmas.List.Sums.{sum_by_push, sum_by-append}
use Rattle.std.proofs.lemmas.Grind.{flat_map-append}
use Rattle.pw_graph.specs.declared.event.Event.{Event}
use Rattle.pw_graph.specs.declared.shape.Shape.{Shape}
use Rattle.pw_graph.specs.History.{is_tick, IsLegalCycle, cycles_of, epoch_cycles, IsLegalHistory}
use Rattle.board_rule.specs.declared.board.Board.{Board}
use Rattle.board_rule.specs.declared.closed.Closed.{Closed}
use Rattle.board_rule.specs.Known.{Known}
use Rattle.board_rule.specs.events.Closing.{expected}
use Rattle.graph_run.specs.Closing.{HasEnded}

pub all_zip_append : {A B : Type 0} (R : A → B → Type 0) (xs us : List A) (ys vs : List B) → AllZip R xs ys → AllZip R us vs
    → AllZip R (xs ++ us) (ys ++ vs)
all_zip_append R [] us [] vs first second = second
all_zip_append R [] us (y ∷ ys) vs first second = absurd first
all_zip_append R (x ∷ xs) us [] vs first second = absurd first
all_zip_append R (x ∷ xs) us (y ∷ ys) vs first second = (first.0, all_zip_append R xs us ys vs first.1 second)

-- a legal history goes on with that of one more epoch
pub legal_more : (shapes : List Shape) (s : Shape) (history events : List Event) → IsLegalHistory shapes history
    → IsLegalHistory (s ∷ []) events → IsLegalHistory (shapes ++ s ∷ []) (history ++ events)
legal_more shapes s history events before now = record {
  parts = before.parts ++ now.parts;
  joined = ap (λ (x : List Event × List Event). x.0 ++ x.1) (λ i. (before.joined i, now.joined i))
      ∙ sym (flat_map-append (λ (part : List Event). part) before.parts now.parts);
  legal = subst (λ (cs : List (Shape × ℕ)). AllZip (λ c part. IsLegalCycle c.0 c.1 part) cs (before.parts ++ now.parts))
      (sym (flat_map-append (λ (x : Shape). epoch_cycles x x.cycles) shapes (s ∷ [])))
      (all_zip_append (λ (c : Shape × ℕ) (part : List Event). IsLegalCycle c.0 c.1 part) (cycles_of shapes) (cycles_of (s ∷ []))
      before.parts now.parts before.legal now.legal);
}

-- BETWEEN two boards: `done` and `told` are closed, `rest` and `left` are not
pub record Between (boards : List Board) (drivers : List Known) (rest : List Board) (left : List Known)
    (closed : List Closed) (history : List Event) : Type 0 where
  pub done : List Board
  pub told : List Known
  pub boards_are : boards ≡ done ++ rest
  pub drivers_are : drivers ≡ told ++ left
  pub pairs : AllZip HasEnded rest left
  pub shapes : map (λ x. x.board_shape) closed ≡ map (λ b. b.board_shape) done
  pub expect : map expected closed ≡ map (λ s. s.knows.expect) told
  pub history_is : history ≡ flat_map (λ x. x.events) closed
  pub legal : IsLegalHistory (map (λ b. b.board_shape.shape) done) history
  pub ticks : count_by is_tick history ≡ sum_by (λ s. s.knows.lead.checks) told

pub begins : (boards : List Board) (drivers : List Known) → AllZip HasEnded boards drivers → Between boards drivers boards drivers [] []
begins boards drivers pairs = record {
  done = [];
  told = [];
  boards_are = refl;
  drivers_are = refl;
  pairs = pairs;
  shapes = refl;
  expect = refl;
  history_is = refl;
  legal = record { parts = []; joined = refl; legal = tt };
  ticks = refl;
}

-- one board more
module _ (boards : List Board) (drivers : List Known) (b : Board) (rest : List Board) (s : Known) (left : List Known)
    (closed : List Closed) (history : List Event) (x : Closed) (i : Between boards drivers (b ∷ rest) (s ∷ left) closed history)
    (shape : x.board_shape ≡ b.board_shape) (expect : expected x ≡ s.knows.expect)
    (legal : IsLegalHistory (b.board_shape.shape ∷ []) x.events) (ticks : count_by is_tick x.events ≡ s.knows.lead.checks) where
  pub goes_on : Between boards drivers rest left (closed ++ x ∷ []) (history ++ x.events)
  goes_on = record {
    done = i.done ++ b ∷ [];
    told = i.told ++ s ∷ [];
    boards_are = i.boards_are ∙ sym (append_assoc i.done (b ∷ []) rest);
    drivers_are = i.drivers_are ∙ sym (append_assoc i.told (s ∷ []) left);
    pairs = i.pairs.1;
    shapes = map-append (λ (y : Closed). y.board_shape) closed (x ∷ []) ∙ (ap (λ l. l ++ x.board_shape ∷ []) i.shapes
        ∙ (ap (λ y. map (λ (c : Board). c.board_shape) i.done ++ y ∷ []) shape
        ∙ sym (map-append (λ (c : Board). c.board_shape) i.done (b ∷ []))));
    expect = map-append expected closed (x ∷ []) ∙ (ap (λ l. l ++ expected x ∷ []) i.expect
        ∙ (ap (λ y. map (λ (k : Known). k.knows.expect) i.told ++ y ∷ []) expect
        ∙ sym (map-append (λ (k : Known). k.knows.expect) i.told (s ∷ []))));
    history_is = ap (λ (l : List Event). l ++ x.events) i.history_is
        ∙ (ap (λ (l : List Event). flat_map (λ (y : Closed). y.events) closed ++ l) (sym (append-nil x.events))
        ∙ sym (flat_map-append (λ (y : Closed). y.events) closed (x ∷ [])));
    legal = subst (λ (l : List Shape). IsLegalHistory l (history ++ x.events))
        (sym (map-append (λ (c : Board). c.board_shape.shape) i.done (b ∷ [])))
        (legal_more (map (λ (c : Board). c.board_shape.shape) i.done) b.board_shape.shape history x.events i.legal legal);
    ticks = sum_by-append (λ (e : Event). cond (is_tick e) 1 0) history x.events ∙ (ap (λ (n : ℕ × ℕ). n.0 + n.1) (λ j. (i.ticks j, ticks j))
        ∙ sym (sum_by_push (λ (k : Known). k.knows.lead.checks) i.told s));
  }

-- no driver is left, so no board is
pub all_closed : (boards : List Board) (drivers : List Known) (rest : List Board) (left : List Known) (closed : List Closed)
    (history : List Event) → length left ≡ 0 → Between boards drivers rest left closed history
    → (map (λ x. x.board_shape) closed ≡ map (λ b. b.board_shape) boards) × IsLegalHistory (map (λ b. b.board_shape.shape) boards) history
    × (map expected closed ≡ map (λ s. s.knows.expect) drivers) × (count_by is_tick history ≡ sum_by (λ s. s.knows.lead.checks) drivers)
all_closed boards drivers [] [] closed history none i =
    let all : boards ≡ i.done = i.boards_are ∙ append-nil i.done in
    let each : drivers ≡ i.told = i.drivers_are ∙ append-nil i.told in (
      i.shapes ∙ ap (map (λ (b : Board). b.board_shape)) (sym all),
      subst (λ (l : List Board). IsLegalHistory (map (λ b. b.board_shape.shape) l) history) (sym all) i.legal,
      i.expect ∙ ap (map (λ (s : Known). s.knows.expect)) (sym each),
      i.ticks ∙ ap (sum_by (λ (s : Known). s.knows.lead.checks)) (sym each),
    )
all_closed boards drivers (b ∷ rest) [] closed history none i = absurd i.pairs
all_closed boards drivers rest (s ∷ left) closed history none i = absurd (omega (arith, none))
