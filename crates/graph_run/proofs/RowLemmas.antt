-- The seats of one board more, handed to the loops.
use Rattle.std.proofs.Common.{◌≡◌, ℕ, ◌+◌, ◌<◌, ◌≤◌, List, [], ◌∷◌, ◌++◌, length, map, get_or, take, drop, refl, sym, ap, ◌∙◌, arith}
use Rattle.std.specs.Prelude.{All, zip, Option, Some, None, option_map, slice_get}
use Rattle.std.specs.List.{enumerate_from, range_with_len}
use Rattle.std.proofs.lemmas.List.{map-append, length-map, take_more}
use Rattle.std.proofs.lemmas.List.Elements.{All-nil, All-cons, All-head, All-tail}
use Rattle.std.proofs.lemmas.List.FromFn.{length-map-range_with_len}
use Rattle.std.proofs.lemmas.Option.{slice_get_within, get_or_from_slice_get}
use Rattle.pw_lists.specs.Listed.{Listed}
use Rattle.pw_graph.specs.declared.plan.Epoch.{Epoch}
use Rattle.pw_graph.specs.declared.plan.Plan.{Plan}
use Rattle.wav_files.specs.declared.wav.WavIn.{WavIn}
use Rattle.board_rule.specs.declared.board.Board.{Board}
use Rattle.board_rule.specs.declared.board_shape.BoardShape.{BoardShape}
use Rattle.board_rule.specs.Known.{Known}
use Rattle.graph_run.specs.Seating.{epoch_board}
use Rattle.graph_run.specs.Boards.{dealt, driver_of, seat_of, seats_on, seats_of, all_seats}

-- one element more with its number
enumerate_more : {X : Type 0} (n : ℕ) (xs : List X) (x : X)
    → enumerate_from n (xs ++ x ∷ []) ≡ enumerate_from n xs ++ (n + length xs, x) ∷ []
enumerate_more n [] x = ap (λ (k : ℕ). (k, x) ∷ []) (omega arith)
enumerate_more n (y ∷ ys) x = ap (λ r. (n, y) ∷ r) (enumerate_more (n + 1) ys x)
    ∙ ap (λ (k : ℕ). (n, y) ∷ (enumerate_from (n + 1) ys ++ (k, x) ∷ [])) (omega arith)

pub mapped_more : {X Y : Type 0} (f : ℕ × X → Y) (xs : List X) (x : X) (k : ℕ) → length xs ≡ k
    → map f (enumerate_from 0 (xs ++ x ∷ [])) ≡ map f (enumerate_from 0 xs) ++ f (k, x) ∷ []
mapped_more f xs x k e = ap (map f) (enumerate_more 0 xs x) ∙ (map-append f (enumerate_from 0 xs) ((0 + length xs, x) ∷ [])
    ∙ ap (λ (n : ℕ). map f (enumerate_from 0 xs) ++ f (n, x) ∷ []) (omega (arith, e)))

-- each list has one more
dealt_lists : (rows : List (Listed Known)) (is : List ℕ) (F : ℕ → List Known) (G : ℕ → Known) → map (λ r. r.list) rows ≡ map F is
    → map (λ r. r.list) (map dealt (zip rows (map G is))) ≡ map (λ i. F i ++ G i ∷ []) is
dealt_lists [] [] F G e = refl
dealt_lists [] (i ∷ is) F G e = absurd (let n = ap (λ (l : List (List Known)). length l) e in omega (arith, n))
dealt_lists (r ∷ rows) [] F G e = absurd (let n = ap (λ (l : List (List Known)). length l) e in omega (arith, n))
dealt_lists (r ∷ rows) (i ∷ is) F G e =
    ap (λ (l : List Known). (l ++ G i ∷ []) ∷ map (λ r. r.list) (map dealt (zip rows (map G is))))
    (ap (λ (l : List (List Known)). get_or l 0 []) e)
    ∙ ap (λ (l : List (List Known)). (F i ++ G i ∷ []) ∷ l) (dealt_lists rows is F G (ap (λ (l : List (List Known)). drop 1 l) e))

map_same : {X Y : Type 0} (f g : X → Y) → ((x : X) → f x ≡ g x) → (xs : List X) → map f xs ≡ map g xs
map_same f g h [] = refl
map_same f g h (x ∷ xs) = ap (λ y. y ∷ map f xs) (h x) ∙ ap (λ l. g x ∷ l) (map_same f g h xs)

-- each has room for one less
pub dealt_spare : (count n : ℕ) (rows : List (Listed Known)) (seats : List Known) → n < count → All (λ r. count ≤ n + r.spare) rows
    → All (λ r. count ≤ n + 1 + r.spare) (map dealt (zip rows seats))
dealt_spare count n [] seats lt all = All-nil (λ r. count ≤ n + 1 + r.spare)
dealt_spare count n (r ∷ rows) [] lt all = All-nil (λ r. count ≤ n + 1 + r.spare)
dealt_spare count n (r ∷ rows) (s ∷ seats) lt all = let first = All-head (λ r. count ≤ n + r.spare) r rows all in
    All-cons (λ r. count ≤ n + 1 + r.spare) (dealt (r, s)) (map dealt (zip rows seats)) (omega (arith, first))
    (dealt_spare count n rows seats lt (All-tail (λ r. count ≤ n + r.spare) r rows all))

module _ (plan : Plan) (waves : List WavIn) (loops : ℕ) (boards : List Board) (b : Board) (k : ℕ) (is : length boards ≡ k) where
  pub drivers_more : map (driver_of plan waves loops) (enumerate_from 0 (boards ++ b ∷ []))
      ≡ map (driver_of plan waves loops) (enumerate_from 0 boards) ++ driver_of plan waves loops (k, b) ∷ []
  drivers_more = mapped_more (driver_of plan waves loops) boards b k is

  pub seats_more : (rows : List (Listed Known)) (row : List Known) → map (λ r. r.list) rows ≡ all_seats plan waves loops boards
      → row ≡ seats_on plan waves loops (k, b)
      → map (λ r. r.list) (map dealt (zip rows row)) ≡ all_seats plan waves loops (boards ++ b ∷ [])
  seats_more rows row e on = ap (λ (l : List Known). map (λ r. r.list) (map dealt (zip rows l))) on
      ∙ (dealt_lists rows (range_with_len 0 (loops + 1)) (seats_of plan waves loops boards) (λ i. seat_of plan waves loops i (k, b)) e
      ∙ sym (map_same (seats_of plan waves loops (boards ++ b ∷ [])) (λ i. seats_of plan waves loops boards i ++ seat_of plan waves loops i (k, b) ∷ [])
      (λ i. mapped_more (seat_of plan waves loops i) boards b k is) (range_with_len 0 (loops + 1))))

  pub same_count : (rows : List (Listed Known)) (row : List Known) → map (λ r. r.list) rows ≡ all_seats plan waves loops boards
      → row ≡ seats_on plan waves loops (k, b) → length row ≡ length rows
  same_count rows row e on = ap (λ (l : List Known). length l) on
      ∙ (length-map-range_with_len (λ i. seat_of plan waves loops i (k, b)) 0 (loops + 1)
      ∙ (sym (length-map-range_with_len (seats_of plan waves loops boards) 0 (loops + 1))
      ∙ (ap (λ (l : List (List Known)). length l) (sym e) ∙ length-map rows (λ r. r.list))))

-- the shapes of one board more
pub shapes_more : (plan : Plan) (f : ℕ → ℕ) (loops : ℕ) (boards : List Board) (b : Board) (k : ℕ)
    → map (λ x. x.board_shape) boards ≡ map (epoch_board f loops) (take k plan.epochs)
    → option_map (epoch_board f loops) (slice_get plan.epochs k) ≡ Some b.board_shape
    → map (λ x. x.board_shape) (boards ++ b ∷ []) ≡ map (epoch_board f loops) (take (k + 1) plan.epochs)
shapes_more plan f loops boards b k e at = map-append (λ (x : Board). x.board_shape) boards (b ∷ [])
    ∙ (ap (λ (l : List BoardShape). l ++ b.board_shape ∷ []) e ∙ go (slice_get plan.epochs k) refl) where
      go : (o : Option Epoch) → slice_get plan.epochs k ≡ o
          → map (epoch_board f loops) (take k plan.epochs) ++ b.board_shape ∷ [] ≡ map (epoch_board f loops) (take (k + 1) plan.epochs)
      go None d = cc
      go (Some x) d = let lt = slice_get_within plan.epochs k x d in
          let is : epoch_board f loops x ≡ b.board_shape = cc in
          sym (ap (map (epoch_board f loops)) (take_more plan.epochs k x lt)
          ∙ (map-append (epoch_board f loops) (take k plan.epochs) (get_or plan.epochs k x ∷ [])
          ∙ ap (λ (s : BoardShape). map (epoch_board f loops) (take k plan.epochs) ++ s ∷ [])
          (ap (epoch_board f loops) (get_or_from_slice_get plan.epochs k x x d) ∙ is)))
