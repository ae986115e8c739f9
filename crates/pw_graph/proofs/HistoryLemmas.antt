-- Laws of `specs/History.antt`.
use Rattle.std.proofs.Common.{◌≡◌, ℕ, ◌<◌, Bool, true, false, not, cond, List, length, refl, sym, arith, ltb, Some, None}
use Rattle.std.specs.Prelude.{unwrap_or, All, IsTrue, ◌↔◌}
use Rattle.std.specs.List.{position, position_or_len}
use Rattle.std.proofs.lemmas.Bool.Decides.{Decides-ltb}
use Rattle.std.proofs.lemmas.List.Elements.{All-map, All-contains}
use Rattle.pw_graph.specs.declared.shape.Shape.{Shape}
use Rattle.pw_graph.specs.Dependencies.{nodes_of, waits, Precedes}
use Rattle.pw_graph.proofs.ShapeLemmas.{contains_mapped}
use Rattle.std.proofs.lemmas.List.Sums.{prefix_len-le-length}

or_end : (b : Bool) (k n : ℕ) → (b ≡ false → k ≡ n) → unwrap_or (cond b (Some k) None) n ≡ k
or_end true k n h = refl
or_end false k n h = sym (h refl)

-- the first place, or the length where nothing passes
pub place_or_end : {X : Type 0} (p : X → Bool) (xs : List X) → unwrap_or (position p xs) (length xs) ≡ position_or_len p xs
place_or_end p xs = or_end (ltb (position_or_len p xs) (length xs)) (position_or_len p xs) (length xs)
    (λ e. let le = prefix_len-le-length (λ x. not (p x)) xs in
    let ge : ¬ (position_or_len p xs < length xs) = λ h. let t : ltb (position_or_len p xs) (length xs) ≡ true = (Decides-ltb _ _).1 h in
    cc in omega arith)

-- of all pairs of nodes, by their places and by their numbers
pub order_by_numbers : (shape : Shape) (C : ℕ → ℕ → Type 0)
    → All (λ n. All (λ m. IsTrue (waits shape n.node m.node) → ¬ (m.node ≡ shape.driver) → C m.node n.node) shape.nodes) shape.nodes ↔
    ((m n : ℕ) → Precedes shape m n → C m n)
order_by_numbers shape C = (
  λ h m n p.
      let all = All-map (λ j. All (λ i. IsTrue (waits shape j i.node) → ¬ (i.node ≡ shape.driver) → C i.node j) shape.nodes)
      (λ j. j.node) shape.nodes h in
      let at : All (λ i. IsTrue (waits shape n i.node) → ¬ (i.node ≡ shape.driver) → C i.node n) shape.nodes =
      All-contains (λ j. All (λ i. IsTrue (waits shape j i.node) → ¬ (i.node ≡ shape.driver) → C i.node j) shape.nodes)
      (nodes_of shape) n all p.depends.to_active in
      let every = All-map (λ i. IsTrue (waits shape n i) → ¬ (i ≡ shape.driver) → C i n) (λ i. i.node) shape.nodes at in
      All-contains (λ i. IsTrue (waits shape n i) → ¬ (i ≡ shape.driver) → C i n)
      (nodes_of shape) m every p.depends.from_active p.depends.waits p.follower,
  λ h k d lt j e lt' w ne. h _ _ (record {
    depends = record {
      from_active = contains_mapped (λ n. n.node) shape.nodes j e lt';
      to_active = contains_mapped (λ n. n.node) shape.nodes k d lt;
      waits = w;
    };
    follower = ne;
  }),
)
