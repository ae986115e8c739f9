-- The turn of a node: its links by number, the rows of its pools, its cycle after its start and its reading.
use Rattle.std.proofs.Common.{◌≡◌, ℕ, ℤ, ◌+◌, ◌<◌, ◌≤◌, ◌==◌, List, length, filter, get_or, sym, ap, ◌∙◌}
use Rattle.std.proofs.Common.{arith, ⊎_elim}
use Rattle.std.specs.Prelude.{Contains, ◌⊎◌}
use Rattle.std.specs.List.{enumerate_from}
use Rattle.std.proofs.lemmas.List.{get_or_default}
use Rattle.std.proofs.lemmas.Bool.{eq-eqb, ne_eqb, cond-true, cond-false}
use Rattle.pw_graph.specs.declared.ids.PortId.{PortId}
use Rattle.pw_graph.specs.declared.shape.Shape.{Shape}
use Rattle.pw_graph.specs.declared.plan.Epoch.{Epoch}
use Rattle.pw_graph.specs.Pools.{pools_of}
use Rattle.pw_graph.specs.KindPorts.{input_count}
use Rattle.pw_graph.specs.PlanForms.{kind_at}
use Rattle.cycle_model.specs.Cycle.{outputs}
use Rattle.cycle_model.specs.Expected.{epoch_rows}
use Rattle.cycle_model.proofs.RowLemmas.{map_map}
use Rattle.board_rule.specs.declared.view.View.{View}
use Rattle.board_rule.specs.Layout.{BoardLayout, first, last}
use Rattle.board_rule.specs.buffers.SampleWords.{samples_in}
use Rattle.board_rule.specs.buffers.EndViews.{pool_at}
use Rattle.board_rule.specs.buffers.BlockSteps.{fill_cycle}
use Rattle.node_progress.specs.declared.run_model.RunModel.{RunModel}
use Rattle.data_loop.specs.turns.Ends.{reads_of}
use Rattle.node_progress.specs.Standing.{Gives}
use Rattle.data_loop.specs.working.Inputs.{links_of}
use Rattle.data_loop.specs.Gathering.{input_from, inputs_of}
use Rattle.data_loop.specs.working.Giving.{AllPut}
use Rattle.data_loop.proofs.Playable.{IsPoolFor}
use Rattle.data_loop.proofs.InputLemmas.{pool_row}

pub links_are : (shape : Shape) (n : ℕ) → links_of (inputs_of shape n) ≡ reads_of shape n
links_are shape n = map_map (λ i. i.link) input_from (filter (λ e. e.1.to.node == n) (enumerate_from 0 shape.links))

-- each pool of the node gets the row of its output
module _ (run_model : RunModel) (p : BoardLayout) (e : Epoch) (shape : p.shape ≡ e.shape) (w : View) (c n first_output : ℕ)
    (expect : w.expect ≡ epoch_rows run_model.plan.value run_model.waves.value e) (low : first p ≤ c) (high : c < last p)
    (at : first_output ≡ input_count (kind_at run_model.plan.value n))
    (before_left before_right left right : List ℤ) (gives_left : Gives run_model c n 0 before_left left)
    (gives_right : Gives run_model c n 1 before_right right) where
  row_of_port : (q o : ℕ) → q < length (pools_of p.shape) → fill_cycle p w q ≡ c → (row before : List ℤ) → Gives run_model c n o before row
      → IsPoolFor run_model p n o before q → row ≡ samples_in p w.expect (fill_cycle p w q) q
  row_of_port q o inside cycle row before gives is = let some = is.1 in ⊎_elim
      (λ none. absurd (omega (arith, none, some)))
      (λ out. out ∙ ap (outputs run_model.plan.value run_model.waves.value c) (sym is.0)
      ∙ sym (pool_row run_model.plan.value run_model.waves.value p e c q shape low high inside)
      ∙ ap (λ t. samples_in p t c q) (sym expect)
      ∙ ap (λ k. samples_in p w.expect k q) (sym cycle))
      gives

  pub all_put : (pools : List ℕ)
      → ((q : ℕ) → Contains pools q → (q < length (pools_of p.shape)) × (fill_cycle p w q ≡ c)
      × (IsPoolFor run_model p n 0 before_left q ⊎ IsPoolFor run_model p n 1 before_right q))
      → AllPut p w first_output left right pools
  all_put pools h k d lt = let q : ℕ = get_or pools k d in let x = h q (k, lt, get_or_default pools k q d lt) in ⊎_elim
      (λ a. let port : (pool_at p q).port.port ≡ input_count (kind_at run_model.plan.value n) + 0 = ap (λ (y : PortId). y.port) a.0 in
      cond-true ((pool_at p q).port.port == first_output) left right
      (eq-eqb (pool_at p q).port.port first_output (omega (arith, port, at)))
      ∙ row_of_port q 0 x.0 x.1 left before_left gives_left a)
      (λ a. let port : (pool_at p q).port.port ≡ input_count (kind_at run_model.plan.value n) + 1 = ap (λ (y : PortId). y.port) a.0 in
      cond-false ((pool_at p q).port.port == first_output) left right
      (ne_eqb (pool_at p q).port.port first_output (λ z. omega (arith, z, port, at)))
      ∙ row_of_port q 1 x.0 x.1 right before_right gives_right a)
      x.2
