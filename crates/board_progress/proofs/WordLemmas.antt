-- After an advance each number fits a word again.
use Rattle.std.proofs.Common.{◌≡◌, ℕ, zero, suc, ◌+◌, ◌*◌, ◌<◌, ◌≤◌, ⊎_elim, Bool, true, false, [], length, set, get_or, sym, ap, ◌∙◌}
use Rattle.std.proofs.Common.{subst, arith, Option, get_or-set_other, get_or-set_same, length-set}
use Rattle.std.specs.Prelude.{All, filter}
use Rattle.std.specs.List.{enumerate_from}
use Rattle.std.proofs.lemmas.List.{get_or-map, length-map, get_or_past}
use Rattle.std.proofs.lemmas.List.FromFn.{length-enumerate_from}
use Rattle.std.proofs.lemmas.List.Elements.{All-filter}
use Rattle.std.proofs.lemmas.Bool.{cases_lt}
use mathlib.Core.Logic.{dite}
use native.Mathlib.Decide.{ℕ_discrete}
use mathlib.Core.Option.{some}
use lib.ListN.{get_elem?}
use Rattle.atomic_table.specs.Table.{State}
use Rattle.pw_graph.specs.declared.shape.ShapeNode.{ShapeNode}
use Rattle.pw_graph.specs.declared.shape.ShapeLink.{ShapeLink}
use Rattle.pw_graph.specs.declared.pools.PoolShape.{PoolShape}
use Rattle.pw_graph.specs.Dependencies.{nodes_of, waits, required_of}
use Rattle.pw_graph.specs.Pools.{is_same_port, links_from}
use Rattle.pw_graph.specs.SoundShape.{IsSoundShape}
use Rattle.board_rule.specs.declared.board_shape.BoardShape.{BoardShape}
use Rattle.board_rule.specs.declared.view.View.{View}
use Rattle.board_rule.specs.Layout.{BoardLayout, layout_of, nodes}
use Rattle.board_rule.specs.View.{Samples, node_of}
use Rattle.board_rule.specs.Steps.{HasNode, cycle_of}
use Rattle.board_rule.specs.BoardRule.{Holds}
use Rattle.board_rule.specs.buffers.SampleWords.{samples_in}
use Rattle.board_rule.specs.buffers.EndViews.{pool_at, pool_of, link_at, filler_of}
use Rattle.board_rule.specs.buffers.BlockSteps.{fill_cycle}
use Rattle.board_rule.proofs.events.TicketLemmas.{few_tickets}
use Rattle.board_rule.proofs.buffers.WiredLemmas.{PoolAt, pool_source, wired}
use Rattle.board_rule.proofs.buffers.HolderLemmas.{pool_there, pool_here, link_there}
use Rattle.board_progress.specs.Moves.{Move, moved}
use Rattle.board_progress.specs.NodeAdvances.{NodeAdvances}
use Rattle.board_progress.specs.NodeAdvances.NodeAdvances.{stores_pending, stores_status, lowers, triggers, claims, finishes, draws_ticket, stores_event}
use Rattle.board_progress.specs.NodeAdvances.NodeAdvances.{looks, stores_late}
use Rattle.board_progress.specs.BufferAdvances.{BufferAdvances}
use Rattle.board_progress.specs.BufferAdvances.BufferAdvances.{loads_as_writer, loads_readers, stores_sample, stores_readers, stores_have}
use Rattle.board_progress.specs.BufferAdvances.BufferAdvances.{loads_as_reader, loads_sample, lowers_readers, stores_need}
use Rattle.board_progress.specs.Progress.{Advances}
use Rattle.board_progress.specs.Ends.{AreWords}
use Rattle.board_progress.proofs.FitLemmas.{IsShort, node_event_fits, lead_event_fits, packed_fits, late_fits, blocks_most, few_pass}

abbrev no_node : ShapeNode
no_node = record { node = 0; required = 0; targets = [] }

once_at_least : (c k m : ℕ) → 1 ≤ c → c * k ≤ m → k ≤ m
once_at_least zero k m h l = absurd (omega arith)
once_at_least (suc c) k m h l = let e : suc c * k ≡ k + c * k = grind arith in omega arith

-- a required count is no more than there are nodes, which are few
pub few_required : (board_shape : BoardShape) → IsSoundShape board_shape.shape → (n : ℕ) → n < nodes (layout_of board_shape)
    → (layout_of board_shape).required n < 4294967296
few_required board_shape s n h = let shape = board_shape.shape in
    let is : (layout_of board_shape).required n ≡ required_of shape (get_or shape.nodes n no_node).node =
    get_or-map (λ z. z.required) shape.nodes n no_node 0 h ∙ (s.counts n no_node h).0 in
    let few = few_pass (waits shape (get_or shape.nodes n no_node).node) (nodes_of shape) in
    let long : length (nodes_of shape) ≡ length shape.nodes = length-map shape.nodes (λ z. z.node) in
    let most = once_at_least shape.cycles (2 * length shape.nodes + 3) 4194304 s.cycles.some s.cycles.events in omega arith

module _ (p : BoardLayout) (few : (n : ℕ) → n < nodes p → p.required n < 4294967296) (s : State (Option ℕ) View) (h : Holds p s) (fits : AreWords s)
    (i : ℕ) (v : View) (at : get_elem? s.views i ≡ some v) where
  -- a cycle of a node of the seat
  early : (b : Bool) (m : ℕ) → HasNode b p v m → cycle_of b v m < 4294967296
  early b m n = let a = n.1.1 in let e = h.seated.sound.early in omega arith

  same_fits : (k found : ℕ) → found ≡ get_or s.words k 0 → found < 18446744073709551616
  same_fits k found is = let a = fits k in omega arith

  node_fits : (x : Move) → NodeAdvances p s.words v x → x.word < 18446744073709551616
  node_fits x (stores_pending may e) = subst (λ (y : Move). y.word < 18446744073709551616) (sym e) (let a = few _ may.2 in omega arith)
  node_fits x (stores_status may e) = subst (λ (y : Move). y.word < 18446744073709551616) (sym e) (let a = early true p.driver may.0 in omega arith)
  node_fits x (lowers b m found may is e) = subst (λ (y : Move). y.word < 18446744073709551616) (sym e) (let a = same_fits _ found is in omega arith)
  node_fits x (triggers true m may e) = subst (λ (y : Move). y.word < 18446744073709551616) (sym e) (let a = early true m may.0 in omega arith)
  node_fits x (triggers false m may e) = subst (λ (y : Move). y.word < 18446744073709551616) (sym e) (let a = early false m may.0 in omega arith)
  node_fits x (claims b m may is e) = subst (λ (y : Move). y.word < 18446744073709551616) (sym e) (let a = early b m may.0 in omega arith)
  node_fits x (finishes b m may e) = subst (λ (y : Move). y.word < 18446744073709551616) (sym e) (let a = early b m may.0 in omega arith)
  node_fits x (draws_ticket b m ticket may is e) = subst (λ (y : Move). y.word < 18446744073709551616) (sym e)
      (let f = few_tickets p h.whole (get_or s.words 0 0) s.words h.seated.sound h.activations h.events.count in let l = h.seated.sound.events in omega arith)
  node_fits x (stores_event true m may e) = subst (λ (y : Move). y.word < 18446744073709551616) (sym e)
      (lead_event_fits v.lead (p.number m) v.lead.drive (h.seated.sound.numbers m may.0.2) (early true m may.0))
  node_fits x (stores_event false m may e) = subst (λ (y : Move). y.word < 18446744073709551616) (sym e)
      (node_event_fits (node_of v m) (p.number m) (node_of v m).phase (h.seated.sound.numbers m may.0.2) (early false m may.0))
  node_fits x (looks m found may is e) = subst (λ (y : Move). y.word < 18446744073709551616) (sym e) (let a = same_fits _ found is in omega arith)
  node_fits x (stores_late late may e) = subst (λ (y : Move). y.word < 18446744073709551616) (sym e)
      (let a = late_fits v.lead.cycle v.trail.looks ((h.seated.knows i v at).looks may.0.0.1) in let c = may.2 in omega arith)

  -- a pool has few blocks and few links
  few_blocks : (q : ℕ) (x : PoolShape) → PoolAt p q x → x.blocks ≤ 8
  few_blocks q x there = let source = pool_source p.shape q x there in
      let is = ap (λ (z : PoolShape). z.blocks) source.2 in
      let most = blocks_most 0 (links_from p.shape source.0) (omega arith)
      (All-filter (λ l. is_same_port l.from source.0) (λ l. l.buffers ≤ 8) p.shape.links (λ k d lt. (h.seated.pooled.sound.links.each k d lt).buffers.1)) in
      omega arith

  few_links : (q : ℕ) (x : PoolShape) → PoolAt p q x → length x.links ≤ 256
  few_links q x there = let source = pool_source p.shape q x there in
      let is = ap (λ (z : PoolShape). length z.links) source.2 in
      let a = length-map (filter (λ (e : ℕ × ShapeLink). is_same_port e.1.from source.0) (enumerate_from 0 p.shape.links)) (λ e. e.0) in
      let b = few_pass (λ (e : ℕ × ShapeLink). is_same_port e.1.from source.0) (enumerate_from 0 p.shape.links) in
      let c = length-enumerate_from 0 p.shape.links in let d = h.seated.pooled.sound.links.few in omega arith

  buffer_fits : (x : Move) → BufferAdvances p s.words v x → x.word < 18446744073709551616
  buffer_fits x (loads_as_writer l found may is e) = subst (λ (y : Move). y.word < 18446744073709551616) (sym e) (let a = same_fits _ found is in omega arith)
  buffer_fits x (loads_readers q n may is e) = subst (λ (y : Move). y.word < 18446744073709551616) (sym e) (omega arith)
  buffer_fits x (stores_sample q n k word may e) = subst (λ (y : Move). y.word < 18446744073709551616) (sym e)
      (let m : ℕ = filler_of p q in let has = may.0.3.0 in let split = (h.seated.knows i v at).is_split has.loops in
      let table = h.seated.table m has.inside has.follows (let o = has.owned in omega arith) in
      let shorts = subst (λ (z : Samples). (c : ℕ) → All IsShort (samples_in p z c q)) (sym (h.seated.knows i v at).expects) (λ c. table.fits c q) in
      let a = packed_fits (samples_in p v.expect (fill_cycle p v q) q) k (shorts (fill_cycle p v q)) in let c = may.3 in omega arith)
  buffer_fits x (stores_readers q n may e) = subst (λ (y : Move). y.word < 18446744073709551616) (sym e)
      (let a = few_links q (pool_at p q) (pool_there p q may.0.0) in omega arith)
  buffer_fits x (stores_have l id may e) = subst (λ (y : Move). y.word < 18446744073709551616) (sym e)
      (let pool = pool_here p (wired p h.seated.sound h.seated.pooled) l (link_at p l) (link_there p l may.0.0) in
      let a = few_blocks (pool_of p l) (pool_at p (pool_of p l)) pool.0 in let c = may.3 in omega arith)
  buffer_fits x (loads_as_reader b l found may is e) = subst (λ (y : Move). y.word < 18446744073709551616) (sym e) (let a = same_fits _ found is in omega arith)
  buffer_fits x (loads_sample b l id found may short is e) = subst (λ (y : Move). y.word < 18446744073709551616) (sym e) (let a = same_fits _ found is in omega arith)
  buffer_fits x (lowers_readers b l id found may is e) = subst (λ (y : Move). y.word < 18446744073709551616) (sym e) (let a = same_fits _ found is in omega arith)
  buffer_fits x (stores_need b l id may e) = subst (λ (y : Move). y.word < 18446744073709551616) (sym e)
      (let pool = pool_here p (wired p h.seated.sound h.seated.pooled) l (link_at p l) (link_there p l may.0.0.0) in
      let a = few_blocks (pool_of p l) (pool_at p (pool_of p l)) pool.0 in let c = may.0.2 in let d = may.0.3 in omega arith)

  pub words_fit : (x : Move) → Advances p s.words v x → AreWords (moved s i x)
  words_fit x a j = let low = ⊎_elim (node_fits x) (buffer_fits x) a in dite (ℕ_discrete j x.place)
      (λ e. ⊎_elim (λ lt. let z = get_or-set_same s.words x.place x.word 0 lt in
      let y : get_or (set s.words x.place x.word) j 0 ≡ get_or (set s.words x.place x.word) x.place 0 = ap (λ k. get_or (set s.words x.place x.word) k 0) e in omega arith)
      (λ past. let z = get_or_past (set s.words x.place x.word) j 0 (let n = length-set s.words x.place x.word in omega arith) in omega arith)
      (cases_lt x.place (length s.words)))
      (λ o. let z = get_or-set_other s.words x.place j x.word 0 o in let y = fits j in omega arith)
