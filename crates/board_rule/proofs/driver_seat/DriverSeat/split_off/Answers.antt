use Rattle.std.proofs.Common.{rules, arith, ◌≡◌, ◌∙◌, ◌<◌, ◌≤◌, ℕ, map, length, refl, sym, ap, replicate, zero, suc, ◌∷◌}
use Rattle.board_rule.specs.declared.view.NodeView.{NodeView}
use Rattle.board_rule.specs.declared.view.View.{View}
use Rattle.board_rule.specs.Known.{Known}
use Rattle.board_rule.specs.Layout.{layout_of, nodes, first}
use Rattle.board_rule.specs.start.Owners.{own, owners_of}
use Rattle.board_rule.specs.working.Progress.{progress_of}
use Rattle.board_rule.specs.View.{idle, first_write, unread, first_blocks}
use Rattle.board_rule.proofs.start.DealLemmas.{dealt_long, taken_first}
use Rattle.board_rule.proofs.driver_seat.DriverSeat.split_off.Goals as goal

all_idle : (x : NodeView) (n : ℕ) → map progress_of (replicate n x) ≡ replicate n (progress_of x)
all_idle x zero = refl
all_idle x (suc n) = ap (λ xs. progress_of x ∷ xs) (all_idle x n)

pub take-nodes-requires : goal.take-nodes-requires
take-nodes-requires g c = let n = dealt_long (λ v. v.items) _ _ _ _ _ c.requires.shares.nodes_are in let s = c.requires.seat in
    let r = c.requires.room in omega arith

pub take-writes-requires : goal.take-writes-requires
take-writes-requires g c = let n = dealt_long (λ v. v.items) _ _ _ _ _ c.requires.shares.writes_are in let s = c.requires.seat in
    let r = c.requires.room in omega arith

pub take-reads-requires : goal.take-reads-requires
take-reads-requires g c = let n = dealt_long (λ v. v.items) _ _ _ _ _ c.requires.shares.reads_are in let s = c.requires.seat in
    let r = c.requires.room in omega arith

pub take-blocks-requires : goal.take-blocks-requires
take-blocks-requires g c = let n = dealt_long (λ v. v.items) _ _ _ _ _ c.requires.shares.blocks_are in let s = c.requires.seat in
    let r = c.requires.room in omega arith

pub invariant_of-result : goal.invariant_of-result
invariant_of-result g c = let r = c.split-token.ensures.right.1 in let p = layout_of c.args.board.now.board_shape in let h = c.requires.shares in
    let k : ℕ = c.self.inside.token.me.0.split in let n : ℕ = c.args.seat in
    let seat : n ≡ k = c.requires.seat ∙ sym (ap (λ (x : Known). x.knows.split) c.self.view_is) in
    let here : n ≤ n = omega arith in let inside : n < p.seats = (let s = c.requires.seat in let m = c.requires.room in omega arith) in record {
      nodes_are = ap (λ (v : View). own v.number v.owners.nodes (map progress_of v.nodes)) r
          ∙ ap (own k (owners_of p).nodes) (all_idle (idle (first p)) (nodes p))
          ∙ sym (c.take-nodes.ensures.mine ∙ h.nodes_are.each n here inside ∙ ap (λ i. own i (owners_of p).nodes (replicate (nodes p) (progress_of (idle (first p))))) seat);
      writes_are = ap (λ (v : View). own v.number v.owners.writes v.writes) r
          ∙ sym (c.take-writes.ensures.mine ∙ h.writes_are.each n here inside ∙ ap (λ i. own i (owners_of p).writes (map (first_write (first p)) p.shape.links)) seat);
      reads_are = ap (λ (v : View). own v.number v.owners.reads v.reads) r
          ∙ sym (c.take-reads.ensures.mine ∙ h.reads_are.each n here inside ∙ ap (λ i. own i (owners_of p).reads (replicate (length p.shape.links) (unread (first p)))) seat);
      blocks_are = ap (λ (v : View). own v.number v.owners.blocks v.blocks) r
          ∙ sym (c.take-blocks.ensures.mine ∙ h.blocks_are.each n here inside ∙ ap (λ i. own i (owners_of p).blocks (first_blocks p.shape)) seat);
      woke_is = search rules;
    }

pub returns-clause-rest : goal.returns-clause-rest
returns-clause-rest g c = let h = c.requires.shares in record {
  nodes_are = taken_first _ _ _ _ _ _ h.nodes_are c.take-nodes.ensures.rest;
  writes_are = taken_first _ _ _ _ _ _ h.writes_are c.take-writes.ensures.rest;
  reads_are = taken_first _ _ _ _ _ _ h.reads_are c.take-reads.ensures.rest;
  blocks_are = taken_first _ _ _ _ _ _ h.blocks_are c.take-blocks.ensures.rest;
}
