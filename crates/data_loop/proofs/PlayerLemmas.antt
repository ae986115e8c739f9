-- A member that is awake may play in rows of the loop.
use Rattle.std.proofs.Common.{◌≡◌, ℕ, ℤ, ◌≤◌, List, length, take, drop, ◌++◌, sym, ap, ◌∙◌, subst}
use Rattle.std.proofs.lemmas.List.{length-take-le}
use Rattle.std.proofs.Math.Seq.{take-append_seam}
use Rattle.pw_graph.specs.declared.shape.Shape.{Shape}
use Rattle.pw_lists.specs.Limits.{links_limit}
use Rattle.board_rule.specs.declared.view.View.{View}
use Rattle.board_rule.specs.Layout.{BoardLayout}
use Rattle.io_areas.specs.PooledBoard.{IsPooledBoard}
use Rattle.node_state.specs.declared.node_state.NodeState.{NodeState}
use Rattle.node_progress.specs.declared.run_model.RunModel.{RunModel}
use Rattle.node_progress.specs.NodeStates.{IsNodeState}
use Rattle.data_loop.specs.declared.inputs.Input.{Input}
use Rattle.data_loop.specs.declared.member.Member.{Member}
use Rattle.data_loop.specs.declared.rows.Rows.{Rows}
use Rattle.data_loop.specs.turns.Ends.{fills_of}
use Rattle.data_loop.specs.Gathering.{inputs_of}
use Rattle.data_loop.specs.Rooms.{HasRowsFor, a_row, b_row, left_row, right_row}
use Rattle.data_loop.specs.working.Standings.{IsPlayer}
use Rattle.data_loop.proofs.Playable.{IsMemberOf, MayPlay}
use Rattle.data_loop.proofs.PlayLemmas.{may_play, few_inputs}

-- the front of a row that was written there
pub front_is : (n : ℕ) (front row : List ℤ) → length front ≡ n → take n (front ++ drop n row) ≡ front
front_is n front row e = ap (λ m. take m (front ++ drop n row)) (sym e) ∙ take-append_seam front (drop n row)

module _ (run_model : RunModel) (p : BoardLayout) (v : View) (k c : ℕ) (m : Member) (x : IsPlayer run_model p v k c m) where
  pub member_of : IsMemberOf run_model p m
  member_of = record {
    inputs = ap (λ (y : Member). y.inputs) x.member ∙ ap (λ (s : Shape). inputs_of s m.node) (sym x.shape);
    pools = ap (λ (y : Member). y.pools) x.member ∙ ap (λ (s : Shape). fills_of s m.node) (sym x.shape);
    few = subst (λ (l : List Input). length l ≤ links_limit) (sym (ap (λ (y : Member). y.inputs) x.member))
        (few_inputs run_model k c m.node x.works);
    first_output = ap (λ (y : Member). y.first_output) x.member;
  }

  pub plays : IsPooledBoard p → (s : NodeState) → IsNodeState run_model k c m.node s → (rows : Rows) → HasRowsFor rows m
      → MayPlay run_model p v k c m.node m.first_width s (a_row rows m) (b_row rows m) (left_row rows m) (right_row rows m)
  plays pooled s st rows room =
      subst (λ wide. MayPlay run_model p v k c m.node wide s (a_row rows m) (b_row rows m) (left_row rows m) (right_row rows m))
      (sym (ap (λ (y : Member). y.first_width) x.member))
      (may_play run_model k c m.node x.works p pooled x.shape v x.expect x.now s st
      (a_row rows m) (b_row rows m) (left_row rows m) (right_row rows m)
      (length-take-le m.first_width rows.a.items room.a ∙ ap (λ (y : Member). y.first_width) x.member)
      (length-take-le m.second_width rows.b.items room.b ∙ ap (λ (y : Member). y.second_width) x.member)
      (length-take-le m.left_width rows.left.items room.left ∙ ap (λ (y : Member). y.left_width) x.member)
      (length-take-le m.right_width rows.right.items room.right ∙ ap (λ (y : Member). y.right_width) x.member))
