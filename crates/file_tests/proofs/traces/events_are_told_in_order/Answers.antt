use Rattle.std.proofs.Common.{◌≡◌, ◌∙◌, ℕ, ◌<◌, ◌≤◌, ◌/◌, ◌%◌, ◌^◌, length, ap, sym, arith, inl, inr, pow_mono, refl, []}
use Rattle.std.proofs.Common.{◌∷◌}
use Rattle.std.proofs.lemmas.Bool.{cases_lt}
use Rattle.std.proofs.lemmas.Nat.{div_below}
use Rattle.std.proofs.lemmas.List.{length-map}
use Rattle.std.proofs.lemmas.List.Elements.{All-nil, All-same, All-from_recursion}
use Rattle.pw_graph.specs.declared.plan.PlanNode.{PlanNode}
use Rattle.pw_graph.specs.declared.event.Event.TheVariants.{Begin, Start, Finish, Tick, End}
use Rattle.cycle_trace.specs.Printable.{JoinsPorts, NamesNodes}
use Rattle.file_tests.proofs.traces.events_are_told_in_order.Goals as goal

-- 6 has no bit 3 or above
bit_of_six : (n : ℕ) → 6 / 2 ^ n % 2 ≡ 1 → n < 3
bit_of_six n bit = elim (cases_lt n 3) [
  | inl below ↦ below
  | inr above ↦
      let power : 2 ^ 3 ≤ 2 ^ n = pow_mono above in
      let none : 6 / 2 ^ n < 1 = div_below 6 (2 ^ n) 1 (omega arith) (omega arith) in
      absurd (omega arith)
]

pub run_text-requires : goal.run_text-requires
run_text-requires g c =
    let count : length c.in_ok-three_nodes.field-0 ≡ 3 = sym (length-map c.in_ok-three_nodes.field-0 (λ (n : PlanNode). n.kind))
    ∙ ap length c.in_ok-three_nodes.ensures in
    record {
      lines = All-same (JoinsPorts c.in_ok-three_nodes.field-0) _ _ c.new-2.ensures (All-nil (JoinsPorts c.in_ok-three_nodes.field-0));
      events = All-same (NamesNodes c.in_ok-three_nodes.field-0) _ _ (c.in_ok-history.ensures ∙ c.as_slice.ensures)
          (All-from_recursion (NamesNodes c.in_ok-three_nodes.field-0) (Begin 0 ∷ Start 0 0 ∷ Tick 0 6 ∷ Finish 0 63 ∷ End 4294967295 ∷ [])
          (tt, ((λ _. omega arith), ((λ n small bit _. omega (arith, bit_of_six n bit)), ((λ other. absurd (other refl)), (tt, tt))))));
    }
