-- A node of the script is not the built-in driver.
use Rattle.std.proofs.Common.{inl, inr, arith}
use Rattle.graph_plan.proofs.partition.joined_to.Goals as goal

pub returns : goal.returns
returns c = λ n. (
  λ e. elim ((c.active_nodes.ensures n).0 e) [ inl h ↦ absurd (let same = h.0 in let few = c.requires.node in omega (arith, same, few)) | inr h ↦ h.1 ],
  λ j. (c.active_nodes.ensures n).1 (inr ((λ same. let few = c.requires.node in omega (arith, same, few)), j)),
)
