-- A sound graph of which one node is changed.
use Rattle.std.proofs.Common.{◌≡◌, inl, inr, ℕ, zero, suc, ◌<◌, ◌≤◌, true, false, List, [], ◌∷◌, length, refl, sym, ap, ◌∙◌, subst, arith}
use Rattle.std.specs.Prelude.{slice_set, slice_index_or}
use Rattle.std.proofs.Math.ListN.{length-set}
use Rattle.std.proofs.lemmas.Bool.{cases_eq}
use Rattle.std.proofs.lemmas.List.{get_or-set_same, get_or-set_other}
use Rattle.link_negotiation.specs.Links.{LinkState}
use Rattle.graph_lines.specs.declared.graph.Graph.{Graph}
use Rattle.graph_lines.specs.declared.standing.Standing.{Standing}
use Rattle.graph_lines.specs.Activity.{nobody, standing}
use Rattle.graph_lines.specs.Lines.{with_node, mark, Marks}
use Rattle.graph_lines.specs.Ready.{HasReadyMarks, IsReady, HasRan}
use Rattle.graph_lines.proofs.PortLemmas.{at_most_63}

-- what is said of each node stays in a respect in which it stays for the one that is changed
pub set_standing : {X : Type 0} (φ : Standing → X) (nodes : List Standing) (n m : ℕ) (x : Standing) → φ x ≡ φ (standing nodes n)
    → φ (standing (slice_set nodes n x) m) ≡ φ (standing nodes m)
set_standing φ [] n m x e = refl
set_standing φ (s ∷ ss) zero zero x e = e
set_standing φ (s ∷ ss) zero (suc m) x e = refl
set_standing φ (s ∷ ss) (suc n) zero x e = refl
set_standing φ (s ∷ ss) (suc n) (suc m) x e = set_standing φ ss n m x e

-- a node that is not marked by it
pub with_node_sound : (g : Graph) (n : ℕ) (f : Standing → Standing) → ((s : Standing) → (f s).marked ≡ s.marked)
    → IsReady g → IsReady (with_node g n f)
with_node_sound g n f marked sound = let s = standing g.nodes n in record {
  nodes = record {
    many = length-set g.nodes n (f s) ∙ sound.nodes.many;
    kinds = sound.nodes.kinds;
    ports = sound.nodes.ports;
  };
  wires = record { wired = sound.wires.wired; each = sound.wires.each };
  marks = record {
    many = sound.marks.many;
    same = λ m. set_standing (λ x. x.marked) g.nodes n m (f s) (marked s) ∙ sound.marks.same m;
  };
  counts = sound.counts;
}

-- nor did it run in more cycles
pub with_node_ran : (g : Graph) (n : ℕ) (f : Standing → Standing) → ((s : Standing) → (f s).ran ≡ s.ran) → HasRan g → HasRan (with_node g n f)
with_node_ran g n f same ran = let s = standing g.nodes n in record {
  within = λ m. subst (λ (k : ℕ). k ≤ g.first) (sym (set_standing (λ x. x.ran) g.nodes n m (f s) (same s))) (ran.within m);
}

-- a node and its links are marked together
both_marked : (nodes : List Standing) (links : LinkState) (n : ℕ) → n < length nodes → n < 64 → HasReadyMarks nodes links
    → HasReadyMarks (slice_set nodes n (mark (standing nodes n))) (record links { marks = slice_set links.marks n true })
both_marked nodes links n there below h = record {
  many = length-set links.marks n true ∙ h.many;
  same = λ m. elim (cases_eq m n) [
    | inl e ↦ subst (λ (k : ℕ). (standing (slice_set nodes n (mark (standing nodes n))) k).marked ≡ slice_index_or (slice_set links.marks n true) k false)
        (sym e) (ap (λ (s : Standing). s.marked) (get_or-set_same nodes n (mark (standing nodes n)) nobody there)
        ∙ sym (get_or-set_same links.marks n true false (let long = h.many in omega (arith, below, long))))
    | inr other ↦ ap (λ (s : Standing). s.marked) (get_or-set_other nodes n m (mark (standing nodes n)) nobody other)
        ∙ (h.same m ∙ sym (get_or-set_other links.marks n m true false other))
  ];
}

pub marks_sound : (g after : Graph) (n : ℕ) → n < length g.nodes → Marks g n after → IsReady g → IsReady after
marks_sound g after n there (inl h) sound = subst IsReady (sym h.1) sound
marks_sound g after n there (inr h) sound =
    let few = at_most_63 g.nodes g.kinds g.ports sound.nodes in
    subst IsReady (sym h.1) (record {
      nodes = record {
        many = length-set g.nodes n (mark (standing g.nodes n)) ∙ sound.nodes.many;
        kinds = sound.nodes.kinds;
        ports = sound.nodes.ports;
      };
      wires = record { wired = sound.wires.wired; each = sound.wires.each };
      marks = both_marked g.nodes g.links n there (omega (arith, there, few)) sound.marks;
      counts = sound.counts;
    })

pub marks_ran : (g after : Graph) (n : ℕ) → Marks g n after → HasRan g → HasRan after
marks_ran g after n (inl h) ran = subst HasRan (sym h.1) ran
marks_ran g after n (inr h) ran = subst HasRan (sym h.1) (record {
  within = λ m. subst (λ (k : ℕ). k ≤ g.first) (sym (set_standing (λ x. x.ran) g.nodes n m (mark (standing g.nodes n)) refl))
      (ran.within m);
})
