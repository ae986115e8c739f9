-- What is written so far and the bodies that are left are all; those that are passed are of the child type.
use Rattle.std.proofs.Common.{◌≡◌, ◌++◌, ◌==◌, drop, map}
use Rattle.std.specs.List.{flat_map, list_all}
use Rattle.pod_codec.specs.PodValue.{form_of}
use Rattle.pod_codec.specs.Numbers.{ElementsFit}
use Rattle.pod_codec.proofs.containers.put_elements.Given as goal

abbrev pub invariant-loop-pod : goal.invariant-loop-pod
invariant-loop-pod l =
    let left = map form_of (drop l.pod-index l.values) in
    let all = map form_of l.fn.values in
    record {
      bytes : l.to ++ flat_map (λ v. v.body) left ≡ l.fn.to ++ flat_map (λ v. v.body) all;
      same : list_all (λ f. f.number == l.child) left ≡ list_all (λ f. f.number == l.child) all;
      numbers : ElementsFit (drop l.pod-index l.values) → ElementsFit l.fn.values;
    }
