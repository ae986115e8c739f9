-- What is taken out is the first of its node, and of other nodes all is left.
use Rattle.std.proofs.Common.{◌≡◌, ◌==◌, List, [], ap, subst, sym, ◌∙◌, arith}
use Rattle.std.specs.Prelude.{Some, None}
use Rattle.std.specs.List.{position}
use Rattle.std.proofs.lemmas.List.Quantifiers.{position-Some}
use Rattle.wav_files.specs.declared.outcome.Kept.{Kept}
use Rattle.pw_top.specs.Joined.{kept_at}
use Rattle.pw_top.proofs.JoinedLemmas.{found_at, not_found, taken_out}
use Rattle.pw_top.proofs.joined.take_kept.Goals as goal

nothing : Kept
nothing = record { node = 0; wav = record { rate = 0; channels = 0; samples = [] } }

pub remove-requires : goal.remove-requires
remove-requires c =
    let inside = (position-Some (λ (k : Kept). k.node == c.args.node) c.as_slice.result.now c.in-Some.place nothing (sym c.in-Some.ensures)).0 in
    let long = c.as_slice.ensures.len in omega (arith, inside, long)

pub returns-in-Some-clause-is : goal.returns-in-Some-clause-is
returns-in-Some-clause-is c = let test = λ (k : Kept). k.node == c.args.node in
    let at = subst (λ (ks : List Kept). position test ks ≡ Some c.in-Some.place) c.as_slice.ensures.value (sym c.in-Some.ensures) in
    ap (λ (k : Kept). Some k) c.remove.ensures.value ∙ sym (found_at test c.args.all.now.items c.in-Some.place c.remove.result at)

pub returns-in-Some-clause-others : goal.returns-in-Some-clause-others
returns-in-Some-clause-others c = let test = λ (k : Kept). k.node == c.args.node in
    let at = subst (λ (ks : List Kept). position test ks ≡ Some c.in-Some.place) c.as_slice.ensures.value (sym c.in-Some.ensures) in
    λ m other. ap (λ (ks : List Kept). kept_at ks m) c.remove.ensures.items
    ∙ taken_out c.args.all.now.items c.args.node c.in-Some.place c.remove.result at m other

pub returns-in-None-clause-is : goal.returns-in-None-clause-is
returns-in-None-clause-is c = let test = λ (k : Kept). k.node == c.args.node in
    sym (not_found test c.args.all.now.items (subst (λ (ks : List Kept). position test ks ≡ None) c.as_slice.ensures.value (sym c.in-None.ensures)))
