-- The spaces are there.
use Rattle.std.proofs.Common.{◌≡◌, ◌&&◌, ◌==◌, nat_le, true, sym, ap, ◌∙◌, arith, length, take, drop}
use Rattle.std.specs.Prelude.{Some, None}
use Rattle.std.specs.List.{list_all}
use Rattle.std.proofs.lemmas.Bool.{and_from, le-leb, cond-true}
use Rattle.dump_reading.specs.working.Cutting.{behind_spaces}
use Rattle.dump_reading.proofs.cutting.behind_spaces.Goals as goal

pub returns-then-all_spaces : goal.returns-then-all_spaces
unfolding behind_spaces
returns-then-all_spaces c =
    let line = c.args.line.now in
    let n = c.args.spaces in
    let long : nat_le n (length line) ≡ true = le-leb n (length line) (omega arith) in
    let blank : list_all (λ b. b == 32) (take n line) ≡ true =
    ap (list_all (λ b. b == 32)) (sym c.split_at.ensures.front) ∙ sym c.all_spaces.ensures ∙ c.if-all_spaces.true in
    ap Some c.split_at.ensures.back
    ∙ sym (cond-true (nat_le n (length line) && list_all (λ b. b == 32) (take n line)) (Some (drop n line)) None
    (and_from (nat_le n (length line)) (list_all (λ b. b == 32) (take n line)) long blank))
