-- With its size set and its padding after it, the open form is framed.
use Rattle.std.proofs.Common.{◌≡◌, ℕ, List, ◌+◌, ◌-◌, ◌++◌, length, take, drop, replicate, rules, ◌∙◌, refl, ap}
use Rattle.pod_codec.specs.Framing.{u32_bytes, pad8}
use Rattle.pod_codec.proofs.WritingLemmas.{closed}
use Rattle.pod_codec.proofs.containers.end_frame.Goals as goal

pub returns-clause-ok : goal.returns-clause-ok
returns-clause-ok c = λ front f open_form.
    let to = c.args.to.now in
    let at = c.args.at in
    let size = length to - (at + 8) in
    let is_size : c.len.result - (at + 8) ≡ size = search rules in
    c.in_ok-extend_filled.ensures.ok
    ∙ ap (λ (x : List ℕ). x ++ replicate c.padding.result 0) c.set_u32_at.ensures
    ∙ ap (λ (k : ℕ). ((take at to ++ u32_bytes (c.len.result - (at + 8))) ++ drop (at + 4) to) ++ replicate k 0) c.padding.ensures
    ∙ ap (λ (k : ℕ). ((take at to ++ u32_bytes k) ++ drop (at + 4) to) ++ replicate (pad8 k - k) 0) is_size
    ∙ closed front f at to size open_form refl
