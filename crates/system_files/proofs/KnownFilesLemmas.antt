-- Laws of `specs/KnownFiles.antt`: what two writes, one after the other, have written.
use Rattle.std.proofs.Common.{ℕ, ◌+◌, List, ◌++◌, take, drop, ap, sym, ◌∙◌, append_assoc}
use Rattle.std.specs.Prelude.{Option, Some, None}
use Rattle.std.specs.Io.KnownBytes.{Appends}
use Rattle.std.proofs.Math.Seq.{take-add}

pub written_more : (old mid new : Option (List ℕ)) (bytes : List ℕ) (done n : ℕ) → Appends old mid (take done bytes)
    → Appends mid new (take n (drop done bytes)) → Appends old new (take (done + n) bytes)
written_more None mid new bytes done n first second = tt
written_more (Some xs) None new bytes done n first second = absurd first
written_more (Some xs) (Some ys) None bytes done n first second = absurd second
written_more (Some xs) (Some ys) (Some zs) bytes done n first second =
    second ∙ ap (λ front. front ++ take n (drop done bytes)) first
    ∙ append_assoc xs (take done bytes) (take n (drop done bytes))
    ∙ ap (λ rest. xs ++ rest) (sym (take-add done n bytes))
