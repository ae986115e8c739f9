-- No link leaves nothing.
use Rattle.std.proofs.Common.{◌≡◌, ℕ, zero, suc, get_or, replicate, refl, arith}
use Rattle.std.proofs.lemmas.List.{length-replicate}
use Rattle.link_negotiation.specs.Links.{LinkState}
use Rattle.link_negotiation.specs.working.Searching.{IsOutgoing}

zeros : (n k : ℕ) → get_or (replicate {A = ℕ} n 0) k 0 ≡ 0
zeros zero k = refl
zeros (suc n) zero = refl
zeros (suc n) (suc k) = zeros n k

-- no link yet
pub outgoing_none : (s : LinkState) → IsOutgoing s 0 (record { last = replicate 64 0; earlier = replicate 256 0 })
outgoing_none s = record {
  nodes = length-replicate {A = ℕ} 64 0;
  links = length-replicate {A = ℕ} 256 0;
  last = λ n below. record {
    within = omega (arith, zeros 64 n);
    there = λ d some. absurd (omega (arith, zeros 64 n, some));
    none = λ k d low high. absurd (omega (arith, high));
  };
  earlier = λ k n d below. absurd (omega (arith, below));
}
