-- Laws of `specs/Statuses.antt`: what an end says of its status.
use Rattle.std.proofs.Common.{◌≡◌, ℕ, ◌<◌, zero, suc, refl, arith}
use Rattle.command_frame.specs.declared.ending.End.TheVariants as E
use Rattle.run_results.specs.declared.status.Status.{Status}
use Rattle.run_results.specs.declared.status.Status.TheVariants as S
use Rattle.run_results.specs.Statuses.{write_end, means}

-- a store has a place above 0
pub write_placed : (n : ℕ) → 0 < n → write_end n ≡ E.StoreFault n
write_placed zero l = absurd (omega (arith, l))
write_placed (suc n) l = refl

-- lack of memory is one status
pub one_memory : (status : Status) → means status ≡ E.Memory → status ≡ S.Memory
one_memory S.Ok h = cc
one_memory (S.Usage word) h = cc
one_memory (S.Script line why) h = cc
one_memory (S.Wav place why) h = cc
one_memory (S.Pod place why) h = cc
one_memory (S.Absent place) h = cc
one_memory (S.ReadFault place) h = cc
one_memory (S.WriteFault zero) h = cc
one_memory (S.WriteFault (suc n)) h = cc
one_memory (S.Limit place which) h = cc
one_memory S.Memory h = refl
