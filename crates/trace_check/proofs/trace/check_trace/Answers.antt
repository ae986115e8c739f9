use Rattle.std.proofs.Common.{◌≡◌, map, Ok, Err, IfOk}
use Rattle.std.specs.Prelude.{Result}
use Rattle.trace_check.specs.declared.checking.Verdict.TheVariants.{Legal}
use Rattle.trace_check.specs.declared.trace.Finding.TheVariants.{Events}
use Rattle.trace_check.specs.Finding.{IsFindingOn}
use Rattle.trace_check.proofs.FindingLemmas.{finding_one, printed_is_legal}
use Rattle.trace_check.proofs.trace.check_trace.Goals as goal

weaker : {T E : Type 0} (r : Result T E) (P Q : T → Type 0) → IfOk r P → ((x : T) → P x → Q x) → IfOk r Q
weaker (Ok x) P Q h f = f x h
weaker (Err e) P Q h f = h

pub returns : goal.returns
returns c =
    let names = c.args.names.now in let shapes = map (λ e. e.shape) c.args.plan.now.epochs in let bytes = c.args.bytes.now in
    record {
      found = c.find.ensures;
      only = λ f h. weaker c.find.result (IsFindingOn names shapes bytes) (λ found. found ≡ f) c.find.ensures
          (λ g k. finding_one names c.requires.names shapes bytes g f k h);
      printed = λ history legal p. weaker c.find.result (IsFindingOn names shapes bytes) (λ found. found ≡ Events Legal) c.find.ensures
          (λ g k. finding_one names c.requires.names shapes bytes g (Events Legal) k (printed_is_legal names shapes history bytes legal p));
    }
