-- What is said of each part is said of one more.
use Rattle.std.proofs.Common.{◌≡◌, List, [], ◌∷◌, ◌++◌, sym, subst}
use Rattle.std.specs.Prelude.{All}
use Rattle.std.proofs.lemmas.List.Elements.{All-nil, All-cons, All-append}
use Rattle.pw_graph.specs.declared.parts.Part.{Part}
use Rattle.pw_graph.specs.SoundPlan.{IsSoundPlan}
use Rattle.wav_files.specs.declared.wav.WavIn.{WavIn}
use Rattle.cycle_model.specs.WavesFit.{WavesFit}

pub sound_more : (parts : List Part) (part : Part) (new : List Part) → new ≡ parts ++ part ∷ [] → All (λ (p : Part). IsSoundPlan p.plan) parts
    → IsSoundPlan part.plan → All (λ (p : Part). IsSoundPlan p.plan) new
sound_more parts part new is h more = let P = λ (p : Part). IsSoundPlan p.plan in
    subst (All P) (sym is) (All-append P parts (part ∷ []) h (All-cons P part [] more (All-nil P)))

pub fit_more : (waves : List WavIn) (parts : List Part) (part : Part) (new : List Part) → new ≡ parts ++ part ∷ []
    → All (λ (p : Part). WavesFit p.plan waves) parts → WavesFit part.plan waves → All (λ (p : Part). WavesFit p.plan waves) new
fit_more waves parts part new is h more = let P = λ (p : Part). WavesFit p.plan waves in
    subst (All P) (sym is) (All-append P parts (part ∷ []) h (All-cons P part [] more (All-nil P)))
