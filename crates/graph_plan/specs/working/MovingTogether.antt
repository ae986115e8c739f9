-- What became of a line in one part, in all of them, and in the whole.
-- Source: this project's own.
use Rattle.std.specs.Prelude.{◌≡◌, ◌⊎◌, true, List, Option, None, All, map, zip}
use Rattle.std.specs.List.{AllZip}
use Rattle.pw_lists.specs.declared.limit.Which.TheVariants as W
use Rattle.pw_graph.specs.declared.plan.Epoch.{Epoch}
use Rattle.wav_files.specs.declared.wav.WavIn.{WavIn}
use Rattle.graph_script.specs.declared.script.Line.{Line}
use Rattle.graph_lines.specs.declared.graph.Stepped.{Stepped}
use Rattle.graph_lines.specs.declared.graph.Stepped.TheVariants as T
use Rattle.graph_lines.specs.EpochLines.{IsAfter}
use Rattle.graph_lines.specs.Lines.{Does}
use Rattle.graph_lines.specs.Sums.{passed}
use Rattle.graph_plan.specs.declared.member.Member.{Member}
use Rattle.graph_plan.specs.declared.together.Together.{Together}
use Rattle.graph_plan.specs.working.Members.{IsStanding}
use Rattle.graph_plan.specs.Moving.{Moves, own_sums, total}
use Rattle.graph_plan.specs.PartLines.{is_line_of}
use Rattle.graph_plan.specs.Together.{HasManyIn, HasSums, GoesOn, Passes}

-- a part has taken an epoch
pub record HasTaken (m : Member) (e : Epoch) (after : Member) : Type 0 where
  pub nodes : after.nodes ≡ m.nodes
  pub graph : IsAfter m.graph e after.graph
  pub stands : IsStanding after

-- a part has moved by the epoch that the line makes of it, and the next line may follow
pub record MovesBy (waves : List WavIn) (l : Line) (m : Member) (made : Option Epoch)
    (after : Member)
    : Type 0 where
  pub moves : Moves waves l m after
  pub sums : after.graph.sums ≡ own_sums m made
  pub stands : IsStanding after

-- so it has, or it has 256 links
abbrev pub GoesBy : List WavIn → Line → Member → Option Epoch → Stepped → Member
    → Type 0
GoesBy waves l m made T.Done after = MovesBy waves l m made after
GoesBy waves l m made (T.Passed which) after = (which ≡ W.Links)
    × (is_line_of m.nodes l ≡ true) × Does m.graph l.command (T.Passed W.Links) after.graph

-- all parts have moved, each by its epoch
abbrev pub MovesPair : List WavIn → Line → Member × Option Epoch → Member → Type 0
MovesPair waves l x after = MovesBy waves l x.0 x.1 after

abbrev pub AreMoved : List WavIn → Line → List Member → List (Option Epoch) → List Member
    → Type 0
AreMoved waves l members epochs after = AllZip (MovesPair waves l) (zip members epochs) after

-- so they have, or one of them has 256 links
abbrev pub GoBy : List WavIn → Line → List Member → List (Option Epoch) → Stepped
    → List Member → Type 0
GoBy waves l members epochs T.Done after = AreMoved waves l members epochs after
GoBy waves l members epochs (T.Passed which) after = (which ≡ W.Links) × HasManyIn members l

-- all parts have moved, and their sums pass no limit
pub record HaveMoved (waves : List WavIn) (l : Line) (members after : List Member) : Type 0 where
  pub each : AllZip (Moves waves l) members after
  pub sums : passed (total (map (λ m. m.graph.sums) after)) ≡ None
  pub stand : All IsStanding after

-- so they have, or a limit is passed
abbrev pub MoveOrPass : List WavIn → Line → List Member → Stepped → List Member → Type 0
MoveOrPass waves l members T.Done after = HaveMoved waves l members after
MoveOrPass waves l members (T.Passed which) after =
    ((which ≡ W.Links) × HasManyIn members l) ⊎ HasSums waves members l which

-- A LINE is done in the whole and in each part, or a limit is passed
abbrev pub StepsTogether : List WavIn → Together → Line → Stepped → Together → Type 0
StepsTogether waves t l T.Done next = GoesOn waves t l next
StepsTogether waves t l (T.Passed which) next = Passes waves t l which
