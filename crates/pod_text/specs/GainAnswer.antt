-- What the reader of a list of gains answers: its points or its first line at fault, unless
-- memory runs out. Source: this project's own.
use Rattle.std.specs.Prelude.{◌≡◌, ◌≤◌, ℕ, List, All, Result, Ok, Err}
use Rattle.pw_lists.specs.Samples.{IsGain}
use Rattle.control_sequence.specs.Automation.{ArePoints}
use Rattle.pod_text.specs.GainList.{last_frame}
use Rattle.control_sequence.specs.declared.points.Point.{Point}
use Rattle.control_sequence.specs.declared.points.Points.{Points}
use Rattle.pod_text.specs.declared.fault.ListFault.{ListFault}
use Rattle.pod_text.specs.declared.fault.ListFault.TheVariants.{Line, Memory}

abbrev pub IsReadAs : Result (List Point) ListFault → Result Points ListFault → Type 0
IsReadAs reading (Ok points) = reading ≡ Ok points.items
IsReadAs reading (Err (Line number why)) = reading ≡ Err (Line number why)
IsReadAs reading (Err Memory) = Unit {0}

-- a point not before this frame, with a gain in range
abbrev pub IsBehind : ℕ → Point → Type 0
IsBehind before p = (before ≤ p.offset) × IsGain p.g

-- sound points, of which the last is at this frame
pub record ArePointsTo (frame : ℕ) (points : List Point) : Type 0 where
  pub sound : ArePoints points
  pub last : frame ≡ last_frame points
  pub below : All (λ p. p.offset ≤ frame) points
