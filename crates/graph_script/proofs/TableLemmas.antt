-- THE TABLE AND THE GRAMMAR: the words of a command are read as its parameters say.
use Rattle.std.proofs.Common.{◌≡◌, List, ℕ, [], ◌∷◌, refl, cond}
use Rattle.std.specs.Prelude.{Ok, Err, pos, if◌then◌else◌}
use Rattle.pw_graph.specs.declared.ids.PortId.{PortId}
use Rattle.pw_graph.specs.declared.kind.Kind.TheVariants as K
use Rattle.graph_script.specs.declared.fault.ScriptWhy.TheVariants as W
use Rattle.graph_script.specs.declared.command.Command.TheVariants as C
use Rattle.graph_script.specs.declared.name.Name.{Name}
use Rattle.graph_script.specs.declared.name.Name.TheVariants as N
use Rattle.graph_script.specs.declared.reading.ParsedLine.{ParsedLine}
use Rattle.graph_script.specs.declared.reading.Reading.{Reading}
use Rattle.graph_script.specs.Checked.{Checked, ◌>>=◌}
use Rattle.graph_script.specs.Commands.{meaning_of_command}
use Rattle.graph_script.specs.Earlier.{is_linked, saying, making_epoch, making}
use Rattle.graph_script.specs.GraphCommands.{first_only}
use Rattle.graph_script.specs.Nodes.{kind_at, may_drive}
use Rattle.graph_script.specs.working.ParamReading.{form_at, name_by, number_by, gain_by, list_by, file_by, port_by, end_by}

-- a new node with a file, a new map before its list, an offer, and two ends, by the row of a command
abbrev file_row : Reading → Name → List ℕ → List ℕ → Checked (ℕ × List ℕ × List ℕ)
file_row r name a b = do
  node ← name_by (form_at name 0) r a
  file ← file_by (form_at name 1) b
  Ok (node, a, file)

abbrev map_row : Reading → List ℕ → List ℕ → List ℕ → Checked (ℕ × List ℕ × ℕ × List ℕ)
map_row r a b c = do
  node ← name_by (form_at N.Map 0) r a
  channels ← number_by (form_at N.Map 1) b
  Ok (node, a, channels, c)

abbrev offer_row : Reading → List ℕ → List ℕ → List ℕ → Checked (PortId × List ℕ)
offer_row r a b c = do
  port ← port_by (form_at N.Offer 0) (form_at N.Offer 1) r a b
  file ← file_by (form_at N.Offer 2) c
  if is_linked r port.node then Err W.OfferLate else Ok (port, file)

abbrev ends_row : Reading → Name → List ℕ → List ℕ → Checked (PortId × PortId)
ends_row r name a b = do
  from ← end_by (form_at name 0) r a
  to ← end_by (form_at name 1) r b
  Ok (from, to)

-- what the words of each command are read as, by its row: its arguments, and then what earlier lines forbid
abbrev pub row_meaning : Reading → Name → List (List ℕ) → Checked ParsedLine
row_meaning r N.Source (a ∷ b ∷ []) = do
  new ← file_row r N.Source a b
  making r (C.Source new.0 new.2) new.1 K.Source
row_meaning r N.Square (a ∷ b ∷ c ∷ d ∷ e ∷ []) = do
  node ← name_by (form_at N.Square 0) r a
  rate ← number_by (form_at N.Square 1) b
  channels ← number_by (form_at N.Square 2) c
  period ← number_by (form_at N.Square 3) d
  amp ← number_by (form_at N.Square 4) e
  making r (C.Square node rate channels period (pos amp)) a (K.Square rate channels period (pos amp))
row_meaning r N.Gain (a ∷ b ∷ []) = do
  node ← name_by (form_at N.Gain 0) r a
  g ← gain_by (form_at N.Gain 1) b
  making r (C.Gain node g) a (K.Gain g)
row_meaning r N.Mix2 (a ∷ b ∷ c ∷ []) = do
  node ← name_by (form_at N.Mix2 0) r a
  ga ← gain_by (form_at N.Mix2 1) b
  gb ← gain_by (form_at N.Mix2 2) c
  making r (C.Mix2 node ga gb) a (K.Mix2 ga gb)
row_meaning r N.Delay (a ∷ b ∷ []) = do
  node ← name_by (form_at N.Delay 0) r a
  frames ← number_by (form_at N.Delay 1) b
  making r (C.Delay node frames) a (K.Delay frames)
row_meaning r N.Map (a ∷ b ∷ c ∷ []) = do
  new ← map_row r a b c
  list ← list_by (form_at N.Map 2) new.2 new.3
  making r (C.Map new.0 new.2 list) new.1 (K.Map new.2 list)
row_meaning r N.Split (a ∷ []) = do
  node ← name_by (form_at N.Split 0) r a
  making r (C.Split node) a K.Split
row_meaning r N.Sink (a ∷ b ∷ []) = do
  new ← file_row r N.Sink a b
  making r (C.Sink new.0 new.2) new.1 K.Sink
row_meaning r N.Meter (a ∷ []) = do
  node ← name_by (form_at N.Meter 0) r a
  making r (C.Meter node) a K.Meter
row_meaning r N.Link (a ∷ b ∷ []) = do
  ends ← ends_row r N.Link a b
  saying (C.Link ends.0 ends.1)
row_meaning r N.Unlink (a ∷ b ∷ []) = do
  ends ← ends_row r N.Unlink a b
  saying (C.Unlink ends.0 ends.1)
row_meaning r N.Offer (a ∷ b ∷ c ∷ []) = do
  offer ← offer_row r a b c
  saying (C.Offer offer.0 offer.1)
row_meaning r N.Buffers (a ∷ b ∷ c ∷ []) = do
  port ← port_by (form_at N.Buffers 0) (form_at N.Buffers 1) r a b
  n ← number_by (form_at N.Buffers 2) c
  saying (C.Buffers port n)
row_meaning r N.Driver (a ∷ b ∷ []) = do
  node ← name_by (form_at N.Driver 0) r a
  priority ← number_by (form_at N.Driver 1) b
  if may_drive (kind_at r node) then saying (C.Driver node priority) else Err W.NotDriverKind
row_meaning r N.Loop (a ∷ b ∷ []) = do
  node ← name_by (form_at N.Loop 0) r a
  k ← number_by (form_at N.Loop 1) b
  saying (C.Loop node k)
row_meaning r N.On (a ∷ []) = do
  node ← name_by (form_at N.On 0) r a
  saying (C.On node)
row_meaning r N.Off (a ∷ []) = do
  node ← name_by (form_at N.Off 0) r a
  saying (C.Off node)
row_meaning r N.Async (a ∷ []) = do
  node ← name_by (form_at N.Async 0) r a
  if is_linked r node then Err W.AsyncLate else saying (C.Async node)
row_meaning r N.Quantum (a ∷ []) = do
  n ← number_by (form_at N.Quantum 0) a
  first_only r.script.lines (C.Quantum n)
row_meaning r N.Cycles (a ∷ []) = do
  n ← number_by (form_at N.Cycles 0) a
  making_epoch r (C.Cycles n)
row_meaning r N.Drain [] = making_epoch r C.Drain
row_meaning r name words = Err W.Arguments

-- THE LAW: this is what the grammar reads
pub reads_rows : (r : Reading) (name : Name) (words : List (List ℕ)) → meaning_of_command r name words ≡ row_meaning r name words
unfolding meaning_of_command
reads_rows r N.Source [] = refl
reads_rows r N.Source (a ∷ []) = refl
reads_rows r N.Source (a ∷ b ∷ []) = refl
reads_rows r N.Source (a ∷ b ∷ c ∷ more) = refl
reads_rows r N.Square [] = refl
reads_rows r N.Square (a ∷ []) = refl
reads_rows r N.Square (a ∷ b ∷ []) = refl
reads_rows r N.Square (a ∷ b ∷ c ∷ []) = refl
reads_rows r N.Square (a ∷ b ∷ c ∷ d ∷ []) = refl
reads_rows r N.Square (a ∷ b ∷ c ∷ d ∷ e ∷ []) = refl
reads_rows r N.Square (a ∷ b ∷ c ∷ d ∷ e ∷ f ∷ more) = refl
reads_rows r N.Gain [] = refl
reads_rows r N.Gain (a ∷ []) = refl
reads_rows r N.Gain (a ∷ b ∷ []) = refl
reads_rows r N.Gain (a ∷ b ∷ c ∷ more) = refl
reads_rows r N.Mix2 [] = refl
reads_rows r N.Mix2 (a ∷ []) = refl
reads_rows r N.Mix2 (a ∷ b ∷ []) = refl
reads_rows r N.Mix2 (a ∷ b ∷ c ∷ []) = refl
reads_rows r N.Mix2 (a ∷ b ∷ c ∷ d ∷ more) = refl
reads_rows r N.Delay [] = refl
reads_rows r N.Delay (a ∷ []) = refl
reads_rows r N.Delay (a ∷ b ∷ []) = refl
reads_rows r N.Delay (a ∷ b ∷ c ∷ more) = refl
reads_rows r N.Map [] = refl
reads_rows r N.Map (a ∷ []) = refl
reads_rows r N.Map (a ∷ b ∷ []) = refl
reads_rows r N.Map (a ∷ b ∷ c ∷ []) = refl
reads_rows r N.Map (a ∷ b ∷ c ∷ d ∷ more) = refl
reads_rows r N.Split [] = refl
reads_rows r N.Split (a ∷ []) = refl
reads_rows r N.Split (a ∷ b ∷ more) = refl
reads_rows r N.Sink [] = refl
reads_rows r N.Sink (a ∷ []) = refl
reads_rows r N.Sink (a ∷ b ∷ []) = refl
reads_rows r N.Sink (a ∷ b ∷ c ∷ more) = refl
reads_rows r N.Meter [] = refl
reads_rows r N.Meter (a ∷ []) = refl
reads_rows r N.Meter (a ∷ b ∷ more) = refl
reads_rows r N.Link [] = refl
reads_rows r N.Link (a ∷ []) = refl
reads_rows r N.Link (a ∷ b ∷ []) = refl
reads_rows r N.Link (a ∷ b ∷ c ∷ more) = refl
reads_rows r N.Unlink [] = refl
reads_rows r N.Unlink (a ∷ []) = refl
reads_rows r N.Unlink (a ∷ b ∷ []) = refl
reads_rows r N.Unlink (a ∷ b ∷ c ∷ more) = refl
reads_rows r N.Offer [] = refl
reads_rows r N.Offer (a ∷ []) = refl
reads_rows r N.Offer (a ∷ b ∷ []) = refl
reads_rows r N.Offer (a ∷ b ∷ c ∷ []) = refl
reads_rows r N.Offer (a ∷ b ∷ c ∷ d ∷ more) = refl
reads_rows r N.Buffers [] = refl
reads_rows r N.Buffers (a ∷ []) = refl
reads_rows r N.Buffers (a ∷ b ∷ []) = refl
reads_rows r N.Buffers (a ∷ b ∷ c ∷ []) = refl
reads_rows r N.Buffers (a ∷ b ∷ c ∷ d ∷ more) = refl
reads_rows r N.Driver [] = refl
reads_rows r N.Driver (a ∷ []) = refl
reads_rows r N.Driver (a ∷ b ∷ []) = refl
reads_rows r N.Driver (a ∷ b ∷ c ∷ more) = refl
reads_rows r N.Loop [] = refl
reads_rows r N.Loop (a ∷ []) = refl
reads_rows r N.Loop (a ∷ b ∷ []) = refl
reads_rows r N.Loop (a ∷ b ∷ c ∷ more) = refl
reads_rows r N.On [] = refl
reads_rows r N.On (a ∷ []) = refl
reads_rows r N.On (a ∷ b ∷ more) = refl
reads_rows r N.Off [] = refl
reads_rows r N.Off (a ∷ []) = refl
reads_rows r N.Off (a ∷ b ∷ more) = refl
reads_rows r N.Async [] = refl
reads_rows r N.Async (a ∷ []) = refl
reads_rows r N.Async (a ∷ b ∷ more) = refl
reads_rows r N.Quantum [] = refl
reads_rows r N.Quantum (a ∷ []) = refl
reads_rows r N.Quantum (a ∷ b ∷ more) = refl
reads_rows r N.Cycles [] = refl
reads_rows r N.Cycles (a ∷ []) = refl
reads_rows r N.Cycles (a ∷ b ∷ more) = refl
reads_rows r N.Drain [] = refl
reads_rows r N.Drain (a ∷ more) = refl
