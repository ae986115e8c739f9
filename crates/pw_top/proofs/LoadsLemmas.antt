-- Laws of `specs/Loads.antt`: the first of some lines stops all loads or goes on, before the first line and after the last.
use Rattle.std.proofs.Common.{◌≡◌, ℕ, ◌≤◌, List, [], ◌∷◌, refl, sym, ap, subst, arith}
use Rattle.std.specs.Prelude.{Result, Ok, Err, IsSome}
use Rattle.pw_outside.specs.Files.{Names, Held, names_in}
use Rattle.graph_script.specs.declared.command.Command.{Command}
use Rattle.graph_script.specs.declared.command.Command.TheVariants as C
use Rattle.graph_script.specs.declared.script.Line.{Line}
use Rattle.graph_script.specs.Making.{NamesMade}
use Rattle.graph_lines.specs.Start.{kinds_of}
use Rattle.graph_plan.specs.Conditions.{AreLinesOf}
use Rattle.script_inputs.specs.Inputs.{nothing_made, plain_kind}
use Rattle.script_inputs.proofs.LineLemmas as L
use Rattle.script_inputs.proofs.LineLemmas.{IsUnderWay}
use Rattle.command_frame.specs.declared.ending.End.{End}
use Rattle.command_frame.specs.declared.ending.End.TheVariants as E
use Rattle.command_frame.specs.Ending.{IsLateRefusal}
use Rattle.run_results.specs.declared.status.Status.{Status}
use Rattle.run_results.specs.Statuses.{means}
use Rattle.pw_top.specs.declared.inputs.PlanInputs.{PlanInputs}
use Rattle.run_results.specs.declared.status.Status.TheVariants as S
use Rattle.pw_top.specs.working.Ending.{Ends, CommandCause}
use Rattle.pw_top.specs.Loads.{ReadsSource, ReadsOffer, LoadsLine, LoadsAll}
use Rattle.pw_top.specs.PlanInputs.{nothing_loaded, with_plain, AreSoundInputs, AreInputsOf}
use Rattle.pw_top.proofs.PlanInputLemmas.{uncounted, uncounted_sound, counted_sound}
use Rattle.pw_top.proofs.AllowedLemmas.{binds_goes, binds_stops, part_gives, part_memory, load_memory}

-- one line of all
pub stops_here : (names : Names) (l : Line) (ls : List Line) (inputs : PlanInputs) (s : Status) → Ends (LoadsLine names l.line l.command inputs) (Err s)
    → Ends (LoadsAll names (l ∷ ls) inputs) (Err s)
stops_here names l ls inputs s h = binds_stops (LoadsLine names l.line l.command inputs) (LoadsAll names ls) s h

pub goes_here : (names : Names) (l : Line) (ls : List Line) (inputs after : PlanInputs) (r : Result PlanInputs Status)
    → Ends (LoadsLine names l.line l.command inputs) (Ok after) → Ends (LoadsAll names ls after) r → Ends (LoadsAll names (l ∷ ls) inputs) r
goes_here names l ls inputs after r h rest = binds_goes (LoadsLine names l.line l.command inputs) (LoadsAll names ls) after r h rest

-- what a line says is said of the files as they were
pub told_before : (P : Names → Type 0) (old now : Held) → now ≡ old → (IsSome now → P (names_in now)) → IsSome old → P (names_in old)
told_before P old now e told = subst (λ (m : Held). IsSome m → P (names_in m)) e told

-- before the first line
pub sound_start : (inputs : PlanInputs) → inputs ≡ nothing_loaded → AreSoundInputs inputs
sound_start inputs e = subst AreSoundInputs (sym e) (counted_sound nothing_loaded (L.sound_start nothing_made refl) (omega arith))

pub way_start : (lines : List Line) (inputs : PlanInputs) → AreLinesOf (kinds_of lines) lines → NamesMade 0 lines → inputs ≡ nothing_loaded
    → IsUnderWay (kinds_of lines) lines inputs.ports
way_start lines inputs all made e = L.way_start lines (uncounted inputs) all made (ap uncounted e)

pub rest_start : (names : Names) (lines : List Line) (inputs : PlanInputs) (r : Result PlanInputs Status) → inputs ≡ nothing_loaded
    → Ends (LoadsAll names lines inputs) r → Ends (LoadsAll names lines nothing_loaded) r
rest_start names lines inputs r e h = subst (λ (s : PlanInputs). Ends (LoadsAll names lines s) r) e h

-- after the last line
pub inputs_of : (lines left : List Line) (inputs : PlanInputs) → AreSoundInputs inputs → IsUnderWay (kinds_of lines) left inputs.ports → left ≡ []
    → AreInputsOf lines inputs
inputs_of lines left inputs sound way e = record {
  ports = L.ports_of lines left (uncounted inputs) (uncounted_sound inputs sound) way e;
  waves = sound.waves;
}

pub ends_here : (names : Names) (left : List Line) (inputs : PlanInputs) → left ≡ [] → Ends (LoadsAll names left inputs) (Ok inputs)
ends_here names left inputs e = subst (λ (ls : List Line). Ends (LoadsAll names ls inputs) (Ok inputs)) (sym e)
    (part_gives [] (λ outcome. outcome ≡ Ok inputs) inputs refl)

-- a fault of a load that was later
later_end : (a b n : ℕ) (end : End) → a ≤ b → IsLateRefusal b n end → IsLateRefusal a n end
later_end a b n E.Done l h = h
later_end a b n (E.Usage word) l h = h
later_end a b n (E.ReadFault place) l h = omega (arith, l, h)
later_end a b n (E.StoreFault place) l h = h
later_end a b n E.PutFault l h = h
later_end a b n E.Memory l h = h
later_end a b n E.Refused l h = h

pub later_cause : {T U : Type 0} (P : T → Type 0) (Q : U → Type 0) (a b n : ℕ) (status : Status) → a ≤ b → CommandCause P b n (Err status)
    → CommandCause Q a n (Err status)
later_cause P Q a b n status l h = later_end a b n (means status) l h

-- out of memory before the first line
line_memory : (names : Names) (place : ℕ) (command : Command) (inputs : PlanInputs) → Ends (LoadsLine names place command inputs) (Err S.Memory)
line_memory names place (C.Source n file) inputs = load_memory names place file _ _ (ReadsSource place n inputs)
line_memory names place (C.Offer port file) inputs = load_memory names place file _ _ (ReadsOffer place port inputs)
line_memory names place (C.Square n rate channels period amp) inputs = part_memory [] (λ outcome. outcome ≡ Ok (with_plain inputs (plain_kind (C.Square n rate channels period amp))))
line_memory names place (C.Gain n gain) inputs = part_memory [] (λ outcome. outcome ≡ Ok (with_plain inputs (plain_kind (C.Gain n gain))))
line_memory names place (C.Mix2 n ga gb) inputs = part_memory [] (λ outcome. outcome ≡ Ok (with_plain inputs (plain_kind (C.Mix2 n ga gb))))
line_memory names place (C.Delay n frames) inputs = part_memory [] (λ outcome. outcome ≡ Ok (with_plain inputs (plain_kind (C.Delay n frames))))
line_memory names place (C.Map n channels list) inputs = part_memory [] (λ outcome. outcome ≡ Ok (with_plain inputs (plain_kind (C.Map n channels list))))
line_memory names place (C.Split n) inputs = part_memory [] (λ outcome. outcome ≡ Ok (with_plain inputs (plain_kind (C.Split n))))
line_memory names place (C.Sink n file) inputs = part_memory [] (λ outcome. outcome ≡ Ok (with_plain inputs (plain_kind (C.Sink n file))))
line_memory names place (C.Meter n) inputs = part_memory [] (λ outcome. outcome ≡ Ok (with_plain inputs (plain_kind (C.Meter n))))
line_memory names place (C.Driver n priority) inputs = part_memory [] (λ outcome. outcome ≡ Ok (with_plain inputs (plain_kind (C.Driver n priority))))
line_memory names place (C.Loop n k) inputs = part_memory [] (λ outcome. outcome ≡ Ok (with_plain inputs (plain_kind (C.Loop n k))))
line_memory names place (C.On n) inputs = part_memory [] (λ outcome. outcome ≡ Ok (with_plain inputs (plain_kind (C.On n))))
line_memory names place (C.Off n) inputs = part_memory [] (λ outcome. outcome ≡ Ok (with_plain inputs (plain_kind (C.Off n))))
line_memory names place (C.Async n) inputs = part_memory [] (λ outcome. outcome ≡ Ok (with_plain inputs (plain_kind (C.Async n))))
line_memory names place (C.Buffers port n) inputs = part_memory [] (λ outcome. outcome ≡ Ok (with_plain inputs (plain_kind (C.Buffers port n))))
line_memory names place (C.Link from to) inputs = part_memory [] (λ outcome. outcome ≡ Ok (with_plain inputs (plain_kind (C.Link from to))))
line_memory names place (C.Unlink from to) inputs = part_memory [] (λ outcome. outcome ≡ Ok (with_plain inputs (plain_kind (C.Unlink from to))))
line_memory names place (C.Quantum n) inputs = part_memory [] (λ outcome. outcome ≡ Ok (with_plain inputs (plain_kind (C.Quantum n))))
line_memory names place (C.Cycles n) inputs = part_memory [] (λ outcome. outcome ≡ Ok (with_plain inputs (plain_kind (C.Cycles n))))
line_memory names place C.Drain inputs = part_memory [] (λ outcome. outcome ≡ Ok (with_plain inputs (plain_kind C.Drain)))

pub all_memory : (names : Names) (lines : List Line) (inputs : PlanInputs) → Ends (LoadsAll names lines inputs) (Err S.Memory)
all_memory names [] inputs = part_memory [] (λ outcome. outcome ≡ Ok inputs)
all_memory names (l ∷ ls) inputs = stops_here names l ls inputs S.Memory (line_memory names l.line l.command inputs)
