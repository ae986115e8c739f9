-- What a line asks of the nodes before it, and how far the lines have come.
use Rattle.std.proofs.Common.{◌≡◌, ℕ, zero, suc, ◌+◌, ◌<◌, ◌≤◌, List, [], ◌∷◌, ◌++◌, length, get_or, map, drop, Option, Some, None, refl, sym, ap}
use Rattle.std.proofs.Common.{◌∙◌, subst, arith, add-one, drop-cons}
use Rattle.std.proofs.Math.ListN.{get_or-append}
use Rattle.std.specs.Prelude.{IfSome, option_map, option_to_list}
use Rattle.std.specs.List.{All, cons_option}
use Rattle.std.proofs.lemmas.List.Elements.{All-nil}
use Rattle.std.proofs.lemmas.Option.{none-some}
use Rattle.std.specs.Option.{option_map_or}
use Rattle.std.proofs.lemmas.List.{length-map, length-append, append_assoc}
use Rattle.pw_graph.specs.declared.kind.Kind.{Kind}
use Rattle.pw_graph.specs.declared.kind.Kind.TheVariants as K
use Rattle.pw_graph.specs.KindPorts.{port_count}
use Rattle.graph_script.specs.declared.command.Command.{Command}
use Rattle.graph_script.specs.declared.command.Command.TheVariants as C
use Rattle.graph_script.specs.declared.script.Line.{Line}
use Rattle.graph_script.specs.Kinds.{made_by, made_of}
use Rattle.graph_script.specs.Making.{grown, NamesMade}
use Rattle.port_model.specs.declared.port_state.PortState.{PortState}
use Rattle.port_model.specs.declared.port_state.Node.{Node}
use Rattle.port_model.specs.SoundPorts.{IsSoundNode}
use Rattle.graph_lines.specs.Start.{kinds_of}
use Rattle.graph_plan.specs.Conditions.{AreLinesOf, AreScriptPorts, IsWaveFor}
use Rattle.graph_plan.proofs.sound.FormLemmas.{port_count_is}
use Rattle.graph_plan.proofs.sound.StepLemmas.{IsGoodLine, AreGoodLines, good_first, good_rest}
use Rattle.script_inputs.specs.declared.inputs.Inputs.{Inputs}
use Rattle.script_inputs.specs.Inputs.{nothing_made}
use Rattle.script_inputs.specs.working.SoundInputs.{kind_by, MayMake, AreSoundInputs}

-- what lines make, by the first of them
abbrev made_first : Line → List Kind
made_first l = option_to_list (kind_by l.command)

kinds_first : (l : Line) (ls : List Line) → kinds_of (l ∷ ls) ≡ made_first l ++ kinds_of ls
kinds_first l ls = go (made_by l.command) where
  go : (o : Option (ℕ × Kind)) → map (λ (m : ℕ × Kind). m.1) (cons_option o (made_of ls)) ≡ option_to_list (option_map (λ (m : ℕ × Kind). m.1) o) ++ kinds_of ls
  go None = refl
  go (Some m) = refl

module _ (nodes : List Node) (kinds : List Kind) (few : length kinds ≤ 63) where
  abbrev own : List Kind
  own = map (λ (n : Node). n.kind) nodes

  length-own : length own ≡ length nodes
  length-own = length-map nodes (λ (n : Node). n.kind)

  room : (k : Kind) (ks : List Kind) → own ++ k ∷ ks ≡ kinds → length nodes < 63
  room k ks e =
      let all = ap length e in
      let parts = length-append own (k ∷ ks) in
      let same = length-own in
      omega (arith, few, all, parts, same)

  may : (line : ℕ) (command : Command) (ls : List Line) → IsGoodLine (length nodes) kinds command
      → own ++ kinds_of (record { line = line; command = command } ∷ ls) ≡ kinds → MayMake nodes command
  may line (C.Source n file) ls h e = (h.next, room K.Source (kinds_of ls) e)
  may line (C.Square n rate channels period amp) ls h e = (room _ (kinds_of ls) e, h.range, (refl, refl))
  may line (C.Gain n gain) ls h e = (room _ (kinds_of ls) e, h.range, (refl, refl))
  may line (C.Mix2 n ga gb) ls h e = (room _ (kinds_of ls) e, h.range, (refl, refl))
  may line (C.Delay n frames) ls h e = (room _ (kinds_of ls) e, h.range, (refl, refl))
  may line (C.Map n channels list) ls h e = (room _ (kinds_of ls) e, h.range, (refl, refl))
  may line (C.Split n) ls h e = (room _ (kinds_of ls) e, h.range, (refl, refl))
  may line (C.Sink n file) ls h e = (room _ (kinds_of ls) e, h.range, (refl, refl))
  may line (C.Meter n) ls h e = (room _ (kinds_of ls) e, h.range, (refl, refl))
  may line (C.Driver n priority) ls h e = tt
  may line (C.Loop n k) ls h e = tt
  may line (C.On n) ls h e = tt
  may line (C.Off n) ls h e = tt
  may line (C.Async n) ls h e = tt
  may line (C.Buffers port n) ls h e = tt
  may line (C.Link from to) ls h e = tt
  may line (C.Unlink from to) ls h e = tt
  may line (C.Quantum n) ls h e = tt
  may line (C.Cycles n) ls h e = tt
  may line C.Drain ls h e = tt
  may line (C.Offer port file) ls h e =
      let within : port.node < length own = omega (arith, h.named, length-own) in
      let same : get_or kinds port.node K.Dummy ≡ get_or own port.node K.Dummy =
      ap (λ (ks : List Kind). get_or ks port.node K.Dummy) (sym e) ∙ get_or-append own (kinds_of ls) K.Dummy port.node within in
      let there = h.ports in
      let count = port_count_is nodes own refl port.node in
      let known = ap port_count same in
      omega (arith, there, count, known)

-- the nodes after a line are as many as it says
grown_is : (nodes later : List Node) (command : Command) → IfSome (made_by command) (λ m. m.0 ≡ length nodes)
    → map (λ (n : Node). n.kind) later ≡ map (λ (n : Node). n.kind) nodes ++ option_to_list (kind_by command)
    → grown (length nodes) command ≡ length later
grown_is nodes later command next e = go (made_by command) next e where
  go : (o : Option (ℕ × Kind)) → IfSome o (λ m. m.0 ≡ length nodes)
      → map (λ (n : Node). n.kind) later ≡ map (λ (n : Node). n.kind) nodes ++ option_to_list (option_map (λ (m : ℕ × Kind). m.1) o)
      → option_map_or (λ (m : ℕ × Kind). m.0 + 1) o (length nodes) ≡ length later
  go None h d =
      let all = ap length d in
      let parts = length-append (map (λ (n : Node). n.kind) nodes) [] in
      let a = length-map later (λ (n : Node). n.kind) in
      let b = length-map nodes (λ (n : Node). n.kind) in
      omega (arith, all, parts, a, b)
  go (Some m) h d =
      let all = ap length d in
      let parts = length-append (map (λ (n : Node). n.kind) nodes) (m.1 ∷ []) in
      let a = length-map later (λ (n : Node). n.kind) in
      let b = length-map nodes (λ (n : Node). n.kind) in
      omega (arith, all, parts, a, b, h)

-- the lines that are left, with the next in front; and no line after the last
pub next_line : (lines : List Line) (i : ℕ) (line : Line) → i < length lines → line ≡ get_or lines i line → drop i lines ≡ line ∷ drop (i + 1) lines
next_line lines i line lt is = drop-cons lines i line lt ∙ ap (λ (l : Line). l ∷ drop (suc i) lines) (sym is)
    ∙ ap (λ (k : ℕ). line ∷ drop k lines) (sym (add-one i))

pub past : (lines : List Line) (i : ℕ) → length lines ≤ i → drop i lines ≡ []
past [] zero l = refl
past [] (suc i) l = refl
past (x ∷ lines) zero l = absurd (omega arith)
past (x ∷ lines) (suc i) l = past lines i (omega arith)

-- how far the lines have come
pub record IsUnderWay (all : List Kind) (left : List Line) (nodes : List Node) : Type 0 where
  pub good : AreGoodLines (length nodes) all left
  pub kinds : map (λ (n : Node). n.kind) nodes ++ kinds_of left ≡ all

module _ (all : List Kind) (few : length all ≤ 63) (l : Line) (ls : List Line) (nodes : List Node) (way : IsUnderWay all (l ∷ ls) nodes) where
  first : IsGoodLine (length nodes) all l.command
  first = good_first (length nodes) all l ls way.good

  pub may_make : MayMake nodes l.command
  may_make = may nodes all few l.line l.command ls first way.kinds

  pub one_more : (later : List Node) → map (λ (n : Node). n.kind) later ≡ map (λ (n : Node). n.kind) nodes ++ made_first l → IsUnderWay all ls later
  one_more later e = record {
    good = subst (λ (n : ℕ). AreGoodLines n all ls) (grown_is nodes later l.command first.next e) (good_rest (length nodes) all l ls way.good);
    kinds = ap (λ (ks : List Kind). ks ++ kinds_of ls) e ∙ append_assoc (map (λ (n : Node). n.kind) nodes) (made_first l) (kinds_of ls)
        ∙ ap (λ (ks : List Kind). map (λ (n : Node). n.kind) nodes ++ ks) (sym (kinds_first l ls)) ∙ way.kinds;
  }

-- before the first line
nothing_sound : AreSoundInputs nothing_made
nothing_sound = record {
  ports = record { few = omega arith; each = All-nil IsSoundNode };
  unused = All-nil (λ (n : Node). All (λ (s : PortState). (s.format ≡ None) × (s.buffers ≡ None)) n.ports);
  waves = record { each = All-nil (IsWaveFor []); one = λ n k. absurd (none-some K.Source k) };
}

pub sound_start : (inputs : Inputs) → inputs ≡ nothing_made → AreSoundInputs inputs
sound_start inputs e = subst AreSoundInputs (sym e) nothing_sound

pub way_start : (lines : List Line) (inputs : Inputs) → AreLinesOf (kinds_of lines) lines → NamesMade 0 lines → inputs ≡ nothing_made
    → IsUnderWay (kinds_of lines) lines inputs.ports
way_start lines inputs all made e = subst (λ (s : Inputs). IsUnderWay (kinds_of lines) lines s.ports) (sym e)
    (record { good = record { named = made; lines_of = all }; kinds = refl })

-- after the last line
pub ports_of : (lines left : List Line) (inputs : Inputs) → AreSoundInputs inputs → IsUnderWay (kinds_of lines) left inputs.ports → left ≡ []
    → AreScriptPorts lines inputs.ports
ports_of lines left inputs sound way e = record {
  kinds = all_kinds (map (λ (n : Node). n.kind) inputs.ports) ∙ (ap (λ (ls : List Line). map (λ (n : Node). n.kind) inputs.ports ++ kinds_of ls) (sym e)
      ∙ way.kinds);
  sound = sound.ports;
  unused = sound.unused;
} where
  all_kinds : (ks : List Kind) → ks ≡ ks ++ []
  all_kinds [] = refl
  all_kinds (k ∷ ks) = ap (λ (ls : List Kind). k ∷ ls) (all_kinds ks)
