-- The lines of all parts join outputs to inputs, as those of one plan do.
use Rattle.std.proofs.Common.{◌≡◌, inl, inr, ℕ, ◌-◌, Bool, true, false, cond, List, [], ◌∷◌, length, Option, Some, None, refl, sym, subst}
use Rattle.std.specs.Prelude.{All, Ok, find, slice_get, option_to_list}
use Rattle.std.specs.Option.{option_map_or}
use Rattle.std.proofs.lemmas.List.Elements.{All-nil, All-cons, All-head, All-tail, All-append, All-weaker}
use Rattle.pw_graph.specs.declared.kind.Kind.{Kind}
use Rattle.pw_graph.specs.declared.parts.Parts.{Parts}
use Rattle.pw_graph.specs.declared.plan.LinkLine.{LinkLine}
use Rattle.wav_files.specs.declared.wav.WavIn.{WavIn}
use Rattle.graph_script.specs.declared.command.Command.{Command}
use Rattle.graph_script.specs.declared.command.Command.TheVariants as C
use Rattle.graph_script.specs.declared.script.Line.{Line}
use Rattle.graph_script.specs.declared.script.Script.{Script}
use Rattle.graph_script.specs.Kinds.{HasKinds}
use Rattle.graph_script.specs.Making.{NamesMade, grown}
use Rattle.graph_script.specs.Ranges.{HasRanges}
use Rattle.port_model.specs.declared.port_state.Node.{Node}
use Rattle.port_model.proofs.NodeLemmas.{at_place}
use Rattle.graph_lines.specs.declared.graph.Graph.{Graph}
use Rattle.graph_lines.specs.Start.{kinds_of}
use Rattle.graph_plan.specs.declared.member.Member.{Member}
use Rattle.graph_plan.specs.declared.together.Together.{Together}
use Rattle.graph_plan.specs.Conditions.{AreScriptPorts}
use Rattle.graph_plan.specs.Parted.{IsParted}
use Rattle.graph_plan.specs.working.SoundGraph.{IsSoundGraph, IsJoining}
use Rattle.graph_plan.specs.Together.{has_both, last_line, noted, FollowTogether}
use Rattle.graph_plan.proofs.one.OnePartsLemmas.{IsSoundMember, IsSoundTogether, goes_sound, begun_sound}
use Rattle.graph_plan.proofs.PlannedLemmas.{lines_are}
use Rattle.graph_plan.proofs.sound.StartLemmas.{first_sound}
use Rattle.graph_plan.proofs.sound.StepLemmas.{AreGoodLines, good_first, good_rest}

module _ (kinds : List Kind) where
  abbrev Join : List LinkLine → Type 0
  Join lines = All (IsJoining kinds) lines

  -- a line that is noted is the last of some graph
  last_joins : (g : Graph) → Join g.lines → Join (last_line g)
  last_joins g h = go (slice_get g.lines (length g.lines - 1)) refl where
    go : (o : Option LinkLine) → slice_get g.lines (length g.lines - 1) ≡ o → Join (option_to_list o)
    go None e = All-nil (IsJoining kinds)
    go (Some l) e = All-cons (IsJoining kinds) l [] (at_place (IsJoining kinds) g.lines (length g.lines - 1) l h e) (All-nil (IsJoining kinds))

  abbrev MembersJoin : List Member → Type 0
  MembersJoin ms = All (λ (m : Member). Join m.graph.lines) ms

  found_joins : (a b : ℕ) (whole : Graph) (ms : List Member) → Join whole.lines → MembersJoin ms
      → Join (option_map_or (λ (m : Member). m.graph) (find (has_both a b) ms) whole).lines
  found_joins a b whole [] w s = w
  found_joins a b whole (m ∷ ms) w s = by (has_both a b m) (All-head (λ (x : Member). Join x.graph.lines) m ms s)
      (found_joins a b whole ms w (All-tail (λ (x : Member). Join x.graph.lines) m ms s)) where
        by : (t : Bool) → Join m.graph.lines → Join (option_map_or (λ (x : Member). x.graph) (find (has_both a b) ms) whole).lines
            → Join (option_map_or (λ (x : Member). x.graph) (cond t (Some m) (find (has_both a b) ms)) whole).lines
        by true own rest = own
        by false own rest = rest

  noted_joins : (whole : Graph) (ms : List Member) → Join whole.lines → MembersJoin ms → (command : Command) → Join (noted whole ms command)
  noted_joins whole ms w s (C.Link from to) = last_joins (option_map_or (λ (m : Member). m.graph) (find (has_both from.node to.node) ms) whole)
      (found_joins from.node to.node whole ms w s)
  noted_joins whole ms w s (C.Unlink from to) = last_joins (option_map_or (λ (m : Member). m.graph) (find (has_both from.node to.node) ms) whole)
      (found_joins from.node to.node whole ms w s)
  noted_joins whole ms w s (C.Quantum n) = All-nil (IsJoining kinds)
  noted_joins whole ms w s (C.Source node file) = All-nil (IsJoining kinds)
  noted_joins whole ms w s (C.Square node rate channels period amp) = All-nil (IsJoining kinds)
  noted_joins whole ms w s (C.Gain node g) = All-nil (IsJoining kinds)
  noted_joins whole ms w s (C.Mix2 node ga gb) = All-nil (IsJoining kinds)
  noted_joins whole ms w s (C.Delay node frames) = All-nil (IsJoining kinds)
  noted_joins whole ms w s (C.Map node channels list) = All-nil (IsJoining kinds)
  noted_joins whole ms w s (C.Split node) = All-nil (IsJoining kinds)
  noted_joins whole ms w s (C.Sink node file) = All-nil (IsJoining kinds)
  noted_joins whole ms w s (C.Meter node) = All-nil (IsJoining kinds)
  noted_joins whole ms w s (C.Driver node priority) = All-nil (IsJoining kinds)
  noted_joins whole ms w s (C.Loop node k) = All-nil (IsJoining kinds)
  noted_joins whole ms w s (C.Offer port file) = All-nil (IsJoining kinds)
  noted_joins whole ms w s (C.Buffers port n) = All-nil (IsJoining kinds)
  noted_joins whole ms w s (C.On node) = All-nil (IsJoining kinds)
  noted_joins whole ms w s (C.Off node) = All-nil (IsJoining kinds)
  noted_joins whole ms w s (C.Cycles n) = All-nil (IsJoining kinds)
  noted_joins whole ms w s C.Drain = All-nil (IsJoining kinds)
  noted_joins whole ms w s (C.Async node) = All-nil (IsJoining kinds)

  graph_joins : (count : ℕ) (g : Graph) → IsSoundGraph count g → g.kinds ≡ kinds → Join g.lines
  graph_joins count g sound same = subst (λ (ks : List Kind). All (IsJoining ks) g.lines) same sound.lines

  members_join : (count : ℕ) (t : Together) → IsSoundTogether count kinds t → MembersJoin t.members
  members_join count t s = All-weaker (IsSoundMember count kinds) (λ (m : Member). Join m.graph.lines)
      (λ m is. graph_joins count m.graph is.sound is.kinds_are) t.members s.members

  module _ (waves : List WavIn) where
    all_join : (ls : List Line) (count : ℕ) (t end : Together) → IsSoundTogether count kinds t → AreGoodLines count kinds ls → Join t.lines
        → FollowTogether waves t ls (Ok end) → Join end.lines
    all_join [] count t end s good said f = let same : end ≡ t = cc in subst (λ (x : Together). Join x.lines) (sym same) said
    all_join (l ∷ ls) count t end s good said (inr f) = absurd (let no = f.2 in cc)
    all_join (l ∷ ls) count t end s good said (inl f) =
        let next = goes_sound waves count kinds t s l (good_first count kinds l ls good) f.0 f.1 in
        all_join ls (grown count l.command) f.0 end next (good_rest count kinds l ls good)
        (subst Join (sym f.1.lines) (All-append (IsJoining kinds) t.lines (noted f.0.whole f.0.members l.command) said
        (noted_joins f.0.whole f.0.members (graph_joins (grown count l.command) f.0.whole next.sound next.kinds_are)
        (members_join (grown count l.command) f.0 next) l.command))) f.2

module _ (script : Script) (ranges : HasRanges script) (has : HasKinds script) (named : NamesMade 0 script.lines) (ports : List Node)
    (script_ports : AreScriptPorts script.lines ports) (waves : List WavIn) where
  -- ALL LINES join outputs to inputs of the script's nodes
  pub parted_lines : (p : Parts) → IsParted script.lines script.names waves ports (Ok p) → All (IsJoining (kinds_of script.lines)) p.lines
  parted_lines p h = subst (All (IsJoining kinds)) (sym h.2.2.lines) (all_join kinds waves script.lines 0 h.0 h.2.0 sound
      (record { named = named; lines_of = lines_are script ranges has })
      (subst (λ (t : Together). All (IsJoining kinds) t.lines) (sym h.1.2.2) (All-nil (IsJoining kinds))) h.2.1) where
        kinds : List Kind
        kinds = kinds_of script.lines

        sound : IsSoundTogether 0 kinds h.0
        sound = subst (IsSoundTogether 0 kinds) (sym h.1.2.2) (begun_sound kinds h.1.2.0 h.1.0
            (first_sound script.lines ports h.1.2.0 ranges.ranges script_ports h.1.2.1) h.1.2.1.kinds h.1.2.1.sums)
