-- Every line that passes no limit keeps a sound graph sound; so do all lines.
use Rattle.std.proofs.Common.{◌≡◌, inl, inr, ℕ, zero, suc, ◌+◌, ◌<◌, ◌≤◌, List, [], ◌∷◌, length, refl, sym, ap, ◌∙◌, subst, arith}
use Rattle.std.proofs.Math.ListN.{set}
use Rattle.std.proofs.lemmas.Bool.{cases_eq}
use Rattle.std.specs.Prelude.{IfSome, Result, Ok, Err}
use Rattle.std.proofs.lemmas.List.Elements.{All-head, All-tail}
use Rattle.pw_graph.specs.declared.kind.Kind.{Kind}
use Rattle.pw_lists.specs.declared.limit.Which.{Which}
use Rattle.wav_files.specs.declared.wav.WavIn.{WavIn}
use Rattle.graph_script.specs.declared.command.Command.{Command}
use Rattle.graph_script.specs.declared.command.Command.TheVariants as C
use Rattle.graph_script.specs.declared.script.Line.{Line}
use Rattle.graph_script.specs.Kinds.{made_by, HasPorts}
use Rattle.graph_script.specs.Ranges.{IsInRange, HasNodes}
use Rattle.graph_lines.specs.declared.graph.Graph.{Graph}
use Rattle.graph_lines.specs.declared.graph.Stepped.TheVariants as T
use Rattle.graph_lines.specs.declared.standing.Standing.{Standing}
use Rattle.graph_lines.specs.Activity.{standing}
use Rattle.graph_lines.specs.EpochLines.{RunsFor, Steps}
use Rattle.graph_lines.specs.Lines.{with_node, made, prior, looped, switched_on, switched_off, Marks}
use Rattle.graph_script.specs.Making.{grown, NamesMade}
use Rattle.graph_plan.specs.Conditions.{AreLinesOf}
use Rattle.graph_plan.specs.Following.{Follows}
use Rattle.graph_plan.specs.working.SoundGraph.{IsSoundGraph}
use Rattle.graph_plan.proofs.sound.EpochLineLemmas.{runs_sound}
use Rattle.graph_plan.proofs.sound.LinkLineLemmas.{links_sound}
use Rattle.graph_plan.proofs.sound.NodeLineLemmas.{SaysMore, node_sound, marks_sound, buffers_sound}
use Rattle.graph_plan.proofs.sound.UnlinkLineLemmas.{unlinks_sound}

-- after a line there are no more nodes than in all
pub grown_within : (count all : ℕ) (command : Command) → count ≤ all → HasNodes all command → grown count command ≤ all
grown_within count all (C.Source n file) l h = omega (arith, h)
grown_within count all (C.Square n rate channels period amp) l h = omega (arith, h)
grown_within count all (C.Gain n gain) l h = omega (arith, h)
grown_within count all (C.Mix2 n ga gb) l h = omega (arith, h)
grown_within count all (C.Delay n frames) l h = omega (arith, h)
grown_within count all (C.Map n channels list) l h = omega (arith, h)
grown_within count all (C.Split n) l h = omega (arith, h)
grown_within count all (C.Sink n file) l h = omega (arith, h)
grown_within count all (C.Meter n) l h = omega (arith, h)
grown_within count all (C.Driver n p) l h = l
grown_within count all (C.Loop n k) l h = l
grown_within count all (C.On n) l h = l
grown_within count all (C.Off n) l h = l
grown_within count all (C.Async n) l h = l
grown_within count all (C.Buffers port n) l h = l
grown_within count all (C.Link from to) l h = l
grown_within count all (C.Unlink from to) l h = l
grown_within count all (C.Quantum n) l h = l
grown_within count all (C.Offer port file) l h = l
grown_within count all (C.Cycles n) l h = l
grown_within count all C.Drain l h = l

-- a line that makes the next node
makes_sound : (count : ℕ) (g after : Graph) (n : ℕ) → IsSoundGraph count g → n ≡ count → n + 1 ≤ length g.nodes → after ≡ with_node g n made
    → IsSoundGraph (n + 1) after
makes_sound count g after n sound next few same =
    node_sound count (n + 1) g after n (made (standing g.nodes n)) sound (omega (arith, few)) (omega (arith, next)) (omega arith)
    (λ m l. elim (cases_eq m n) [ inl e ↦ inr e | inr ne ↦ inl (omega (arith, l, ne, next)) ]) (λ past. refl) few
    (record { gave_up = refl; told = refl; kept = refl; there = λ h. refl }) refl same

-- a line that says something of a node that is there
tells_sound : (count : ℕ) (g after : Graph) (n : ℕ) (t : Standing) → IsSoundGraph count g → n < count → SaysMore (standing g.nodes n) t
    → (standing g.nodes n).marked ≡ t.marked → after ≡ record g { nodes = set g.nodes n t } → IsSoundGraph count after
tells_sound count g after n t sound low more marked same =
    node_sound count count g after n t sound (let w = sound.made.within in omega (arith, low, w)) (omega arith) low (λ m l. inl l)
    (λ past. absurd (omega (arith, past, low))) sound.made.within more marked same

-- what a line meets, where there are n nodes before it
pub record IsGoodLine (count : ℕ) (kinds : List Kind) (command : Command) : Type 0 where
  pub next : IfSome (made_by command) (λ m. m.0 ≡ count)
  pub named : HasNodes (grown count command) command
  pub range : IsInRange command
  pub ports : HasPorts kinds command
  pub nodes : HasNodes (length kinds) command

few : (n count : ℕ) (g : Graph) → IsSoundGraph count g → n < length g.kinds → n + 1 ≤ length g.nodes
few n count g s h = let e = s.nodes in omega (arith, h, e)

below : (n count : ℕ) (g : Graph) → IsSoundGraph count g → n < count → n < length g.nodes
below n count g s h = let w = s.made.within in omega (arith, h, w)

-- what is said of a node but for its marks and its forms
same_rest : (s t : Standing) → t.gave_up ≡ s.gave_up → t.told ≡ s.told → t.kept ≡ s.kept → t.there ≡ s.there → SaysMore s t
same_rest s t a b c d = record { gave_up = a; told = b; kept = c; there = λ h. d ∙ h }

-- ANY LINE
pub step_sound : (waves : List WavIn) (count : ℕ) (g after : Graph) (command : Command) → IsSoundGraph count g → IsGoodLine count g.kinds command
    → Steps waves g command T.Done after → IsSoundGraph (grown count command) after
step_sound waves count g after (C.Source n file) s l h = makes_sound count g after n s l.next (few n count g s l.nodes) h.1
step_sound waves count g after (C.Square n rate channels period amp) s l h = makes_sound count g after n s l.next (few n count g s l.nodes) h.1
step_sound waves count g after (C.Gain n gain) s l h = makes_sound count g after n s l.next (few n count g s l.nodes) h.1
step_sound waves count g after (C.Mix2 n ga gb) s l h = makes_sound count g after n s l.next (few n count g s l.nodes) h.1
step_sound waves count g after (C.Delay n frames) s l h = makes_sound count g after n s l.next (few n count g s l.nodes) h.1
step_sound waves count g after (C.Map n channels list) s l h = makes_sound count g after n s l.next (few n count g s l.nodes) h.1
step_sound waves count g after (C.Split n) s l h = makes_sound count g after n s l.next (few n count g s l.nodes) h.1
step_sound waves count g after (C.Sink n file) s l h = makes_sound count g after n s l.next (few n count g s l.nodes) h.1
step_sound waves count g after (C.Meter n) s l h = makes_sound count g after n s l.next (few n count g s l.nodes) h.1
step_sound waves count g after (C.Driver n p) s l h = tells_sound count g after n (prior p (standing g.nodes n)) s l.named
    (same_rest (standing g.nodes n) (prior p (standing g.nodes n)) refl refl refl refl) refl h.1
step_sound waves count g after (C.Loop n k) s l h = tells_sound count g after n (looped k (standing g.nodes n)) s l.named
    (same_rest (standing g.nodes n) (looped k (standing g.nodes n)) refl refl refl refl) refl h.1
step_sound waves count g after (C.On n) s l h = tells_sound count g after n (switched_on (standing g.nodes n)) s l.named
    (same_rest (standing g.nodes n) (switched_on (standing g.nodes n)) refl refl refl refl) refl h.1
step_sound waves count g after (C.Off n) s l h = tells_sound count g after n (switched_off (standing g.nodes n)) s l.named
    (same_rest (standing g.nodes n) (switched_off (standing g.nodes n)) refl refl refl refl) refl h.1
step_sound waves count g after (C.Async n) s l h = marks_sound count g after n s (below n count g s l.named) l.named h.1
step_sound waves count g after (C.Buffers port n) s l h = buffers_sound count g after port n s l.range h.1
step_sound waves count g after (C.Link from to) s l h = links_sound count g s from to l.ports.0 l.ports.1 l.named.0 l.named.1 after h
step_sound waves count g after (C.Unlink from to) s l h = unlinks_sound count g after from to s l.ports.0 l.ports.1 (below from.node count g s l.named.0)
    (below to.node count g s l.named.1) h.1
step_sound waves count g after (C.Quantum n) s l h = subst (IsSoundGraph count) (sym h.1) s
step_sound waves count g after (C.Offer port file) s l h = subst (IsSoundGraph count) (sym h.1) s
step_sound waves count g after (C.Cycles n) s l h = runs_sound count g after n s h
step_sound waves count g after C.Drain s l h = runs_sound count g after h.0 s h.2

-- no line changes the kinds
kinds_run : (g after : Graph) (n : ℕ) → RunsFor g n T.Done after → after.kinds ≡ g.kinds
kinds_run g after zero h = ap (λ (x : Graph). x.kinds) h.1
kinds_run g after (suc n) h = ap (λ (x : Graph). x.kinds) h.2.1.same

pub kinds_marked : (g after : Graph) (n : ℕ) → Marks g n after → after.kinds ≡ g.kinds
kinds_marked g after n (inl h) = ap (λ (x : Graph). x.kinds) h.1
kinds_marked g after n (inr h) = ap (λ (x : Graph). x.kinds) h.1

pub step_kinds : (waves : List WavIn) (g after : Graph) (command : Command) → Steps waves g command T.Done after → after.kinds ≡ g.kinds
step_kinds waves g after (C.Source n file) h = ap (λ (x : Graph). x.kinds) h.1
step_kinds waves g after (C.Square n rate channels period amp) h = ap (λ (x : Graph). x.kinds) h.1
step_kinds waves g after (C.Gain n gain) h = ap (λ (x : Graph). x.kinds) h.1
step_kinds waves g after (C.Mix2 n ga gb) h = ap (λ (x : Graph). x.kinds) h.1
step_kinds waves g after (C.Delay n frames) h = ap (λ (x : Graph). x.kinds) h.1
step_kinds waves g after (C.Map n channels list) h = ap (λ (x : Graph). x.kinds) h.1
step_kinds waves g after (C.Split n) h = ap (λ (x : Graph). x.kinds) h.1
step_kinds waves g after (C.Sink n file) h = ap (λ (x : Graph). x.kinds) h.1
step_kinds waves g after (C.Meter n) h = ap (λ (x : Graph). x.kinds) h.1
step_kinds waves g after (C.Driver n p) h = ap (λ (x : Graph). x.kinds) h.1
step_kinds waves g after (C.Loop n k) h = ap (λ (x : Graph). x.kinds) h.1
step_kinds waves g after (C.On n) h = ap (λ (x : Graph). x.kinds) h.1
step_kinds waves g after (C.Off n) h = ap (λ (x : Graph). x.kinds) h.1
step_kinds waves g after (C.Async n) h = kinds_marked g after n h.1
step_kinds waves g after (C.Buffers port n) h = ap (λ (x : Graph). x.kinds) h.1
step_kinds waves g after (C.Link from to) h = ap (λ (x : Graph). x.kinds) h.same
step_kinds waves g after (C.Unlink from to) h = ap (λ (x : Graph). x.kinds) h.1.same
step_kinds waves g after (C.Quantum n) h = ap (λ (x : Graph). x.kinds) h.1
step_kinds waves g after (C.Offer port file) h = ap (λ (x : Graph). x.kinds) h.1
step_kinds waves g after (C.Cycles n) h = kinds_run g after n h
step_kinds waves g after C.Drain h = kinds_run g after h.0 h.2

-- ALL LINES
pub record AreGoodLines (count : ℕ) (kinds : List Kind) (lines : List Line) : Type 0 where
  pub named : NamesMade count lines
  pub lines_of : AreLinesOf kinds lines

pub good_first : (count : ℕ) (kinds : List Kind) (l : Line) (ls : List Line) → AreGoodLines count kinds (l ∷ ls) → IsGoodLine count kinds l.command
good_first count kinds l ls h = record {
  next = h.named.0;
  named = h.named.1;
  range = All-head (λ (x : Line). IsInRange x.command) l ls h.lines_of.ranges;
  ports = All-head (λ (x : Line). HasPorts kinds x.command) l ls h.lines_of.ports;
  nodes = All-head (λ (x : Line). HasNodes (length kinds) x.command) l ls h.lines_of.nodes;
}

pub good_rest : (count : ℕ) (kinds : List Kind) (l : Line) (ls : List Line) → AreGoodLines count kinds (l ∷ ls)
    → AreGoodLines (grown count l.command) kinds ls
good_rest count kinds l ls h = record {
  named = h.named.2;
  lines_of = record {
    ranges = All-tail (λ (x : Line). IsInRange x.command) l ls h.lines_of.ranges;
    ports = All-tail (λ (x : Line). HasPorts kinds x.command) l ls h.lines_of.ports;
    nodes = All-tail (λ (x : Line). HasNodes (length kinds) x.command) l ls h.lines_of.nodes;
  };
}

pub record EndsSound (kinds : List Kind) (end : Graph) : Type 0 where
  pub count : ℕ
  pub sound : IsSoundGraph count end
  pub kinds_are : end.kinds ≡ kinds

-- one answer
ok_same : {A E : Type 0} (x y : A) → ◌≡◌ {A = Result A E} (Ok x) (Ok y) → x ≡ y
ok_same x y e = cc

ok_no_err : {A E : Type 0} (x : A) (y : E) → ◌≡◌ {A = Result A E} (Ok x) (Err y) → ⊥
ok_no_err x y e = cc

pub follows_end : (g end : Graph) → ◌≡◌ {A = Result Graph (ℕ × Which)} (Ok end) (Ok g) → end ≡ g
follows_end g end e = ok_same {E = ℕ × Which} end g e

pub no_stop : (end : Graph) (line : ℕ) (which : Which) → ◌≡◌ {A = Result Graph (ℕ × Which)} (Ok end) (Err (line, which)) → ⊥
no_stop end line which e = ok_no_err {A = Graph} end (line, which) e

pub follows_sound : (waves : List WavIn) (kinds : List Kind) (lines : List Line) (count : ℕ) (g end : Graph) → IsSoundGraph count g
    → g.kinds ≡ kinds → AreGoodLines count kinds lines → Follows waves g lines (Ok end) → EndsSound kinds end
follows_sound waves kinds [] count g end sound same good h = record {
  count = count;
  sound = subst (IsSoundGraph count) (sym (follows_end g end h)) sound;
  kinds_are = ap (λ (x : Graph). x.kinds) (follows_end g end h) ∙ same;
}
follows_sound waves kinds (l ∷ ls) count g end sound same good (inl h) =
    follows_sound waves kinds ls (grown count l.command) h.0 end (step_sound waves count g h.0 l.command sound
    (subst (λ (ks : List Kind). IsGoodLine count ks l.command) (sym same) (good_first count kinds l ls good)) h.1)
    (step_kinds waves g h.0 l.command h.1 ∙ same) (good_rest count kinds l ls good) h.2
follows_sound waves kinds (l ∷ ls) count g end sound same good (inr h) = absurd (no_stop end l.line h.0 h.3)
