-- The links of a graph are those of its wires, whatever a line does.
use Rattle.std.proofs.Common.{◌≡◌, inl, inr, ℕ, ◌==◌, ◌||◌, Bool, true, false, not, cond, List, [], ◌∷◌, ◌++◌, map, refl, sym, ap, ◌∙◌}
use Rattle.std.specs.Prelude.{Result, Ok, Err, IfOk}
use Rattle.std.specs.List.{list_any}
use Rattle.std.proofs.lemmas.List.{map-append}
use Rattle.pw_graph.specs.declared.ids.PortId.{PortId}
use Rattle.pw_lists.specs.declared.limit.Which.TheVariants as W
use Rattle.pw_lists.specs.declared.memory.Memory.{Memory}
use Rattle.graph_script.specs.declared.command.Command.{Command}
use Rattle.graph_script.specs.declared.command.Command.TheVariants as C
use Rattle.link_negotiation.specs.declared.link.Link.{Link}
use Rattle.link_negotiation.specs.declared.negotiation.Linked.{Linked}
use Rattle.link_negotiation.specs.declared.negotiation.Linked.TheVariants as L
use Rattle.link_negotiation.specs.declared.unlinking.Unlinked.{Unlinked}
use Rattle.link_negotiation.specs.declared.unlinking.Unlinked.TheVariants as U
use Rattle.link_negotiation.specs.Links.{LinkState, joins, link_of, has_link}
use Rattle.link_negotiation.specs.LinkOutcome.{LeavesLink}
use Rattle.link_negotiation.specs.Unlinking.{HasUnlinked, without}
use Rattle.graph_lines.specs.declared.graph.Graph.{Graph}
use Rattle.graph_lines.specs.declared.graph.Stepped.{Stepped}
use Rattle.graph_lines.specs.declared.graph.Stepped.TheVariants as T
use Rattle.graph_lines.specs.declared.wire.Wire.{Wire}
use Rattle.graph_lines.specs.LinkLines.{IsRecorded}
use Rattle.graph_lines.specs.UnlinkLines.{wires_without, IsTakenAway}
use Rattle.graph_lines.specs.Lines.{Marks, Does}
use Rattle.graph_lines.specs.Conditions.{AreWired}

pub any_wire : (wires : List Wire) (n : ℕ) → list_any (λ w. (w.from.node == n) || (w.to.node == n)) wires
    ≡ has_link (map (λ w. link_of w.from w.to) wires) n
any_wire [] n = refl
any_wire (w ∷ ws) n = ap (λ (b : Bool). ((w.from.node == n) || (w.to.node == n)) || b) (any_wire ws n)

-- a graph with the same links
pub same_wires : (g after : Graph) → after.wires ≡ g.wires → after.links.made ≡ g.links.made → AreWired g → AreWired after
same_wires g after e d w = ap (map (λ (x : Wire). link_of x.from x.to)) e ∙ (w ∙ sym d)

-- a link taken away, on both sides
pub without_map : (from to : PortId) (wires : List Wire) → map (λ w. link_of w.from w.to) (wires_without from to wires)
    ≡ without from to (map (λ w. link_of w.from w.to) wires)
without_map from to [] = refl
without_map from to (w ∷ ws) = go (not (joins from to (link_of w.from w.to))) (wires_without from to ws)
    (without from to (map (λ w. link_of w.from w.to) ws)) (without_map from to ws) where
      go : (b : Bool) (xs : List Wire) (ys : List Link) → map (λ w. link_of w.from w.to) xs ≡ ys
          → map (λ w. link_of w.from w.to) (cond b (w ∷ xs) xs) ≡ cond b (link_of w.from w.to ∷ ys) ys
      go true xs ys e = ap (λ (zs : List Link). link_of w.from w.to ∷ zs) e
      go false xs ys e = e

pub links_wired : (g after : Graph) (from to : PortId) (linked : Linked) (stepped : Stepped)
    → LeavesLink g.links g.ports from to linked after.links after.ports → IsRecorded g from to linked stepped after → stepped ≡ T.Done
    → AreWired g → AreWired after
links_wired g after from to (L.Made format buffers) stepped l r e w =
    ap (map (λ (x : Wire). link_of x.from x.to)) r.1
    ∙ (map-append (λ (x : Wire). link_of x.from x.to) g.wires (record { from = from; to = to; buffers = buffers } ∷ [])
    ∙ (ap (λ (ls : List Link). ls ++ link_of from to ∷ []) w ∙ sym (ap (λ (s : LinkState). s.made) l.0)))
links_wired g after from to (L.NoFormat key) stepped l r e w = same_wires g after r.1 (ap (λ (s : LinkState). s.made) l.0) w
links_wired g after from to L.NoBuffers stepped l r e w = same_wires g after r.1 (ap (λ (s : LinkState). s.made) l.0) w
links_wired g after from to L.Twice stepped l r e w = same_wires g after r.1 (ap (λ (s : LinkState). s.made) l.0) w
links_wired g after from to L.Loop stepped l r e w = same_wires g after r.1 (ap (λ (s : LinkState). s.made) l.0) w
links_wired g after from to L.Many stepped l r e w = absurd (passes_not (sym e ∙ r.0)) where
  passes_not : T.Done ≡ T.Passed W.Links → ⊥
  passes_not d = cc

pub unlinks_wired : (g after : Graph) (from to : PortId) (keep : ℕ) (unlinked : Unlinked)
    → HasUnlinked g.links g.ports from to keep unlinked after.links after.ports → IsTakenAway g from to unlinked after
    → AreWired g → AreWired after
unlinks_wired g after from to keep U.NotThere h t w = same_wires g after t.0 (ap (λ (s : LinkState). s.made) h.1) w
unlinks_wired g after from to keep (U.Gone set) h t w =
    ap (map (λ (x : Wire). link_of x.from x.to)) t.0 ∙ (without_map from to g.wires
    ∙ (ap (without from to) w ∙ sym (ap (λ (s : LinkState). s.made) h.1)))

changed_wired : (g after next : Graph) → after ≡ next → next.wires ≡ g.wires → next.links.made ≡ g.links.made → AreWired g → AreWired after
changed_wired g after next e d f w = same_wires g after (ap (λ (x : Graph). x.wires) e ∙ d) (ap (λ (x : Graph). x.links.made) e ∙ f) w

marks_wired : (g after : Graph) (n : ℕ) → Marks g n after → AreWired g → AreWired after
marks_wired g after n (inl h) w = changed_wired g after g h.1 refl refl w
marks_wired g after n (inr h) w = changed_wired g after _ h.1 refl refl w

-- a line that is done keeps both sides the same
does_wired : (g after : Graph) (command : Command) (stepped : Stepped) → Does g command stepped after → stepped ≡ T.Done → AreWired g → AreWired after
does_wired g after (C.Source n file) stepped h e w = changed_wired g after _ h.1 refl refl w
does_wired g after (C.Square n rate channels period amp) stepped h e w = changed_wired g after _ h.1 refl refl w
does_wired g after (C.Gain n gain) stepped h e w = changed_wired g after _ h.1 refl refl w
does_wired g after (C.Mix2 n ga gb) stepped h e w = changed_wired g after _ h.1 refl refl w
does_wired g after (C.Delay n frames) stepped h e w = changed_wired g after _ h.1 refl refl w
does_wired g after (C.Map n channels list) stepped h e w = changed_wired g after _ h.1 refl refl w
does_wired g after (C.Split n) stepped h e w = changed_wired g after _ h.1 refl refl w
does_wired g after (C.Sink n file) stepped h e w = changed_wired g after _ h.1 refl refl w
does_wired g after (C.Meter n) stepped h e w = changed_wired g after _ h.1 refl refl w
does_wired g after (C.Driver n p) stepped h e w = changed_wired g after _ h.1 refl refl w
does_wired g after (C.Loop n k) stepped h e w = changed_wired g after _ h.1 refl refl w
does_wired g after (C.On n) stepped h e w = changed_wired g after _ h.1 refl refl w
does_wired g after (C.Off n) stepped h e w = changed_wired g after _ h.1 refl refl w
does_wired g after (C.Async n) stepped h e w = marks_wired g after n h.1 w
does_wired g after (C.Buffers port n) stepped h e w = changed_wired g after _ h.1 refl refl w
does_wired g after (C.Link from to) stepped h e w = links_wired g after from to h.linked stepped h.leaves h.noted e w
does_wired g after (C.Unlink from to) stepped h e w = unlinks_wired g after from to h.1.keep h.1.unlinked h.1.outcome h.1.noted w
does_wired g after (C.Quantum n) stepped h e w = changed_wired g after g h.1 refl refl w
does_wired g after (C.Offer port file) stepped h e w = changed_wired g after g h.1 refl refl w
does_wired g after (C.Cycles n) stepped h e w = absurd h
does_wired g after C.Drain stepped h e w = absurd h

pub set_wired : (g after : Graph) (command : Command) (r : Result Stepped Memory) → IfOk r (λ stepped. Does g command stepped after)
    → AreWired g → IfOk r (λ stepped. stepped ≡ T.Done → AreWired after)
set_wired g after command (Ok stepped) h w = λ e. does_wired g after command stepped h e w
set_wired g after command (Err memory) h w = h
