-- How a node ends: a sink or meter has an input, and other kinds end without a form.
use Rattle.std.proofs.Common.{◌≡◌, inl, inr, ℕ, ◌<◌, List, get_or, Some, None, true, false, refl, sym, subst, arith}
use Rattle.pw_graph.specs.declared.kind.Kind.{Kind}
use Rattle.pw_graph.specs.declared.kind.Kind.TheVariants.{Source, Square, Gain, Mix2, Delay, Map, Split, Sink, Meter, Dummy}
use Rattle.pw_graph.specs.KindPorts.{port_count}
use Rattle.pw_graph.specs.KindRanges.{IsSinkOrMeter}
use Rattle.port_model.specs.declared.port_state.Node.{Node}
use Rattle.port_model.specs.PortState.{IsPort}
use Rattle.graph_lines.specs.declared.graph.Graph.{Graph}
use Rattle.graph_lines.specs.Activity.{may_drive}
use Rattle.graph_lines.specs.Forms.{HasKinds, IsFormIn}
use Rattle.graph_plan.specs.PlanOf.{IsEndOf}
use Rattle.graph_plan.proofs.sound.ActiveLemmas.{end_drives}
use Rattle.graph_plan.proofs.sound.FormLemmas.{port_count_is}

has_port : (kind : Kind) → may_drive kind ≡ true → 0 < port_count kind
has_port Sink e = omega arith
has_port Meter e = omega arith
has_port Source e = omega arith
has_port (Square rate channels period amp) e = omega arith
has_port (Gain g) e = omega arith
has_port (Mix2 ga gb) e = omega arith
has_port (Delay frames) e = omega arith
has_port (Map channels list) e = omega arith
has_port Split e = omega arith
has_port Dummy e = absurd (cc e)

no_end : (kind : Kind) → may_drive kind ≡ false → IsSinkOrMeter kind → ⊥
no_end Sink e h = absurd (cc e)
no_end Meter e h = absurd (cc e)
no_end Source e h = absurd h
no_end (Square rate channels period amp) e h = absurd h
no_end (Gain g) e h = absurd h
no_end (Mix2 ga gb) e h = absurd h
no_end (Delay frames) e h = absurd h
no_end (Map channels list) e h = absurd h
no_end Split e h = absurd h
no_end Dummy e h = absurd h

pub end_port : (nodes : List Node) (kinds : List Kind) (n : ℕ) → HasKinds nodes kinds → may_drive (get_or kinds n Dummy) ≡ true
    → IsPort nodes (record { node = n; port = 0 })
end_port nodes kinds n same e = subst (λ (c : ℕ). 0 < c) (sym (port_count_is nodes kinds same n)) (has_port (get_or kinds n Dummy) e)

pub ends_no : (g : Graph) (n : ℕ) → may_drive (get_or g.kinds n Dummy) ≡ false → IsEndOf g n (get_or g.kinds n Dummy) 0 0
ends_no g n e = inr (refl, refl, λ r c h. no_end (get_or g.kinds n Dummy) e h.0)

pub ends_form : (g : Graph) (n : ℕ) (form : ℕ × ℕ) → may_drive (get_or g.kinds n Dummy) ≡ true
    → IsFormIn g.ports (record { node = n; port = 0 }) (Some form) → IsEndOf g n (get_or g.kinds n Dummy) form.0 form.1
ends_form g n form e h = inl (end_drives (get_or g.kinds n Dummy) e, h)

pub ends_none : (g : Graph) (n : ℕ) → IsFormIn g.ports (record { node = n; port = 0 }) None → IsEndOf g n (get_or g.kinds n Dummy) 0 0
ends_none g n h = inr (refl, refl, λ r c w. h r c w.1)
