-- Which nodes are active in an epoch: the driver, and nodes with a live link.
use Rattle.std.proofs.Common.{◌≡◌, ◌⊎◌, inl, inr, ℕ, ◌<◌, ◌≤◌, List, [], ◌∷◌, length, get_or, Bool, true, false, Option, Some, None}
use Rattle.std.proofs.Common.{◌&&◌, refl, sym, ◌∙◌, subst, arith}
use Rattle.std.specs.Prelude.{if◌then◌else◌}
use Rattle.std.proofs.lemmas.Bool.{and_parts, cases_lt, cases_eq}
use Rattle.std.proofs.lemmas.Option.{none-some}
use Rattle.std.proofs.lemmas.List.{get_or_past}
use Rattle.pw_graph.specs.declared.kind.Kind.{Kind}
use Rattle.pw_graph.specs.declared.kind.Kind.TheVariants.{Source, Square, Gain, Mix2, Delay, Map, Split, Sink, Meter, Dummy}
use Rattle.pw_graph.specs.KindPorts.{input_count, port_count}
use Rattle.pw_graph.specs.KindRanges.{IsSinkOrMeter}
use Rattle.graph_lines.specs.declared.standing.Standing.{Standing}
use Rattle.graph_lines.specs.declared.wire.Wire.{Wire}
use Rattle.graph_lines.specs.Activity.{standing, is_live, live_wires, IsWalk, HasWire, may_drive, IsDriver, IsActive}
use Rattle.graph_plan.proofs.lists.ElementLemmas.{origin}

-- an active node is the driver, or has a live link
walk_starts : (live : List Wire) (n d : ℕ) (walk : List Wire) → IsWalk live n walk d → (n ≡ d) ⊎ HasWire live n
walk_starts live n d [] w = inl w
walk_starts live n d (l ∷ walk) w = inr (l, w.0, (elim w.1.1 [ inl j ↦ inl j.0 | inr j ↦ inr j.0 ]))

pub active_cases : (live : List Wire) (d n : ℕ) → IsActive live d n → (n ≡ d) ⊎ HasWire live n
active_cases live d n (inl h) = elim h.1 [ inl e ↦ inl (e ∙ sym h.0) | inr w ↦ inr w ]
active_cases live d n (inr h) = walk_starts live n d h.1.0 h.1.1

-- the driver is active
pub driver_active : (live : List Wire) (d : ℕ) → IsActive live d d
driver_active live d = elim (cases_eq d 63) [ inl e ↦ inl (e, inl e) | inr ne ↦ inr (ne, ([], refl)) ]

-- a live link is a link
pub live_is : (said : List Standing) (wires : List Wire) (n : ℕ) → HasWire (live_wires said wires) n → HasWire wires n
live_is said wires n h = (h.0, (origin (is_live said) wires h.0 h.1).0, h.2)

-- what drives: 63, or a sink or meter with a priority
pub record IsCandidate (kinds : List Kind) (said : List Standing) (d : ℕ) : Type 0 where
  pub priority : ℕ
  pub has : (standing said d).priority ≡ Some priority
  pub drives : may_drive (get_or kinds d Dummy) ≡ true

chosen : (b : Bool) (o : Option ℕ) (p : ℕ) → (if b then o else None) ≡ Some p → (b ≡ true) × (o ≡ Some p)
chosen true o p e = (refl, e)
chosen false o p e = absurd (none-some p e)

pub driver_cases : (kinds : List Kind) (said : List Standing) (d : ℕ) → IsDriver kinds said d → (d ≡ 63) ⊎ IsCandidate kinds said d
driver_cases kinds said d (inl h) = inl h.1
driver_cases kinds said d (inr h) =
    let c = chosen (may_drive (get_or kinds d Dummy) && (standing said d).on) (standing said d).priority h.0 h.1.0 in
    inr (record {
      priority = h.0;
      has = c.1;
      drives = (and_parts (may_drive (get_or kinds d Dummy)) (standing said d).on c.0).0;
    })

pub end_drives : (kind : Kind) → may_drive kind ≡ true → IsSinkOrMeter kind
end_drives Sink e = tt
end_drives Meter e = tt
end_drives Source e = absurd (cc e)
end_drives (Square rate channels period amp) e = absurd (cc e)
end_drives (Gain g) e = absurd (cc e)
end_drives (Mix2 ga gb) e = absurd (cc e)
end_drives (Delay frames) e = absurd (cc e)
end_drives (Map channels list) e = absurd (cc e)
end_drives Split e = absurd (cc e)
end_drives Dummy e = absurd (cc e)

-- a sink or meter has no output, and a number past the nodes no port
pub no_output : (kind : Kind) (port : ℕ) → IsSinkOrMeter kind → input_count kind ≤ port → port < port_count kind → ⊥
no_output Sink port h a b = omega (arith, a, b)
no_output Meter port h a b = omega (arith, a, b)
no_output Source port h a b = absurd h
no_output (Square rate channels period amp) port h a b = absurd h
no_output (Gain g) port h a b = absurd h
no_output (Mix2 ga gb) port h a b = absurd h
no_output (Delay frames) port h a b = absurd h
no_output (Map channels list) port h a b = absurd h
no_output Split port h a b = absurd h
no_output Dummy port h a b = absurd h

no_port : (kind : Kind) (port : ℕ) → kind ≡ Dummy → port < port_count kind → ⊥
no_port kind port e h = let l : port < port_count Dummy = subst (λ (k : Kind). port < port_count k) e h in omega (arith, l)

pub there_below : (kinds : List Kind) (n port : ℕ) → port < port_count (get_or kinds n Dummy) → n < length kinds
there_below kinds n port h = elim (cases_lt n (length kinds)) [
  | inl l ↦ l
  | inr past ↦ absurd (no_port (get_or kinds n Dummy) port (get_or_past kinds n Dummy past) h)
]
