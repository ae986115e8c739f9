-- ONE NARROWING: a file narrows a port of sound nodes in one way, as each own offer is a Format.
use Rattle.std.proofs.Common.{◌≡◌, ℕ, List, get_or, Some, refl, sym, ap, ◌∙◌}
use Rattle.std.specs.Prelude.{slice_get}
use Rattle.std.proofs.lemmas.Option.{slice_get-get_or}
use Rattle.pw_graph.specs.declared.ids.PortId.{PortId}
use Rattle.pw_graph.specs.declared.kind.Kind.TheVariants as K
use Rattle.format_filter.specs.declared.format.Format.{Format}
use Rattle.format_filter.specs.declared.common.Filtered.TheVariants as filtered
use Rattle.format_filter.specs.CommonFormat.{Filters}
use Rattle.format_filter.proofs.OneFormatLemmas.{filters_one}
use Rattle.port_model.specs.declared.narrowing.Narrowed.{Narrowed}
use Rattle.port_model.specs.declared.narrowing.Narrowed.TheVariants as N
use Rattle.port_model.specs.declared.port_state.Node.{Node}
use Rattle.port_model.specs.declared.port_state.PortState.{PortState}
use Rattle.port_model.specs.Keys.{format_object}
use Rattle.port_model.specs.Narrowing.{Narrows}
use Rattle.port_model.specs.Offers.{new_port}
use Rattle.port_model.specs.PortState.{IsPort, with_port, offering}
use Rattle.port_model.specs.SoundPorts.{AreSoundNodes, IsSoundNode}
use Rattle.port_model.proofs.NodeLemmas.{at_place, at_port, has_place}
use Rattle.pw_top.specs.declared.inputs.PlanInputs.{PlanInputs}
use Rattle.pw_top.specs.Loads.{narrowed_outcome, NarrowsTo}
use Rattle.pw_top.proofs.OnePartLemmas.{OneOutcome}
use Rattle.script_inputs.proofs.SoundInputsLemmas.{nowhere}

-- a file narrows a port in one way: its own offer is a Format
module _ (place : ℕ) (inputs : PlanInputs) (port : PortId) (file : Format) (n : Node) (s : PortState) (at_node : slice_get inputs.ports port.node ≡ Some n)
    (at_state : slice_get n.ports port.port ≡ Some s) (own : s.own.object ≡ format_object) where
  clashes_at : (key : ℕ) (a : List Node) → Narrows inputs.ports port file (N.Clash key) a → Filters s.own file (filtered.Clash key)
  clashes_at key a h = at_port (λ node t. Filters t.own file (filtered.Clash key)) inputs.ports port n s at_node at_state h.0

  abbrev IsNarrowed : List Node → Type 0
  IsNarrowed a = (c : Format) × Filters s.own file (filtered.Common c) × (a ≡ with_port inputs.ports port (offering c))

  done_at : (a : List Node) → Narrows inputs.ports port file N.Done a → IsNarrowed a
  done_at a h = at_port (λ node t. (c : Format) × Filters t.own file (filtered.Common c) × (a ≡ with_port inputs.ports port (offering c)))
      inputs.ports port n s at_node at_state h

  narrowed_one : (x y : Narrowed) (a b : List Node) → Narrows inputs.ports port file x a → Narrows inputs.ports port file y b
      → narrowed_outcome place inputs x a ≡ narrowed_outcome place inputs y b
  narrowed_one N.NotFormat N.NotFormat a b h k = refl
  narrowed_one N.NotFormat (N.Clash key) a b h k = absurd (h.0 (sym (clashes_at key b k).0 ∙ own))
  narrowed_one N.NotFormat N.Done a b h k = absurd (h.0 (sym (done_at b k).1.0.types ∙ own))
  narrowed_one (N.Clash key) N.NotFormat a b h k = absurd (k.0 (sym (clashes_at key a h).0 ∙ own))
  narrowed_one N.Done N.NotFormat a b h k = absurd (k.0 (sym (done_at a h).1.0.types ∙ own))
  narrowed_one (N.Clash i) (N.Clash j) a b h k =
      let same = filters_one s.own file (filtered.Clash i) (filtered.Clash j) (clashes_at i a h) (clashes_at j b k) in
      let keys : i ≡ j = cc in
      ap (λ (m : ℕ). narrowed_outcome place inputs (N.Clash m) a) keys
  narrowed_one (N.Clash i) N.Done a b h k =
      let d = done_at b k in
      let same = filters_one s.own file (filtered.Clash i) (filtered.Common d.0) (clashes_at i a h) d.1 in cc
  narrowed_one N.Done (N.Clash j) a b h k =
      let d = done_at a h in
      let same = filters_one s.own file (filtered.Common d.0) (filtered.Clash j) d.1 (clashes_at j b k) in cc
  narrowed_one N.Done N.Done a b h k =
      let d = done_at a h in
      let e = done_at b k in
      let same = filters_one s.own file (filtered.Common d.0) (filtered.Common e.0) d.1 e.1 in
      let commons : d.0 ≡ e.0 = cc in
      let ports : a ≡ b = d.2 ∙ ap (λ (c : Format). with_port inputs.ports port (offering c)) commons ∙ sym e.2 in
      ap (λ (ps : List Node). narrowed_outcome place inputs N.Done ps) ports

pub narrows_one : (place : ℕ) (port : PortId) (inputs : PlanInputs) (file : Format) → AreSoundNodes inputs.ports → IsPort inputs.ports port
    → OneOutcome (NarrowsTo place port inputs file)
narrows_one place port inputs file sound is x y h k =
    let there = has_place inputs.ports port sound is in
    let n = get_or inputs.ports port.node nowhere in
    let at_node = slice_get-get_or inputs.ports port.node nowhere there.0 in
    let s = get_or n.ports port.port (new_port K.Source 0 0 0) in
    let at_state = slice_get-get_or n.ports port.port (new_port K.Source 0 0 0) (there.1 n at_node) in
    let own = ((at_place IsSoundNode inputs.ports port.node n sound.each at_node).ports port.port s at_state).own.object in
    h.3 ∙ narrowed_one place inputs port file n s at_node at_state own h.0 k.0 h.1 k.1 h.2 k.2 ∙ sym k.3
