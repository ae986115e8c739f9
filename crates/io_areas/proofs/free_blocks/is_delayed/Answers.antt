use Rattle.std.proofs.Common.{◌&&◌, ◌∙◌, List, sym, ap}
use Rattle.std.specs.List.{list_any}
use Rattle.pw_graph.specs.declared.ids.PortId.{PortId}
use Rattle.pw_graph.specs.declared.shape.ShapeLink.{ShapeLink}
use Rattle.pw_graph.specs.Pools.{is_same_port}
use Rattle.io_areas.proofs.StartLemmas.{any_filter}
use Rattle.io_areas.proofs.free_blocks.is_delayed.Goals as goal

pub returns : goal.returns
returns c = let port : PortId = c.args.pool.now.port in
    c.has_delayed.ensures ∙ ap (λ (xs : List ShapeLink). list_any (λ l. is_same_port l.from port && l.delayed) xs) c.as_slice.ensures
    ∙ sym (any_filter (λ (l : ShapeLink). l.delayed) (λ l. is_same_port l.from port) c.args.shape.now.links)
