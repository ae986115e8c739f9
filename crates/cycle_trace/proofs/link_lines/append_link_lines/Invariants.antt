use Rattle.std.proofs.Common.{◌≡◌, ◌++◌, take, flat_map}
use Rattle.cycle_trace.specs.LinkLines.{link_line}
use Rattle.cycle_trace.proofs.link_lines.append_link_lines.Given as goal

abbrev pub invariant-loop-link : goal.invariant-loop-link
invariant-loop-link l = l.text ≡ l.fn.text ++ flat_map (link_line l.nodes) (take l.link-index l.links)
