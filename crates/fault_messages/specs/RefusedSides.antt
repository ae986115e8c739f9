-- What both sides of a refused link admit, in words, behind its key. Source: this project's own.
use Rattle.std.specs.Prelude.{ℕ, ◌==◌, ◌&&◌, Bool, List, [], ◌++◌, codes, decimal, find, Option, Some, None, if◌then◌else◌}
use Rattle.format_filter.specs.declared.choice.Choice.{Choice}
use Rattle.pw_graph.specs.declared.ids.PortId.{PortId}
use Rattle.pw_graph.specs.declared.plan.LinkLine.{LinkLine}
use Rattle.pw_graph.specs.declared.plan.PlanNode.{PlanNode}
use Rattle.refused_links.specs.declared.refused_link.RefusedLink.{RefusedLink}
use Rattle.refused_links.specs.declared.refused_link.Sides.{Sides}
use Rattle.refused_links.specs.declared.refused_link.Sides.TheVariants as S
use Rattle.refused_links.specs.Words.{choice_words}
use Rattle.fault_messages.specs.LinkEnds.{quoted_end}
use Rattle.fault_messages.specs.MapHints.{one_two_hint, channel_hint}

-- the entry of a line of the script, and of the key at which its link parts
abbrev pub is_entry : ℕ → ℕ → RefusedLink → Bool
is_entry n key entry = entry.line == n && entry.key == key

abbrev pub entry_of : List RefusedLink → ℕ → ℕ → Option RefusedLink
entry_of refused n key = find (is_entry n key) refused

-- what an offer admits there, and what a node has there
abbrev pub side_words : Option Choice → List ℕ
side_words None = codes "none"
side_words (Some choice) = choice_words choice

abbrev pub number_words : Option ℕ → List ℕ
number_words None = codes "none"
number_words (Some n) = decimal n

-- of two offers: of rates what changes one, of channels what helps
unfoldable pub pair_hint : List PlanNode → LinkLine → ℕ → Option Choice → Option Choice → List ℕ
pair_hint nodes link key from to =
    if key == 65539 then codes "; no node changes a rate, but sox IN -r RATE OUT does"
    else (if key == 65540 then channel_hint nodes link (one_two_hint from to) else [])

unfoldable pub both_said : Option Choice → Option Choice → List ℕ → List ℕ
both_said from to hint = codes ": "
    ++ (side_words from ++ (codes " and " ++ (side_words to ++ hint)))

-- of a port whose own offer does not admit what its node has
unfoldable pub node_said : List PlanNode → PortId → Option Choice → Option ℕ → List ℕ
node_said nodes port own shared = codes ": " ++ (quoted_end nodes port ++ (codes " admits "
    ++ (side_words own ++ (codes ", and its node has " ++ number_words shared))))

abbrev pub sides_said : List PlanNode → LinkLine → ℕ → Sides → List ℕ
sides_said nodes link key (S.Both from to) = both_said from to (pair_hint nodes link key from to)
sides_said nodes link key (S.Node port own shared) = node_said nodes port own shared

-- BOTH SIDES, where they are known; else of channels a rule
abbrev pub map_part : List PlanNode → LinkLine → ℕ → List ℕ
map_part nodes link key = if key == 65540 then channel_hint nodes link (codes
    "; where one side has one channel and the other two, map NAME 1 0,0 makes two of one") else []

abbrev pub sides_part : List PlanNode → LinkLine → ℕ → Option RefusedLink → List ℕ
sides_part nodes link key None = map_part nodes link key
sides_part nodes link key (Some entry) = sides_said nodes link key entry.sides
