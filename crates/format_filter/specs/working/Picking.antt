-- Which pick an intersection has, of its two choices. Source: spa/pod/filter.h,
-- spa_pod_filter_prop; this project's order.
use Rattle.format_filter.specs.declared.choice.Choice.{Choice}
use Rattle.format_filter.specs.declared.picking.Preference.{Preference}
use Rattle.format_filter.specs.declared.picking.Preference.TheVariants.{Own, Other, First}
use Rattle.format_filter.specs.Members.{pick_of}
use Rattle.format_filter.specs.Intersection.{IsCommon}

abbrev pub IsPreferred : Choice → Choice → Preference → Type 0
IsPreferred a b Own = IsCommon a b (pick_of a)
IsPreferred a b Other = (IsCommon a b (pick_of a) → ⊥) × IsCommon a b (pick_of b)
IsPreferred a b First = (IsCommon a b (pick_of a) → ⊥) × (IsCommon a b (pick_of b) → ⊥)
