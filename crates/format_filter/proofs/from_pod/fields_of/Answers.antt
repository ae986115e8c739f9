-- The fields of the map are those of the properties.
use Rattle.std.proofs.Common.{sym, subst}
use Rattle.format_filter.specs.FormatReading.{AreFieldsOf}
use Rattle.format_filter.proofs.PropLemmas.{map_fields}
use Rattle.format_filter.proofs.from_pod.fields_of.Goals as goal

pub returns-clause-found : goal.returns-clause-found
returns-clause-found c = subst (AreFieldsOf c.args.props.now) (sym c.in_ok-in_order.ensures)
    (map_fields c.args.props.now c.in_ok-read.read c.in_ok-read.ensures.found)
