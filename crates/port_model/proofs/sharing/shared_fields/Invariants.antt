-- What is passed admits the shared values, and has only them.
use Rattle.std.proofs.Common.{◌≡◌, take, map}
use Rattle.std.specs.List.{All}
use Rattle.port_model.specs.Forms.{shared_field}
use Rattle.port_model.specs.Sharing.{IsInside}
use Rattle.port_model.proofs.sharing.shared_fields.Given as goal

abbrev pub invariant-loop-field : goal.invariant-loop-field
invariant-loop-field l = record {
  inside : All (IsInside l.node) (take l.field-index l.fields);
  same : l.shared ≡ map (shared_field l.node) (take l.field-index l.fields);
}
