-- One field of the key is at the place, or none.
use Rattle.std.proofs.Common.{◌≡◌, ap, sym, ◌∙◌, arith}
use Rattle.format_filter.specs.declared.format.Field.{Field}
use Rattle.format_filter.proofs.FieldLemmas.{key_at, behind_one, behind_none, none_after, under}
use Rattle.format_filter.proofs.merging.behind.Goals as goal
use Rattle.format_filter.proofs.merging.behind.Goals.{else-at-fields-via-then-at-fields+else-fields-at, else-at-fields-via-else-at-fields}

pub returns-then-fields-at-clause-behind : goal.returns-then-fields-at-clause-behind
returns-then-fields-at-clause-behind c =
    let first = c.index-fields-at.result in
    let read = ap (λ (f : Field). f.key) c.index-fields-at.is in
    let same : first.key ≡ c.args.key = omega arith in
    behind_one c.args.fields.now c.args.at c.args.key c.requires.sound
    (key_at c.args.fields.now c.args.at c.args.key first (omega arith) (ap (λ (f : Field). f.key) (sym c.index-fields-at.is) ∙ same))

pub returns-else-at-fields-clause-behind : goal.returns-else-at-fields-clause-behind
returns-else-at-fields-clause-behind c = elim c.else-at-fields.branch [
  | else-at-fields-via-then-at-fields+else-fields-at w ↦
      let first = w.index-fields-at.result in
      let read = ap (λ (f : Field). f.key) w.index-fields-at.is in
      behind_none c.args.fields.now c.args.at c.args.key c.requires.within
      (under c.args.fields.now c.args.at c.args.key first.key c.requires.sound
      (key_at c.args.fields.now c.args.at first.key first (omega arith) (ap (λ (f : Field). f.key) (sym w.index-fields-at.is)))
      c.requires.least (λ e. omega arith))
  | else-at-fields-via-else-at-fields w ↦ behind_none c.args.fields.now c.args.at c.args.key c.requires.within
      (none_after c.args.fields.now c.args.at c.args.key (omega arith))
]
