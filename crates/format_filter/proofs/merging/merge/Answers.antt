-- Each turn merges one key more, or clashes at it.
use Rattle.std.proofs.Common.{◌≡◌, ℕ, ◌+◌, ◌<◌, inl, inr, ◌++◌, List, length, sym, subst, take, length-take, length-drop, arith}
use Rattle.std.proofs.lemmas.List.{take_all}
use Rattle.std.specs.Prelude.{slice_get, slice_range}
use Rattle.format_filter.specs.declared.format.Field.{Field}
use Rattle.format_filter.specs.working.Merging.{Joins, AreCommonFields}
use Rattle.format_filter.proofs.MergeLemmas.{IsMerged, merged_more, taken, clash_first, joined_key, found_least, not_back}
use Rattle.format_filter.proofs.merging.merge.Goals as goal

-- a place that is passed holds one
one_stands : (fields : List Field) (at next : ℕ) → at < length fields → next ≡ at + 1 → 0 < length (slice_range fields at next)
one_stands fields at next l e = omega (arith, length-take {A = Field}, length-drop {A = Field})

pub returns-in-None : goal.returns-in-None
returns-in-None c =
    let inv = c.loop-i.invariant in
    let a = c.args.a.now in
    let b = c.args.b.now in
    let key = c.least_key-key.result in
    let behind_a = c.behind-after_i.ensures.behind in
    let behind_b = c.behind-after_j.ensures.behind in
    let low = found_least a b c.loop-i.i c.loop-i.j key inv.up_to c.least_key-key.ensures.found inv.own inv.other in
    let clash = subst (Joins (slice_get (slice_range a c.loop-i.i c.behind-after_i.result) 0)
    (slice_get (slice_range b c.loop-i.j c.behind-after_j.result) 0)) c.in-None.is c.in_ok-field.ensures in
    clash_first inv.up_to key c.loop-i.i c.loop-i.j c.behind-after_i.result c.behind-after_j.result a b c.loop-i.fields inv.merged low
    (not_back c.loop-i.i c.behind-after_i.result behind_a.near)
    (not_back c.loop-i.j c.behind-after_j.result behind_b.near) behind_a behind_b clash

pub loop-i-preserved : goal.loop-i-preserved
loop-i-preserved c =
    let inv = c.loop-i.invariant in
    let a = c.args.a.now in
    let b = c.args.b.now in
    let i = c.loop-i.i in
    let j = c.loop-i.j in
    let after_i = c.behind-after_i.result in
    let after_j = c.behind-after_j.result in
    let key = c.least_key-key.result in
    let behind_a = c.behind-after_i.ensures.behind in
    let behind_b = c.behind-after_j.ensures.behind in
    let low = found_least a b i j key inv.up_to c.least_key-key.ensures.found inv.own inv.other in
    let joined = subst (Joins (slice_get (slice_range a i after_i) 0) (slice_get (slice_range b j after_j) 0))
    c.in-Some.is c.in_ok-field.ensures in
    let same_key = joined_key (slice_range a i after_i)
    (slice_range b j after_j) key c.in-Some.field behind_a.passed behind_b.passed joined in
    let more = merged_more inv.up_to key (take i a) (take j b) c.loop-i.fields (slice_range a i after_i)
    (slice_range b j after_j) c.in-Some.field inv.merged low behind_a.passed behind_b.passed same_key joined in
    record {
      up_to = key + 1;
      merged = subst (λ (xs : List Field). IsMerged (key + 1) xs (take after_j b) c.push.new.self)
          (sym (taken a i after_i (not_back i after_i behind_a.near)))
          (subst (λ (ys : List Field). IsMerged (key + 1) (take i a ++ slice_range a i after_i) ys c.push.new.self)
          (sym (taken b j after_j (not_back j after_j behind_b.near)))
          (subst (IsMerged (key + 1) (take i a ++ slice_range a i after_i) (take j b ++ slice_range b j after_j))
          (sym c.in_ok-push-in-Some.ensures.ok) more));
      own = λ k d l. let u = behind_a.left k d l in omega arith;
      other = λ k d l. let u = behind_b.left k d l in omega arith;
      own_within = behind_a.within;
      other_within = behind_b.within;
    }

pub loop-i-smaller : goal.loop-i-smaller
loop-i-smaller c =
    let behind_a = c.behind-after_i.ensures.behind in
    let behind_b = c.behind-after_j.ensures.behind in
    let own = not_back c.loop-i.i c.behind-after_i.result behind_a.near in
    let other = not_back c.loop-i.j c.behind-after_j.result behind_b.near in
    elim c.least_key-key.ensures.found [
      | inl k ↦ omega (arith, own, other, c.behind-after_i.ensures.moves k, behind_a.within, behind_b.within)
      | inr k ↦ omega (arith, own, other, c.behind-after_j.ensures.moves k, behind_a.within, behind_b.within)
    ]

pub join-requires-clause-one : goal.join-requires-clause-one
join-requires-clause-one c =
    elim c.least_key-key.ensures.found [
      | inl k ↦ inl (one_stands c.args.a.now c.loop-i.i c.behind-after_i.result k.0 (c.behind-after_i.ensures.moves k))
      | inr k ↦ inr (one_stands c.args.b.now c.loop-i.j c.behind-after_j.result k.0 (c.behind-after_j.ensures.moves k))
    ]

pub behind-after_i-requires-clause-least : goal.behind-after_i-requires-clause-least
behind-after_i-requires-clause-least c = c.least_key-key.ensures.own

pub behind-after_j-requires-clause-least : goal.behind-after_j-requires-clause-least
behind-after_j-requires-clause-least c = c.least_key-key.ensures.other

pub returns : goal.returns
returns c =
    let inv = c.loop-i.invariant in
    let a = c.args.a.now in
    let b = c.args.b.now in
    subst (λ (xs : List Field). AreCommonFields xs b c.loop-i.fields) (take_all c.loop-i.i a c.if-i-a.false)
    (subst (λ (ys : List Field). AreCommonFields (take c.loop-i.i a) ys c.loop-i.fields) (take_all c.loop-i.j b c.if-j-b.false)
    inv.merged.common)
