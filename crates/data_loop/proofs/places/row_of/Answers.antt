use Rattle.std.proofs.Common.{◌∙◌, length, sym, ap, arith}
use Rattle.std.proofs.lemmas.List.{length-set}
use Rattle.data_loop.proofs.OwnPoolsLemmas.{few_own, place_own, place_other, before_own, before_other, placed_all}
use Rattle.data_loop.proofs.places.row_of.Goals as goal
use Rattle.data_loop.proofs.places.row_of.Goals.{then-is_among, else-is_among}

pub overflow_add-before : goal.overflow_add-before
overflow_add-before c = let few = few_own c.args.nodes.now c.args.pools.now c.loop-q.q in let low = c.loop-q-test.true in
    let now = c.loop-q.invariant.before in let most = c.requires.few in record { fits = omega (arith, few, low, now, most) }

pub loop-q-preserved : goal.loop-q-preserved
loop-q-preserved c = let nodes = c.args.nodes.now in let pools = c.args.pools.now in let q = c.loop-q.q in let low = c.loop-q-test.true in
    let so_far = c.loop-q.invariant in
    elim c.if-is_among.branch [
      | then-is_among w ↦ (let passes = sym c.is_among.ensures ∙ w.if-is_among.true in record {
        before = w.before-is ∙ before_own nodes pools q _ low c.loop-q.before passes so_far.before;
        long = ap (λ v. length v.items) w.places-is ∙ length-set c.loop-q.places.items q c.loop-q.before ∙ so_far.long;
        places = ap (λ v. v.items) w.places-is
            ∙ place_own nodes pools q _ low c.loop-q.places.items c.loop-q.before passes so_far.places so_far.before;
      })
      | else-is_among w ↦ (let miss = sym c.is_among.ensures ∙ w.if-is_among.false in record {
        before = w.before-is ∙ before_other nodes pools q _ low c.loop-q.before miss so_far.before;
        long = ap (λ v. length v.items) w.places-is ∙ so_far.long;
        places = ap (λ v. v.items) w.places-is ∙ place_other nodes pools q _ low c.loop-q.places.items miss so_far.places;
      })
    ]

pub returns : goal.returns
returns c = c.from_vec.ensures ∙ c.loop-q.invariant.places
    ∙ placed_all c.args.nodes.now c.args.pools.now c.loop-q.q c.loop-q-test.false
