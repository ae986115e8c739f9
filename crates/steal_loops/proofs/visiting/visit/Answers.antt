use Rattle.std.proofs.Common.{ℕ, Bool, true, refl, sym, arith, ◌∙◌, inl, inr, subst, get_or-set_same}
use Rattle.data_loop.specs.declared.loop_state.LoopState.{LoopState}
use Rattle.steal_shelf.specs.Fetching.{HasFetched}
use Rattle.steal_loops.specs.working.NodeSets.{IsKept}
use Rattle.steal_loops.proofs.ClaimantLemmas.{tried, stepped, flagged, had_once, at_end}
use Rattle.steal_loops.proofs.visiting.visit.Goals as goal

pub has_ended-requires : goal.has_ended-requires
has_ended-requires g c = let n = c.requires.claimant.flags in let low = c.requires.cell in omega (arith, n, low)

pub returns-then-has_ended-clause-visited : goal.returns-then-has_ended-clause-visited
returns-then-has_ended-clause-visited g c = let h = c.requires.claimant in let up = λ (d : Bool). c.has_ended.ensures d ∙ c.if-has_ended.true in
    (inl (h.ended c.args.cell true c.requires.cell (up true), refl), up)

pub returns-in_default-clause-visited : goal.returns-in_default-clause-visited
returns-in_default-clause-visited g c = (c.in_default.ensures.none, c.fetch.ensures.others, refl)

pub returns-in_default-clause-claimant : goal.returns-in_default-clause-claimant
returns-in_default-clause-claimant g c = let h = c.requires.claimant in
    tried c.args.shared.now c.args.claimant.now _ c.args.cell h c.in_default.ensures.none c.fetch.ensures.others c.fetch.ensures.seat h.answered refl

pub returns-in-Some-stepped-clause-claimant : goal.returns-in-Some-stepped-clause-claimant
returns-in-Some-stepped-clause-claimant g c = stepped c.args.shared.now c.args.claimant.now _ c.args.cell c.advance_unless_ended-stepped.new.state
    c.fetch.new.seat c.requires.claimant c.fetch.ensures.others c.put_back.ensures.others c.put_back.ensures.back c.put_back.ensures.seat
    c.forward.ensures.answered refl (λ d. c.has_ended.ensures d ∙ c.if-has_ended.false)

pub returns-in-Some-stepped-clause-visited : goal.returns-in-Some-stepped-clause-visited
returns-in-Some-stepped-clause-visited g c = record {
  found = c.in-Some.state;
  back = c.advance_unless_ended-stepped.new.state;
  once = had_once c.args.cell c.in-Some.state c.advance_unless_ended-stepped.new.state c.args.claimant.now.seat c.fetch.new.seat c.put_back.new.seat
      c.in-Some.ensures.some.0 c.fetch.ensures.others c.put_back.ensures.back c.put_back.ensures.others;
  allowed = c.in-Some.ensures.some.1;
  stepped = c.in-Some-stepped.ensures.stepped;
  made = c.in-Some-stepped.ensures.made;
  others = c.split-kept.result.1;
  kept = subst (λ (n : ℕ). IsKept c.args.shared.now.signs.celled c.split-kept.result.0 n c.split-kept.result.1) c.woke-woke.ensures c.split-kept.ensures;
  sent = (c.forward.result, c.forward.ensures.sent);
}

pub returns-in-None-clause-claimant : goal.returns-in-None-clause-claimant
returns-in-None-clause-claimant g c = let h = c.requires.claimant in let s = c.advance_unless_ended-stepped.new.state in
    flagged c.args.shared.now c.args.claimant.now _ c.args.cell s c.fetch.new.seat h c.fetch.ensures.others c.put_back.ensures.others
    c.put_back.ensures.back c.put_back.ensures.seat h.answered refl
    (at_end c.args.shared.now c.args.cell s c.requires.cells c.advance_unless_ended-stepped.ensures.allowed c.in-None.ensures.end)

pub returns-in-None-clause-visited : goal.returns-in-None-clause-visited
returns-in-None-clause-visited g c = let s = c.advance_unless_ended-stepped.new.state in let n = c.requires.claimant.flags in let low = c.requires.cell in (
  inr (
    s,
    had_once c.args.cell s s c.args.claimant.now.seat c.fetch.new.seat c.put_back.new.seat
        (subst (λ (x : LoopState). HasFetched c.args.cell x c.args.claimant.now.seat c.fetch.new.seat) (sym c.in-None.ensures.ended) c.in-Some.ensures.some.0)
        c.fetch.ensures.others c.put_back.ensures.back c.put_back.ensures.others,
    at_end c.args.shared.now c.args.cell s c.requires.cells c.advance_unless_ended-stepped.ensures.allowed c.in-None.ensures.end,
    refl,
  ),
  λ d. get_or-set_same c.args.claimant.now.ended.items c.args.cell true d (omega (arith, n, low)),
)
