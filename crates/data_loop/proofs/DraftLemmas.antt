-- A loop that is being made has one epoch more.
use Rattle.std.proofs.Common.{◌≡◌, ℕ, ◌+◌, List, [], ◌∷◌, ◌++◌, length, map, refl, sym, ap, ◌∙◌, subst, arith, length-append}
use Rattle.std.specs.Vec.Iter.{into_iter_items}
use Rattle.std.proofs.lemmas.List.{append_assoc, length-map, map-append}
use Rattle.pw_graph.specs.declared.plan.Plan.{Plan}
use Rattle.board_rule.specs.Known.{Known}
use Rattle.data_loop.specs.declared.draft.LoopDraft.{LoopDraft}
use Rattle.data_loop.specs.declared.epoch_state.EpochState.{EpochState}
use Rattle.data_loop.specs.Drafts.{HasFirst, used}
use Rattle.data_loop.specs.EpochStateParts.{IsFirstEpochState, AreFirstEpochStates}
use Rattle.data_loop.proofs.StartLemmas.{one_epoch_state}

pub one_more : (plan : Plan) (nodes : List ℕ) (seats : List Known) (n : ℕ) (d e : LoopDraft) (seat : Known) (g : EpochState)
    → e.nodes ≡ d.nodes → e.epoch_states ≡ d.epoch_states ++ g ∷ [] → into_iter_items d.seats ≡ seat ∷ into_iter_items e.seats
    → IsFirstEpochState plan d.nodes (length d.epoch_states) seat g → HasFirst plan nodes seats n d
    → HasFirst plan nodes seats (n + 1) e
one_more plan nodes seats n d e seat g same more rest is has =
    let long = length-map d.epoch_states (λ (x : EpochState). x.seat) in let left : List Known = into_iter_items e.seats in
    let grown = ap (λ (l : List EpochState). length l) more in let by = length-append d.epoch_states (g ∷ []) in let count = has.count in
    let seats_e : used e ≡ used d ++ g.seat ∷ [] = ap (map (λ (x : EpochState). x.seat)) more
    ∙ map-append (λ (x : EpochState). x.seat) d.epoch_states (g ∷ []) in record {
      nodes_are = same ∙ has.nodes_are;
      seats_are = ap (λ (l : List Known). l ++ left) seats_e ∙ (append_assoc (used d) (g.seat ∷ []) left
          ∙ (ap (λ (s : Known). used d ++ s ∷ left) is.seat_is ∙ (ap (λ (l : List Known). used d ++ l) (sym rest) ∙ has.seats_are)));
      count = omega (arith, grown, by, count);
      made = subst (λ (x : List Known × List EpochState). AreFirstEpochStates plan nodes x.0 x.1) (λ i. (sym seats_e i, sym more i))
          (one_epoch_state plan nodes (used d) d.epoch_states g.seat g has.made
          (subst (λ k. IsFirstEpochState plan nodes k g.seat g) (sym long)
          (subst (λ (l : List ℕ). IsFirstEpochState plan l (length d.epoch_states) g.seat g) has.nodes_are
          (record { seat_is = refl; parts = is.parts }))));
    }
