-- What is remembered of the epochs so far is kept by one epoch more of the graph now.
use Rattle.std.proofs.Common.{◌≡◌, inl, inr, ℕ, ◌<◌, ◌≤◌, List, [], ◌∷◌, ◌++◌, length, Bool, true, false}
use Rattle.std.proofs.Common.{refl, sym, ◌∙◌, subst, arith, length-append}
use Rattle.std.proofs.lemmas.Option.{slice_get_within}
use Rattle.std.proofs.lemmas.Bool.{cases_eq, both_ways}
use Rattle.pw_graph.specs.declared.ids.PortId.{PortId}
use Rattle.pw_graph.specs.declared.plan.Epoch.{Epoch}
use Rattle.pw_graph.specs.declared.plan.Plan.{Plan}
use Rattle.pw_graph.specs.PlanForms.{HasForm}
use Rattle.pw_graph.specs.PlanFresh.{IsEpoch, Names, KeepsForms, KeepsSinks, IsTold}
use Rattle.port_model.specs.declared.port_state.Node.{Node}
use Rattle.port_model.specs.SoundPorts.{AreSoundNodes}
use Rattle.graph_lines.specs.declared.standing.Standing.{Standing}
use Rattle.graph_lines.specs.Activity.{standing}
use Rattle.graph_plan.specs.working.Remembering.{IsQuietFrom, Stands, IsLastNaming, Remembers, RemembersSinks}
use Rattle.graph_plan.specs.working.NextEpoch.{with_epoch, Changes, IsNext, KeepsSinksOn}
use Rattle.graph_plan.proofs.lists.PlaceLemmas.{parted, lifted, at_last, named_by}
use Rattle.graph_plan.proofs.sound.FormLemmas.{one_form}

module _ (plan : Plan) (nodes : List Node) (said after : List Standing) (e : Epoch) (sound : AreSoundNodes nodes)
    (old : Remembers plan nodes said) (next : IsNext plan nodes said after e) where
  -- a node that the new epoch does not name has not given up, and has the channels that were noted
  unnamed : (n : ℕ) → ((c : ℕ) → ¬ Names (with_epoch plan e) (length plan.epochs) n c)
      → ((standing said n).gave_up ≡ false) × ((standing after n).told ≡ (standing said n).told)
  unnamed n none = (quiet (standing said n).gave_up refl, same) where
    changed : Changes said after n → ⊥
    changed h = none (standing after n).told (at_last plan e n (standing after n).told (next.named n h))

    quiet : (b : Bool) → (standing said n).gave_up ≡ b → (standing said n).gave_up ≡ false
    quiet false d = d
    quiet true d = absurd (changed (inl d))

    same : (standing after n).told ≡ (standing said n).told
    same = elim (cases_eq (standing after n).told (standing said n).told) [
      | inl w ↦ w
      | inr w ↦ absurd (changed (inr w))
    ]

  -- a form of an old epoch holds, if its node was not named since
  stands : (i : ℕ) (f : Epoch) (port : PortId) (rate channels : ℕ) → IsEpoch plan i f → HasForm f port rate channels
      → IsQuietFrom (with_epoch plan e) i port.node → Stands nodes port rate channels
  stands i f port rate channels at has none =
      let l = slice_get_within plan.epochs i f at in
      old.kept i f port rate channels at has (λ k more b w. none k more b (lifted plan e k port.node more w))
      (unnamed port.node (λ c w. none (length plan.epochs) c l w)).0

  first_at : (i : ℕ) (f : Epoch) → IsEpoch (with_epoch plan e) i f → i < length plan.epochs → IsEpoch plan i f
  first_at i f at l = elim (parted plan.epochs e f i at) [ inl h ↦ h | inr h ↦ absurd (omega (arith, l, h.0)) ]

  new_forms : KeepsForms (with_epoch plan e)
  new_forms i j f g port rate channels rate' channels' before at here stays has has' =
      elim (parted plan.epochs e g j here) [
        | inl h ↦
            let l = slice_get_within plan.epochs j g h in
            old.forms i j f g port rate channels rate' channels' before (first_at i f at (omega (arith, before, l))) h
            (λ k more a b w. stays k more a b (lifted plan e k port.node more w)) has has'
        | inr h ↦
            let l : i < length plan.epochs = omega (arith, before, h.0) in
            let mine = stands i f port rate channels (first_at i f at l) has
            (λ k more a w. elim (named_by plan e k port.node more w) [
              | inl v ↦ let m = slice_get_within plan.epochs k v.epoch v.at in stays k more a (omega (arith, m, h.0)) w
              | inr v ↦ stays k more a (omega (arith, v.0, h.0)) w
            ]) in
            let its = next.forms port rate' channels'
            (subst (λ (x : Epoch). HasForm x port rate' channels') (sym h.1) has') in
            one_form nodes sound port rate channels rate' channels' mine.form its.form
      ]

  -- the last naming of a node's channels
  new_last : (n : ℕ) → 0 < (standing after n).told → IsLastNaming (with_epoch plan e) n (standing after n).told
  new_last n some = elim (cases_eq (standing after n).told (standing said n).told) [
    | inl w ↦ go (standing said n).gave_up refl w
    | inr w ↦ ended (inr w)
  ] where
    ended : Changes said after n → IsLastNaming (with_epoch plan e) n (standing after n).told
    ended h = record {
      epoch = length plan.epochs;
      names = at_last plan e n (standing after n).told (next.named n h);
      last = λ j more b w. elim (named_by plan e j n more w) [
        | inl v ↦ let m = slice_get_within plan.epochs j v.epoch v.at in absurd (omega (arith, m, b))
        | inr v ↦ absurd (omega (arith, v.0, b))
      ];
    }

    go : (b : Bool) → (standing said n).gave_up ≡ b → (standing after n).told ≡ (standing said n).told
        → IsLastNaming (with_epoch plan e) n (standing after n).told
    go true d same = ended (inl d)
    go false d same =
        let was = old.last n (subst (λ (c : ℕ). 0 < c) same some) in
        record {
          epoch = was.epoch;
          names = lifted plan e was.epoch n (standing after n).told (subst (Names plan was.epoch n) (sym same) was.names);
          last = λ j more b w. elim (named_by plan e j n more w) [
            | inl v ↦ was.last j more b v
            | inr v ↦ elim (next.only n more v.1).1 [
              | inl g ↦ absurd (both_ways (standing said n).gave_up d g)
              | inr c ↦ absurd (c same)
            ]
          ];
        }

  new_told : IsTold (with_epoch plan e)
  new_told j f node rate channels at inputs has = elim (parted plan.epochs e f j at) [
    | inl h ↦
        let l = slice_get_within plan.epochs j f h in
        let was = old.told j f node rate channels h inputs has in (
          was.0,
          was.1,
          lifted plan e was.0 node channels was.2,
          λ k more a b w. elim (named_by plan e k node more w) [
            | inl v ↦ was.3 k more a b v
            | inr v ↦ absurd (omega (arith, v.0, b, l))
          ],
        )
    | inr h ↦
        let first = next.first node rate channels inputs
        (subst (λ (x : Epoch). HasForm x (record { node = node; port = 0 }) rate channels) (sym h.1) has) in
        let last = new_last node (subst (λ (c : ℕ). 0 < c) (sym first.0) first.1) in
        let m = slice_get_within (plan.epochs ++ e ∷ []) last.epoch last.names.epoch last.names.at in (
          last.epoch,
          within last.epoch m h.0,
          subst (Names (with_epoch plan e) last.epoch node) first.0 last.names,
          λ k more a b w. last.last k more a w,
        )
  ] where
    within : (k : ℕ) → k < length (plan.epochs ++ e ∷ []) → j ≡ length plan.epochs → k ≤ j
    within k m q = let both = length-append plan.epochs (e ∷ []) in omega (arith, m, q, both)

  -- ONE EPOCH MORE
  pub remembers_more : Remembers (with_epoch plan e) nodes after
  remembers_more = record {
    kept = λ i f port rate channels at has none quiet. elim (parted plan.epochs e f i at) [
      | inl h ↦ stands i f port rate channels h has none
      | inr h ↦ next.forms port rate channels (subst (λ (x : Epoch). HasForm x port rate channels) (sym h.1) has)
    ];
    last = new_last;
    forms = new_forms;
    told = new_told;
  }

  module _ (held : RemembersSinks plan nodes said) (on : KeepsSinksOn plan nodes said after e) where
    new_sinks : KeepsSinks (with_epoch plan e)
    new_sinks i j f port rate channels more before at kind has w = elim (named_by plan e j port.node more w) [
      | inl v ↦
          let m = slice_get_within plan.epochs j v.epoch v.at in
          held.sinks i j f port rate channels more before (first_at i f at (omega (arith, before, m))) kind has v
      | inr v ↦
          let was = held.forms i f port rate channels (first_at i f at (omega (arith, before, v.0))) kind has in
          let now = on.still port rate channels kind was in
          elim (next.only port.node more v.1).1 [
            | inl g ↦ both_ways (standing said port.node).gave_up was.quiet g
            | inr c ↦ c (now.told ∙ sym was.told)
          ]
    ]

    pub sinks_more : RemembersSinks (with_epoch plan e) nodes after
    sinks_more = record {
      forms = λ i f port rate channels at kind has. elim (parted plan.epochs e f i at) [
        | inl h ↦ on.still port rate channels kind (held.forms i f port rate channels h kind has)
        | inr h ↦ on.formed port rate channels kind (subst (λ (x : Epoch). HasForm x port rate channels) (sym h.1) has)
      ];
      sinks = new_sinks;
    }
