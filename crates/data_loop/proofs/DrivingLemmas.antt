-- From step to step of the driver's turn.
use Rattle.std.proofs.Common.{◌≡◌, ℕ, ◌+◌, ◌*◌, ◌<◌, ◌≤◌, true, List, length, refl, sym, ap, ◌∙◌, subst}
use Rattle.std.proofs.Common.{nat_lt, cond}
use Rattle.std.specs.Prelude.{slice_index_or}
use Rattle.std.proofs.lemmas.List.{get_or_default}
use Rattle.pw_graph.specs.declared.shape.Shape.{Shape}
use Rattle.pw_graph.specs.Layout.{event_count}
use Rattle.pw_graph.specs.KindPorts.{input_count}
use Rattle.pw_graph.specs.PlanForms.{kind_at}
use Rattle.board_rule.specs.declared.board_shape.BoardShape.{BoardShape}
use Rattle.board_rule.specs.declared.view.DriverPhase.TheVariants.{FinishStored}
use Rattle.board_rule.specs.declared.view.ReadView.{ReadView}
use Rattle.board_rule.specs.declared.view.View.{View}
use Rattle.board_rule.specs.Layout.{BoardLayout, layout_of, nodes}
use Rattle.board_rule.specs.buffers.EndViews.{read_of, link_at}
use Rattle.board_rule.specs.activation.SeatNodes.{HasNode}
use Rattle.board_rule.specs.activation.WorkSteps.{untold, IsReadyToFinish}
use Rattle.board_rule.proofs.buffers.WiredLemmas.{wired}
use Rattle.board_rule.proofs.buffers.HolderLemmas.{link_there}
use Rattle.activation_words.specs.Calls.{started, worked, HasFinished}
use Rattle.io_areas.specs.PooledBoard.{IsPooledBoard}
use Rattle.io_areas.specs.Ends.{IsReadUpTo}
use Rattle.node_progress.specs.declared.run_model.RunModel.{RunModel}
use Rattle.node_progress.specs.Standing.{wide_at}
use Rattle.node_progress.proofs.FitsOutputLemmas.{now_is}
use Rattle.data_loop.specs.declared.inputs.Input.{Input}
use Rattle.data_loop.specs.declared.member.Member.{Member}
use Rattle.data_loop.specs.turns.Ends.{reads_of}
use Rattle.data_loop.specs.working.ReadingInputs.{MayReadAll, AreRead}
use Rattle.data_loop.specs.working.Inputs.{AreLong, IsWide}
use Rattle.data_loop.specs.Gathering.{inputs_of}
use Rattle.data_loop.specs.Members.{input_width}
use Rattle.data_loop.proofs.turns.EndsLemmas.{read_by, reads_it, reads_once}
use Rattle.data_loop.proofs.turns.ReadingInputsLemmas.{read_moves}
use Rattle.data_loop.proofs.PlayLemmas.{few_inputs, all_long, all_wide}
use Rattle.data_loop.specs.Driving.{IsDriverRead, HasNoLinkIn, MayDrive, IsDriverPlayer, HasDriven}

module _ (board_shape : BoardShape) (plain : IsPooledBoard (layout_of board_shape)) (v : View) (c t : ℕ)
    (may : MayDrive (layout_of board_shape) v c) where
  abbrev p : BoardLayout
  p = layout_of board_shape

  abbrev begun : View
  begun = started true v p.driver t

  abbrev links : List ℕ
  links = reads_of p.shape p.shape.driver

  inside : p.driver < nodes p
  inside = may.node.2

  begun_even : IsDriverRead p begun c
  begun_even k low is = read_moves v begun k c refl refl refl (may.even k low is)

  pub may_read : MayReadAll true p begun links
  may_read = (
    (λ k d low. let l : ℕ = slice_index_or links k d in
        let h = read_by p plain p.shape.driver inside l (k, low, get_or_default links k l d low) in record {
          inside = h.0;
          has = subst (HasNode true p begun) (sym h.1) may.node;
          runs = refl;
          even = subst (IsReadUpTo begun l) (sym may.cycle) (begun_even l h.0 h.1);
        }),
    reads_once p plain p.shape.driver inside,
  )

  -- a node without a link has read all
  pub none_read : HasNoLinkIn p → AreRead true p begun links begun
  none_read none = record {
    same = refl;
    ends = refl;
    words = refl;
    read = λ l i. let h = read_by p plain p.shape.driver inside l i in absurd (none l h.0 h.1);
    others = λ l o. refl;
  }

  module _ (w : View) (read : AreRead true p begun links w) where
    even_after : IsDriverRead p w (c + 1)
    even_after k low e = subst (λ m. IsReadUpTo w k (m + 1)) may.cycle
        (read.read k (reads_it p plain p.shape.driver inside k low e))

    same_cycle : w.lead.cycle ≡ v.lead.cycle
    same_cycle = ap (λ (x : View). x.lead.cycle) read.same

    pub ready : IsReadyToFinish true p w p.driver
    ready = (
      subst (λ (x : View). HasNode true p x p.driver) (sym read.same) may.node,
      ap (λ (x : View). x.lead.drive) read.same,
      (
        (λ l low e. absurd ((wired p plain.sound plain.pooled).from_follows l (link_at p l) (link_there p l low) e)),
        (λ l low e. (even_after l low e).stored ∙ ap (λ m. m + 1) (sym (same_cycle ∙ may.cycle))),
      ),
    )

    module _ (drawn : t < event_count p.shape) (x : View) (over : HasFinished true p w p.driver x) where
      -- the view by its tickets and what it has read
      abbrev after : ℕ → ℕ → List ReadView → List ℕ → View
      after s f rs hs = record v {
        lead = record v.lead { drive = FinishStored; start = s; finish = f };
        reads = rs;
        words_read = hs;
        trail = untold v.trail;
      }

      is_after : x ≡ after t over.0 w.reads w.words_read
      is_after = over.2 ∙ ap (λ (y : View). worked true y p.driver over.0) read.same

      rs : x.reads ≡ w.reads
      rs = ap (λ (y : View). y.reads) is_after

      hs : x.words_read ≡ w.words_read
      hs = ap (λ (y : View). y.words_read) is_after

      from : x.lead.start ≡ t
      from = ap (λ (y : View). y.lead.start) is_after

      to : x.lead.finish ≡ over.0
      to = ap (λ (y : View). y.lead.finish) is_after

      pub driven : HasDriven p v c x
      driven = record {
        cycle = ap (λ (y : View). y.lead.cycle) is_after ∙ may.cycle;
        even = λ k low e. read_moves w x k (c + 1) (ap (λ (y : List ReadView). length y) rs) (ap (λ (y : List ℕ). length y) hs)
            (ap (λ (y : View). read_of y k) (is_after) ∙ refl) (even_after k low e);
        others = λ l o. ap (λ (y : View). read_of y l) is_after
            ∙ read.others l (λ i. o (read_by p plain p.shape.driver inside l i).1);
        ends = ap (λ (y : List ReadView). length y) rs ∙ read.ends;
        words = ap (λ (y : List ℕ). length y) hs ∙ read.words;
        drawn = (subst (λ m. m < event_count p.shape) (sym from) drawn, subst (λ m. m < event_count p.shape) (sym to) over.1);
        is = is_after ∙ (λ i. after (sym from i) (sym to i) (sym rs i) (sym hs i));
      }

-- the member of the driver's node fits the board
module _ (run_model : RunModel) (p : BoardLayout) (pooled : IsPooledBoard p) (v : View) (k c : ℕ) (m : Member)
    (x : IsDriverPlayer run_model p v k c m) where
  pub inputs_are : m.inputs ≡ inputs_of p.shape m.node
  inputs_are = ap (λ (y : Member). y.inputs) x.member ∙ ap (λ (s : Shape). inputs_of s m.node) (sym x.shape)

  pub few : length m.inputs ≤ 256
  few = subst (λ (l : List Input). length l ≤ 256) (sym (ap (λ (y : Member). y.inputs) x.member))
      (few_inputs run_model k c m.node x.works)

  abbrev first_is : m.first_width ≡ input_width run_model.plan.value x.works.epoch m.node 0
  first_is = ap (λ (y : Member). y.first_width) x.member

  abbrev second_is : m.second_width ≡ input_width run_model.plan.value x.works.epoch m.node 1
  second_is = ap (λ (y : Member). y.second_width) x.member

  wide : (i : ℕ) → input_width run_model.plan.value x.works.epoch m.node i ≡ wide_at run_model.plan.value c m.node i
  wide i = ap (λ n. cond (nat_lt i (input_count (kind_at run_model.plan.value m.node))) (run_model.plan.value.quantum * n) 0)
      (sym (now_is run_model k c m.node x.works i))

  pub first_wide : m.first_width ≡ wide_at run_model.plan.value c m.node 0
  first_wide = first_is ∙ wide 0

  pub second_wide : m.second_width ≡ wide_at run_model.plan.value c m.node 1
  second_wide = second_is ∙ wide 1

  pub long : AreLong p m.first_width m.inputs
  long = subst (λ (y : ℕ × List Input). AreLong p y.0 y.1) (λ i. (sym first_is i, sym inputs_are i))
      (all_long run_model k c m.node x.works p pooled x.shape)

  pub second_fits : IsWide m.first_width m.second_width m.inputs
  second_fits = subst (λ (y : ℕ × ℕ × List Input). IsWide y.0 y.1 y.2) (λ i. (sym first_is i, sym second_is i, sym inputs_are i))
      (all_wide run_model k c m.node x.works p pooled x.shape)
