-- Each advance stores a number of 64 bits.
use Rattle.std.proofs.Common.{ℕ, ℤ, suc, ◌+◌, ◌*◌, ◌^◌, ◌<◌, ◌≤◌, ⊎_elim, Bool, true, false, cond, List, [], ◌∷◌, length, get_or, sym}
use Rattle.std.proofs.Common.{subst, arith, max}
use Rattle.std.specs.Prelude.{pos, neg_ℤ, ◌≤ℤ◌, All, filter, fold}
use Rattle.std.specs.Int.{w16, cast_unsigned}
use Rattle.std.proofs.lemmas.Int.{ints}
use Rattle.std.proofs.lemmas.List.{get_or_past}
use Rattle.std.proofs.lemmas.Bool.{cases_lt}
use Rattle.std.proofs.lemmas.Nat.{or_lt, pow_below}
use Rattle.std.proofs.lemmas.List.Elements.{All-head, All-tail}
use Rattle.pw_graph.specs.declared.event.Event.{Event}
use Rattle.pw_graph.specs.declared.event.Event.TheVariants.{Begin, Start, Finish, Tick, End}
use Rattle.pw_graph.specs.EventWords.{event_word_of, event_node, event_cycle}
use Rattle.pw_lists.specs.Limits.{dummy_node}
use Rattle.pw_graph.specs.declared.shape.ShapeLink.{ShapeLink}
use Rattle.pw_graph.specs.Pools.{asked}
use Rattle.board_rule.specs.declared.view.Found.{Found}
use Rattle.board_rule.specs.declared.view.NodeView.{NodeView}
use Rattle.board_rule.specs.declared.view.DriverView.{DriverView}
use Rattle.board_rule.specs.declared.view.Phase.{Phase}
use Rattle.board_rule.specs.declared.view.Phase.TheVariants.{Idle, Awake, StartDrawn, Running, Done, FinishDrawn, Telling}
use Rattle.board_rule.specs.declared.view.DriverPhase.{DriverPhase}
use Rattle.board_rule.specs.declared.view.DriverPhase.TheVariants as drives
use Rattle.board_rule.specs.buffers.SampleWords.{packed}
use Rattle.board_rule.specs.events.EventSteps.{node_tells, lead_tells, late_of}

event_fits : (e : Event) → event_node e ≤ 63 → event_cycle e < 4294967296 → event_word_of e < 18446744073709551616
event_fits (Begin c) a b = omega arith
event_fits (Start c n) a b = omega arith
event_fits (Finish c n) a b = omega arith
event_fits (Tick c l) a b = omega arith
event_fits (End c) a b = omega arith

pub node_event_fits : (x : NodeView) (n : ℕ) (f : Phase) → n ≤ 63 → x.next < 4294967296 → event_word_of (node_tells x n f) < 18446744073709551616
node_event_fits x n Idle a b = event_fits (Finish x.next n) a b
node_event_fits x n Awake a b = event_fits (Finish x.next n) a b
node_event_fits x n StartDrawn a b = event_fits (Start x.next n) a b
node_event_fits x n Running a b = event_fits (Finish x.next n) a b
node_event_fits x n Done a b = event_fits (Finish x.next n) a b
node_event_fits x n FinishDrawn a b = event_fits (Finish x.next n) a b
node_event_fits x n (Telling i o) a b = event_fits (Finish x.next n) a b

pub lead_event_fits : (x : DriverView) (n : ℕ) (d : DriverPhase) → n ≤ 63 → x.cycle < 4294967296 → event_word_of (lead_tells x n d) < 18446744073709551616
lead_event_fits x n drives.BeginDrawn a b = event_fits (Begin x.cycle) (omega arith) b
lead_event_fits x n drives.LateStored a b = event_fits (Tick x.cycle 0) (omega arith) b
lead_event_fits x n drives.StartDrawn a b = event_fits (Start x.cycle n) a b
lead_event_fits x n drives.FinishDrawn a b = event_fits (Finish x.cycle n) a b
lead_event_fits x n drives.Between a b = event_fits (End x.cycle) (omega arith) b
lead_event_fits x n (drives.Reset i) a b = event_fits (End x.cycle) (omega arith) b
lead_event_fits x n (drives.Half i) a b = event_fits (End x.cycle) (omega arith) b
lead_event_fits x n (drives.Kick i o) a b = event_fits (End x.cycle) (omega arith) b
lead_event_fits x n drives.Waiting a b = event_fits (End x.cycle) (omega arith) b
lead_event_fits x n drives.Checking a b = event_fits (End x.cycle) (omega arith) b
lead_event_fits x n drives.Awake a b = event_fits (End x.cycle) (omega arith) b
lead_event_fits x n drives.Running a b = event_fits (End x.cycle) (omega arith) b
lead_event_fits x n drives.Done a b = event_fits (End x.cycle) (omega arith) b
lead_event_fits x n drives.FinishStored a b = event_fits (End x.cycle) (omega arith) b
lead_event_fits x n drives.EndDrawn a b = event_fits (End x.cycle) (omega arith) b

-- a sample word
abbrev pub IsShort : ℤ → Type 0
IsShort s = (neg_ℤ (pos 32768) ≤ℤ s) × (s ≤ℤ pos 32767)

short_at : (xs : List ℤ) (j : ℕ) → All IsShort xs → IsShort (get_or xs j (pos 0))
short_at xs j h = ⊎_elim (λ l. h j (pos 0) l) (λ r. subst IsShort (sym (get_or_past xs j (pos 0) r))
    (omega (arith, ints), omega (arith, ints))) (cases_lt j (length xs))

short_bits : (z : ℤ) → IsShort z → cast_unsigned w16 z < 65536
short_bits z h = let low = h.0 in let high = h.1 in omega (arith, ints)

pub packed_fits : (xs : List ℤ) (i : ℕ) → All IsShort xs → packed xs i < 18446744073709551616
packed_fits xs i h = let a = short_bits _ (short_at xs (4 * i) h) in let b = short_bits _ (short_at xs (4 * i + 1) h) in
    let c = short_bits _ (short_at xs (4 * i + 2) h) in let d = short_bits _ (short_at xs (4 * i + 3) h) in omega arith

-- a late set
power_fits : (n : ℕ) → n ≤ 63 → 2 ^ n < 2 ^ 64
power_fits n h = pow_below n 64 (omega arith)

late_by : (b : Bool) (x y : ℕ) → x < 2 ^ 64 → y < 2 ^ 64 → cond b x y < 2 ^ 64
late_by true x y a b = a
late_by false x y a b = b

pub late_fits : (c : ℕ) (fs : List Found) → All (λ f. f.node ≤ dummy_node) fs → late_of c fs < 2 ^ 64
late_fits c [] h = omega arith
late_fits c (f ∷ fs) h = let rest = late_fits c fs (All-tail (λ z. z.node ≤ dummy_node) f fs h) in
    late_by _ (late_of c fs) _ rest (or_lt 64 (late_of c fs) (2 ^ f.node) rest (power_fits f.node (All-head (λ z. z.node ≤ dummy_node) f fs h)))

-- a block's number
asked_most : (b : Bool) (n : ℕ) → n ≤ 8 → cond b (max 2 n) n ≤ 8
asked_most true n h = omega arith
asked_most false n h = h

pub blocks_most : (a : ℕ) (ls : List ShapeLink) → a ≤ 8 → All (λ l. l.buffers ≤ 8) ls → fold (λ top l. max top (asked l)) a ls ≤ 8
blocks_most a [] low h = low
blocks_most a (l ∷ ls) low h = let one = asked_most l.delayed l.buffers (All-head (λ z. z.buffers ≤ 8) l ls h) in
    blocks_most (max a (asked l)) ls (omega arith) (All-tail (λ z. z.buffers ≤ 8) l ls h)

-- no more pass than there are
pub few_pass : {X : Type 0} (t : X → Bool) (xs : List X) → length (filter t xs) ≤ length xs
few_pass t [] = omega arith
few_pass t (x ∷ xs) = by (t x) (few_pass t xs)
  where
    by : (b : Bool) → length (filter t xs) ≤ length xs → length (cond b (x ∷ filter t xs) (filter t xs)) ≤ suc (length xs)
    by true h = omega arith
    by false h = omega arith
