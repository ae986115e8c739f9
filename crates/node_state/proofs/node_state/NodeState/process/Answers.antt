use Rattle.std.proofs.Common.{◌≡◌, ◌∙◌, ◌+◌, ◌*◌, ◌≤◌, List, ℤ, length, sym, ap, subst, arith, ℕ}
use Rattle.pw_graph.specs.KindFunction.{kind_output}
use Rattle.node_state.specs.States.{kind_of, stream_of}
use Rattle.node_state.specs.working.Steps.{given_by}
use Rattle.node_state.specs.Streams.{Joins, followed}
use Rattle.node_state.proofs.SliceLemmas.{quantum_fits, brings_few, left_whole, right_whole}
use Rattle.node_state.proofs.GivenLemmas.{gained, last_gained, joined}
use Rattle.node_state.proofs.KeptLemmas.{keeps_on, stream_on, room_on}
use Rattle.node_state.proofs.node_state.NodeState.process.Goals as goal

pub process-requires-clause-slices : goal.process-requires-clause-slices
process-requires-clause-slices c =
    quantum_fits c.args.self.now c.args.a.now c.args.b.now c.args.left.now c.args.right.now c.requires.slices c.requires.frames

pub invariant_of-self : goal.invariant_of-self
invariant_of-self c =
    let s = c.args.self.now in
    let t = c.process.new.self in
    let sum : s.frames + s.quantum ≡ s.frames + c.from.result = ap (λ n. s.frames + n) (sym c.from.ensures) in
    record {
      quantum_range = s.quantum_range;
      channels_range = s.channels_range;
      most_range = s.most_range;
      frames_range = omega (arith, sum, c.requires.frames);
      stream = let P : ℕ → Type 0 = λ n. length (stream_of t) ≤ n * s.channels in
          subst P sum (stream_on s t c.args.a.now c.args.b.now c.args.left.now c.args.right.now c.requires.slices c.process.ensures.state);
      room = room_on s.state t s.quantum s.most s.prepared c.args.a.now c.process.ensures.state s.room;
    }

pub returns-clause-left : goal.returns-clause-left
returns-clause-left c = λ h stands.
    let s = c.args.self.now in
    let a = c.args.a.now in
    let b = c.args.b.now in
    let left = c.args.left.now in
    let can = quantum_fits s a b left c.args.right.now c.requires.slices c.requires.frames in
    let few = brings_few s a b c.args.left.now c.args.right.now c.requires.slices in
    let within : h.frames + s.quantum ≤ s.prepared = omega (arith, stands.0, c.requires.frames) in
    let whole = kind_output (kind_of s.state) (followed s.quantum a b h) 0 in
    c.process.ensures.left
    ∙ last_gained (length left) (kind_output (kind_of s.state) h 0) (given_by s.state s.quantum a b 0) whole
    (left_whole s.state s.quantum a b left c.args.right.now can)
    (gained s.state s.channels s.prepared s.quantum a b left c.args.right.now h 0 (omega arith) within few can stands.1)

pub returns-clause-right : goal.returns-clause-right
returns-clause-right c = λ h stands.
    let s = c.args.self.now in
    let a = c.args.a.now in
    let b = c.args.b.now in
    let right = c.args.right.now in
    let can = quantum_fits s a b c.args.left.now right c.requires.slices c.requires.frames in
    let few = brings_few s a b c.args.left.now c.args.right.now c.requires.slices in
    let within : h.frames + s.quantum ≤ s.prepared = omega (arith, stands.0, c.requires.frames) in
    let whole = kind_output (kind_of s.state) (followed s.quantum a b h) 1 in
    c.process.ensures.right
    ∙ last_gained (length right) (kind_output (kind_of s.state) h 1) (given_by s.state s.quantum a b 1) whole
    (right_whole s.state s.quantum a b c.args.left.now right can)
    (gained s.state s.channels s.prepared s.quantum a b c.args.left.now right h 1 (omega arith) within few can stands.1)

pub returns-clause-stands : goal.returns-clause-stands
returns-clause-stands c = λ h stands.
    let s = c.args.self.now in
    let a = c.args.a.now in
    let b = c.args.b.now in
    let few = brings_few s a b c.args.left.now c.args.right.now c.requires.slices in
    let can = quantum_fits s a b c.args.left.now c.args.right.now c.requires.slices c.requires.frames in (
      omega (arith, stands.0, c.from.ensures),
      keeps_on s.state c.process.new.self s.channels s.prepared s.quantum a b c.args.left.now c.args.right.now h can few c.process.ensures.state
          stands.1,
    )

pub returns-clause-joins_left : goal.returns-clause-joins_left
returns-clause-joins_left c = λ h stands.
    let s = c.args.self.now in
    let a = c.args.a.now in
    let b = c.args.b.now in
    let left = c.args.left.now in
    let can = quantum_fits s a b left c.args.right.now c.requires.slices c.requires.frames in
    let few = brings_few s a b c.args.left.now c.args.right.now c.requires.slices in
    let within : h.frames + s.quantum ≤ s.prepared = omega (arith, stands.0, c.requires.frames) in
    let after = followed s.quantum a b h in
    let P : List ℤ → Type 0 = λ new. Joins (kind_of s.state) h after 0 new in
    subst P (sym c.process.ensures.left)
    (joined (length left) (kind_of s.state) h after 0 (given_by s.state s.quantum a b 0)
    (left_whole s.state s.quantum a b left c.args.right.now can)
    (gained s.state s.channels s.prepared s.quantum a b left c.args.right.now h 0 (omega arith) within few can stands.1))

pub returns-clause-joins_right : goal.returns-clause-joins_right
returns-clause-joins_right c = λ h stands.
    let s = c.args.self.now in
    let a = c.args.a.now in
    let b = c.args.b.now in
    let right = c.args.right.now in
    let can = quantum_fits s a b c.args.left.now right c.requires.slices c.requires.frames in
    let few = brings_few s a b c.args.left.now c.args.right.now c.requires.slices in
    let within : h.frames + s.quantum ≤ s.prepared = omega (arith, stands.0, c.requires.frames) in
    let after = followed s.quantum a b h in
    let P : List ℤ → Type 0 = λ new. Joins (kind_of s.state) h after 1 new in
    subst P (sym c.process.ensures.right)
    (joined (length right) (kind_of s.state) h after 1 (given_by s.state s.quantum a b 1)
    (right_whole s.state s.quantum a b c.args.left.now right can)
    (gained s.state s.channels s.prepared s.quantum a b c.args.left.now right h 1 (omega arith) within few can stands.1))
