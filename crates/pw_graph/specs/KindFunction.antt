-- The kind function: the output of a node at a port, as a function of everything that its inputs
-- ever received.
-- Source: the graph's nodes of PipeWire's documentation, "Graph Scheduling"; the kinds are this
-- project's.
use Rattle.std.specs.Prelude.{ℕ, ◌*◌, ◌%◌, List, [], ◌∷◌, ◌++◌, map, length, take, zip, ℤ, neg_ℤ, nat_lt, if◌then◌else◌}
use Rattle.pw_graph.specs.declared.kind.Kind.{Kind}
use Rattle.pw_graph.specs.declared.kind.Kind.TheVariants.{Source, Square, Gain, Mix2, Delay, Map, Split, Sink, Meter, Dummy}
use Rattle.pw_lists.specs.Samples.{scaled, mixed, silence, of_frames, picked}

-- what a node has received: its file, the frames for which it was active, its output's channels,
-- its inputs' streams
pub record KindInputs : Type 0 where
  pub wave : List ℤ
  pub frames : ℕ
  pub channels : ℕ
  pub a : List ℤ
  pub b : List ℤ

-- frame i of a square wave: the amplitude in the first half of each period, its negative in the
-- second
abbrev pub square_at : ℕ → ℤ → ℕ → ℤ
square_at period amp i = if nat_lt (2 * (i % period)) period then amp else neg_ℤ amp

-- the whole stream at an output, outputs counted from 0
abbrev pub kind_output : Kind → KindInputs → ℕ → List ℤ
kind_output Source h output = take (h.frames * h.channels)
    (h.wave ++ silence (h.frames * h.channels))
kind_output (Square rate channels period amp) h output = of_frames h.frames h.channels
    (λ i j. square_at period amp i)
kind_output (Gain g) h output = map (scaled g) h.a
kind_output (Mix2 ga gb) h output = map (λ p. mixed ga gb p.0 p.1) (zip h.a h.b)
kind_output (Delay frames) h output = take (length h.a) (silence (frames * h.channels) ++ h.a)
kind_output (Map channels list) h output = picked channels list h.a
kind_output Split h output = picked 2 (output ∷ []) h.a
kind_output Sink h output = []
kind_output Meter h output = []
kind_output Dummy h output = []
