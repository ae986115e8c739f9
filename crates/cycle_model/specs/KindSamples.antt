-- The kind function by index: one sample of the whole stream at an output, and how long that stream
-- is.
-- Source: this project's table of nodes; pw_graph's kind function says the same by whole streams.
use Rattle.std.specs.Prelude.{ℕ, ◌-◌, ◌*◌, ◌/◌, ◌%◌, min, List, length, ℤ, pos, nat_lt, slice_index, slice_index_or, if◌then◌else◌}
use Rattle.pw_graph.specs.declared.kind.Kind.{Kind}
use Rattle.pw_graph.specs.declared.kind.Kind.TheVariants.{Source, Square, Gain, Mix2, Delay, Map, Split, Sink, Meter, Dummy}
use Rattle.pw_lists.specs.Samples.{scaled, mixed, sample_at}
use Rattle.pw_graph.specs.KindFunction.{KindInputs, square_at}
use Rattle.cycle_model.specs.declared.received.Received.{Received}

-- what a node has to work with: its wave, and what it has received
abbrev pub kind_inputs_of : List ℤ → ℕ → Received → KindInputs
kind_inputs_of wave channels r = record {
  wave = wave;
  frames = r.frames;
  channels = channels;
  a = r.a;
  b = r.b;
}

-- sample i at an output, outputs counted from 0
abbrev pub kind_sample : Kind → KindInputs → ℕ → ℕ → ℤ
kind_sample Source h output i = slice_index_or h.wave i (pos 0)
kind_sample (Square rate channels period amp) h output i = square_at period amp (i / h.channels)
kind_sample (Gain g) h output i = scaled g (slice_index_or h.a i (pos 0))
kind_sample (Mix2 ga gb) h output i = mixed ga gb (slice_index_or h.a i (pos 0))
    (slice_index_or h.b i (pos 0))
kind_sample (Delay frames) h output i = if nat_lt i (frames * h.channels) then pos 0
    else slice_index_or h.a (i - frames * h.channels) (pos 0)
kind_sample (Map channels list) h output i =
    sample_at channels h.a (i / length list) (slice_index list (i % length list))
kind_sample Split h output i = sample_at 2 h.a i output
kind_sample Sink h output i = pos 0
kind_sample Meter h output i = pos 0
kind_sample Dummy h output i = pos 0

-- how many samples there are
abbrev pub kind_length : Kind → KindInputs → ℕ
kind_length Source h = h.frames * h.channels
kind_length (Square rate channels period amp) h = h.frames * h.channels
kind_length (Gain g) h = length h.a
kind_length (Mix2 ga gb) h = min (length h.a) (length h.b)
kind_length (Delay frames) h = length h.a
kind_length (Map channels list) h = length h.a / channels * length list
kind_length Split h = length h.a / 2
kind_length Sink h = 0
kind_length Meter h = 0
kind_length Dummy h = 0
