-- The options of `run`, after its script: each at most once, in any order, its value as the next
-- word. What the words so far say, one after the other.
-- Source: this project's own grammar, docs/FORMATS.md.
use Rattle.std.specs.Prelude.{ℕ, ◌≤◌, ◌+◌, ◌&&◌, Bool, true, false, not, if◌then◌else◌, List, codes, bytes_eq, fold, Option, Some, None, IfSome, is_none, Result, Ok, Err}
use Rattle.ready_queues.specs.Lanes.{loops_limit}
use Rattle.graph_script.specs.Arguments.{number_of}
use Rattle.pw_top.specs.declared.options.Options.{Options}
use Rattle.pw_top.specs.declared.options.ParsedOptions.{ParsedOptions}
use Rattle.pw_top.specs.declared.options.ParsedOptions.TheVariants.{Whole, WantsLoops, WantsTicks, Fault}

abbrev pub no_options : Options
no_options = record { loops = None; ticks = None; trace = false; steal = false }

-- how many words say them: an option with a value has two
abbrev pub words_for : Option ℕ → ℕ
words_for None = 0
words_for (Some value) = 2

abbrev pub words_for_flag : Bool → ℕ
words_for_flag true = 1
words_for_flag false = 0

-- the index of the word after them, which `run` and the script are before
abbrev pub place_after : Options → ℕ
place_after o = 2 + words_for o.loops + words_for o.ticks
    + (words_for_flag o.trace + words_for_flag o.steal)

-- an option begins, which was not there before; `--trace` and `--steal` have no value
abbrev pub begun : Options → List ℕ → ParsedOptions
begun o word =
    if bytes_eq word (codes "--loops") && is_none o.loops then WantsLoops o
    else (if bytes_eq word (codes "--ticks") && is_none o.ticks then WantsTicks o
    else (if bytes_eq word (codes "--trace") && not o.trace
    then Whole (record o { trace = true })
    else (if bytes_eq word (codes "--steal") && not o.steal
    then Whole (record o { steal = true })
    else Fault (place_after o))))

-- a value is read
abbrev pub loops_given : Options → Option ℕ → ParsedOptions
loops_given o None = Fault (place_after o + 1)
loops_given o (Some n) = Whole (record o { loops = Some n })

abbrev pub ticks_given : Options → Option ℕ → ParsedOptions
ticks_given o None = Fault (place_after o + 1)
ticks_given o (Some n) = Whole (record o { ticks = Some n })

-- one word more: a number of loops is 0 to 16, one of ticks 1 to 1,000,000
abbrev pub parsed_after : ParsedOptions → List ℕ → ParsedOptions
parsed_after (Whole o) word = begun o word
parsed_after (WantsLoops o) word = loops_given o (number_of 0 loops_limit word)
parsed_after (WantsTicks o) word = ticks_given o (number_of 1 1000000 word)
parsed_after (Fault index) word = Fault index

-- at the end no value is expected
abbrev pub options_in : ParsedOptions → Result Options ℕ
options_in (Whole o) = Ok o
options_in (WantsLoops o) = Err (place_after o + 1)
options_in (WantsTicks o) = Err (place_after o + 1)
options_in (Fault index) = Err index

-- THE OPTIONS that words say, or the index of the first at fault
unfoldable pub options_of : List (List ℕ) → Result Options ℕ
options_of words = options_in (fold parsed_after (Whole no_options) words)

-- of all that can be said, a number of loops is at most 16
abbrev pub HasFew : Options → Type 0
HasFew o = IfSome o.loops (λ n. n ≤ loops_limit)

abbrev pub SaysFew : ParsedOptions → Type 0
SaysFew (Whole o) = HasFew o
SaysFew (WantsLoops o) = HasFew o
SaysFew (WantsTicks o) = HasFew o
SaysFew (Fault index) = Unit {0}
