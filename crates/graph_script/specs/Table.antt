-- THE TABLE of commands: the parameters of each, in order. Source: the commands and the ranges of
-- their numbers are this project's own.
use Rattle.std.specs.Prelude.{ℕ, List, [], ◌∷◌, codes}
use Rattle.pw_lists.specs.Limits.{quantum_limit, rate_limit, channels_limit, buffers_limit}
use Rattle.graph_script.specs.declared.name.Name.{Name}
use Rattle.graph_script.specs.declared.name.Name.TheVariants as N
use Rattle.graph_script.specs.declared.param.Label.{Label}
use Rattle.graph_script.specs.declared.param.Label.TheVariants as L
use Rattle.graph_script.specs.declared.param.Counted.TheVariants as U
use Rattle.graph_script.specs.declared.param.Form.{Form}
use Rattle.graph_script.specs.declared.param.Form.TheVariants as F
use Rattle.graph_script.specs.declared.param.Param.{Param}
use Rattle.graph_script.specs.Limits.{period_limit, amp_limit, gain_limit, delay_limit}
use Rattle.graph_script.specs.Limits.{priority_limit, loop_limit, cycles_limit}

-- the word that a parameter is called by
abbrev pub label_word : Label → List ℕ
label_word L.Name = codes "NAME"
label_word L.File = codes "FILE"
label_word L.Rate = codes "RATE"
label_word L.Channels = codes "CHANNELS"
label_word L.Period = codes "PERIOD"
label_word L.Amp = codes "AMP"
label_word L.G = codes "G"
label_word L.Ga = codes "GA"
label_word L.Gb = codes "GB"
label_word L.Frames = codes "FRAMES"
label_word L.List = codes "LIST"
label_word L.Port = codes "PORT"
label_word L.From = codes "A.PORT"
label_word L.To = codes "B.PORT"
label_word L.Priority = codes "PRIORITY"
label_word L.K = codes "K"
label_word L.N = codes "N"

-- a parameter of a form, and one that is a plain number
abbrev pub param : Label → Form → Param
param label form = record { label = label; form = form }

abbrev pub number : Label → ℕ → ℕ → Param
number label low high = param label (F.Number low high U.Unsaid)

-- the parameters of a command
abbrev pub params_of : Name → List Param
params_of N.Source = param L.Name F.New ∷ param L.File F.File ∷ []
params_of N.Square = param L.Name F.New ∷ param L.Rate (F.Number 1 rate_limit U.FramesASecond)
    ∷ number L.Channels 1 channels_limit ∷ param L.Period (F.Number 1 period_limit U.Frames)
    ∷ number L.Amp 0 amp_limit ∷ []
params_of N.Gain = param L.Name F.New ∷ param L.G (F.Gain gain_limit) ∷ []
params_of N.Mix2 =
    param L.Name F.New ∷ param L.Ga (F.Gain gain_limit) ∷ param L.Gb (F.Gain gain_limit) ∷ []
params_of N.Delay = param L.Name F.New ∷ number L.Frames 0 delay_limit ∷ []
params_of N.Map =
    param L.Name F.New ∷ number L.Channels 1 channels_limit ∷ param L.List F.Channels ∷ []
params_of N.Split = param L.Name F.New ∷ []
params_of N.Sink = param L.Name F.New ∷ param L.File F.File ∷ []
params_of N.Meter = param L.Name F.New ∷ []
params_of N.Link = param L.From F.Output ∷ param L.To F.Input ∷ []
params_of N.Unlink = param L.From F.Output ∷ param L.To F.Input ∷ []
params_of N.Offer = param L.Name F.Node ∷ param L.Port F.Port ∷ param L.File F.File ∷ []
params_of N.Buffers = param L.Name F.Node ∷ param L.Port F.Port ∷ number L.N 1 buffers_limit ∷ []
params_of N.Driver = param L.Name F.Node ∷ number L.Priority 0 priority_limit ∷ []
params_of N.Loop = param L.Name F.Node ∷ number L.K 0 loop_limit ∷ []
params_of N.On = param L.Name F.Node ∷ []
params_of N.Off = param L.Name F.Node ∷ []
params_of N.Async = param L.Name F.Node ∷ []
params_of N.Quantum = param L.N (F.Number 1 quantum_limit U.Frames) ∷ []
params_of N.Cycles = number L.N 1 cycles_limit ∷ []
params_of N.Drain = []
