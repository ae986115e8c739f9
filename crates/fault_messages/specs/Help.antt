-- What the commands do, for people who ask. Source: this project's own.
use Rattle.std.specs.Prelude.{ℕ, List, ◌++◌, codes}

abbrev pub help : List ℕ
help = codes "pipegraph 0.1: PipeWire's graph engine on a script and files\n"
    ++ codes "\n"
    ++ codes "  run SCRIPT [--loops N] [--ticks N] [--trace] [--steal]  runs a script of a graph\n"
    ++ codes "  dump FILE           prints the POD of a file\n"
    ++ codes "  filter A B OUT      stores what two formats have in common\n"
    ++ codes "  automate IN SEQ OUT stores a WAV file by the gains of a control sequence\n"
    ++ codes "  check SCRIPT TRACE  says whether a trace is a legal history of a script\n"
    ++ codes "  soak NUMBER         runs the graph of a number by four loops\n"
    ++ codes "  groups SCRIPT       runs each linked part of a graph with its own driver\n"
    ++ codes "\n"
    ++ codes "pipegraph-pods makes PODs and control sequences, "
    ++ codes "pipegraph-pictures draws graphs, traces and waves\n"
    ++ codes "The manual: man pipegraph where it is installed, and man -l docs/pipegraph.1\n"
