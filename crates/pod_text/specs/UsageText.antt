-- The commands in words, and the version. Source: this project's own.
use Rattle.std.specs.Prelude.{ℕ, List, ◌++◌, codes}

abbrev pub usage_text : List ℕ
usage_text = codes "usage: pipegraph-pods gains LIST OUT\n"
    ++ codes "       pipegraph-pods pod TEXT OUT\n"
    ++ codes "       pipegraph-pods format OUT rate VALUES channels VALUES [mandatory KEY]\n"
    ++ codes "       LIST has lines `FRAME GAIN`; TEXT is what `pipegraph dump` prints;\n"
    ++ codes "       VALUES is A, A|B, MIN..MAX or MIN..MAX/STEP;\n"
    ++ codes "       `-` is standard input or output\n"

-- the version
abbrev pub version_text : List ℕ
version_text = codes "pipegraph-pods 0.1\n"
