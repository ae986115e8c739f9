-- Lanes: what there is of a loop for all threads.
-- Source: this project's own.
use Rattle.std.specs.Prelude.{ℕ}
use Rattle.std.specs.Arc.{arc_value}
use Rattle.atomic_table.specs.Seated.{TableId}
use Rattle.crossbeam_utils.specs.declared.sync.parker.RuledUnparker.{RuledUnparker}
use Rattle.ready_queues.specs.declared.lane.Lane.{Lane}
use Rattle.ready_queues.specs.declared.start_word.StartWord.{StartWord}

-- the loops of a run, beside the driver's own
abbrev pub loops_limit : ℕ
loops_limit = 16

-- the parker that an unparker wakes
abbrev pub unparks : {V P A : Type 0} → RuledUnparker V P A → TableId
unparks unparker = let words = (arc_value unparker.state).shared in words.table_id

-- the parker of a loop
abbrev pub parker_of : Lane → TableId
parker_of lane = unparks lane.unparker

-- the table of a start word, and that of a loop
abbrev pub start_table : StartWord → TableId
start_table word = let words = word.table.shared in words.table_id

abbrev pub start_of : Lane → TableId
start_of lane = start_table lane.started
