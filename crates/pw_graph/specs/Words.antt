-- Words: how the status of a node and an io area are stored in one word of 64 bits, and what is
-- read back from one.
-- Source: spa/node/io.h, spa_io_buffers (SPA_STATUS_NEED_DATA, SPA_STATUS_HAVE_DATA,
-- SPA_ID_INVALID); the rest is this project's.
use Rattle.std.specs.Prelude.{◌≡◌, ℕ, ◌+◌, ◌-◌, ◌*◌, ◌/◌, ◌%◌, ◌^◌, ◌<◌, ◌≤◌}
use Rattle.pw_graph.specs.declared.status.ActivationStatus.{ActivationStatus}
use Rattle.pw_graph.specs.declared.status.ActivationStatus.TheVariants.{NotTriggered, Triggered, Awake, Finished}
use Rattle.pw_graph.specs.declared.status.AreaStatus.{AreaStatus}
use Rattle.pw_graph.specs.declared.status.AreaStatus.TheVariants.{NeedData, HaveData}

abbrev pub status_number : ActivationStatus → ℕ
status_number NotTriggered = 0
status_number Triggered = 1
status_number Awake = 2
status_number Finished = 3

abbrev pub area_status_number : AreaStatus → ℕ
area_status_number NeedData = 1
area_status_number HaveData = 2

-- a status of a cycle
abbrev pub status_word_of : ℕ → ℕ → ℕ
status_word_of status cycle = status + 4 * cycle

abbrev pub not_triggered_word : ℕ → ℕ
not_triggered_word cycle = status_word_of (status_number NotTriggered) cycle

abbrev pub triggered_word : ℕ → ℕ
triggered_word cycle = status_word_of (status_number Triggered) cycle

abbrev pub awake_word : ℕ → ℕ
awake_word cycle = status_word_of (status_number Awake) cycle

abbrev pub finished_word : ℕ → ℕ
finished_word cycle = status_word_of (status_number Finished) cycle

abbrev pub status_in : ℕ → ℕ
status_in word = word % 4

abbrev pub cycle_in : ℕ → ℕ
cycle_in word = word / 4

abbrev pub IsStatusWord : ℕ → Type 0
IsStatusWord word = (status cycle : ℕ) × (status ≤ 3) × (cycle < 2 ^ 32)
    × (word ≡ status_word_of status cycle)

-- a status of an io area and the number of a block
abbrev pub io_word_of : ℕ → ℕ → ℕ
io_word_of status id = status + 2 ^ 32 * id

abbrev pub need_data_word : ℕ → ℕ
need_data_word id = io_word_of (area_status_number NeedData) id

abbrev pub have_data_word : ℕ → ℕ
have_data_word id = io_word_of (area_status_number HaveData) id

abbrev pub io_status_in : ℕ → ℕ
io_status_in word = word % 2 ^ 32

abbrev pub io_id_in : ℕ → ℕ
io_id_in word = word / 2 ^ 32

-- the number where there is no block
abbrev pub no_block : ℕ
no_block = 2 ^ 32 - 1
