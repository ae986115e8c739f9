-- The ends of a link that a seat knows, where the writer, or the reader, has done the cycles before
-- c and nothing of c.
-- Source: this project's own.
use Rattle.std.specs.Prelude.{◌≡◌, ℕ, ◌<◌, length}
use Rattle.board_rule.specs.declared.view.View.{View}
use Rattle.board_rule.specs.buffers.EndViews.{write_of, read_of}

pub record IsWrittenUpTo (v : View) (l c : ℕ) : Type 0 where
  pub there : l < length v.writes
  pub loaded : (write_of v l).loaded ≡ c
  pub stored : (write_of v l).stored ≡ c

pub record IsReadUpTo (v : View) (l c : ℕ) : Type 0 where
  pub there : l < length v.reads
  pub words : l < length v.words_read
  pub loaded : (read_of v l).loaded ≡ c
  pub lowered : (read_of v l).lowered ≡ c
  pub stored : (read_of v l).stored ≡ c
