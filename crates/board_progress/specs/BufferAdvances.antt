-- The advances on buffers: each kind of step of a node that writes or reads, where it comes nearer
-- to the end. Links, pools and blocks are given by number; `b` is true for the driver's seat.
-- Source: PipeWire's documentation, "SPA Buffers"; the kinds are this project's.
use Rattle.std.specs.Prelude.{◌≡◌, ℕ, ◌-◌, ◌<◌, Bool, List, length, slice_index}
use Rattle.pw_graph.specs.Layout.{io_place, readers_place, sample_place}
use Rattle.pw_graph.specs.Words.{have_data_word, need_data_word}
use Rattle.board_rule.specs.declared.view.View.{View}
use Rattle.board_rule.specs.Layout.{BoardLayout}
use Rattle.board_rule.specs.buffers.EndViews.{pool_at, pool_of}
use Rattle.board_rule.specs.buffers.WriterSteps.{write_area, LoadsAsWriter, loaded_as_writer, StoresHave, have_stored}
use Rattle.board_rule.specs.buffers.BlockSteps.{StoresSample, sample_stored, StoresReaders, readers_stored}
use Rattle.board_rule.specs.buffers.ReclaimSteps.{LoadsReaders, readers_loaded}
use Rattle.board_rule.specs.buffers.ReaderSteps.{words_read_of, read_area, LoadsAsReader, loaded_as_reader, LoadsSample, sample_loaded}
use Rattle.board_rule.specs.buffers.ReaderSteps.{LowersReaders, readers_lowered, StoresNeed, need_stored}
use Rattle.board_progress.specs.Moves.{Move}

-- A STEP ON BUFFERS that the view v allows, and that is no try in vain: a pool is reclaimed when
-- the readers word is 0, and sample words are loaded once, in their order
pub data BufferAdvances (p : BoardLayout) (words : List ℕ) (v : View) (x : Move) : Type 0 where
  loads_as_writer : (l found : ℕ) → LoadsAsWriter p v l
      → found ≡ slice_index words (io_place p.shape l (write_area p v l)) → x ≡ record {
        place = io_place p.shape l (write_area p v l);
        word = found;
        view = loaded_as_writer p v l;
      } → BufferAdvances p words v x
  loads_readers : (q n : ℕ) → LoadsReaders p v q n
      → slice_index words (readers_place p.shape q n) ≡ 0 → x ≡ record {
        place = readers_place p.shape q n;
        word = 0;
        view = readers_loaded p v q n 0;
      } → BufferAdvances p words v x
  stores_sample : (q n i word : ℕ) → StoresSample p v q n i word → x ≡ record {
    place = sample_place p.shape q n i;
    word = word;
    view = sample_stored p v q n i;
  } → BufferAdvances p words v x
  stores_readers : (q n : ℕ) → StoresReaders p v q n → x ≡ record {
    place = readers_place p.shape q n;
    word = length (pool_at p q).links;
    view = readers_stored p v q n;
  } → BufferAdvances p words v x
  stores_have : (l id : ℕ) → StoresHave p v l id → x ≡ record {
    place = io_place p.shape l (write_area p v l);
    word = have_data_word id;
    view = have_stored p v l id;
  } → BufferAdvances p words v x
  loads_as_reader : (b : Bool) (l found : ℕ) → LoadsAsReader b p v l
      → found ≡ slice_index words (io_place p.shape l (read_area b p v l)) → x ≡ record {
        place = io_place p.shape l (read_area b p v l);
        word = found;
        view = loaded_as_reader b p v l found;
      } → BufferAdvances p words v x
  loads_sample : (b : Bool) (l id found : ℕ) → LoadsSample b p v l id (words_read_of v l)
      → words_read_of v l < (pool_at p (pool_of p l)).words
      → found ≡ slice_index words (sample_place p.shape (pool_of p l) id (words_read_of v l))
      → x ≡ record {
        place = sample_place p.shape (pool_of p l) id (words_read_of v l);
        word = found;
        view = sample_loaded b p v l (words_read_of v l);
      } → BufferAdvances p words v x
  lowers_readers : (b : Bool) (l id found : ℕ) → LowersReaders b p v l id
      → found ≡ slice_index words (readers_place p.shape (pool_of p l) id) → x ≡ record {
        place = readers_place p.shape (pool_of p l) id;
        word = found - 1;
        view = readers_lowered b p v l;
      } → BufferAdvances p words v x
  stores_need : (b : Bool) (l id : ℕ) → StoresNeed b p v l id → x ≡ record {
    place = io_place p.shape l (read_area b p v l);
    word = need_data_word id;
    view = need_stored b p v l;
  } → BufferAdvances p words v x
