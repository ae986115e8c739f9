-- Chunks of a RIFF WAVE file: a name of four bytes, a size of 32 bits, and its bytes. Source:
-- RIFF WAVE; numbers little-endian.
use Rattle.std.specs.Prelude.{ℕ, zero, suc, ◌+◌, ◌%◌, ◌&&◌, Bool, nat_lt, nat_le, if◌then◌else◌, List, [], ◌∷◌, length, take, drop}
use Rattle.std.specs.Prelude.{codes, bytes_eq}
use Rattle.byteorder.specs.Endian.{little_number}

-- the bytes of a file begin as they have to
abbrev pub is_riff : List ℕ → Bool
is_riff bytes = nat_le 12 (length bytes) && bytes_eq (take 4 bytes) (codes "RIFF")
    && bytes_eq (take 4 (drop 8 bytes))
    (codes "WAVE")

-- a chunk: its name, its size as it is written, and the bytes from the end of its head to the end
-- of the file
pub record Chunk : Type 0 where
  pub name : List ℕ
  pub size : ℕ
  pub body : List ℕ

-- the chunk whose head, of eight bytes, is first
abbrev pub chunk_at : List ℕ → Chunk
chunk_at bytes = record {
  name = take 4 bytes;
  size = little_number 4 (drop 4 bytes);
  body = drop 8 bytes;
}

-- the file has all the bytes of the chunk's size
abbrev pub is_whole : Chunk → Bool
is_whole chunk = nat_le chunk.size (length chunk.body)

-- the chunk is named as one of a format
abbrev pub is_format : Chunk → Bool
is_format chunk = bytes_eq chunk.name (codes "fmt ")

-- the chunk is named as one of samples
abbrev pub is_data : Chunk → Bool
is_data chunk = bytes_eq chunk.name (codes "data")

-- what follows a chunk: after an odd size there is a byte of padding
abbrev pub after : Chunk → List ℕ
after chunk = drop (chunk.size + chunk.size % 2) chunk.body

-- the chunks that a row of bytes begins with, up to the first of samples, at most a given number
unfoldable pub first_chunks : ℕ → List ℕ → List Chunk
first_chunks zero bytes = []
first_chunks (suc more) bytes =
    if nat_lt (length bytes) 8 then [] else chunk_at bytes ∷
    (if is_data (chunk_at bytes) then [] else first_chunks more (after (chunk_at bytes)))

-- the chunks of a row of bytes, up to the first of samples: there are no more of them than bytes
unfoldable pub chunks_of : List ℕ → List Chunk
chunks_of bytes = first_chunks (length bytes) bytes
