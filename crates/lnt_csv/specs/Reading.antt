-- A reader of the records in some bytes in memory: what it has read, and what it has left.
use Rattle.std.specs.Prelude.{◌≡◌, ℕ, ◌+◌, ◌≤◌, true, false, List, Option, Some, None, length}
use Rattle.std.proofs.Common.{Bor}
use Rattle.csv.specs.Machine.{ends_at_end}
use Rattle.csv.specs.Reading.{Reached, Ready, default_config, is_flexible, reader_config, reader_state, reader_trim, source_of, strip_bom}
use Rattle.csv.specs.declared.parser.State.TheVariants as state
use Rattle.csv.specs.declared.reader.Reader.{Reader}
use Rattle.csv.specs.declared.reader.Trim.TheVariants as trim
use Rattle.lnt_csv.specs.Records.{Fields}

-- a reader of bytes in memory
abbrev pub BytesReader : Type 0
BytesReader = Reader (Bor (List ℕ))

abbrev pub bytes_left : BytesReader → Option (List ℕ)
bytes_left reader = source_of (λ s. Some s.now) reader

abbrev pub known_length : Option (List ℕ) → ℕ
known_length None = 0
known_length (Some bytes) = length bytes

-- The reader has read these records, the first ones of the bytes, and is between two records. It takes records with any
-- number of fields, so only a lack of memory can make it fail.
pub record HasRead (reader : BytesReader) (bytes : List ℕ) (records : List Fields) : Type 0 where
  pub config : reader_config reader ≡ default_config
  pub flexible : is_flexible reader ≡ true
  pub trim : reader_trim reader ≡ trim.None
  pub ready : Ready reader
  pub between : ends_at_end (reader_state reader) ≡ false
  pub rest : List ℕ
  pub left : bytes_left reader ≡ Some rest
  pub reached : Reached default_config state.StartRecord (strip_bom bytes) records (reader_state reader) rest
  pub few : length records + length rest ≤ length bytes
