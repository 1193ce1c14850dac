-- Pieces, and those of a Breakpad file. No public contract speaks of them.
use Rattle.std.specs.Prelude.{◌≡◌, ℕ, ◌+◌, ◌-◌, ◌^◌, ◌<◌, ◌≤◌, ◌⊎◌, All, AllPairs}
use Rattle.std.specs.Prelude.{Bool, ◌&&◌, not, nat_lt, false, List, [], ◌∷◌, ◌++◌, length}
use Rattle.std.specs.Prelude.{flat_map, Vec, if◌then◌else◌, None, Option, find, option_map}
use Rattle.std.specs.List.{AllAdjacentBelow}
use Rattle.std.specs.Io.KnownBytes.{Appends}
use Rattle.lnt_spans.specs.declared.position.Position.{Position}
use Rattle.lnt_spans.specs.declared.span.Span.{Span}
use Rattle.lnt_records.specs.declared.path_records.version.PathVersion.TheVariants.{Four}
use Rattle.lnt_records.specs.PathSpans.{PathAnswer, whole}
use Rattle.lnt_writing.specs.Canonical.{IsCanonicalPathTable}
use Rattle.lnt_symbols.specs.declared.piece.Piece.{Piece}
use Rattle.lnt_symbols.specs.declared.pieces.Pieces.{Pieces}
use Rattle.lnt_symbols.specs.declared.pieces.PieceSpans.{PieceSpans}
use Rattle.lnt_symbols.specs.BreakpadLines.{LineRecord, Range, RecordSaid}
use Rattle.lnt_symbols.specs.BreakpadAnswers.{end_of, FunctionSaid, functions_of, kept}

-- No piece begins below the one before it.
abbrev pub AreRising : List Piece → Type 0
AreRising pieces = AllAdjacentBelow (λ a b. a.low ≤ b.low) pieces (length pieces)

-- So it is, and the first doesn't begin below this address.
abbrev pub RisesFrom : ℕ → List Piece → Type 0
RisesFrom low [] = Unit {0}
RisesFrom low (piece ∷ pieces) = (low ≤ piece.low) × RisesFrom piece.low pieces

-- the pieces of blocks, and then these
abbrev pub pieces_in_blocks : {A : Type 0} → List (Vec Piece A) → List Piece → List Piece
pieces_in_blocks full last = flat_map (λ block. block.items) full ++ last

abbrev pub all_pieces : Pieces → List Piece
all_pieces pieces = pieces_in_blocks pieces.full.items pieces.last.items

-- the pieces whose spans are still to come
abbrev pub still_left : PieceSpans → List Piece
still_left spans = spans.rest.now ++ pieces_in_blocks spans.full.now spans.last.now

-- the span of a piece
abbrev pub piece_span : Piece → Span
piece_span piece = record {
  low = whole piece.low;
  high = whole piece.high;
  answer = record { unit = 0; file = piece.file; line = piece.line; column = 0; is_stmt = false; more = None };
}

-- the answer of a piece, if these are the names of files
abbrev pub piece_answer : (ℕ → List ℕ) → Piece → PathAnswer
piece_answer names piece = record { path = names piece.file; line = piece.line; column = None }

-- whether a piece holds an address
abbrev pub is_in : ℕ → Piece → Bool
is_in a piece = nat_lt a piece.high && not (nat_lt a piece.low)

-- Two pieces have no address in common.
abbrev pub PiecesApart : Piece → Piece → Type 0
PiecesApart p q = (p.high ≤ q.low) ⊎ (q.high ≤ p.low)

-- The pieces answer so, if these are the names of files. None is empty, and no two have an address in common.
pub record AnswerSo (names : ℕ → List ℕ) (pieces : List Piece) (answers : Position → Option PathAnswer) : Type 0 where
  pub apart : AllPairs PiecesApart pieces
  pub filled : All (λ p. p.low < p.high) pieces
  pub same : (p : Position) → option_map (piece_answer names) (find (is_in p.address) pieces) ≡ answers p

-- The table of version 4 with these answers was appended to a writer that held these bytes.
abbrev pub HasTable : (Position → Option PathAnswer) → Option (List ℕ) → Option (List ℕ) → Type 0
HasTable answers old new = (bytes : List ℕ) × Appends old new bytes × IsCanonicalPathTable Four answers bytes

-- ---- the pieces of a Breakpad file that is loaded at `base`

abbrev pub less : ℕ → ℕ → ℕ
less a b = if nat_lt a b then a else b

-- where the part of a line record begins that lies in its function
abbrev pub cut_low : Range → Range → ℕ
cut_low function line = if nat_lt function.address line.address then line.address else function.address

-- where it ends, at an address that a table can have
abbrev pub cut_high : ℕ → Range → Range → ℕ
cut_high base function line = less (end_of line) (less (end_of function) (2 ^ 64 - 1 - base))

-- the piece of a line record in its function, if it isn't empty
abbrev pub cut_piece : ℕ → Range → LineRecord → Piece
cut_piece base function line = record {
  low = cut_low function line.range + base;
  high = cut_high base function line.range + base;
  line = line.line;
  file = line.file;
}

abbrev pub cut_line : ℕ → Range → LineRecord → List Piece
cut_line base function line =
    if nat_lt (cut_low function line.range) (cut_high base function line.range) then cut_piece base function line ∷ [] else []

abbrev pub pieces_in : ℕ → FunctionSaid → List Piece
pieces_in base function = flat_map (cut_line base function.range) (kept (λ line. line.range) function.lines)

abbrev pub pieces_of : ℕ → List RecordSaid → List Piece
pieces_of base records = flat_map (pieces_in base) (kept (λ function. function.range) (functions_of records))
