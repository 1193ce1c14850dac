-- The texts of a sequence's name and of an overlap, as their types print them.
use Rattle.std.specs.Prelude.{ℕ, List, ◌++◌, codes, decimal}
use Rattle.lnt_wire.specs.FaultTexts.{hexadecimal}
use Rattle.lnt_sequences.specs.declared.extent.Overlap.{Overlap}
use Rattle.lnt_sequences.specs.declared.sequence.SeqId.{SeqId}

-- a sequence, by its unit's offset and its index in the unit
abbrev pub sequence_text : SeqId → List ℕ
sequence_text sequence = hexadecimal sequence.unit ++ (codes ":" ++ decimal sequence.index)

-- two sequences, and the first position that both hold
abbrev pub overlap_text : Overlap → List ℕ
overlap_text overlap = codes "overlap " ++ (sequence_text overlap.first ++ (codes " " ++ (sequence_text overlap.second ++ (codes " at " ++
    (hexadecimal overlap.position.address ++ (codes "," ++ decimal overlap.position.op))))))
