-- A span has one plain record, so spans have one plain table.
use Rattle.std.proofs.Common.{◌≡◌, ◌∙◌, ℕ, zero, suc, ◌<◌, Bool, true, false, List, [], Option, Some, None, get_or, sym, arith, ext_get_or}
use Rattle.lnt_text.specs.Digits.{IsPlainDecimal}
use Rattle.lnt_text.proofs.OneTextLaws.{one_address, one_decimal}
use Rattle.lnt_spans.specs.declared.answer.More.{More}
use Rattle.lnt_spans.specs.declared.answer.Version.{Version}
use Rattle.lnt_spans.specs.declared.answer.Version.TheVariants.{One, Two}
use Rattle.lnt_spans.specs.declared.span.Span.{Span}
use Rattle.lnt_records.specs.Table.{AreMore, Fields, IsFlag, column_count}
use Rattle.lnt_records.specs.Written.{IsPlainRecord, IsPlainTable, plain_by_number}
use Rattle.lnt_records.proofs.LineLaws.{HasOneRecord, one_plain_table}
use Rattle.lnt_records.proofs.SaidLemmas.{count_at_most}

-- ---- a span has one plain record

one_flag_text : (s t : List ℕ) (on : Bool) → IsFlag s on → IsFlag t on → s ≡ t
one_flag_text s t true a b = a ∙ sym b
one_flag_text s t false a b = a ∙ sym b

-- the two columns that version 2 has more
same_more : (version : Version) (xs ys : Fields) (more : Option More) → AreMore IsPlainDecimal version xs more
    → AreMore IsPlainDecimal version ys more → 9 < column_count version
    → (get_or xs 9 [] ≡ get_or ys 9 []) × (get_or xs 10 [] ≡ get_or ys 10 [])
same_more One xs ys more a b lt = absurd (omega (arith, lt))
same_more Two xs ys None a b lt = absurd a
same_more Two xs ys (Some more) a b lt = (one_decimal _ _ _ a.0 b.0, one_decimal _ _ _ a.1 b.1)

same_column : (version : Version) (xs ys : Fields) (span : Span) → IsPlainRecord version xs span → IsPlainRecord version ys span
    → (i : ℕ) → i < column_count version → get_or xs i [] ≡ get_or ys i []
same_column version xs ys span a b zero lt = one_address _ _ _ a.low b.low
same_column version xs ys span a b (suc zero) lt = one_decimal _ _ _ a.low_op b.low_op
same_column version xs ys span a b (suc (suc zero)) lt = one_address _ _ _ a.high b.high
same_column version xs ys span a b (suc (suc (suc zero))) lt = one_decimal _ _ _ a.high_op b.high_op
same_column version xs ys span a b (suc (suc (suc (suc zero)))) lt = one_decimal _ _ _ a.unit b.unit
same_column version xs ys span a b (suc (suc (suc (suc (suc zero))))) lt = one_decimal _ _ _ a.file b.file
same_column version xs ys span a b (suc (suc (suc (suc (suc (suc zero)))))) lt = one_decimal _ _ _ a.line b.line
same_column version xs ys span a b (suc (suc (suc (suc (suc (suc (suc zero))))))) lt = one_decimal _ _ _ a.column b.column
same_column version xs ys span a b (suc (suc (suc (suc (suc (suc (suc (suc zero)))))))) lt =
    one_flag_text _ _ span.answer.is_stmt a.is_stmt b.is_stmt
same_column version xs ys span a b (suc (suc (suc (suc (suc (suc (suc (suc (suc zero))))))))) lt =
    (same_more version xs ys span.answer.more a.more b.more lt).0
same_column version xs ys span a b (suc (suc (suc (suc (suc (suc (suc (suc (suc (suc zero)))))))))) lt =
    (same_more version xs ys span.answer.more a.more b.more (omega (arith, lt))).1
same_column version xs ys span a b (suc (suc (suc (suc (suc (suc (suc (suc (suc (suc (suc i))))))))))) lt =
    absurd (let few = count_at_most version in omega (arith, few, lt))

pub one_plain_record : (version : Version) → HasOneRecord (IsPlainRecord version)
one_plain_record version xs ys span a b =
    ext_get_or [] xs ys (a.count ∙ sym b.count) (λ i lt. same_column version xs ys span a b i (rw a.count at lt))

-- ---- spans have one plain table

pub one_plain : (version : Version) (one other : List ℕ) (spans : List Span) → IsPlainTable version one spans
    → IsPlainTable version other spans → one ≡ other
one_plain version = one_plain_table plain_by_number version (one_plain_record version)
