-- The laws of tables by path.
use Rattle.std.proofs.Common.{arith, ◌≡◌, ◌∙◌, ℕ, zero, suc, ◌<◌, ◌≤◌, List, [], Option, Some, None, get_or, length, refl, sym}
use Rattle.std.proofs.Common.{ap}
use Rattle.lnt_spans.proofs.AnsweringLaws.{prefix_in_order}
use Rattle.lnt_records.specs.PathSpans.{PathSpan, path_spans}
use Rattle.lnt_text.specs.Digits.{IsAddress, IsDecimal}
use Rattle.lnt_text.proofs.TextLaws.{one_address_number, one_decimal_number}
use Rattle.lnt_records.proofs.TableLaws.{FormatLaws}
use Rattle.lnt_records.specs.Table.{Fields, IsOfColumn}
use Rattle.lnt_records.specs.declared.path_records.version.PathVersion.TheVariants.{Four, Three}
use Rattle.lnt_records.specs.PathTables.{IsPathRecord, SaysColumn, SaysPath, by_path, path_column_count, path_column_names, path_kinds}
use Rattle.lnt_records.specs.PathTables.{PathVersion, record_answer, record_span}
use Rattle.lnt_records.specs.declared.path_records.record.PathRecord.{PathRecord}

-- ---- a record is of one span

one_column : (version : PathVersion) (fields : Fields) (m n : Option ℕ) → SaysColumn IsDecimal version fields m
    → SaysColumn IsDecimal version fields n → m ≡ n
one_column Three fields None n a b = absurd a
one_column Three fields (Some m) None a b = absurd b
one_column Three fields (Some m) (Some n) a b = ap Some (one_decimal_number _ m n a b)
one_column Four fields m n a b = a ∙ sym b

make : ℕ → ℕ → ℕ → ℕ → List ℕ → ℕ → Option ℕ → PathSpan
make a b c d path line column =
    record {
      low = record { address = a; op = b };
      high = record { address = c; op = d };
      answer = record { path = path; line = line; column = column };
    }

made : (s : PathSpan) → make s.low.address s.low.op s.high.address s.high.op s.answer.path s.answer.line s.answer.column ≡ s
unfolding make
made s = refl

one_span : (version : PathVersion) (fields : Fields) (s t : PathSpan) → IsPathRecord version fields s → IsPathRecord version fields t
    → s ≡ t
one_span version fields s t a b =
    let low = one_address_number _ _ _ a.says.low_is b.says.low_is in
    let low_op = a.low_op ∙ sym b.low_op in
    let high = one_address_number _ _ _ a.says.high_is b.says.high_is in
    let high_op = a.high_op ∙ sym b.high_op in
    let path = sym a.says.path ∙ b.says.path in
    let line = one_decimal_number _ _ _ a.says.line b.says.line in
    let column = one_column version fields _ _ a.says.column b.says.column in
    let left = made s in
    let right = made t in
    cc

-- ---- each column of it is of its kind

column_sound : (version : PathVersion) (fields : Fields) (column : Option ℕ) → SaysColumn IsDecimal version fields column
    → 4 < path_column_count version → (n : ℕ) × IsDecimal (get_or fields 4 []) n
column_sound Three fields None s lt = absurd s
column_sound Three fields (Some column) s lt = (column, s)
column_sound Four fields column s lt = absurd (omega (arith, lt))

few_columns : (version : PathVersion) (i : ℕ) → i < path_column_count version → i < 5
few_columns Three i lt = lt
few_columns Four i lt = omega (arith, lt)

sound_field : (version : PathVersion) (fields : Fields) (span : PathSpan) → IsPathRecord version fields span → (i : ℕ)
    → i < path_column_count version → IsOfColumn path_kinds fields i
sound_field version fields span s zero lt = (span.low.address, s.says.low_is)
sound_field version fields span s (suc zero) lt = (span.high.address, s.says.high_is)
sound_field version fields span s (suc (suc zero)) lt = tt
sound_field version fields span s (suc (suc (suc zero))) lt = (span.answer.line, s.says.line)
sound_field version fields span s (suc (suc (suc (suc zero)))) lt = column_sound version fields span.answer.column s.says.column lt
sound_field version fields span s (suc (suc (suc (suc (suc i))))) lt = absurd (omega (arith, few_columns version _ lt))

-- ---- one table

one_version : (v w : PathVersion) → path_column_names v ≡ path_column_names w → v ≡ w
one_version Three Three e = refl
one_version Four Four e = refl
one_version Three Four e = let lengths : 5 ≡ 4 = ap length e in absurd (omega (arith, lengths))
one_version Four Three e = let lengths : 4 ≡ 5 = ap length e in absurd (omega (arith, lengths))

few_names : (version : PathVersion) → path_column_count version ≤ 11
few_names Three = omega arith
few_names Four = omega arith

pub pathed : FormatLaws by_path
pathed = record {
  one_version = one_version;
  narrow = few_names;
  one_span = one_span;
  count = λ version fields span says. says.says.count;
  sound = sound_field;
  prefix = prefix_in_order path_spans;
}

pub says_span : (version : PathVersion) (fields : Fields) (said : PathRecord)
    → SaysPath IsAddress IsDecimal version fields said.low said.high (record_answer said)
    → IsPathRecord version fields (record_span said)
says_span version fields said h = record { says = h; low_op = refl; high_op = refl }
