-- What each column of a span's record holds, and that it is the record of one span only.
use Rattle.std.proofs.Common.{◌≡◌, ◌∙◌, ℕ, zero, suc, ◌<◌, ◌≤◌, Bool, true, false, List, [], Option, Some, None, get_or, refl, sym, ap}
use Rattle.std.proofs.Common.{arith}
use Rattle.lnt_text.specs.Digits.{IsAddress, IsDecimal, IsPlainDecimal}
use Rattle.lnt_text.proofs.TextLaws.{one_address_number, one_decimal_number, plain_address}
use Rattle.lnt_spans.specs.declared.answer.More.{More}
use Rattle.lnt_spans.specs.declared.answer.Version.{Version}
use Rattle.lnt_spans.specs.declared.answer.Version.TheVariants.{One, Two}
use Rattle.lnt_spans.specs.declared.span.Span.{Span}
use Rattle.lnt_records.specs.Table.{AreMore, Fields, IsFlag, IsOfColumn, IsOfKind, IsSpanRecord, Kind, SaysSpan, address, column_count}
use Rattle.lnt_records.specs.Table.{decimal, flag, kinds, text}
use Rattle.lnt_records.specs.Written.{IsPlainRecord}

-- ---- each column

-- The property `Is` holds of every address, number and flag, by kind.
pub record Holds (Address Number : List ℕ → ℕ → Type 0) (Is : Kind → List ℕ → Type 0) : Type 0 where
  pub of_address : (field : List ℕ) (n : ℕ) → Address field n → Is address field
  pub of_number : (field : List ℕ) (n : ℕ) → Number field n → Is decimal field
  pub of_flag : (field : List ℕ) (on : Bool) → IsFlag field on → Is flag field

more_hold : (Address Number : List ℕ → ℕ → Type 0) (Is : Kind → List ℕ → Type 0) (version : Version) (fields : Fields) (more : Option More)
    → Holds Address Number Is
    → AreMore Number version fields more → 9 < column_count version → Is decimal (get_or fields 9 []) × Is decimal (get_or fields 10 [])
more_hold Address Number Is One fields more h m lt = absurd (omega (arith, lt))
more_hold Address Number Is Two fields None h m lt = absurd m
more_hold Address Number Is Two fields (Some more) h m lt = (h.of_number _ _ m.0, h.of_number _ _ m.1)

pub count_at_most : (version : Version) → column_count version ≤ 11
count_at_most One = omega arith
count_at_most Two = omega arith

pub each_holds : (Address Number : List ℕ → ℕ → Type 0) (Is : Kind → List ℕ → Type 0) (version : Version) (fields : Fields) (span : Span)
    → Holds Address Number Is
    → SaysSpan Address Number version fields span → (i : ℕ) → i < column_count version → Is (get_or kinds i text) (get_or fields i [])
each_holds Address Number Is version fields span h s zero lt = h.of_address _ _ s.low
each_holds Address Number Is version fields span h s (suc zero) lt = h.of_number _ _ s.low_op
each_holds Address Number Is version fields span h s (suc (suc zero)) lt = h.of_address _ _ s.high
each_holds Address Number Is version fields span h s (suc (suc (suc zero))) lt = h.of_number _ _ s.high_op
each_holds Address Number Is version fields span h s (suc (suc (suc (suc zero)))) lt = h.of_number _ _ s.unit
each_holds Address Number Is version fields span h s (suc (suc (suc (suc (suc zero))))) lt = h.of_number _ _ s.file
each_holds Address Number Is version fields span h s (suc (suc (suc (suc (suc (suc zero)))))) lt = h.of_number _ _ s.line
each_holds Address Number Is version fields span h s (suc (suc (suc (suc (suc (suc (suc zero))))))) lt = h.of_number _ _ s.column
each_holds Address Number Is version fields span h s (suc (suc (suc (suc (suc (suc (suc (suc zero)))))))) lt = h.of_flag _ _ s.is_stmt
each_holds Address Number Is version fields span h s (suc (suc (suc (suc (suc (suc (suc (suc (suc zero))))))))) lt =
    (more_hold Address Number Is version fields span.answer.more h s.more lt).0
each_holds Address Number Is version fields span h s (suc (suc (suc (suc (suc (suc (suc (suc (suc (suc zero)))))))))) lt =
    (more_hold Address Number Is version fields span.answer.more h s.more (omega (arith, lt))).1
each_holds Address Number Is version fields span h s (suc (suc (suc (suc (suc (suc (suc (suc (suc (suc (suc i))))))))))) lt =
    absurd (let few = count_at_most version in omega (arith, few, lt))

pub sound_column : (version : Version) (fields : Fields) (span : Span) → IsSpanRecord version fields span → (i : ℕ)
    → i < column_count version → IsOfColumn kinds fields i
sound_column version fields span s i lt =
    each_holds IsAddress IsDecimal IsOfKind version fields span
    (record { of_address = λ field n h. (n, h); of_number = λ field n h. (n, h); of_flag = λ field on h. (on, h) }) s i lt

-- ---- a record is of one span

one_flag : (t : List ℕ) (m n : Bool) → IsFlag t m → IsFlag t n → m ≡ n
one_flag t true true a b = refl
one_flag t false false a b = refl
one_flag t true false a b = let heads : 49 ≡ 48 = ap (λ (l : List ℕ). get_or l 0 0) (sym a ∙ b) in absurd (omega (arith, heads))
one_flag t false true a b = let heads : 48 ≡ 49 = ap (λ (l : List ℕ). get_or l 0 0) (sym a ∙ b) in absurd (omega (arith, heads))

make_more : ℕ → ℕ → More
make_more isa discriminator = record { isa = isa; discriminator = discriminator }

made_more : (m : More) → make_more m.isa m.discriminator ≡ m
unfolding make_more
made_more m = refl

one_more : (version : Version) (fields : Fields) (m n : Option More) → AreMore IsDecimal version fields m
    → AreMore IsDecimal version fields n → m ≡ n
one_more One fields m n a b = a ∙ sym b
one_more Two fields None n a b = absurd a
one_more Two fields (Some m) None a b = absurd b
one_more Two fields (Some m) (Some n) a b =
    let isa = one_decimal_number _ _ _ a.0 b.0 in
    let discriminator = one_decimal_number _ _ _ a.1 b.1 in
    let left = made_more m in
    let right = made_more n in
    cc

make : ℕ → ℕ → ℕ → ℕ → ℕ → ℕ → ℕ → ℕ → Bool → Option More → Span
make a b c d e f g h i m =
    record {
      low = record { address = a; op = b };
      high = record { address = c; op = d };
      answer = record { unit = e; file = f; line = g; column = h; is_stmt = i; more = m };
    }

made : (s : Span) → make s.low.address s.low.op s.high.address s.high.op s.answer.unit s.answer.file s.answer.line s.answer.column
    s.answer.is_stmt s.answer.more ≡ s
unfolding make
made s = refl

pub one_span : (version : Version) (fields : Fields) (s t : Span) → IsSpanRecord version fields s → IsSpanRecord version fields t → s ≡ t
one_span version fields s t a b =
    let low = one_address_number _ _ _ a.low b.low in
    let low_op = one_decimal_number _ _ _ a.low_op b.low_op in
    let high = one_address_number _ _ _ a.high b.high in
    let high_op = one_decimal_number _ _ _ a.high_op b.high_op in
    let unit = one_decimal_number _ _ _ a.unit b.unit in
    let file = one_decimal_number _ _ _ a.file b.file in
    let line = one_decimal_number _ _ _ a.line b.line in
    let column = one_decimal_number _ _ _ a.column b.column in
    let is_stmt = one_flag _ _ _ a.is_stmt b.is_stmt in
    let more = one_more version fields _ _ a.more b.more in
    let left = made s in
    let right = made t in
    cc

-- ---- plain records are records

more_plain : (version : Version) (fields : Fields) (more : Option More) → AreMore IsPlainDecimal version fields more
    → AreMore IsDecimal version fields more
more_plain One fields more h = h
more_plain Two fields None h = absurd h
more_plain Two fields (Some more) h = (h.0.number, h.1.number)

pub record_plain : (version : Version) (fields : Fields) (span : Span) → IsPlainRecord version fields span
    → IsSpanRecord version fields span
record_plain version fields span s = record {
  count = s.count;
  low = plain_address _ _ s.low;
  low_op = s.low_op.number;
  high = plain_address _ _ s.high;
  high_op = s.high_op.number;
  unit = s.unit.number;
  file = s.file.number;
  line = s.line.number;
  column = s.column.number;
  is_stmt = s.is_stmt;
  more = more_plain version fields span.answer.more s.more;
}
