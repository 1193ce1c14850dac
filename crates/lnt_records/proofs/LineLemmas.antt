-- Lines that are parsed are the records that `csv` reads.
use Rattle.std.proofs.Common.{◌≡◌, ◌∙◌, ℕ, List, [], ◌∷◌, ◌++◌, Option, Some, None, length, refl, sym, ap, append_assoc, append-nil}
use Rattle.lnt_spans.specs.declared.answer.Answer.{Answer}
use Rattle.lnt_spans.specs.declared.answer.More.{More}
use Rattle.lnt_spans.specs.declared.answer.Version.{Version}
use Rattle.lnt_spans.specs.declared.answer.Version.TheVariants.{One, Two}
use Rattle.lnt_spans.specs.declared.position.Position.{Position}
use Rattle.lnt_spans.specs.declared.span.Span.{Span}
use Rattle.lnt_text.specs.Digits.{Begins}
use Rattle.lnt_records.specs.Lines.{AreMoreFields, IsAnswer, IsFlagBefore, IsMore, IsPosition, SaysLine}
use Rattle.lnt_records.specs.Table.{AreMore, Fields, column_count}
use Rattle.lnt_records.specs.Written.{following}

-- ---- parts of a line

-- one field before others
past : (field bytes next tail : List ℕ) (fields : Fields) → bytes ≡ field ++ 44 ∷ next → 44 ∷ next ≡ following fields ++ tail
    → 44 ∷ bytes ≡ following (field ∷ fields) ++ tail
past field bytes next tail fields e f =
    ap (λ (t : List ℕ). 44 ∷ t) e ∙ ap (λ (t : List ℕ). 44 ∷ field ++ t) f ∙ sym (append_assoc (44 ∷ field) (following fields) tail)

pub position_taken : (Address Number : List ℕ → ℕ → Type 0) (position : Position) (bytes next rest : List ℕ)
    → Begins Address bytes position.address 44 next
    → Begins Number next position.op 44 rest → IsPosition Address Number position bytes rest
position_taken Address Number position bytes next rest a b = record {
  address = a.prefix;
  op = b.prefix;
  joined = a.joined ∙ ap (λ (t : List ℕ). a.prefix ++ 44 ∷ t) b.joined;
  address_is = a.spells;
  op_is = b.spells;
}

pub no_more_taken : (Number : List ℕ → ℕ → Type 0) (bytes rest : List ℕ) → bytes ≡ 10 ∷ rest → IsMore Number One None bytes rest
no_more_taken Number bytes rest e = record { fields = []; joined = e; fields_are = (refl, refl) }

pub more_taken : (Number : List ℕ → ℕ → Type 0) (more : More) (bytes s1 s2 rest : List ℕ) → bytes ≡ 44 ∷ s1
    → Begins Number s1 more.isa 44 s2
    → Begins Number s2 more.discriminator 10 rest → IsMore Number Two (Some more) bytes rest
more_taken Number more bytes s1 s2 rest e a b =
    let last : 44 ∷ s2 ≡ following (b.prefix ∷ []) ++ 10 ∷ rest =
    ap (λ (t : List ℕ). 44 ∷ t) b.joined ∙ ap (λ (t : List ℕ). 44 ∷ t ++ 10 ∷ rest) (sym (append-nil b.prefix)) in
    record {
      fields = a.prefix ∷ b.prefix ∷ [];
      joined = e ∙ past a.prefix s1 s2 (10 ∷ rest) (b.prefix ∷ []) a.joined last;
      fields_are = (a.prefix, b.prefix, refl, a.spells, b.spells);
    }

pub answer_taken : (Number : List ℕ → ℕ → Type 0) (version : Version) (answer : Answer) (s0 s1 s2 s3 s4 s5 s6 : List ℕ)
    → Begins Number s0 answer.unit 44 s1
    → Begins Number s1 answer.file 44 s2 → Begins Number s2 answer.line 44 s3 → Begins Number s3 answer.column 44 s4
    → IsFlagBefore answer.is_stmt s4 s5
    → IsMore Number version answer.more s5 s6 → IsAnswer Number version answer s0 s6
answer_taken Number version answer s0 s1 s2 s3 s4 s5 s6 unit file line column is_stmt more =
    let flag : 44 ∷ s4 ≡ following (is_stmt.text ∷ more.fields) ++ 10 ∷ s6 =
    ap (λ (t : List ℕ). 44 ∷ t) is_stmt.joined ∙ ap (λ (t : List ℕ). 44 ∷ is_stmt.text ++ t) more.joined
    ∙ sym (append_assoc (44 ∷ is_stmt.text) (following more.fields) (10 ∷ s6)) in
    record {
      unit = unit.prefix;
      file = file.prefix;
      line = line.prefix;
      column = column.prefix;
      is_stmt = is_stmt.text;
      more = more.fields;
      joined =
          past unit.prefix s0 s1 (10 ∷ s6) (file.prefix ∷ line.prefix ∷ column.prefix ∷ is_stmt.text ∷ more.fields) unit.joined
          (past file.prefix s1 s2 (10 ∷ s6) (line.prefix ∷ column.prefix ∷ is_stmt.text ∷ more.fields) file.joined
          (past line.prefix s2 s3 (10 ∷ s6) (column.prefix ∷ is_stmt.text ∷ more.fields) line.joined
          (past column.prefix s3 s4 (10 ∷ s6) (is_stmt.text ∷ more.fields) column.joined flag)));
      unit_is = unit.spells;
      file_is = file.spells;
      line_is = line.spells;
      column_is = column.spells;
      is_stmt_is = is_stmt.text_is;
      more_are = more.fields_are;
    }

-- ---- a line

pub more_said : (Number : List ℕ → ℕ → Type 0) (version : Version) (answer : Answer) (m : Fields) (a b c d e f g h i : List ℕ)
    → AreMoreFields Number version m answer.more
    → (length (a ∷ b ∷ c ∷ d ∷ e ∷ f ∷ g ∷ h ∷ i ∷ m) ≡ column_count version)
    × AreMore Number version (a ∷ b ∷ c ∷ d ∷ e ∷ f ∷ g ∷ h ∷ i ∷ m) answer.more
more_said Number version answer m a b c d e f g h i p = by version answer.more p
  where
    by : (v : Version) (more : Option More) → AreMoreFields Number v m more
        → (length (a ∷ b ∷ c ∷ d ∷ e ∷ f ∷ g ∷ h ∷ i ∷ m) ≡ column_count v) × AreMore Number v (a ∷ b ∷ c ∷ d ∷ e ∷ f ∷ g ∷ h ∷ i ∷ m) more
    by One more p = rw p.0 (refl, p.1)
    by Two None p = absurd p
    by Two (Some more) p = rw p.2 (refl, (p.3, p.4))

pub line_taken : (Address Number : List ℕ → ℕ → Type 0) (version : Version) (span : Span) (s0 s1 s2 s3 : List ℕ)
    → IsPosition Address Number span.low s0 s1
    → IsPosition Address Number span.high s1 s2 → IsAnswer Number version span.answer s2 s3 → SaysLine Address Number version span s0 s3
line_taken Address Number version span s0 s1 s2 s3 low high answer =
    let rest : Fields = answer.unit ∷ answer.file ∷ answer.line ∷ answer.column ∷ answer.is_stmt ∷ answer.more in
    let more = more_said Number version span.answer answer.more low.address low.op high.address high.op answer.unit answer.file answer.line
    answer.column answer.is_stmt answer.more_are in
    let op : 44 ∷ (high.op ++ 44 ∷ s2) ≡ following (high.op ∷ rest) ++ 10 ∷ s3 =
    past high.op (high.op ++ 44 ∷ s2) s2 (10 ∷ s3) rest refl answer.joined in
    let address : 44 ∷ s1 ≡ following (high.address ∷ high.op ∷ rest) ++ 10 ∷ s3 =
    past high.address s1 (high.op ++ 44 ∷ s2) (10 ∷ s3) (high.op ∷ rest) high.joined op in
    let all : 44 ∷ (low.op ++ 44 ∷ s1) ≡ following (low.op ∷ high.address ∷ high.op ∷ rest) ++ 10 ∷ s3 =
    past low.op (low.op ++ 44 ∷ s1) s1 (10 ∷ s3) (high.address ∷ high.op ∷ rest) refl address in
    let fields : Fields = low.op ∷ high.address ∷ high.op ∷ rest in
    record {
      fields = low.address ∷ fields;
      joined =
          low.joined ∙ ap (λ (t : List ℕ). low.address ++ t) all ∙ sym (append_assoc low.address (following fields) (10 ∷ s3))
          ∙ sym (append_assoc (low.address ++ following fields) (10 ∷ []) s3);
      says = record {
        count = more.0;
        low = low.address_is;
        low_op = low.op_is;
        high = high.address_is;
        high_op = high.op_is;
        unit = answer.unit_is;
        file = answer.file_is;
        line = answer.line_is;
        column = answer.column_is;
        is_stmt = answer.is_stmt_is;
        more = more.1;
      };
    }
