-- The rows of some units have one table of each version.
use Rattle.std.proofs.Common.{◌≡◌, ◌∙◌, ℕ, List, subst, sym}
use Rattle.lnt_spans.specs.declared.answer.Version.{Version}
use Rattle.lnt_spans.proofs.CanonicalLaws.{one_number_list}
use Rattle.lnt_sequences.specs.Sequences.{Selection}
use Rattle.lnt_records.specs.Written.{IsPlainTable}
use Rattle.lnt_records.proofs.OneWrittenLaws.{one_plain}
use Rattle.lnt_table.specs.Written.{IsTableOfUnits}

pub one_of_units : (version : Version) (selection : Selection) (one other : List ℕ)
    → IsTableOfUnits version selection one → IsTableOfUnits version selection other → one ≡ other
one_of_units version selection one other a b =
    let same : a.spans ≡ b.spans = one_number_list a.spans b.spans a.canonical b.canonical (λ p. a.same p ∙ sym (b.same p)) in
    one_plain version one other b.spans (subst (IsPlainTable version one) same a.written.plain) b.written.plain
