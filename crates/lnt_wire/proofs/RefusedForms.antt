-- Where no field of the kind that a form has is read, no value in the form is, for the same reason; and where one is, a value is.
use Rattle.std.proofs.Common.{◌≡◌, ℕ, List, Result, IsErr, IsErrAnd, IfOk, IfErr, OnErr, arith}
use Rattle.lnt_wire.specs.Reading.{At, Reads, RefusesField, IsCutShort, Fault, Reason}
use Rattle.lnt_wire.specs.Bytes.{TakenBytes}
use Rattle.lnt_wire.specs.declared.form.Form.TheVariants as forms
use Rattle.lnt_wire.specs.declared.form.BlockLength.TheVariants.{Leb, One, Two, Four}
use Rattle.lnt_wire.specs.declared.view.ValueView.{ValueView}
use Rattle.lnt_wire.specs.Borrowed.{value_of}
use Rattle.lnt_wire.specs.FormBytes.{TextBytes, BlockBytes, ValueBytes, FormBytes, form_of, Form, FormValue}
use Rattle.lnt_wire.specs.FormFaults.{IsCutText, IsValueFault}
use Rattle.lnt_wire.specs.Leb128.{UnsignedLeb, IsLargeUnsigned, IsLebFault}
use Rattle.lnt_wire.specs.Numbers.{NumberBytes, OffsetBytes, offset_size, Format}
use Rattle.lnt_wire.specs.BlockLengths.{LengthBytes, IsBlockValueFault}
use Rattle.std.proofs.lemmas.Grind.{common_steps}

-- no value of one kind, where there is none of another that each has
refused_as : {X Y : Type 0} (IsSo : Reason → List ℕ → Type 0) (P : X → List ℕ → Type 0) (Q : Y → List ℕ → Type 0) (old : At) (fault : Fault)
    → ((y : Y) (bytes : List ℕ) → Q y bytes → (x : X) × P x bytes) → RefusesField IsSo P old fault → RefusesField IsSo Q old fault
refused_as IsSo P Q old fault part r = grind (arith, common_steps)

-- what was refused in one form
refused_in : (format : Format) (form known : Form) (old : At) (fault : Fault) → form ≡ known
    → RefusesField (IsValueFault format old.order known) (ValueBytes format old.order known) old fault
    → RefusesField (IsValueFault format old.order form) (ValueBytes format old.order form) old fault
refused_in format form known old fault is r = grind (arith, common_steps)

pub refuses_data1 : (format : Format) (form : Form) (old : At) (fault : Fault) → form ≡ forms.Data1
    → RefusesField (IsCutShort 1) (NumberBytes old.order 1) old fault
    → RefusesField (IsValueFault format old.order form) (ValueBytes format old.order form) old fault
refuses_data1 format form old fault is r =
    refused_in format form forms.Data1 old fault is
    (refused_as (IsCutShort 1) (NumberBytes old.order 1) (ValueBytes format old.order forms.Data1) old fault
    (λ value bytes p. grind (arith, common_steps)) r)

pub refuses_data2 : (format : Format) (form : Form) (old : At) (fault : Fault) → form ≡ forms.Data2
    → RefusesField (IsCutShort 2) (NumberBytes old.order 2) old fault
    → RefusesField (IsValueFault format old.order form) (ValueBytes format old.order form) old fault
refuses_data2 format form old fault is r =
    refused_in format form forms.Data2 old fault is
    (refused_as (IsCutShort 2) (NumberBytes old.order 2) (ValueBytes format old.order forms.Data2) old fault
    (λ value bytes p. grind (arith, common_steps)) r)

pub refuses_data4 : (format : Format) (form : Form) (old : At) (fault : Fault) → form ≡ forms.Data4
    → RefusesField (IsCutShort 4) (NumberBytes old.order 4) old fault
    → RefusesField (IsValueFault format old.order form) (ValueBytes format old.order form) old fault
refuses_data4 format form old fault is r =
    refused_in format form forms.Data4 old fault is
    (refused_as (IsCutShort 4) (NumberBytes old.order 4) (ValueBytes format old.order forms.Data4) old fault
    (λ value bytes p. grind (arith, common_steps)) r)

pub refuses_data8 : (format : Format) (form : Form) (old : At) (fault : Fault) → form ≡ forms.Data8
    → RefusesField (IsCutShort 8) (NumberBytes old.order 8) old fault
    → RefusesField (IsValueFault format old.order form) (ValueBytes format old.order form) old fault
refuses_data8 format form old fault is r =
    refused_in format form forms.Data8 old fault is
    (refused_as (IsCutShort 8) (NumberBytes old.order 8) (ValueBytes format old.order forms.Data8) old fault
    (λ value bytes p. grind (arith, common_steps)) r)

pub refuses_data16 : (format : Format) (form : Form) (old : At) (fault : Fault) → form ≡ forms.Data16
    → RefusesField (IsCutShort 16) (TakenBytes 16) old fault
    → RefusesField (IsValueFault format old.order form) (ValueBytes format old.order form) old fault
refuses_data16 format form old fault is r =
    refused_in format form forms.Data16 old fault is
    (refused_as (IsCutShort 16) (TakenBytes 16) (ValueBytes format old.order forms.Data16) old fault
    (λ value bytes p. grind (arith, common_steps)) r)

pub refuses_strp : (format : Format) (form : Form) (old : At) (fault : Fault) → form ≡ forms.Strp
    → RefusesField (IsCutShort (offset_size format)) (OffsetBytes format old.order) old fault
    → RefusesField (IsValueFault format old.order form) (ValueBytes format old.order form) old fault
refuses_strp format form old fault is r =
    refused_in format form forms.Strp old fault is
    (refused_as (IsCutShort (offset_size format)) (OffsetBytes format old.order) (ValueBytes format old.order forms.Strp) old fault
    (λ value bytes p. grind (arith, common_steps)) r)

pub refuses_line_strp : (format : Format) (form : Form) (old : At) (fault : Fault) → form ≡ forms.LineStrp
    → RefusesField (IsCutShort (offset_size format)) (OffsetBytes format old.order) old fault
    → RefusesField (IsValueFault format old.order form) (ValueBytes format old.order form) old fault
refuses_line_strp format form old fault is r =
    refused_in format form forms.LineStrp old fault is
    (refused_as (IsCutShort (offset_size format)) (OffsetBytes format old.order) (ValueBytes format old.order forms.LineStrp) old fault
    (λ value bytes p. grind (arith, common_steps)) r)

pub refuses_udata : (format : Format) (form : Form) (old : At) (fault : Fault) → form ≡ forms.Udata
    → RefusesField (IsLebFault IsLargeUnsigned) UnsignedLeb old fault
    → RefusesField (IsValueFault format old.order form) (ValueBytes format old.order form) old fault
refuses_udata format form old fault is r =
    refused_in format form forms.Udata old fault is
    (refused_as (IsLebFault IsLargeUnsigned) UnsignedLeb (ValueBytes format old.order forms.Udata) old fault
    (λ value bytes p. grind (arith, common_steps)) r)

pub refuses_string : (format : Format) (form : Form) (old : At) (fault : Fault) → form ≡ forms.Text
    → RefusesField IsCutText TextBytes old fault
    → RefusesField (IsValueFault format old.order form) (ValueBytes format old.order form) old fault
refuses_string format form old fault is r =
    refused_in format form forms.Text old fault is
    (refused_as IsCutText TextBytes (ValueBytes format old.order forms.Text) old fault (λ value bytes p. grind (arith, common_steps)) r)

pub refuses_block : (format : Format) (form : Form) (old : At) (fault : Fault) → form ≡ forms.Block
    → RefusesField (IsBlockValueFault old.order Leb) (BlockBytes (LengthBytes old.order Leb)) old fault
    → RefusesField (IsValueFault format old.order form) (ValueBytes format old.order form) old fault
refuses_block format form old fault is r =
    refused_in format form forms.Block old fault is
    (refused_as (IsBlockValueFault old.order Leb) (BlockBytes (LengthBytes old.order Leb))
    (ValueBytes format old.order forms.Block) old fault (λ value bytes p. grind (arith, common_steps)) r)

pub refuses_block1 : (format : Format) (form : Form) (old : At) (fault : Fault) → form ≡ forms.Block1
    → RefusesField (IsBlockValueFault old.order One) (BlockBytes (LengthBytes old.order One)) old fault
    → RefusesField (IsValueFault format old.order form) (ValueBytes format old.order form) old fault
refuses_block1 format form old fault is r =
    refused_in format form forms.Block1 old fault is
    (refused_as (IsBlockValueFault old.order One) (BlockBytes (LengthBytes old.order One))
    (ValueBytes format old.order forms.Block1) old fault (λ value bytes p. grind (arith, common_steps)) r)

pub refuses_block2 : (format : Format) (form : Form) (old : At) (fault : Fault) → form ≡ forms.Block2
    → RefusesField (IsBlockValueFault old.order Two) (BlockBytes (LengthBytes old.order Two)) old fault
    → RefusesField (IsValueFault format old.order form) (ValueBytes format old.order form) old fault
refuses_block2 format form old fault is r =
    refused_in format form forms.Block2 old fault is
    (refused_as (IsBlockValueFault old.order Two) (BlockBytes (LengthBytes old.order Two))
    (ValueBytes format old.order forms.Block2) old fault (λ value bytes p. grind (arith, common_steps)) r)

pub refuses_block4 : (format : Format) (form : Form) (old : At) (fault : Fault) → form ≡ forms.Block4
    → RefusesField (IsBlockValueFault old.order Four) (BlockBytes (LengthBytes old.order Four)) old fault
    → RefusesField (IsValueFault format old.order form) (ValueBytes format old.order form) old fault
refuses_block4 format form old fault is r =
    refused_in format form forms.Block4 old fault is
    (refused_as (IsBlockValueFault old.order Four) (BlockBytes (LengthBytes old.order Four))
    (ValueBytes format old.order forms.Block4) old fault (λ value bytes p. grind (arith, common_steps)) r)

-- the refusal of each form, which the reader of values cites
pub ruleset value_refusals = (
  refuses_data1,
  refuses_data2,
  refuses_data4,
  refuses_data8,
  refuses_data16,
  refuses_strp,
  refuses_line_strp,
  refuses_udata,
  refuses_string,
  refuses_block,
  refuses_block1,
  refuses_block2,
  refuses_block4,
)

-- ---- how a read of a value ends

-- a refusal, handed on
pub passed_on : {T E : Type 0} (r : Result T E) (e : E) (P : E → Type 0) → IsErrAnd r (λ other. other ≡ e) → P e → IfErr r P
passed_on r e P is p = grind (arith, common_steps)

pub hands_on : {T : Type 0} (r : Result T Fault) (format : Format) (form : Form) (old : At) (fault : Fault)
    → IsErrAnd r (λ other. other ≡ fault) → RefusesField (IsValueFault format old.order form) (ValueBytes format old.order form) old fault
    → IfErr r (λ other. RefusesField (IsValueFault format old.order form) (ValueBytes format old.order form) old other)
hands_on r format form old fault is refuses = grind (arith, common_steps, passed_on)

pub gives_none : {T E : Type 0} (r : Result T E) (P : T → Type 0) → IsErr r → IfOk r P
gives_none r P p = grind (arith, common_steps)

pub leaves_it : {T E : Type 0} (r : Result T E) (old new : At) → new ≡ old → OnErr r (new ≡ old)
leaves_it r old new same = grind (arith, common_steps)

-- the field that was read, as a value in its form
pub reads_value : {X : Type 0} (Spells : X → List ℕ → Type 0) (x : X) (format : Format) (form : Form) (value : FormValue) (old new : At)
    → form ≡ form_of value → ((bytes : List ℕ) → Spells x bytes → FormBytes format old.order value bytes)
    → Reads Spells x old new → Reads (ValueBytes format old.order form) value old new
reads_value Spells x format form value old new is there read = grind (arith, common_steps)

-- a refusal for another reason that follows from it
pub refuses_as : {T E : Type 0} (r : Result T E) (P Q : E → Type 0) → ((e : E) → P e → Q e) → IfErr r P → IfErr r Q
refuses_as r P Q f p = grind (arith, common_steps)

-- a value read in one form, and in any format
pub reads_in : (r : Result ValueView Fault) (format : Format) (form known : Form) (old new : At) → form ≡ known
    → IfOk r (λ view. (any : Format) → Reads (ValueBytes any old.order known) (value_of view) old new)
    → IfOk r (λ view. Reads (ValueBytes format old.order form) (value_of view) old new)
reads_in r format form known old new is p = grind (arith, common_steps)
