-- Prefixes of the line that says why a section isn't converted.
use Rattle.std.proofs.Common.{◌≡◌, ℕ, List, [], ◌∷◌, ◌++◌, Option, Some, None, Result, Ok, Err, OnErr, ap, ◌∙◌, append-nil, inl, inr, refl}
use Rattle.std.specs.Io.KnownBytes.{Keeps}
use Rattle.lnt_io.specs.Prefixes.{AppendsPrefix}
use Rattle.lnt_io.specs.declared.io_stop.IoStop.{IoStop}
use Rattle.lnt_io.specs.declared.status.Status.{Status}
use Rattle.lnt_io.specs.declared.status.Status.TheVariants.{No}
use Rattle.lnt_io.proofs.PrefixLaws.{appends_known}
use Rattle.lnt_wire.specs.declared.format.Format.{Format}
use Rattle.lnt_wire.specs.declared.format.Order.{Order}
use Rattle.lnt_unit.specs.Converting.{IsConvertFault}
use Rattle.lnt_unit.specs.declared.convert.ConvertFault.{ConvertFault}
use Rattle.lnt_unit.specs.declared.convert.ConvertFault.TheVariants.{Memory}
use Rattle.lnt_dump.specs.Printed.{IsConversionBegun, refusal_text}

none_prefix : (prefix rest : List ℕ) → prefix ++ rest ≡ [] → prefix ≡ []
none_prefix [] rest e = refl
none_prefix (byte ∷ prefix) rest e = absurd (cc e)

-- a prefix of nothing
kept_prefix : (old new : Option (List ℕ)) → AppendsPrefix old new [] → Keeps old new
kept_prefix None new f = tt
kept_prefix (Some xs) None f = absurd f.appended
kept_prefix (Some xs) (Some ys) f =
    f.appended ∙ ap (λ (bytes : List ℕ). xs ++ bytes) (none_prefix f.prefix f.rest f.joined) ∙ append-nil xs

-- a prefix of the line that says why a section isn't converted; nothing where memory ran out
line_begun : (order : Order) (section : List ℕ) (format : Format) (to : Order) (fault : ConvertFault) (old new : Option (List ℕ))
    → IsConvertFault order section format to fault → AppendsPrefix old new (refusal_text fault)
    → IsConversionBegun order section format to old new
line_begun order section format to Memory old new is prefix = inl (kept_prefix old new prefix)
line_begun order section format to fault old new is prefix =
    let text = refusal_text fault in
    inr (record { whole = text; ending = No; is_end = (fault, λ e. absurd (cc e), is, appends_known old text); prefix = prefix })

pub refusal_begun : (order : Order) (section : List ℕ) (format : Format) (to : Order) (fault : ConvertFault) (old new : Option (List ℕ))
    (printed : Result Status IoStop) → IsConvertFault order section format to fault
    → OnErr printed (AppendsPrefix old new (refusal_text fault)) → OnErr printed (IsConversionBegun order section format to old new)
refusal_begun order section format to fault old new (Ok status) is prefix = tt
refusal_begun order section format to fault old new (Err io_stop) is prefix = line_begun order section format to fault old new is prefix
