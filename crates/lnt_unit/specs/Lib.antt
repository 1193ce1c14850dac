pub mod BrokenUnits
pub mod ConversionSteps
pub mod Converting
pub mod FaultTexts
pub mod Laws
pub mod Readers
pub mod Spelled
pub mod Stops
pub mod UnitBytes
pub mod Units
pub mod Views
-- what public clauses say of sources
pub use Rattle.lnt_io.specs.Pulling
-- of units as values
pub use Rattle.lnt_header.specs.Conversion
pub use Rattle.lnt_header.specs.Encoding
pub use Rattle.lnt_header.specs.FaultTexts as UnitFaultTexts
pub use Rattle.lnt_header.specs.HeaderRules
pub use Rattle.lnt_header.specs.HeaderTests
pub use Rattle.lnt_header.specs.OpRules
pub use Rattle.lnt_header.specs.Parts
-- of their bytes
pub use Rattle.lnt_header_bytes.specs.Borrowed
pub use Rattle.lnt_header_bytes.specs.Broken
pub use Rattle.lnt_header_bytes.specs.HeaderBytes
pub use Rattle.lnt_header_bytes.specs.Stepping
pub use Rattle.lnt_header_bytes.specs.Marks
pub use Rattle.lnt_header_bytes.specs.Large
pub use Rattle.lnt_ops.specs.OpBytes
pub use Rattle.lnt_ops.specs.Short
pub use Rattle.lnt_ops.specs.Walks
-- the types of units that they speak of
pub use Rattle.lnt_header.specs.declared.numbers.NumberParts as DeclaredNumberParts
pub use Rattle.lnt_header.specs.declared.op.Op as DeclaredOp
pub use Rattle.lnt_header.specs.declared.unit_parts.UnitParts as DeclaredParts
