pub mod Borrowed
pub mod Bytes
pub mod FaultTexts
pub mod FirstValues
pub mod FormBytes
pub mod FormFaults
pub mod FrameBytes
pub mod FrameFaults
pub mod Frames
pub mod Laws
pub mod Leb128
pub mod Numbers
pub mod BlockLengths
pub mod Reading
pub mod Spelled
-- what public clauses say of sources
pub use Rattle.lnt_io.specs.CountedSources
pub use Rattle.lnt_io.specs.FaultTexts as SourceTexts
pub use Rattle.lnt_io.specs.Pulling
pub use Rattle.lnt_io.specs.Stopping
pub use Rattle.lnt_io.specs.declared.source.ReadFault as DeclaredReadFault
pub use Rattle.lnt_io.specs.declared.stop.Stop as DeclaredStop
