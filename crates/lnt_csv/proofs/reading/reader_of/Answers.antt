use Rattle.std.proofs.Common.{◌∙◌, refl, sym, inr, arith}
use Rattle.csv.specs.Reading.{Reached, strip_bom}
use Rattle.lnt_csv.proofs.ReadingLaws.{bom_stripped}
use Rattle.lnt_csv.proofs.reading.reader_of.Goals as goal

pub returns : goal.returns
unfolding Reached
returns c =
    let made = c.from_reader.ensures in
    let plain = c.has_headers.ensures in
    let any = c.flexible.ensures in
    record {
      config = rw (any, plain) at made.config ∙ c.new.ensures.config;
      flexible = rw any at made.flexible;
      trim = rw (any, plain) at made.trim ∙ c.new.ensures.trim;
      ready = inr (inr (rw (any, plain) at made.has_headers, made.headers));
      between = rw made.state refl;
      rest = strip_bom c.args.bytes.now;
      left = made.source;
      reached = (sym made.state, refl);
      few = omega (arith, bom_stripped c.args.bytes.now);
    }
