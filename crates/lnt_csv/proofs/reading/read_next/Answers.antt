use Rattle.csv.specs.Records.{fields_of}
use Rattle.lnt_csv.proofs.ReadingLaws.{less_left, more_read}
use Rattle.lnt_csv.proofs.reading.read_next.Goals as goal

pub returns-clause-read : goal.returns-clause-read
returns-clause-read c = λ bytes records h. more_read _ _ _ _ bytes records h (c.in-Ok.ensures.ready h.trim) c.in-Ok.ensures.flexible
    (c.in-Ok.ensures.reads h.trim h.ready)

pub returns-clause-less : goal.returns-clause-less
returns-clause-less c =
    let h = c.requires.2 in
    less_left c.args.reader.now c.read_byte_record.new.self (fields_of c.read_byte_record.new.row) c.in-Ok.found _ _ h
    (c.in-Ok.ensures.ready h.trim) (c.in-Ok.ensures.reads h.trim h.ready)
