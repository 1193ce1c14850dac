use Rattle.lnt_older.proofs.rows.header_numbers.Goals as goal

pub of-requires : goal.of-requires
of-requires c =
    rw (c.numbers_of-numbers.ensures, c.in_ok-lengths.ensures) (c.requires.unit.numbers c.args.address_size c.requires.size)
