-- A small GSYM file and what it answers, by computation. Two functions start at 0x1010: the second has no size, so it answers where
-- the first ends. Its info is also that of the function at 0x1020. In the first, file 2 is set after a row, and then file 0.
use Rattle.std.specs.Prelude.{codes, ◌≡◌, ℕ, List, ◌++◌, ◌∷◌, [], Option, Some, None, Err, Ok, drop, replicate, take}
use Rattle.std.specs.Int.{bytes_low_first}
use Rattle.lnt_records.specs.PathSpans.{PathAnswer}
use Rattle.lnt_wire.specs.declared.format.Order.TheVariants.{Little}
use Rattle.lnt_gsym.specs.GsymAnswers.{gsym_answer}
use Rattle.lnt_gsym.specs.GsymFiles.{gsym_of, order_of}
use Rattle.lnt_gsym.specs.declared.fault.GsymFault.{GsymFault}
use Rattle.lnt_gsym.specs.declared.fault.GsymReason.TheVariants.{Cut, Version}

-- a number of 4 bytes
abbrev pub four : ℕ → List ℕ
four n = bytes_low_first 0 4 n

-- 1-byte offsets of addresses, the base 0x1000, three addresses, and 9 bytes of strings at 92
abbrev pub example_header : List ℕ
example_header = codes "MYSG" ++ (1 ∷ 0 ∷ 1 ∷ 0 ∷ bytes_low_first 0 8 0x1000) ++ (four 3 ++ (four 92 ++ (four 9 ++ replicate 20 0)))

-- offsets, a byte between, infos at 101 and 136, and three files
abbrev pub example_tables : List ℕ
example_tables = (16 ∷ 16 ∷ 32 ∷ 0 ∷ four 101) ++ (four 136 ++ (four 136 ++ (four 3
    ++ (four 0 ++ (four 0 ++ (four 1 ++ (four 4 ++ (four 0 ++ four 4))))))))

abbrev pub example_strings : List ℕ
example_strings = (0 ∷ codes "/d") ++ ((0 ∷ codes "x.c") ++ (0 ∷ codes "f"))

-- the info of a function: its size, its name, its line table, and the end
abbrev pub example_info : ℕ → ℕ → List ℕ → List ℕ
example_info size count table = four size ++ (four 8 ++ (four 1 ++ (four count ++ (table ++ (four 0 ++ four 0)))))

abbrev pub example : List ℕ
example = example_header ++ (example_tables ++ (example_strings
    ++ (example_info 4 11 (0x7f ∷ 2 ∷ 5 ∷ 5 ∷ 1 ∷ 2 ∷ 14 ∷ 1 ∷ 0 ∷ 9 ∷ 0 ∷ [])
    ++ example_info 0 10 (0 ∷ 0 ∷ 7 ∷ 2 ∷ 0 ∷ 3 ∷ 1 ∷ 2 ∷ 0 ∷ 0 ∷ []))))

abbrev pub example_answer : ℕ → Option PathAnswer
example_answer a = elim (gsym_of Little example) [ Err fault ↦ None | Ok gsym ↦ gsym_answer gsym a ]

abbrev pub at_line : List ℕ → ℕ → Option PathAnswer
at_line path line = Some (record { path = path; line = line; column = None })

abbrev pub ExampleAnswers : Type 0
ExampleAnswers = (order_of example ≡ Some Little)
    × (example_answer 0x100f ≡ None)
    × (example_answer 0x1010 ≡ at_line (codes "/d/x.c") 5)
    × (example_answer 0x1012 ≡ at_line (codes "x.c") 6)
    × (example_answer 0x1013 ≡ None)
    × (example_answer 0x1014 ≡ at_line (codes "/d/x.c") 8)
    × (example_answer 0x1020 ≡ at_line (codes "/d/x.c") 8)

abbrev pub refused_at : ℕ → GsymFault
refused_at place = record { place = place; reason = Cut }

-- Another version is refused, and a file without its last byte: a length is cut.
abbrev pub ExampleRefused : Type 0
ExampleRefused = (gsym_of Little (take 4 example ++ (2 ∷ drop 5 example)) ≡ Err (record { place = 4; reason = Version }))
    × (gsym_of Little (take 169 example) ≡ Err (refused_at 166))
