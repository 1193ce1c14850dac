-- A small symbol file and what it answers, by computation. The second function overlaps the first, so it isn't kept. Its line
-- record at 0x24 isn't either, nor the first one's third, which overlaps the second; the last FILE of number 1 doesn't count.
use Rattle.std.specs.Prelude.{codes, ◌≡◌, ℕ, List, ◌++◌, ◌∷◌, [], Option, Some, None, Err, Ok}
use Rattle.lnt_records.specs.PathSpans.{PathAnswer}
use Rattle.lnt_symbols.specs.BreakpadAnswers.{records_of}
use Rattle.lnt_symbols.specs.SymbolTables.{symbol_answers}
use Rattle.lnt_symbols.specs.declared.fault.SymbolFault.TheVariants.{Line}
use Rattle.lnt_symbols.specs.declared.fault.LineReason.TheVariants.{NoFunction}

abbrev pub ended : List ℕ → List ℕ
ended line = line ++ 10 ∷ []

abbrev pub example : List ℕ
example = ended (codes "MODULE Linux x86_64 0 a") ++ (ended (codes "FILE 1 /a b.c") ++ (ended (codes "FUNC 10 10 0 main")
    ++ (ended (codes "10 4 5 1") ++ (ended (codes "14 8 6 2") ++ (ended (codes "18 8 7 1") ++ (ended (codes "FUNC m 1f 8 0 other")
    ++ (ended (codes "24 2 9 1") ++ (ended (codes "PUBLIC 30 0 end") ++ ended (codes "FILE 1 /other.c")))))))))

-- what the file answers, loaded at 0x1000
abbrev pub example_answer : ℕ → Option PathAnswer
example_answer a = elim (symbol_answers 4096 example) [ Err fault ↦ None | Ok answers ↦ answers a ]

abbrev pub ExampleAnswers : Type 0
ExampleAnswers = (example_answer 4112 ≡ Some (record { path = codes "/a b.c"; line = 5; column = None }))
    × (example_answer 4123 ≡ Some (record { path = []; line = 6; column = None }))
    × (example_answer 4124 ≡ None)
    × (example_answer 4132 ≡ None)

-- A line record after a PUBLIC is refused, with its line.
abbrev pub ExampleRefused : Type 0
ExampleRefused = records_of (example ++ ended (codes "30 4 5 1")) ≡ Err (Line 11 NoFunction)
