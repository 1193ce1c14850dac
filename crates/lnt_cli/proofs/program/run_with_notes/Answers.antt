use Rattle.std.proofs.Common.{map, rules, string_bytes}
use Rattle.std.specs.Io.KnownBytes.{Keeps}
use Rattle.lnt_cli.proofs.RefusedLemmas.{run_told}
use Rattle.lnt_cli.proofs.RunLemmas.{words_answered, words_refused, words_stopped}
use Rattle.lnt_cli.proofs.program.run_with_notes.Goals as goal

pub returns-in-Err-clause-stop : goal.returns-in-Err-clause-stop
returns-in-Err-clause-stop g c =
    let old = g.W.Write.contents c.args.out.now in
    let kept : Keeps old old = search rules in
    words_refused (g.O.Files.finds c.args.opener.now) (map string_bytes c.args.words.items) old old c.in-Err.stop c.from.result
    c.from.ensures (rw c.as_slice.ensures.value at (rw c.in-Err.is at c.request_of.ensures.refused)) kept

pub returns-clause-answer : goal.returns-clause-answer
returns-clause-answer g c =
    words_answered (g.O.Files.finds c.args.opener.now) (map string_bytes c.args.words.items) c.in-Ok.asked
    (g.W.Write.contents c.args.out.now) (g.W.Write.contents c.answer.new.out) c.answer.result c.map_err.result c.map_err.ensures.cases
    (rw c.as_slice.ensures.value at (rw c.in-Ok.is at c.request_of.ensures.asked))
    c.answer.ensures.answer

pub returns-clause-stop : goal.returns-clause-stop
returns-clause-stop g c =
    words_stopped (g.O.Files.finds c.args.opener.now) (map string_bytes c.args.words.items) c.in-Ok.asked
    (g.W.Write.contents c.args.out.now) (g.W.Write.contents c.answer.new.out) c.answer.result c.map_err.result c.map_err.ensures.cases
    (rw c.as_slice.ensures.value at (rw c.in-Ok.is at c.request_of.ensures.asked))
    c.answer.ensures.named c.answer.ensures.cause c.answer.ensures.stopped

pub returns-clause-refused : goal.returns-clause-refused
returns-clause-refused g c =
    run_told (g.O.Files.finds c.args.opener.now) (map string_bytes c.args.words.items) c.in-Ok.asked c.answer.result c.map_err.result
    (g.O.Files.refused c.args.opener.now) (g.O.Files.refused c.answer.new.opener) c.map_err.ensures.cases
    (rw c.as_slice.ensures.value at (rw c.in-Ok.is at c.request_of.ensures.asked)) c.answer.ensures.refused
