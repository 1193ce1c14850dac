use Rattle.std.proofs.Common.{rules, subst}
use Rattle.std.specs.Io.KnownBytes.{Appends}
use Rattle.lnt_io.proofs.PrefixLaws.{so_stopped}
use Rattle.lnt_answers.proofs.RoomLaws.{text_in_room}
use Rattle.lnt_answers.proofs.SumPrefixes.{sum_stopped, sums_unbegun}
use Rattle.lnt_answers.proofs.SumLemmas.{sum_listed}
use Rattle.lnt_answers.specs.SumLines.{listed_at}
use Rattle.lnt_answers.proofs.sums.print_sum.Goals as goal

pub returns-in_err-path-clause-begun : goal.returns-in_err-path-clause-begun
returns-in_err-path-clause-begun g c =
    so_stopped c.from_residual.result _
    (sums_unbegun (g.O.Files.finds c.args.opener.now) c.args.index.now (listed_at c.args.index.now c.args.unit c.args.file)
    (g.W.Write.contents c.args.out.now))

pub returns-in_err-put_found-clause-begun : goal.returns-in_err-put_found-clause-begun
returns-in_err-put_found-clause-begun g c =
    so_stopped c.from_residual-in_err-put_found.result _
    (sums_unbegun (g.O.Files.finds c.args.opener.now) c.args.index.now (listed_at c.args.index.now c.args.unit c.args.file)
    (g.W.Write.contents c.args.out.now))

pub returns-in_err-write_whole-clause-begun : goal.returns-in_err-write_whole-clause-begun
returns-in_err-write_whole-clause-begun g c =
    so_stopped c.from_residual-in_err-write_whole.result _
    (sum_stopped (g.O.Files.finds c.args.opener.now) c.args.index.now c.args.unit c.args.file (g.W.Write.contents c.args.out.now)
    (g.W.Write.contents c.write_whole.new.out) c.in-Some.listed c.deref.result.now c.deref-2.result.now c.as_slice.result.now
    c.in_ok-found.found (search rules) (search rules) (search rules) c.in_ok-found.ensures.found
    (text_in_room c.clear.new.self.items c.put_found.new.line.items c.as_slice.result.now _ c.clear.ensures.items c.in_ok-put_found.ensures
    c.as_slice.ensures.value)
    c.in_err-write_whole.ensures.prefix)

pub returns-clause-sum : goal.returns-clause-sum
returns-clause-sum g c =
    sum_listed (g.O.Files.finds c.args.opener.now) c.args.index.now c.args.unit c.args.file (g.W.Write.contents c.args.out.now)
    (g.W.Write.contents c.write_whole.new.out) c.in-Some.listed c.deref.result.now c.deref-2.result.now c.in_ok-found.found
    c.status_of.result (search rules) (search rules) (search rules) c.in_ok-found.ensures.found
    (subst (Appends (g.W.Write.contents c.args.out.now) (g.W.Write.contents c.write_whole.new.out))
    (text_in_room c.clear.new.self.items c.put_found.new.line.items c.as_slice.result.now _ c.clear.ensures.items c.in_ok-put_found.ensures
    c.as_slice.ensures.value)
    c.in_ok-write_whole.ensures.whole) c.status_of.ensures

pub returns-in_err-found-clause-begun : goal.returns-in_err-found-clause-begun
returns-in_err-found-clause-begun g c =
    so_stopped c.from_residual-in_err-found.result _
    (sums_unbegun (g.O.Files.finds c.args.opener.now) c.args.index.now (listed_at c.args.index.now c.args.unit c.args.file)
    (g.W.Write.contents c.args.out.now))
