use Rattle.std.proofs.Common.{arith, map, option_map}
use Rattle.lnt_spans.proofs.DerivedOrder.{below_from_not_ge}
use Rattle.lnt_spans.proofs.PositionLaws.{at_most_trans}
use Rattle.lnt_table.proofs.AskedLemmas.{none_given, one_found, rest_of}
use Rattle.lnt_table.proofs.wrong.WrongStretches.next_of_rest.Goals as goal

pub returns-in_default-clause-found : goal.returns-in_default-clause-found
returns-in_default-clause-found g c selection f f' list h =
    absurd ((rw c.in_default.is at h.are.rest) (below_from_not_ge c.if-ge.ensures))

pub returns-in_default-found-clause-found : goal.returns-in_default-found-clause-found
returns-in_default-found-clause-found g c selection f f' list h =
    let self = c.args.self.now in
    let some = below_from_not_ge c.if-ge.ensures in
    let rest = rest_of g.K.KeptStretches.value_of self.scope _ f f' h.given self.hand self.from self.end list h.are c.in-Some.difference
    c.in-Some.is some in
    let found = rw c.in_default-found.is at c.in_ok-found.ensures.found selection h.is_index h.live f f' h.same
    (λ p le lt. rest.ends.lasts.stay p (at_most_trans rest.past le) lt) rest.begins.differ (rw c.in-Some.is at h.ready) in
    record {
      is_index = rw c.in_ok-found.ensures.index h.is_index;
      live = rw c.in_ok-found.ensures.index h.live;
      same = h.same;
      given = h.given;
      so = h.so;
      are = none_given self.scope _ f f' (map g.K.KeptStretches.value_of h.given) (option_map g.K.KeptStretches.value_of self.hand)
          self.from self.end (map g.K.KeptStretches.value_of list) h.are some found.0;
      ready = rw c.in-Some.is found.1;
    }

pub returns-clause-found : goal.returns-clause-found
returns-clause-found g c selection f f' list h =
    let self = c.args.self.now in
    let some = below_from_not_ge c.if-ge.ensures in
    let rest = rest_of g.K.KeptStretches.value_of self.scope _ f f' h.given self.hand self.from self.end list h.are c.in-Some.difference
    c.in-Some.is some in
    let found = rw c.in-Some-found.is at c.in_ok-found.ensures.found selection h.is_index h.live f f' h.same
    (λ p le lt. rest.ends.lasts.stay p (at_most_trans rest.past le) lt) rest.begins.differ (rw c.in-Some.is at h.ready) in
    let given = one_found g.K.KeptStretches.value_of self.scope _ f f' h.given self.hand self.from self.end list h.are
    c.in-Some.difference c.in_ok-difference.difference c.in-Some-found.piece c.in-Some.is some found.0 c.in_ok-difference.ensures in (
      record {
        is_index = rw c.in_ok-found.ensures.index h.is_index;
        live = rw c.in_ok-found.ensures.index h.live;
        same = h.same;
        given = h.given;
        so = h.so;
        are = given.0;
        ready = rw c.in-Some.is found.1;
      },
      given.1,
    )

pub nearer-requires-clause-later : goal.nearer-requires-clause-later
nearer-requires-clause-later g c = (rw c.in-Some-found.is at c.in_ok-found.ensures.range).0

pub nearer-requires-clause-upto : goal.nearer-requires-clause-upto
nearer-requires-clause-upto g c = (rw c.in-Some-found.is at c.in_ok-found.ensures.range).1

pub returns-clause-fewer : goal.returns-clause-fewer
returns-clause-fewer g c = omega (arith, c.nearer.ensures)
