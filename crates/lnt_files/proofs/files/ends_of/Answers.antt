use Rattle.std.proofs.Common.{◌≡◌, length, rules}
use Rattle.lnt_files.proofs.KeptLemmas.{keeps_more, next_file}
use Rattle.lnt_files.proofs.files.ends_of.Goals as goal

pub add_path-requires : goal.add_path-requires
add_path-requires c = next_file c.loop.invariant c.requires.usable c.in-Some.ensures

pub loop-preserved : goal.loop-preserved
loop-preserved c =
    let end : c.len.result ≡ length c.add_path.new.out.items = search rules in
    rw c.in_ok-push.ensures.items
    (keeps_more c.loop.invariant c.add_path.new.out.items (record { end = c.len.result; listed = c.listed.result }) c.in-Some.ensures
    c.in_ok-add_path.ensures c.listed.ensures end)
