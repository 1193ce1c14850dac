use Rattle.std.proofs.Common.{◌≡◌, option_map, option_copied}
use Rattle.lnt_words.specs.Words.{size_bytes}
use Rattle.lnt_cli.proofs.UpgradeLemmas.{text_before, told_of}
use Rattle.lnt_cli.proofs.reading.upgrade_section.Goals as goal

pub returns-clause-answer : goal.returns-clause-answer
returns-clause-answer g c =
    let same : option_copied c.as_deref.result ≡ option_map (λ text. text.items) c.in_ok-text.text = c.as_deref.ensures.value in
    let printed = rw (c.bytes-size.ensures, same) at (rw c.in_ok-status.ensures.ok at c.print_upgraded-printed.ensures.printed) in
    record {
      bytes = c.in_ok-bytes.bytes.items;
      of_section = rw c.in_ok-bytes.ensures.ok at c.bytes_of_file-read.ensures.bytes;
      text = option_map (λ text. text.items) c.in_ok-text.text;
      of_directories = text_before (g.O.Files.finds c.args.opener.now) (g.O.Files.finds c.bytes_of_file-read.new.opener) _ _
          c.bytes_of_file-read.ensures.later c.in_ok-text.ensures.text;
      so = rw c.plain.ensures (told_of c.args.from.now.order (size_bytes c.args.from.now.address_size) _ _ _
          (g.W.Write.contents c.args.out.now) (g.W.Write.contents c.print_upgraded-printed.new.out) c.in_ok-status.status
          c.deref.ensures.value printed);
    }
