use Rattle.std.proofs.Common.{take}
use Rattle.lnt_words.specs.Words.{AreAddresses}
use Rattle.lnt_words.proofs.WordLemmas.{texts_of}
use Rattle.lnt_words.proofs.words.addresses_of.Given as goal

abbrev pub invariant-loop-word : goal.invariant-loop-word
invariant-loop-word l = AreAddresses (texts_of (take l.word-index l.given)) l.addresses.items
