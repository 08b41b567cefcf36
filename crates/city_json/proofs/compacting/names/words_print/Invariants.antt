use Rattle.std.proofs.Common.{◌≡◌, take}
use Rattle.city_json.specs.NamePrint.{words_print}
use Rattle.city_json.proofs.compacting.names.words_print.Given as goal

abbrev pub invariant-loop-word : goal.invariant-loop-word
invariant-loop-word l = l.print ≡ words_print l.before (take l.word-index l.words)
