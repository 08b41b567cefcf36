use Rattle.std.proofs.Common.{◌≡◌, map, string_bytes}
use Rattle.command_runs.proofs.words.words_of.Given as goal

abbrev pub invariant-loop-word : goal.invariant-loop-word
invariant-loop-word l = l.words ≡ map string_bytes l.yielded
