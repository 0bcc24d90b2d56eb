-- `trie::values::find_value` meets its contract. Assumes nothing.
use Rattle.trie.proofs.SpotLaws.{SpotLeft}
use Rattle.trie.proofs.values.find_value.Given as goal

abbrev pub invariant-loop-k : goal.invariant-loop-k
invariant-loop-k l = SpotLeft l.base l.s l.i l.own l.value l.k
