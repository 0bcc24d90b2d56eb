-- `trie::asking::is_match_in` meets its contract. Assumes nothing.
use Rattle.std.proofs.Common.{rules}
use Rattle.trie.proofs.AskLaws.{ask_is}
use Rattle.trie.proofs.asking.is_match_in.Goals as goal

pub returns : goal.returns
returns c = search (rules, ask_is)
