-- `trie::asking::is_match_known` meets its contract. Assumes nothing.
use Rattle.edit.proofs.StepLaws.{text-accepted}
use Rattle.trie.proofs.AskLaws.{ask_refused}
use borrow.Author.Rules.{rules}
use Rattle.std.proofs.lemmas.Result.{err_from_is_err_and}
use Rattle.trie.proofs.asking.is_match_known.Goals as goal

-- src/asking.rt:59:9
pub returns-in_err-is_valid_topic_name : goal.returns-in_err-is_valid_topic_name
returns-in_err-is_valid_topic_name c =
    let p = err_from_is_err_and c.from_residual.result c.from_residual.ensures.1 in
    rw (p.1, p.2) (search (rules, ask_refused))

-- src/asking.rt:61:5
pub is_match_accepted-requires : goal.is_match_accepted-requires
is_match_accepted-requires c = search (rules, text-accepted)
