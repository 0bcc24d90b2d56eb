-- `trie::calls::insert_known` meets its contract. Assumes nothing.
use Rattle.edit.proofs.StepLaws.{text-accepted}
use Rattle.trie.proofs.StepLaws.{insert_text_refused}
use borrow.Author.Rules.{rules}
use Rattle.std.proofs.lemmas.Result.{err_from_is_err_and}
use Rattle.trie.proofs.calls.insert_known.Goals as goal

-- src/calls.rt:31:9
pub returns-in_err-is_valid_topic_filter : goal.returns-in_err-is_valid_topic_filter
returns-in_err-is_valid_topic_filter c =
    let p = err_from_is_err_and c.from_residual.result c.from_residual.ensures.1 in
    rw (p.1, p.2) (search (rules, insert_text_refused))

-- src/calls.rt:33:5
pub insert_accepted-requires : goal.insert_accepted-requires
insert_accepted-requires c = search (rules, text-accepted)
