-- `trie::asking::matches_known` meets its contract. Assumes nothing.
use Rattle.edit.proofs.StepLaws.{text-accepted}
use Rattle.trie.proofs.AskLaws.{list_refused, name_size}
use borrow.Author.Rules.{rules}
use Rattle.std.proofs.lemmas.Result.{err_from_is_err_and}
use Rattle.trie.proofs.asking.matches_known.Goals as goal

-- src/asking.rt:107:9
pub returns-in_err-is_valid_topic_name : goal.returns-in_err-is_valid_topic_name
returns-in_err-is_valid_topic_name c =
    let p = err_from_is_err_and c.from_residual.result c.from_residual.ensures.1 in
    rw (p.1, p.2) (list_refused c.args.region.now c.args.name.now c.is_valid_topic_name.ensures c.args.out.now c.in_err-is_valid_topic_name.was)

-- src/asking.rt:109:5
pub list_accepted-requires : goal.list_accepted-requires
list_accepted-requires c = search (rules, text-accepted, name_size)
