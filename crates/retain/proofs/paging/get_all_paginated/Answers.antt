-- `retain::paging::get_all_paginated` meets its contract. Assumes nothing.
use Rattle.retain.proofs.LookLaws.{page_other, page_store}
use borrow.Author.Rules.{rules}
use Rattle.retain.proofs.paging.get_all_paginated.Goals as goal

-- src/paging.rt:64:9
pub returns-then-not-is_store : goal.returns-then-not-is_store
returns-then-not-is_store c = search (rules, page_other)

-- src/paging.rt:54:1
pub returns : goal.returns
returns c = search (rules, page_store)
