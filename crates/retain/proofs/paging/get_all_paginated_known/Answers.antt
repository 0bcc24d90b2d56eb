-- `retain::paging::get_all_paginated_known` meets its contract. Assumes nothing.
use Rattle.edit.proofs.KnownPath.{units-told}
use Rattle.retain.proofs.LookLaws.{page-none}
use borrow.Author.Rules.{rules}
use Rattle.retain.proofs.paging.get_all_paginated_known.Goals as goal

-- src/paging.rt:81:9
pub returns-in_default : goal.returns-in_default
returns-in_default c = search (rules, page-none)

-- src/paging.rt:83:5
pub page_in-requires : goal.page_in-requires
page_in-requires c = search (rules, units-told)
