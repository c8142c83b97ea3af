use Rattle.fm_value.proofs.Trees.{tree_of-postfix, postfix-tree_of}
use Rattle.fm_value.proofs.laws.each_tree_has_one_list.Goals as goal

pub returns-clause-made : goal.returns-clause-made
returns-clause-made c = tree_of-postfix

pub returns-clause-only : goal.returns-clause-only
returns-clause-only c = postfix-tree_of
