-- The reducer over a pool may go to any thread.
use denote.RattleType.{RattleType}
use denote.Param.Send.{IsSend, sendable}
use denote.Param.SendFields.{declared_send}
use Rattle.std.proofs.Crossing.{crosses}
use Rattle.dk_model.proofs.signature.Pat.TheLaws.TheKnot as PatKnot
use Rattle.shared_term.specs.contracts.change.Frame as Frame
use Rattle.shared_term.specs.contracts.id.TermId as TermId
use Rattle.shared_term.specs.contracts.memo.Memo as Memo
use Rattle.shared_term.specs.contracts.memo.Slot as MemoSlot
use Rattle.shared_term.specs.contracts.memos.Memos as Memos
use Rattle.shared_term.specs.contracts.nodes.Nodes as Nodes
use Rattle.shared_term.specs.contracts.pool.Pool as Pool
use Rattle.shared_term.specs.contracts.summary.Summary as Summary
use Rattle.rule_match.specs.contracts.cell.KeptCell as KeptCell
use Rattle.rule_match.specs.contracts.cell.KeptRow as KeptRow
use Rattle.rule_match.specs.contracts.branch.Branch as TreeBranch
use Rattle.rule_match.specs.contracts.branch.Node as TreeNode
use Rattle.rule_match.specs.contracts.side.Side as Side
use Rattle.rule_match.specs.contracts.tree.Tree as Tree
use Rattle.conversion.specs.contracts.state.Answer as Answer
use Rattle.conversion.specs.contracts.state.Head as Head
use Rattle.conversion.specs.contracts.state.PoolReducer as PoolReducer
use Rattle.conversion.specs.contracts.state.Value as Value
use Rattle.conversion.specs.contracts.table.Slot as TableSlot
use Rattle.conversion.specs.contracts.table.Table as Table
use Rattle.conversion.specs.contracts.trees.SymbolTree as SymbolTree
use Rattle.conversion.specs.contracts.trees.Trees as Trees
use Rattle.conversion.specs.contracts.walks.TreeLimits as TreeLimits
use Rattle.conversion.specs.contracts.walks.Walks as Walks
use Rattle.split_check.proofs.Crosses.{node_send, pat_send, stored_send}

cell_send : IsSend KeptCell.the_field.row
cell_send = let a = pat_send in let b = stored_send in search (sendable, crosses, PatKnot.crosses) depth 40 fits 20000

kept_row_send : IsSend KeptRow.the_row
kept_row_send = let a = cell_send in search (sendable, crosses) depth 40 fits 20000

tree_branch_send : IsSend TreeBranch.the_row
tree_branch_send = search (sendable, crosses) depth 40 fits 20000

tree_node_send : IsSend TreeNode.the_row
tree_node_send = let a = kept_row_send in let b = tree_branch_send in search (sendable, crosses) depth 40 fits 20000

side_send : IsSend Side.the_row
side_send = let a = cell_send in search (sendable, crosses) depth 40 fits 20000

tree_send : IsSend Tree.the_field.row
tree_send = let a = side_send in let b = tree_node_send in search (sendable, crosses) depth 40 fits 20000

symbol_tree_send : IsSend SymbolTree.the_row
symbol_tree_send = let a = tree_send in search (sendable, crosses) depth 40 fits 20000

trees_row_send : IsSend Trees.the_row
trees_row_send = let a = symbol_tree_send in search (sendable, crosses) depth 40 fits 20000

-- what a reducer keeps: a pool, and tables of what was worked out
summary_send : IsSend Summary.the_row
summary_send = search (sendable, crosses) depth 40 fits 20000

nodes_send : IsSend Nodes.the_row
nodes_send = let a = node_send in let b = summary_send in search (sendable, crosses) depth 40 fits 20000

memo_slot_send : IsSend MemoSlot.the_row
memo_slot_send = search (sendable, crosses) depth 40 fits 20000

memo_send : IsSend Memo.the_row
memo_send = let a = memo_slot_send in search (sendable, crosses) depth 40 fits 20000

memos_send : IsSend Memos.the_row
memos_send = let a = memo_send in search (sendable, crosses) depth 40 fits 20000

frame_send : IsSend Frame.the_row
frame_send = search (sendable, crosses) depth 40 fits 20000

pool_send : IsSend Pool.the_row
pool_send = let a = nodes_send in let b = memos_send in let c = frame_send in search (sendable, crosses) depth 40 fits 20000

module _ (V : RattleType) (s : IsSend V) where
  table_slot_send : IsSend (TableSlot.the_row V)
  table_slot_send = search (sendable, crosses) depth 40 fits 20000

  results_send : IsSend (Table.the_row V)
  results_send = let a = table_slot_send in search (sendable, crosses) depth 40 fits 20000

head_send : IsSend Head.the_row
head_send = search (sendable, crosses) depth 40 fits 20000

value_send : IsSend Value.the_row
value_send = search (sendable, crosses) depth 40 fits 20000

answer_send : IsSend Answer.the_row
answer_send = search (sendable, crosses) depth 40 fits 20000

limits_send : IsSend TreeLimits.the_row
limits_send = search (sendable, crosses) depth 40 fits 20000

walks_send : IsSend Walks.the_row
walks_send = let a = limits_send in search (sendable, crosses) depth 40 fits 20000

id_send : IsSend TermId.the_row
id_send = search (sendable, crosses) depth 40 fits 20000

pub reducer_send : IsSend PoolReducer.the_row
reducer_send =
    declared_send PoolReducer.the_type (
      search (sendable, crosses) depth 20,
      (
        pool_send,
        (
          results_send TermId.the_row id_send,
          (
            results_send Head.the_row head_send,
            (
              results_send Value.the_row value_send,
              (
                results_send Value.the_row value_send,
                (
                  results_send Answer.the_row answer_send,
                  (
                    trees_row_send,
                    (
                      walks_send,
                      tt,
                    ),
                  ),
                ),
              ),
            ),
          ),
        ),
      ),
    )
