-- A version and stored terms may go to any thread, and any thread may share them; so it may the steps of a check and its crew.
use denote.RattleType.{RattleType}
use denote.Ref.{NamedLft}
use denote.Enum.Declared.{shape}
use denote.Param.Send.{IsSend, IsSync, sendable, enum_sync}
use Rattle.std.proofs.Crossing.{crosses}
use Rattle.dk_model.proofs.term.Term.TheLaws.TheKnot as TermKnot
use Rattle.dk_model.proofs.signature.Pat.TheLaws.TheKnot as PatKnot
use Rattle.signature_log.proofs.chain.Chain.TheLaws.TheKnot as ChainKnot
use Rattle.dk_model.specs.contracts.term.Term as Term
use Rattle.dk_model.specs.contracts.signature.Pat as Pat
use Rattle.dk_model.specs.contracts.signature.Rule as Rule
use Rattle.dk_model.specs.contracts.signature.Entry as Entry
use Rattle.dk_model.specs.contracts.node.NodeOf as NodeOf
use Rattle.shared_term.specs.contracts.id.TermId as TermId
use Rattle.shared_term.specs.contracts.short.ShortNode as ShortNode
use Rattle.shared_term.specs.contracts.packed.Packed as Packed
use Rattle.shared_term.specs.contracts.stored.Stored as Stored
use Rattle.signature_log.specs.contracts.branch.Branch as Branch
use Rattle.signature_log.specs.contracts.cells.Cells as Cells
use Rattle.signature_log.specs.contracts.chain.Chain as Chain
use Rattle.signature_log.specs.contracts.entries.Entries as Entries
use Rattle.signature_log.specs.contracts.fork.Fork as Fork
use Rattle.signature_log.specs.contracts.held.Held as Held
use Rattle.signature_log.specs.contracts.leaf.Leaf as Leaf
use Rattle.signature_log.specs.contracts.many.Many as Many
use Rattle.signature_log.specs.contracts.place.Place as Place
use Rattle.signature_log.specs.contracts.rule_list.Listing as Listing
use Rattle.signature_log.specs.contracts.rule_list.RuleList as RuleList
use Rattle.signature_log.specs.contracts.version.Version as Version
use Rattle.infer_check.specs.contracts.context.Context as Context
use Rattle.split_parts.specs.contracts.part.PartOut as PartOut
use Rattle.split_parts.specs.contracts.part.PartResult as PartResult
use Rattle.split_check.specs.contracts.crew.Crew as Crew
use Rattle.split_check.specs.contracts.spare.Spare as Spare
use Rattle.split_check.specs.contracts.step.Part as Part
use Rattle.split_check.specs.contracts.step.Step as Step

-- blocks of what may go to any thread, and be shared
module _ (B : RattleType) (s : IsSend B) (y : IsSync B) where
  branch_send : IsSend (Branch.the_row B)
  branch_send = search (sendable, crosses) depth 40

  branch_sync : IsSync (Branch.the_row B)
  branch_sync = search (sendable, crosses) depth 40

  leaf_send : IsSend (Leaf.the_row B)
  leaf_send = search (sendable, crosses) depth 40

  leaf_sync : IsSync (Leaf.the_row B)
  leaf_sync = search (sendable, crosses) depth 40

  fork_send : IsSend (Fork.the_row B)
  fork_send = search (sendable, crosses) depth 40

  fork_sync : IsSync (Fork.the_row B)
  fork_sync = search (sendable, crosses) depth 40

  cells_send : IsSend (Cells.the_row B)
  cells_send = search (sendable, crosses) depth 40

  cells_sync : IsSync (Cells.the_row B)
  cells_sync = search (sendable, crosses) depth 40

  chain_send : IsSend (Chain.the_row B)
  chain_send = search (sendable, crosses, ChainKnot.crosses) depth 40

  chain_sync : IsSync (Chain.the_row B)
  chain_sync = search (sendable, crosses, ChainKnot.crosses) depth 40

-- of so many levels
module _ (B : RattleType) (s : IsSend B) (y : IsSync B) where
  abbrev one : RattleType
  one = Leaf.the_row B

  abbrev two : RattleType
  two = Branch.the_row one

  abbrev three : RattleType
  three = Branch.the_row two

  abbrev four : RattleType
  four = Branch.the_row three

  abbrev five : RattleType
  five = Branch.the_row four

  abbrev six : RattleType
  six = Branch.the_row five

  one_send : IsSend one
  one_send = leaf_send B s y

  one_sync : IsSync one
  one_sync = leaf_sync B s y

  two_send : IsSend two
  two_send = branch_send one one_send one_sync

  two_sync : IsSync two
  two_sync = branch_sync one one_send one_sync

  three_send : IsSend three
  three_send = branch_send two two_send two_sync

  three_sync : IsSync three
  three_sync = branch_sync two two_send two_sync

  four_send : IsSend four
  four_send = branch_send three three_send three_sync

  four_sync : IsSync four
  four_sync = branch_sync three three_send three_sync

  five_send : IsSend five
  five_send = branch_send four four_send four_sync

  five_sync : IsSync five
  five_sync = branch_sync four four_send four_sync

  six_send : IsSend six
  six_send = branch_send five five_send five_sync

  six_sync : IsSync six
  six_sync = branch_sync five five_send five_sync

pub term_send : IsSend Term.the_row
term_send = search (sendable, crosses, TermKnot.crosses) depth 40

pub term_sync : IsSync Term.the_row
term_sync = search (sendable, crosses, TermKnot.crosses) depth 40

pub node_send : IsSend (NodeOf.the_row TermId.the_row)
node_send = search (sendable, crosses) depth 40 fits 20000

node_sync : IsSync (NodeOf.the_row TermId.the_row)
node_sync = search (sendable, crosses) depth 40 fits 20000

short_send : IsSend ShortNode.the_row
short_send = search (sendable, crosses) depth 40 fits 20000

short_sync : IsSync ShortNode.the_row
short_sync = search (sendable, crosses) depth 40 fits 20000

packed_send : IsSend Packed.the_row
packed_send = let a = node_send in let b = short_send in search (sendable, crosses) depth 40 fits 20000

packed_sync : IsSync Packed.the_row
packed_sync = let a = node_sync in let b = short_sync in search (sendable, crosses) depth 40 fits 20000

pub stored_send : IsSend Stored.the_row
stored_send = let a = packed_send in search (sendable, crosses) depth 40 fits 20000

pub stored_sync : IsSync Stored.the_row
stored_sync = let a = packed_sync in search (sendable, crosses) depth 40 fits 20000

pub pat_send : IsSend (Pat.the_row Stored.the_row)
pat_send = let a = stored_send in search (sendable, crosses, PatKnot.crosses) depth 40 fits 20000

pat_sync : IsSync (Pat.the_row Stored.the_row)
pat_sync = let a = stored_sync in search (sendable, crosses, PatKnot.crosses) depth 40 fits 20000

stored_rule_send : IsSend (Rule.the_row Stored.the_row)
stored_rule_send = let a = stored_send in let b = pat_send in search (sendable, crosses) depth 40 fits 20000

stored_rule_sync : IsSync (Rule.the_row Stored.the_row)
stored_rule_sync = let a = stored_sync in let b = pat_sync in search (sendable, crosses) depth 40 fits 20000

entry_send : IsSend (Entry.the_row Stored.the_row)
entry_send = let a = stored_send in let b = stored_rule_send in search (sendable, crosses) depth 40 fits 20000

entry_sync : IsSync (Entry.the_row Stored.the_row)
entry_sync = let a = stored_sync in let b = stored_rule_sync in search (sendable, crosses) depth 40 fits 20000

held_send : IsSend Held.the_row
held_send = let a = entry_send in let b = entry_sync in search (sendable, crosses) depth 40

held_sync : IsSync Held.the_row
held_sync = let a = entry_send in let b = entry_sync in search (sendable, crosses) depth 40

place_send : IsSend Place.the_row
place_send = search (sendable, crosses, held_send) depth 40

place_sync : IsSync Place.the_row
place_sync = search (sendable, crosses, held_sync) depth 40

many_send : IsSend Many.the_row
many_send = let f = six_send Place.the_row place_send place_sync in search sendable depth 20

many_sync : IsSync Many.the_row
many_sync = let f = six_sync Place.the_row place_send place_sync in search sendable depth 20

listing_send : IsSend Listing.the_field.row
listing_send = let a = one_send Place.the_row place_send place_sync in let b = many_send in search sendable depth 20

listing_sync : IsSync Listing.the_field.row
listing_sync = let a = one_sync Place.the_row place_send place_sync in let b = many_sync in search sendable depth 20

list_send : IsSend RuleList.the_row
list_send = let a = listing_send in search sendable depth 20

list_sync : IsSync RuleList.the_row
list_sync = let a = listing_sync in search sendable depth 20

abbrev blocks : RattleType
blocks = Cells.the_row RuleList.the_row

blocks_send : IsSend blocks
blocks_send = cells_send RuleList.the_row list_send list_sync

blocks_sync : IsSync blocks
blocks_sync = cells_sync RuleList.the_row list_send list_sync

fork_1_send : IsSend (Fork.the_row blocks)
fork_1_send = fork_send blocks blocks_send blocks_sync

fork_1_sync : IsSync (Fork.the_row blocks)
fork_1_sync = fork_sync blocks blocks_send blocks_sync

fork_2_send : IsSend (Fork.the_row (Fork.the_row blocks))
fork_2_send = fork_send (Fork.the_row blocks) fork_1_send fork_1_sync

fork_2_sync : IsSync (Fork.the_row (Fork.the_row blocks))
fork_2_sync = fork_sync (Fork.the_row blocks) fork_1_send fork_1_sync

table_send : IsSend (Fork.the_row (Fork.the_row (Fork.the_row blocks)))
table_send = fork_send (Fork.the_row (Fork.the_row blocks)) fork_2_send fork_2_sync

table_sync : IsSync (Fork.the_row (Fork.the_row (Fork.the_row blocks)))
table_sync = fork_sync (Fork.the_row (Fork.the_row blocks)) fork_2_send fork_2_sync

-- a group of entries
abbrev group : RattleType
group = Leaf.the_row Held.the_row

group_send : IsSend group
group_send = leaf_send Held.the_row held_send held_sync

group_sync : IsSync group
group_sync = leaf_sync Held.the_row held_send held_sync

entries_send : IsSend Entries.the_row
entries_send = let a = three_send group group_send group_sync in let b = chain_send Held.the_row held_send held_sync in search sendable depth 20

entries_sync : IsSync Entries.the_row
entries_sync = let a = three_sync group group_send group_sync in let b = chain_sync Held.the_row held_send held_sync in search sendable depth 20

pub version_send : IsSend Version.the_row
version_send = let a = entries_send in let b = table_send in search sendable depth 20

pub version_sync : IsSync Version.the_row
version_sync = let a = entries_sync in let b = table_sync in search sendable depth 20

-- what the threads of one check share: its steps, and the crew where what it runs on and its gate may be shared
out_sync : IsSync PartOut.the_field.row
out_sync = search (sendable, crosses) depth 40 fits 20000

result_sync : IsSync PartResult.the_field.row
result_sync = let a = out_sync in search (sendable, crosses) depth 40 fits 20000

context_sync : IsSync (Context.the_row Stored.the_row)
context_sync = let a = stored_sync in search (sendable, crosses) depth 40 fits 20000

part_sync : IsSync Part.the_field.row
part_sync = let a = stored_sync in let b = context_sync in search (sendable, crosses) depth 40 fits 20000

pub step_sync : IsSync Step.the_field.row
step_sync = enum_sync (shape Step.the_type) ((result_sync, tt), ((part_sync, tt), tt))

spare_sync : IsSync Spare.the_row
spare_sync = search (sendable, crosses) depth 40 fits 20000

module _ (κ : NamedLft) (W G : RattleType) (w : IsSync W) (y : IsSync G) where
  pub crew_sync : IsSync (Crew.the_row κ W G)
  crew_sync = let a = version_sync in let b = spare_sync in search (sendable, crosses) depth 40 fits 20000
