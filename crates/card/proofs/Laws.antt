-- What is proved of weights, nodes and laid cards, for those above to cite; each proof is in the file that its line names. Assumes nothing.

-- the units of a weight are those that it is worth, and no more than the unit
pub use Rattle.card.proofs.Weights.{units_most, units_worth}
-- a node, a leaf and a branch come back from their number, and fit it; in range a packer takes its arguments as they are
pub use Rattle.card.proofs.Packed.{words, op_back, left_back, right_back, node_fits, HeldLeaf, leaf_op, leaf_fits, leaf_back, leaf_group, leaf_one, leaf_shared, HeldSet, set_small, branch_fits, branch_back, packed_node, packed_group, packed_one, packed_branch}
-- the guard at a node, by what stands there
pub use Rattle.card.proofs.GuardAt.{guard_at_leaf, guard_at_not, guard_at_and, guard_at_or, guard_of_none, guard_of_some}
-- numbers stored in an array piece by piece, and a guard's nodes so
pub use Rattle.card.proofs.Storing.{stored_none, stored_one, stored_append, stored_more, length_stored, stored_fits, size_below, length_cells, stored_leaf, stored_not, stored_and, stored_or}
-- a card's arrays filled statement by statement
pub use Rattle.card.proofs.Filling.{zeros_repeat, FewNodes, FewBranches, length_guard_cells, fill_nodes, fill_branches, fill_statements}
-- what the arrays can hold, as every valid card is
pub use Rattle.card.proofs.Held.{States, GuardStates, EndsThere, Held, HeldCard, few_values, valid_held, every_map, every_at}
-- a laid card, its statements one by one, and that it comes back
pub use Rattle.card.proofs.LaidBack.{laid_statements, laid_nodes, laid_branches, statement_row_law, statement_guard, statement_branches, statement_back, held_back, laid_back, laid_injective}
-- node numbers fall from parent to child
pub use Rattle.card.proofs.Falls.{Falls, Falling, cells_fall, laid_falls}
-- the arrays' lengths, and that each number fits
pub use Rattle.card.proofs.Sized.{statements_long, nodes_long, branches_long, nodes_small, branches_small}
-- rows stored one by one, and read
pub use Rattle.card.proofs.Rows.{rows_row, rows_taken}
-- what a head and the lent arrays hold
pub use Rattle.card.proofs.HeldIn.{lent_back, holds_card, holds_seats, holds_top, holds_count, holds_rows, holds_branches}
