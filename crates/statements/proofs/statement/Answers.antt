-- A way out for each part of a statement, in the order of the parts (proofs/StatementLaws.antt). Assumes nothing.
use mathlib.Core.Path.{refl}
use native.Mathlib.Omega.{arith}
use Rattle.parts.proofs.Answers.{returned}
use Rattle.statements.proofs.StatementLaws.{words_halt, own_halts, guard_halts, branches_halt, statement_read}
use Rattle.statements.proofs.statement.Goals as goal

pub returns-in_err-words : goal.returns-in_err-words
returns-in_err-words c = rw (returned _ _ c.from_residual.ensures.1) (words_halt _ _ _ _ _ _ _ c.in_err-words.ensures)

pub returns-in_err-own : goal.returns-in_err-own
returns-in_err-own c =
    rw (returned _ _ c.from_residual-in_err-own.ensures.1) (own_halts _ _ _ _ _ _ _ c.in_ok-words.ensures c.in_err-own.ensures)

pub guarded-requires : goal.guarded-requires
guarded-requires c =
    record { most_nodes_bound = omega (arith, c.requires.index_lt_most_statements); values_le_most_shared = c.requires.values_le_most_shared }

pub returns-in_err-guard : goal.returns-in_err-guard
returns-in_err-guard c =
    rw (returned _ _ c.from_residual-in_err-guard.ensures.1)
    (guard_halts _ _ _ _ _ _ _ c.in_ok-words.ensures c.in_ok-own.ensures c.in_err-guard.ensures)

pub returns-in_err-list : goal.returns-in_err-list
returns-in_err-list c =
    rw (returned _ _ c.from_residual-in_err-list.ensures.1)
    (branches_halt _ _ _ _ _ _ _ c.in_ok-words.ensures c.in_ok-own.ensures c.in_ok-guard.ensures c.in_err-list.ensures)

pub returns : goal.returns
returns c =
    statement_read _ _ _ _ _ _ _ c.in_ok-words.ensures c.in_ok-own.ensures c.in_ok-guard.ensures c.in_ok-list.ensures refl
