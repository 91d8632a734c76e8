-- A counter test as the code hands it over: a byte and a number. Assumes nothing.
use Rattle.meaning.specs.Reduced.{Bound, equal_to, more_than, less_than, Counter, counter, shared_test}
use Rattle.table.specs.declared.Bound.{Bound as BoundRow}

-- the bytes of `=`, `>` and `<`
abbrev pub bound_row : Bound → BoundRow
bound_row (equal_to m) = record { sign = 61; number = m }
bound_row (more_than m) = record { sign = 62; number = m }
bound_row (less_than m) = record { sign = 60; number = m }

abbrev pub bound_of : Counter → Bound
bound_of (counter d b) = b
bound_of (shared_test q v) = equal_to 1  -- of no counter: nobody asks for it
