use Rattle.tests_growth.proofs.tests.steady.fronts.a_front_that_is_open_takes_no_memory_for_looks.Given as goal

-- the front's ledger is the one that was handed in, and its name tells what the front is opened from
abbrev pub ghosts-use_front-J-Ledger : goal.ghosts-use_front-J-Ledger
ghosts-use_front-J-Ledger g a = record { name = a.ledger.name; parts = a.ledger.parts }

abbrev pub ghosts-use_front-J-Naming : goal.ghosts-use_front-J-Naming
ghosts-use_front-J-Naming g a = record { passes = a.from.passes; limits = a.from.limits; book = a.from.book }
