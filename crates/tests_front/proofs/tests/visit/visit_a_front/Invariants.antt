use Rattle.tests_front.proofs.tests.visit.visit_a_front.Given as goal

-- the front's ledger is the one that was handed in, and its name tells what the front is opened from
abbrev pub ghosts-open_and_visit-J-Ledger : goal.ghosts-open_and_visit-J-Ledger
ghosts-open_and_visit-J-Ledger g a = record { name = a.ledger.name; parts = a.ledger.parts }

abbrev pub ghosts-open_and_visit-J-Naming : goal.ghosts-open_and_visit-J-Naming
ghosts-open_and_visit-J-Naming g a = record { passes = a.from.passes; limits = a.from.limits; book = a.from.book }
