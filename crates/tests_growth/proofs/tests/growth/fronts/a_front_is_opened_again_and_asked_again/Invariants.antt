use Rattle.tests_growth.proofs.tests.growth.fronts.a_front_is_opened_again_and_asked_again.Given as goal

-- the front's ledger is the one that was handed in, and its name tells what the front is opened from
abbrev pub ghosts-is_opened_and_asked-J-Ledger : goal.ghosts-is_opened_and_asked-J-Ledger
ghosts-is_opened_and_asked-J-Ledger g a = record { name = a.ledger.name; parts = a.ledger.parts }

abbrev pub ghosts-is_opened_and_asked-J-Naming : goal.ghosts-is_opened_and_asked-J-Naming
ghosts-is_opened_and_asked-J-Naming g a = record { passes = a.from.passes; limits = a.from.limits; book = a.from.book }
