use Rattle.dine_race.proofs.racing.race.Given as goal

-- the front's ledger is the one that was handed in
abbrev pub ghosts-race_named-J-Ledger : goal.ghosts-race_named-J-Ledger
ghosts-race_named-J-Ledger g a = record { name = a.ledger.name; parts = a.ledger.parts }

-- the front's name tells how many passes it has, the limits of its table, and the book of its history
abbrev pub ghosts-race_named-J-Naming : goal.ghosts-race_named-J-Naming
ghosts-race_named-J-Naming g a = record { passes = a.opened.passes; limits = a.opened.limits; book = a.opened.book }
