use Rattle.dine_uses.proofs.shared.eat_in_turns.Given as goal

-- the front's name is that of its ledger, with the terms that it is opened by
abbrev pub ghosts-share-J-Ledger : goal.ghosts-share-J-Ledger
ghosts-share-J-Ledger g a = record { name = a.ledger.name; parts = a.ledger.parts }

-- the front's name tells how many passes it has, the limits of its table, and the book of its history
abbrev pub ghosts-share-J-Naming : goal.ghosts-share-J-Naming
ghosts-share-J-Naming g a = record { passes = a.opened.passes; limits = a.opened.limits; book = a.opened.book }
