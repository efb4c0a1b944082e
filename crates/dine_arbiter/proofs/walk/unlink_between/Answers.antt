use Rattle.dine_arbiter.proofs.Lemmas.{not, List, is_some, refl, sym, ap, ◌∙◌, filter, ForkBook, ForkRecord, book_is, between-used, apart-without, is_some-first_id, none-left}
use Rattle.dine_forks.specs.Book.{is_between}
use Rattle.dine_arbiter.proofs.walk.unlink_between.Goals as goal

pub unlink-requires : goal.unlink-requires
unlink-requires c = between-used c.args.first c.args.second c.in-Some.id c.args.book.now.records (sym c.find_counted.ensures.found ∙ c.in-Some.is)

pub returns-clause-book : goal.returns-clause-book
returns-clause-book c =
    let apart = apart-without c.args.first c.args.second c.in-Some.id c.args.book.now.records c.len.ensures.sound.each_id_once c.len.ensures.sound.each_pair_once (sym c.find_counted.ensures.found ∙ c.in-Some.is) in
    c.unlink.ensures.rest ∙ ap (λ (rs : List ForkRecord). let b : ForkBook = record { slots = c.args.book.now.slots; room = c.args.book.now.room; records = rs } in b) apart

pub returns-clause-found : goal.returns-clause-found
returns-clause-found c = sym (ap is_some c.in-Some.is) ∙ ap is_some c.find_counted.ensures.found ∙ is_some-first_id (is_between c.args.first c.args.second) c.args.book.now.records

pub returns-in_default-clause-book : goal.returns-in_default-clause-book
returns-in_default-clause-book c =
    book_is c.args.book.now c.args.book.now.slots c.args.book.now.room (filter (λ r. not (is_between c.args.first c.args.second r)) c.args.book.now.records) refl refl
    (sym (none-left (is_between c.args.first c.args.second) c.args.book.now.records (sym c.find_counted.ensures.found ∙ c.in_default.is)))

pub returns-in_default-clause-found : goal.returns-in_default-clause-found
returns-in_default-clause-found c = sym (ap is_some c.in_default.is) ∙ ap is_some c.find_counted.ensures.found ∙ is_some-first_id (is_between c.args.first c.args.second) c.args.book.now.records
