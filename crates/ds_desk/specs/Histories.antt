-- What a desk holds behind a beginning of its history.
use Rattle.std.specs.Prelude.{ℕ, ◌-◌, List, map}
use Rattle.ds_domain_base.specs.Domains.{Domain}
use Rattle.ds_checker.specs.Acceptance.{Table}
use Rattle.ds_broker.specs.Books.{Book, table_in}
use Rattle.ds_broker.specs.Histories.{standing_of}
use Rattle.ds_broker.specs.declared.command.Command.{Command}

-- the book that opens a desk, with a history behind it
abbrev pub book_behind : Book → List Command → Book
book_behind opening history = record opening { history = history }

-- the table behind a history, with the least certificate
abbrev pub table_behind : Domain → List Command → Table
table_behind domain history = table_in domain (standing_of history).held

-- the flows of what is held behind a history, each the id less 1
abbrev pub flows_behind : List Command → List ℕ
flows_behind history = map (λ h. h.id - 1) (standing_of history).held
