-- The files, and the port or the contract, that a plan names.
use Rattle.std.specs.Prelude.{ℕ, Bool, false, List, [], ◌∷◌, None, Some, unwrap_or}
use Rattle.dsedge_base.specs.declared.work.Plan.{Plan}
use Rattle.dsedge_base.specs.declared.work.Plan.TheVariants.{Arrivals, Audit, Book, Certify, Check, Draw, Drive, Envelope, Export, Headroom, Mark, Meter, Quote, Show}

-- the names of the files that are to be read, in the order of the words
abbrev pub files_of : Plan → List (List ℕ)
files_of (Show text) = []
files_of (Meter m has_levels in_json) = []
files_of (Envelope rate burst in_json) = []
files_of (Certify domain in_json) = domain ∷ []
files_of (Check domain certificate in_json) = domain ∷ certificate ∷ []
files_of (Headroom domain in_json) = domain ∷ []
files_of (Draw domain) = domain ∷ []
files_of (Quote domain contract asked in_json) = domain ∷ []
files_of (Export domain meter device) = domain ∷ []
files_of (Audit domain certificate in_json) = domain ∷ certificate ∷ []
files_of (Drive domain limits book in_json) = domain ∷ []
files_of (Book domain book to_domain) = domain ∷ []
files_of (Mark domain certificate port workers keeps_red has_verdict in_json) = domain ∷ certificate ∷ []
files_of (Arrivals None has_colours) = []
files_of (Arrivals (Some place) has_colours) = place.domain ∷ []

-- the names that a domain has to have: of a port, and of a contract; empty where a plan names none
pub record Names : Type 0 where
  pub port : List ℕ
  pub contract : List ℕ

abbrev pub names_of : Plan → Names
names_of (Mark domain certificate port workers keeps_red has_verdict in_json) = record { port = port; contract = [] }
names_of (Quote domain contract asked in_json) = record { port = []; contract = contract }
names_of (Arrivals (Some place) has_colours) = record { port = place.port; contract = unwrap_or place.contract [] }
names_of _ = record { port = []; contract = [] }

-- whether a plan asks for objects of JSON
abbrev pub in_json_of : Plan → Bool
in_json_of (Show text) = false
in_json_of (Meter m has_levels in_json) = in_json
in_json_of (Envelope rate burst in_json) = in_json
in_json_of (Certify domain in_json) = in_json
in_json_of (Check domain certificate in_json) = in_json
in_json_of (Headroom domain in_json) = in_json
in_json_of (Draw domain) = false
in_json_of (Quote domain contract asked in_json) = in_json
in_json_of (Export domain meter device) = false
in_json_of (Audit domain certificate in_json) = in_json
in_json_of (Drive domain limits book in_json) = in_json
in_json_of (Book domain book to_domain) = false
in_json_of (Mark domain certificate port workers keeps_red has_verdict in_json) = in_json
in_json_of (Arrivals place has_colours) = false
