-- What is taken and what there is at each meter of a table, and how it is written.
use Rattle.std.specs.Prelude.{ℕ, List, [], ◌++◌, codes, flat_map, Result, Ok, Err}
use Rattle.std.specs.Option.{option_map_or}
use Rattle.ds_checker.specs.Acceptance.{Table}
use Rattle.ds_checker.specs.Headrooms.{headroom_of}
use Rattle.ds_checker.specs.declared.headroom.Headroom.{Headroom}
use Rattle.ds_checker.specs.declared.headroom.Utilization.{Utilization}
use Rattle.ds_certificate.specs.Bounds.{least}
use Rattle.ds_domain.specs.DomainTexts.{parse_of}
use Rattle.ds_domain_base.specs.Domains.{Domain}
use Rattle.ds_domain_base.specs.declared.contract.Contract.{Contract}
use Rattle.ds_domain_base.specs.declared.fault.DomainFault.{DomainFault}
use Rattle.dsedge_texts.specs.Accepted.{judged_on, table_with}
use Rattle.dsedge_texts.specs.Wording.{figure}
use Rattle.dsedge_texts.specs.declared.accepting.TableFault.{TableFault}
use Rattle.dsedge_texts.specs.declared.accepting.TableFault.TheVariants as faults

-- METER KIND TAKEN AVAILABLE, behind the kind of a test
abbrev pub test_line : List ℕ → List ℕ → Utilization → List ℕ
test_line meter kind u = meter ++ kind ++ figure u.taken ++ figure u.available ++ codes "\n"

-- the checker's tests at a meter, in their order
abbrev pub meter_lines : List ℕ → Headroom → List ℕ
meter_lines meter h =
    test_line meter (codes " GreenRate") h.green_rate
    ++ test_line meter (codes " GreenBurst") h.green_burst
    ++ test_line meter (codes " AllRate") h.all_rate
    ++ test_line meter (codes " AllBurst") h.all_burst

abbrev pub lines_at : Table → List ℕ → List ℕ
lines_at t meter = option_map_or (meter_lines meter) (headroom_of t meter) []

-- meter by meter, in the order of the text
abbrev pub headroom_text : Table → List ℕ
headroom_text t = flat_map (λ entry. lines_at t entry.0) t.domain.meters

-- the contracts of a domain with their least certificate
abbrev pub least_table : Domain × List Contract → Table
least_table parsed = table_with parsed (least parsed.0 parsed.1)

abbrev pub text_by : Result Table TableFault → Result (List ℕ) TableFault
text_by (Ok t) = Ok (headroom_text t)
text_by (Err fault) = Err fault

abbrev pub least_by : Result (Domain × List Contract) DomainFault → Result Table TableFault
least_by (Ok parsed) = Ok (least_table parsed)
least_by (Err fault) = Err (faults.Domain fault)

-- the table of the contracts that a domain text says with their least certificate
abbrev pub least_in : List ℕ → Result Table TableFault
least_in text = least_by (parse_of text)

-- what a domain text says; its fault before the checker's refusal
abbrev pub headroom_in : List ℕ → Result (List ℕ) TableFault
headroom_in text = text_by (judged_on (least_in text))
