-- The run of packets that are sent: all are sent in their order, and then all their visits are made in theirs.
use Rattle.std.specs.Prelude.{List, [], ◌++◌, map, Result, Ok, Err}
use Rattle.meter_book.specs.Replay.{most_places}
use Rattle.ds_checker.specs.Acceptance.{Table}
use Rattle.run_audit.specs.Runs.{Run}
use Rattle.ds_runs.specs.Conducting.{conducted_with}
use Rattle.ds_runs.specs.declared.fault.ConductFault.{ConductFault}
use Rattle.ds_runs.specs.declared.step.Step.{Step}
use Rattle.ds_runs.specs.declared.step.Step.TheVariants as steps
use Rattle.ds_conductor_base.specs.Visits.{visits_of}
use Rattle.ds_conductor_base.specs.declared.sent.Sent.{Sent}
use Rattle.ds_conductor_base.specs.declared.visit.Visit.{Visit}
use Rattle.ds_runs.specs.Behind.{number_at}

-- a packet is sent
abbrev pub send_step : Sent → Step
send_step s = steps.Send s.flow s.packet s.size s.dscp s.moment

-- a visit is made
abbrev pub visit_step : List Sent → Visit → Step
visit_step sent v = steps.Visit (number_at sent v.place) v.moment

-- all packets are sent, and then all their visits are made
abbrev pub steps_of : Table → List Sent → List Step
steps_of t sent = map send_step sent ++ map (visit_step sent) (visits_of t sent)

-- the run that was made; where a step cannot be made, one of nothing
abbrev pub run_or_none : Result Run ConductFault → Run
run_or_none (Ok run) = run
run_or_none (Err fault) = record { journals = []; passages = [] }

-- The run of these steps, where each book takes as many rows as it gives places.
abbrev pub run_behind : Table → List Sent → Run
run_behind t sent = run_or_none (conducted_with most_places t (steps_of t sent))
