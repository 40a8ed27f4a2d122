-- What the fields of the command stand for, and what they keep.
use Rattle.std.specs.Prelude.{◌≡◌, Option, None, Some, IfSome}
use Rattle.ds_checker.specs.Acceptance.{Table}
use Rattle.ds_runs.specs.KeptConductors.{Conduct}
use Rattle.ds_runs.specs.Steps.{Stage, opened}
use Rattle.dsedge_audit.specs.Audited.{Auditing}
use Rattle.dsedge_audit.specs.declared.command.AuditCommand.TheInside as commands

-- before the first step there need be no conductor
abbrev pub stage_in : Table → Option Conduct → Stage
stage_in t None = opened t
stage_in t (Some conduct) = conduct.stage

abbrev pub auditing_in : commands.Inside → Auditing
auditing_in c = record { table = c.flows; stage = stage_in c.flows c.conductor; in_json = c.in_json }

-- the conductor is one of the same table
abbrev pub IsCommand : commands.Inside → Type 0
IsCommand c = IfSome c.conductor (λ conduct. conduct.table ≡ c.flows)
