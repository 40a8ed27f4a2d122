-- The overflow of a source's bucket, over packets that stand contract by contract as they are sent.
use Rattle.std.specs.Prelude.{ℕ, ◌+◌, ◌*◌, nat_le, nat_lt, if◌then◌else◌, List, [], ◌∷◌, take, drop, option_map, Option, None, Some}
use Rattle.std.specs.List.{prefix_len}
use Rattle.moment_core.specs.Columns.{counts, each_column}
use Rattle.moment_core.specs.declared.column.Column.{Column}
use Rattle.envelope_core.specs.Curve.{Curve}
use Rattle.envelope_core.specs.LeakyBucket.{filled}
use Rattle.ds_domain_base.specs.Domains.{Domain}
use Rattle.ds_domain_base.specs.Sent.{came}
use Rattle.ds_domain_base.specs.declared.contract.Contract.{Contract}
use Rattle.ds_domain_base.specs.declared.terms.Terms.{Terms}
use Rattle.ds_domain_base.specs.declared.terms.Terms.TheVariants.{Trusted, Policed}
use Rattle.ds_certificate.specs.Columns.{envelope_in}
use Rattle.ds_certificate.specs.Sources.{source_of}
use Rattle.ds_certificate.specs.declared.source.Source.{Source}
use Rattle.run_audit.specs.Runs.{Passage}
use Rattle.run_audit.specs.Verdicts.{first_found, first_of}
use Rattle.run_audit.specs.declared.verdict.Verdict.{Verdict}
use Rattle.run_audit.specs.declared.verdict.Verdict.TheVariants.{SourceOver}

-- what a packet of a trusted contract pours into a bucket
abbrev pub poured : Curve → ℕ → ℕ → Passage → ℕ
poured curve level since p = filled curve.rate level since (p.packet.begun, p.packet.size)

-- The packet at which the bucket of a trusted contract overflows for the first time, which had a level at a moment.
-- Packets that a column does not count pass it by.
unfoldable pub spilled : Curve → Column → Contract → ℕ → ℕ → List Passage → Option Passage
spilled curve column c level since [] = None
spilled curve column c level since (p ∷ ps) =
    if counts column (came c p.packet.dscp) then
    (if nat_lt (8000000000 * curve.burst) (poured curve level since p) then Some p
    else spilled curve column c (poured curve level since p) p.packet.begun ps)
    else
    spilled curve column c level since ps

-- of a contract with a source
abbrev pub spilled_in : Source → Contract → List Passage → Column → Option Verdict
spilled_in source c own column =
    option_map (λ p. SourceOver p.packet.flow column p.packet.number)
    (spilled (envelope_in column source) column c 0 0 own)

abbrev pub spilled_by : Terms → Domain → Contract → List Passage → Option Verdict
spilled_by (Trusted committed peak) d c own = first_found (spilled_in (source_of d c) c own) each_column
spilled_by (Policed parameters mode) d c own = None

-- how many packets stand in front of those of later contracts
abbrev pub own_length : ℕ → List Passage → ℕ
own_length flow passages = prefix_len (λ p. nat_le p.packet.flow flow) passages

-- the contracts in order, of which the first has this number, over the packets that are left
unfoldable pub spilled_from : Domain → ℕ → List Contract → List Passage → Option Verdict
spilled_from d flow [] passages = None
spilled_from d flow (c ∷ cs) passages =
    first_of (spilled_by c.terms d c (take (own_length flow passages) passages))
    (spilled_from d (flow + 1) cs (drop (own_length flow passages) passages))
