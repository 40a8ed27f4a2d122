-- What a meter has for the traffic that it is to let through.
use Rattle.moment_core.specs.declared.column.Column.{Column}
use Rattle.moment_core.specs.declared.column.Column.TheVariants.{All, Excess}
use Rattle.envelope_core.specs.Curve.{Curve}
use Rattle.meter_book_base.specs.declared.any_meter.Parameters.{Parameters}
use Rattle.meter_book_base.specs.declared.any_meter.Parameters.TheVariants.{SrTcm, TrTcm, Rfc4115}

-- what a meter has for green packets: in each kind the committed rate and bucket (RFC 2697, RFC 2698, RFC 4115)
abbrev pub green_limit : Parameters → Curve
green_limit (SrTcm p) = record { rate = p.committed_rate; burst = p.committed_burst }
green_limit (TrTcm p) = record { rate = p.committed_rate; burst = p.committed_burst }
green_limit (Rfc4115 p) = record { rate = p.committed_rate; burst = p.committed_burst }

-- what it has for green and yellow ones: the excess bucket, which the committed rate fills (RFC 2697), the peak bucket
-- (RFC 2698), or the excess bucket, which the excess rate fills (RFC 4115)
abbrev pub all_limit : Parameters → Curve
all_limit (SrTcm p) = record { rate = p.committed_rate; burst = p.excess_burst }
all_limit (TrTcm p) = record { rate = p.peak_rate; burst = p.peak_burst }
all_limit (Rfc4115 p) = record { rate = p.excess_rate; burst = p.excess_burst }

-- The column of what is held against that. With a single rate green and yellow packets are, since the excess bucket
-- gets only the tokens that the committed one has no room for (RFC 2697 section 3). With a peak rate both are, since
-- both take from the peak bucket (RFC 2698 section 3). With an excess rate yellow packets alone are, since they alone
-- take from the excess bucket where green ones leave green (RFC 4115).
abbrev pub held_column : Parameters → Column
held_column (SrTcm p) = All
held_column (TrTcm p) = All
held_column (Rfc4115 p) = Excess
