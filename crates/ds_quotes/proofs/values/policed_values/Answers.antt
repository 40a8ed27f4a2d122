use Rattle.ds_quotes.proofs.values.policed_values.Goals as goal

pub returns-in-SrTcm-clause-some : goal.returns-in-SrTcm-clause-some
returns-in-SrTcm-clause-some c = rw c.in-SrTcm.is c.single_rate_values.ensures.some

pub returns-in-TrTcm-clause-some : goal.returns-in-TrTcm-clause-some
returns-in-TrTcm-clause-some c = rw c.in-TrTcm.is c.two_rate_values.ensures.some

pub returns-in-Rfc4115-clause-some : goal.returns-in-Rfc4115-clause-some
returns-in-Rfc4115-clause-some c = rw c.in-Rfc4115.is c.separate_rates_values.ensures.some
