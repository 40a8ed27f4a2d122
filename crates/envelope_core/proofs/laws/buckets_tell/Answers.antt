use Rattle.envelope_core.proofs.LeakyBuckets.{buckets_tell_all}
use Rattle.envelope_core.proofs.laws.buckets_tell.Goals as goal

pub returns : goal.returns
returns c = buckets_tell_all
