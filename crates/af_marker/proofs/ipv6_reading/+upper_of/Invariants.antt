use Rattle.af_marker.proofs.ipv6_reading.+upper_of.Given as goal

abbrev pub decreases-upper_of : goal.decreases-upper_of
decreases-upper_of l = l.more
