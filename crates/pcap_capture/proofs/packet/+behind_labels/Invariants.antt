use Rattle.pcap_capture.proofs.packet.+behind_labels.Given as goal

abbrev pub decreases-behind_labels : goal.decreases-behind_labels
decreases-behind_labels l = l.labels
