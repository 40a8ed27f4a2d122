-- How a device is told of a meter, and how it is told what the device makes of it.
use Rattle.std.specs.Prelude.{ℕ, ◌*◌, List, [], ◌++◌, codes}
use Rattle.device_core.specs.RteMeter.{bytes_a_second}
use Rattle.device_core.specs.declared.device.Device.{Device}
use Rattle.device_core.specs.declared.device.Device.TheVariants.{Police, RteMeter}
use Rattle.ds_domain_base.specs.Parameters.{Parameters}
use Rattle.ds_domain_base.specs.Parameters.TheVariants.{SrTcm, TrTcm, Rfc4115}
use Rattle.ds_quotes.specs.Words.{field_text}
use Rattle.ds_quotes.specs.declared.field.Field.{Field}
use Rattle.ds_quotes.specs.declared.field.Field.TheVariants as fields
use Rattle.srtcm_core.specs.declared.parameters.SrTcmParameters.{SrTcmParameters}
use Rattle.trtcm_core.specs.declared.parameters.TrTcmParameters.{TrTcmParameters}
use Rattle.rfc4115_core.specs.declared.parameters.Rfc4115Parameters.{Rfc4115Parameters}
use Rattle.dsedge_texts.specs.Wording.{figure}

-- a line for `tc -batch`: a policer of its own, and what becomes of packets that exceed it, and of the others
unfoldable pub police_line : ℕ → ℕ → List ℕ → List ℕ
police_line rate burst behind =
    codes "actions add action police rate" ++ figure (8 * bytes_a_second rate) ++ codes "bit burst" ++ figure burst
    ++ codes " mtu 65535 conform-exceed " ++ behind

-- What exceeds the committed policer goes on to the next action, and else it is done; what exceeds the other is dropped.
unfoldable pub policers : ℕ → ℕ → ℕ → ℕ → List ℕ
policers rate burst second_rate second_burst =
    police_line rate burst (codes "pipe/ok index 1\n") ++ police_line second_rate second_burst (codes "drop/pipe index 2\n")

abbrev pub police_words : Parameters → List ℕ
police_words (SrTcm p) = []
police_words (TrTcm p) = policers p.committed_rate p.committed_burst p.peak_rate p.peak_burst
police_words (Rfc4115 p) = policers p.committed_rate p.committed_burst p.excess_rate p.excess_burst

-- a C line: the parameters of a meter of `rte_meter`
unfoldable pub member : List ℕ → ℕ → List ℕ
member name number = codes " ." ++ name ++ codes " =" ++ figure number

unfoldable pub single_rate_words : SrTcmParameters → List ℕ
single_rate_words p =
    codes "struct rte_meter_srtcm_params params = {" ++ member (codes "cir") (bytes_a_second p.committed_rate)
    ++ codes "," ++ member (codes "cbs") p.committed_burst ++ codes "," ++ member (codes "ebs") p.excess_burst
    ++ codes " };\n"

-- that of two rates and two bursts, by how they are called
unfoldable pub two_rates : List ℕ → ℕ → ℕ → List ℕ
two_rates name rate second_rate =
    member (codes "cir") (bytes_a_second rate) ++ codes "," ++ member name (bytes_a_second second_rate) ++ codes ","

unfoldable pub two_bursts : List ℕ → ℕ → ℕ → List ℕ
two_bursts name burst second_burst = member (codes "cbs") burst ++ codes "," ++ member name second_burst ++ codes " };\n"

unfoldable pub two_rate_words : TrTcmParameters → List ℕ
two_rate_words p =
    codes "struct rte_meter_trtcm_params params = {" ++ two_rates (codes "pir") p.committed_rate p.peak_rate
    ++ two_bursts (codes "pbs") p.committed_burst p.peak_burst

unfoldable pub separate_rates_words : Rfc4115Parameters → List ℕ
separate_rates_words p =
    codes "struct rte_meter_trtcm_rfc4115_params params = {" ++ two_rates (codes "eir") p.committed_rate p.excess_rate
    ++ two_bursts (codes "ebs") p.committed_burst p.excess_burst

abbrev pub rte_meter_words : Parameters → List ℕ
rte_meter_words (SrTcm p) = single_rate_words p
rte_meter_words (TrTcm p) = two_rate_words p
rte_meter_words (Rfc4115 p) = separate_rates_words p

-- the words that set a device to parameters
abbrev pub device_words : Device → Parameters → List ℕ
device_words Police p = police_words p
device_words RteMeter p = rte_meter_words p

-- rate FIELD WANTED MADE, and burst FIELD WANTED MADE
unfoldable pub made_line : List ℕ → Field → ℕ → ℕ → List ℕ
made_line word field wanted made = word ++ field_text field ++ figure wanted ++ figure made ++ codes "\n"

abbrev pub rate_line : Field → ℕ → ℕ → List ℕ
rate_line field wanted made = made_line (codes "rate ") field wanted made

abbrev pub burst_line : Field → ℕ → ℕ → List ℕ
burst_line field wanted made = made_line (codes "burst ") field wanted made

unfoldable pub single_rate_lines : SrTcmParameters → SrTcmParameters → List ℕ
single_rate_lines p made =
    rate_line fields.CommittedRate p.committed_rate made.committed_rate
    ++ burst_line fields.CommittedBurst p.committed_burst made.committed_burst
    ++ burst_line fields.ExcessBurst p.excess_burst made.excess_burst

unfoldable pub two_rate_lines : TrTcmParameters → TrTcmParameters → List ℕ
two_rate_lines p made =
    rate_line fields.CommittedRate p.committed_rate made.committed_rate
    ++ rate_line fields.PeakRate p.peak_rate made.peak_rate
    ++ burst_line fields.CommittedBurst p.committed_burst made.committed_burst
    ++ burst_line fields.PeakBurst p.peak_burst made.peak_burst

unfoldable pub separate_rates_lines : Rfc4115Parameters → Rfc4115Parameters → List ℕ
separate_rates_lines p made =
    rate_line fields.CommittedRate p.committed_rate made.committed_rate
    ++ rate_line fields.ExcessRate p.excess_rate made.excess_rate
    ++ burst_line fields.CommittedBurst p.committed_burst made.committed_burst
    ++ burst_line fields.ExcessBurst p.excess_burst made.excess_burst

-- what is made of parameters of a kind, which are of that kind
abbrev pub made_lines : Parameters → Parameters → List ℕ
made_lines (SrTcm p) (SrTcm made) = single_rate_lines p made
made_lines (TrTcm p) (TrTcm made) = two_rate_lines p made
made_lines (Rfc4115 p) (Rfc4115 made) = separate_rates_lines p made
made_lines p made = []
